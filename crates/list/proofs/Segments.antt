-- The segments of a list, each held as what its three doubles are. Whatever that is, it reads what the doubles would have read by
-- themselves: a segment's form keeps each of them or stands for its only number. So a segment that is read is three fields more.
-- Assumes nothing.
use mathlib.Core.Path.{◌≡◌, refl, sym, ap, ◌∙◌}
use mathlib.Core.Bool.{Bool, true, false, ◌&&◌, cond, and-eq-true_iff}
use mathlib.Core.List.{List, [], ◌∷◌, ◌++◌, append_assoc}
use Prim.Native.Nat.{ℕ, suc, ◌+◌, ◌-◌, ◌%◌, ◌≤◌}
use native.Mathlib.Omega.{arith}
use lib.Ieee.{Float, nan}
use lib.ListN.{length, get_or, length-append}
use borrow.Author.Tests.{eq-eqb, ne_eqb, eqb-true}
use borrow.Rule.Slice.PartMut.{mid_of, put_mid}
use Rattle.std.specs.Prelude.{Option, Some, None, Result, Ok, Err}
use Rattle.fields.specs.Quantities.{per_segment, straight, parabola, bend}
use Rattle.fields.specs.Outcomes.{numbers_in}
use Rattle.list.specs.declared.Segment.TheVariants.{Straight, Parabola, Bend}
use Rattle.list.specs.declared.Entry.{Entry}
use Rattle.list.specs.declared.Entry.TheVariants.{Listed, Unlisted}
use Rattle.list.specs.Lists.{ticks_in, whole_in, segment_in_ticks, amounts_by}
use Rattle.list.specs.Measures.{Written, is, is_straight, is_parabola, is_bend, entry_of, amounts_of_entry, segments_amounts}
use Rattle.list.specs.Laws.{part_length}
use Rattle.list.proofs.Amounts.{part_append}
use Rattle.list.proofs.Numbers.{behind_those, kept, cut, joined}

-- ---- what the three doubles of a segment read

is_number : (amount : Option ℕ) (number : ℕ) → is amount number ≡ true → amount ≡ Some number
is_number (Some n) number e = ap Some (eqb-true n number e)
is_number None number e = cc

both : (a b : Option ℕ) (m n : ℕ) → (is a m && is b n) ≡ true → (a ≡ Some m) × (b ≡ Some n)
both a b m n e = let t = (and-eq-true_iff (is a m) (is b n)).0 e in (is_number a m t.0, is_number b n t.1)

by_form : (P : Entry → Type 0) (a b c : Bool) (x y z w : Entry)
    → (a ≡ true → P x) → (b ≡ true → P y) → (c ≡ true → P z) → P w → P (cond a x (cond b y (cond c z w)))
by_form P true b c x y z w f g h k = f refl
by_form P false true c x y z w f g h k = g refl
by_form P false false true x y z w f g h k = h refl
by_form P false false false x y z w f g h k = k

module _ (kind second third : Float) where
  abbrev doubles_read : List (Option ℕ)
  doubles_read = whole_in kind ∷ ticks_in second ∷ ticks_in third ∷ []

  entry_reads : amounts_of_entry (entry_of kind second third) ≡ doubles_read
  entry_reads =
      by_form (λ entry. amounts_of_entry entry ≡ doubles_read)
      (is_straight kind third) (is_parabola kind) (is_bend kind second)
      (Listed (Straight second)) (Listed (Parabola second third)) (Listed (Bend third)) (Unlisted kind second third)
      (λ e. let t = both (whole_in kind) (ticks_in third) straight 0 e in rw (t.0, t.1))
      (λ e. rw (is_number (whole_in kind) parabola e))
      (λ e. let t = both (whole_in kind) (ticks_in second) bend 0 e in rw (t.0, t.1))
      refl

abbrev pub entry_in : List Float → Entry
entry_in doubles = entry_of (get_or doubles 0 nan) (get_or doubles 1 nan) (get_or doubles 2 nan)

pub entry_count : (doubles : List Float) → length (amounts_of_entry (entry_in doubles)) ≡ per_segment
entry_count doubles = ap length (entry_reads (get_or doubles 0 nan) (get_or doubles 1 nan) (get_or doubles 2 nan))

segment_reads : (at : ℕ) (doubles : List Float) → at % per_segment ≡ 0 → length doubles ≡ per_segment
    → amounts_by segment_in_ticks at doubles ≡ amounts_of_entry (entry_in doubles)
unfolding amounts_by
segment_reads at [] whole three = absurd (omega arith)
segment_reads at (x ∷ []) whole three = absurd (omega arith)
segment_reads at (x ∷ y ∷ []) whole three = absurd (omega arith)
segment_reads at (x ∷ y ∷ z ∷ []) whole three =
    rw (
      eq-eqb (at % per_segment) 0 whole,
      ne_eqb (suc at % per_segment) 0 (λ e. omega arith),
      ne_eqb (suc (suc at) % per_segment) 0 (λ e. omega arith),
    )
    (sym (entry_reads x y z))
segment_reads at (x ∷ y ∷ z ∷ w ∷ more) whole three = absurd (omega arith)

-- ---- one segment after the other

-- some segments are read, and their numbers stand at the front; the rest is still to come
pub record Passed (part rest : List Float) (old now : List ℕ) (at : ℕ) : Type 0 where
  pub done : List Float
  pub made_up : done ++ rest ≡ part
  pub count : length done ≡ at
  pub whole : at % per_segment ≡ 0
  pub segments : length rest % per_segment ≡ 0
  pub room : length part ≤ length old
  pub same : length now ≡ length old
  pub read : Written (segments_amounts done) old now (Ok tt)

pub begins : (part : List Float) (old : List ℕ) → length part % per_segment ≡ 0 → length part ≤ length old → Passed part part old old 0
unfolding numbers_in amounts_by
begins part old segments room =
    record {
      done = [];
      made_up = refl;
      count = refl;
      whole = refl;
      segments = segments;
      room = room;
      same = refl;
      read = record { reading_is = refl; buffer_is = refl };
    }

module _ {part rest : List Float} {old now : List ℕ} {at : ℕ} (p : Passed part rest old now at) where
  -- the next segment
  module _ (doubles later : List Float) (next : rest ≡ doubles ++ later) (three : length doubles ≡ per_segment) where
    whole_part : (p.done ++ doubles) ++ later ≡ part
    whole_part = append_assoc p.done doubles later ∙ ap (λ (l : List Float). p.done ++ l) (sym next) ∙ p.made_up

    inside : at + per_segment ≤ length part
    inside = let count = p.count in omega (arith, simp length-append at (ap length whole_part))

    front : segments_amounts (p.done ++ doubles) ≡ segments_amounts p.done ++ amounts_of_entry (entry_in doubles)
    front =
        let place : 0 + length p.done ≡ at = let count = p.count in omega arith in
        part_append segment_in_ticks 0 p.done doubles
        ∙ ap (λ (k : ℕ). segments_amounts p.done ++ amounts_by segment_in_ticks k doubles) place
        ∙ ap (λ (l : List (Option ℕ)). segments_amounts p.done ++ l) (segment_reads at doubles p.whole three)

    module _ {buffer : List ℕ} {reading answer : Result Unit ℕ}
        (written : Written (amounts_of_entry (entry_in doubles)) (mid_of at (length now - at) now) buffer reading)
        (is : answer ≡ behind_those at reading) where
      read_with_it : Written (segments_amounts (p.done ++ doubles)) old (put_mid at (length now - at) now buffer) answer
      read_with_it =
          let long = part_length segment_in_ticks 0 p.done ∙ p.count in
          rw (front, is) (joined (segments_amounts p.done) old (amounts_of_entry (entry_in doubles)) at p.read long written)

      count_with_it : length (segments_amounts (p.done ++ doubles)) ≡ at + per_segment
      count_with_it =
          let count = p.count in
          part_length segment_in_ticks 0 (p.done ++ doubles) ∙ simp length-append (omega arith)

      pub stops : {read : ℕ} → answer ≡ Err read → Written (segments_amounts part) old (put_mid at (length now - at) now buffer) (Err read)
      stops e =
          rw (← whole_part, part_append segment_in_ticks 0 (p.done ++ doubles) later)
          (cut (segments_amounts (p.done ++ doubles)) old _ (rw e at read_with_it))

      pub turns : answer ≡ Ok tt → Passed part later old (put_mid at (length now - at) now buffer) (at + per_segment)
      turns e =
          let inside = inside in
          let room = p.room in
          let count = p.count in
          let whole = p.whole in
          let segments = p.segments in
          let fields = count_with_it in
          let left : length rest ≡ per_segment + length later =
          simp length-append at (ap length next) ∙ ap (λ (k : ℕ). k + length later) three in
          record {
            done = p.done ++ doubles;
            made_up = whole_part;
            count = simp length-append (omega arith);
            whole = omega arith;
            segments = omega arith;
            room = p.room;
            same = kept (segments_amounts (p.done ++ doubles)) old read_with_it (omega arith);
            read = rw e at read_with_it;
          }
