-- The amounts of a list's fields: those of a list are those of its head, its segments and its ages, one after the other, and each by its
-- place. By induction along the list; where a field stands decides how it is kept. Assumes nothing.
use mathlib.Core.Path.{◌≡◌, refl, ap, ◌∙◌}
use mathlib.Core.Bool.{Bool}
use mathlib.Core.List.{List, [], ◌∷◌, ◌++◌}
use Prim.Native.Nat.{ℕ, suc, ◌+◌, ◌-◌, ◌*◌, ◌<◌}
use native.Mathlib.Omega.{arith}
use lib.Ieee.{Float, nan}
use lib.ListN.{length, get_or, length-append}
use borrow.Author.Tests.{lt-ltb, le-ltb, le-leb, lt-leb}
use Rattle.std.specs.Prelude.{Option, None}
use Rattle.fields.specs.Quantities.{head_fields, per_segment, first_segment_field, first_age_field}
use Rattle.list.specs.Lists.{in_ticks, head_in_ticks, segment_in_ticks, age_in_ticks, amount_in, amounts_by, amounts_of}
use Rattle.list.specs.Laws.{part_at}
use Rattle.list.specs.Measures.{head_amounts, segments_amounts, ages_amounts}

-- ---- of a part

pub part_append : (ticks : ℕ → Bool) (field : ℕ) (xs ys : List Float)
    → amounts_by ticks field (xs ++ ys) ≡ amounts_by ticks field xs ++ amounts_by ticks (field + length xs) ys
unfolding amounts_by
part_append ticks field [] ys =
    let e : field ≡ field + 0 = omega arith in
    ap (λ (f : ℕ). amounts_by ticks f ys) e
part_append ticks field (x ∷ xs) ys =
    let e : suc field + length xs ≡ field + suc (length xs) = omega arith in
    ap (λ (l : List (Option ℕ)). amount_in (ticks field) x ∷ l)
    (part_append ticks (suc field) xs ys
    ∙ ap (λ (f : ℕ). amounts_by ticks (suc field) xs ++ amounts_by ticks f ys) e)

-- fields that are kept alike, however they are numbered
alike : (ticks kept : ℕ → Bool) (field past : ℕ) (xs : List Float)
    → ((k : ℕ) → k < length xs → ticks (field + k) ≡ kept (past + k)) → amounts_by ticks field xs ≡ amounts_by kept past xs
unfolding amounts_by
alike ticks kept field past [] same = refl
alike ticks kept field past (x ∷ xs) same =
    let e : field + 0 ≡ field = omega arith in
    let f : past + 0 ≡ past = omega arith in
    let first : ticks field ≡ kept past = rw (e, f) at (same 0 (omega arith)) in
    ap (λ (b : Bool). amount_in b x ∷ amounts_by ticks (suc field) xs) first
    ∙ ap (λ (l : List (Option ℕ)). amount_in (kept past) x ∷ l) (alike ticks kept (suc field) (suc past) xs later)
  where
    later : (k : ℕ) → k < length xs → ticks (suc field + k) ≡ kept (suc past + k)
    later k h =
        let e : field + suc k ≡ suc field + k = omega arith in
        let f : past + suc k ≡ suc past + k = omega arith in
        rw (e, f) at (same (suc k) (omega arith))

-- ---- by its parts

module _ (segments : ℕ) where
  in_head : (k : ℕ) → k < head_fields → in_ticks segments (1 + k) ≡ head_in_ticks (1 + k)
  in_head k h = rw (le-leb (1 + k) head_fields (omega arith))

  in_segments : (k : ℕ) → k < per_segment * segments → in_ticks segments (first_segment_field + k) ≡ segment_in_ticks (0 + k)
  in_segments k h =
      let e : first_segment_field + k - first_segment_field ≡ 0 + k = omega arith in
      rw (
        lt-leb (first_segment_field + k) head_fields (omega arith),
        lt-ltb (first_segment_field + k) (first_age_field segments) (omega arith),
        e,
      )

  in_ages : (k : ℕ) → in_ticks segments (first_age_field segments + k) ≡ age_in_ticks (0 + k)
  in_ages k =
      let e : first_age_field segments + k - first_age_field segments ≡ 0 + k = omega arith in
      rw (
        lt-leb (first_age_field segments + k) head_fields (omega arith),
        le-ltb (first_age_field segments + k) (first_age_field segments) (omega arith),
        e,
      )

  module _ (head part ages : List Float) (full : length head ≡ head_fields) (whole : length part ≡ per_segment * segments) where
    pub by_parts : amounts_of segments 1 ((head ++ part) ++ ages) ≡ (head_amounts head ++ segments_amounts part) ++ ages_amounts ages
    by_parts =
        let place : 1 + length head ≡ first_segment_field = omega arith in
        let behind : 1 + length (head ++ part) ≡ first_age_field segments = simp length-append (omega arith) in
        part_append (in_ticks segments) 1 (head ++ part) ages
        ∙ rw (
          behind,
          part_append (in_ticks segments) 1 head part,
          place,
          alike (in_ticks segments) head_in_ticks 1 1 head (λ k h. in_head k (omega arith)),
          alike (in_ticks segments) segment_in_ticks first_segment_field 0 part (λ k h. in_segments k (omega arith)),
          alike (in_ticks segments) age_in_ticks (first_age_field segments) 0 ages (λ k h. in_ages k),
        )

-- ---- one by one

pub head_at : (head : List Float) (at : ℕ) → at < length head
    → get_or (head_amounts head) at None ≡ amount_in (head_in_ticks (at + 1)) (get_or head at nan)
head_at head at h = let e : 1 + at ≡ at + 1 = omega arith in rw (← e) (part_at head_in_ticks 1 head at h)

pub age_at : (ages : List Float) (at : ℕ) → at < length ages
    → get_or (ages_amounts ages) at None ≡ amount_in (age_in_ticks at) (get_or ages at nan)
age_at ages at h = let e : 0 + at ≡ at = omega arith in rw e at (part_at age_in_ticks 0 ages at h)
