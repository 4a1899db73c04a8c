-- A list read in its parts, the head, the segments and the ages, each into what is left of the buffer: one lemma for each way out of
-- `list::read_fields`. The parts make up the list, and their amounts its amounts. Assumes nothing.
use mathlib.Core.Path.{◌≡◌, sym, ap, ◌∙◌}
use mathlib.Core.List.{List, ◌++◌}
use Prim.Native.Nat.{ℕ, ◌+◌, ◌-◌, ◌*◌, ◌≤◌}
use native.Mathlib.Omega.{arith}
use lib.Ieee.{Float}
use lib.ListN.{length, take, drop, length-append, length-drop, take-append-drop}
use lib.Seq.{take-add, take_all, length-take-le}
use borrow.Rule.Slice.PartMut.{mid_of, put_mid}
use Rattle.std.specs.Prelude.{Option, Result, Ok, Err}
use Rattle.fields.specs.Quantities.{head_fields, per_segment}
use Rattle.list.specs.Lists.{head_in_ticks, segment_in_ticks, amounts_of}
use Rattle.list.specs.Measures.{Written, head_amounts, segments_amounts, ages_amounts}
use Rattle.list.specs.Laws.{part_length}
use Rattle.list.proofs.Amounts.{by_parts}
use Rattle.list.proofs.Numbers.{behind_those, cut, joined}

-- where the ages begin, and the doubles of the head, of the segments and of the ages
abbrev pub first_age : ℕ → ℕ
first_age segments = head_fields + per_segment * segments

abbrev pub head_in : List Float → List Float
head_in list = take head_fields list

abbrev pub segments_in : ℕ → List Float → List Float
segments_in segments list = take (first_age segments - head_fields) (drop head_fields list)

abbrev pub ages_in : ℕ → List Float → List Float
ages_in segments list = take (length list - first_age segments) (drop (first_age segments) list)

-- the amounts before those of the ages
abbrev pub before_ages : ℕ → List Float → List (Option ℕ)
before_ages segments list = head_amounts (head_in list) ++ segments_amounts (segments_in segments list)

module _ (list : List Float) (segments : ℕ) (enough : first_age segments ≤ length list) where
  -- ---- the parts make up the list

  pub head_length : length (head_in list) ≡ head_fields
  head_length = length-take-le head_fields list (omega arith)

  segments_length : length (segments_in segments list) ≡ per_segment * segments
  segments_length =
      let fields : first_age segments - head_fields ≡ per_segment * segments = omega arith in
      length-take-le (first_age segments - head_fields) (drop head_fields list) (simp length-drop (omega arith)) ∙ fields

  made_up : (head_in list ++ segments_in segments list) ++ ages_in segments list ≡ list
  made_up =
      let fields : head_fields + (first_age segments - head_fields) ≡ first_age segments = omega arith in
      let front : head_in list ++ segments_in segments list ≡ take (first_age segments) list =
      sym (take-add head_fields (first_age segments - head_fields) list) ∙ ap (λ (k : ℕ). take k list) fields in
      let ages = take_all (length list - first_age segments) (drop (first_age segments) list) (simp length-drop (omega arith)) in
      rw (front, ages) (take-append-drop (first_age segments) list)

  made_of : before_ages segments list ++ ages_amounts (ages_in segments list) ≡ amounts_of segments 1 list
  made_of =
      sym (by_parts segments (head_in list) (segments_in segments list) (ages_in segments list) head_length segments_length)
      ∙ ap (amounts_of segments 1) made_up

  pub head_count : length (head_amounts (head_in list)) ≡ head_fields
  head_count = part_length head_in_ticks 1 (head_in list) ∙ head_length

  before_ages_count : length (before_ages segments list) ≡ first_age segments
  before_ages_count =
      let head = head_count in
      let behind = part_length segment_in_ticks 0 (segments_in segments list) ∙ segments_length in
      length-append (head_amounts (head_in list)) (segments_amounts (segments_in segments list)) ∙ omega arith

  -- ---- the ways out

  module _ (old : List ℕ) {now : List ℕ} where
    -- a field before the ages is refused
    pub before_ages_refused : {read : ℕ} → Written (before_ages segments list) old now (Err read)
        → Written (amounts_of segments 1 list) old now (Err read)
    before_ages_refused w = rw (← made_of) (cut (before_ages segments list) old (ages_amounts (ages_in segments list)) w)

    pub head_refused : {read : ℕ} → Written (head_amounts (head_in list)) old now (Err read)
        → Written (amounts_of segments 1 list) old now (Err read)
    head_refused w = before_ages_refused (cut (head_amounts (head_in list)) old (segments_amounts (segments_in segments list)) w)

    pub segments_written : {part : List ℕ} {reading : Result Unit ℕ} → Written (head_amounts (head_in list)) old now (Ok tt)
        → Written (segments_amounts (segments_in segments list)) (mid_of head_fields (length now - head_fields) now) part reading
        → Written (before_ages segments list) old
        (put_mid head_fields (length now - head_fields) now part) (behind_those head_fields reading)
    segments_written w v =
        joined (head_amounts (head_in list)) old (segments_amounts (segments_in segments list)) head_fields w head_count v

    pub ages_written : {part : List ℕ} {reading : Result Unit ℕ} → Written (before_ages segments list) old now (Ok tt)
        → Written (ages_amounts (ages_in segments list)) (mid_of (first_age segments) (length now - first_age segments) now) part reading
        → Written (amounts_of segments 1 list) old
        (put_mid (first_age segments) (length now - first_age segments) now part) (behind_those (first_age segments) reading)
    ages_written w v =
        rw (← made_of)
        (joined (before_ages segments list) old (ages_amounts (ages_in segments list)) (first_age segments) w before_ages_count v)
