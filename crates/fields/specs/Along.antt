-- It serves the code alone. The parts that some fields are, a step along them, and that a part is what its own fields say, which is proved
-- of segments and ages here since `impl Part` cites it.
use Rattle.std.specs.Prelude.{ℕ, ◌+◌, ◌/◌, ◌≡◌, ◌≤◌, List, [], ◌∷◌, length, take, Option, MatchOption}
use Rattle.std.proofs.lemmas.List.{get_or-take}
use native.Mathlib.Omega.{arith}
use Rattle.fields.specs.declared.segments.Segment.{Segment}
use Rattle.fields.specs.declared.segments.Age.{Age}
use Rattle.fields.specs.Quantities.{per_segment, per_age, segment_at, age_at, parts_from}

-- all of the parts that some fields are
abbrev pub parts_of : {A : Type 0} → ℕ → (List ℕ → A) → List ℕ → List A
parts_of width part_at fields = parts_from width part_at (length fields / width) fields

abbrev pub segments_of : List ℕ → List Segment
segments_of fields = parts_of per_segment segment_at fields

abbrev pub ages_of : List ℕ → List Age
ages_of fields = parts_of per_age age_at fields

-- nothing, where no whole part is left; else the first part that is left, with the number of its first field
abbrev pub GivesPart : {A : Type 0} → ℕ → (List ℕ → A) → List ℕ → ℕ → Option (ℕ × A) → List ℕ → ℕ → Type 0
GivesPart width part_at left place given later next =
    MatchOption given (parts_of width part_at left ≡ [])
    (λ item. (item.0 ≡ place) × (parts_of width part_at left ≡ item.1 ∷ parts_of width part_at later) × (next ≡ place + width))

-- a part is what its own fields say, whatever stands behind them
abbrev pub Front : {A : Type 0} → ℕ → (List ℕ → A) → Type 0
Front width part_at = (count : ℕ) (fields : List ℕ) → width ≤ count → part_at (take count fields) ≡ part_at fields

pub segment_front : Front per_segment segment_at
segment_front count fields h =
    rw (
      get_or-take count fields 0 0 (omega arith),
      get_or-take count fields 1 0 (omega arith),
      get_or-take count fields 2 0 (omega arith),
    )

pub age_front : Front per_age age_at
age_front count fields h = rw (get_or-take count fields 0 0 (omega arith), get_or-take count fields 1 0 (omega arith))
