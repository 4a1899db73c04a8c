-- The promise rests on it. A list of doubles: document 01, "The card", and the rows "card or list" and "doubles" of the refusals, with the
-- second path of document 02, W9.
use Rattle.std.specs.Prelude.{ℕ, suc, ◌-◌, ◌%◌, Bool, true, false, not, ◌&&◌, ◌||◌, cond, List, [], ◌∷◌, leb, ltb, eqb, Float, length}
use Rattle.std.specs.Prelude.{get_or, Option, Some, None, Ok, Err}
use Rattle.std.specs.Float.{nan, binary64}
use Rattle.std.specs.Float.Ieee.{to_bits}
use Rattle.ticks.specs.Doubles.{ticks_of, whole_of}
use Rattle.fields.specs.declared.refusal.Refusal.{Refusal}
use Rattle.fields.specs.Quantities.{segments_field, ages_field, second_segments_field, head_fields, first_segment_field, first_age_field}
use Rattle.fields.specs.Quantities.{per_segment, per_age, all_segments, fields_in, field_number}
use Rattle.fields.specs.Limits.{Range, segment_counts, age_counts, count_within}
use Rattle.fields.specs.declared.read.Counts.{Counts}
use Rattle.fields.specs.Outcomes.{OrRefusal, onward, numbers_in, all_read, Outcome, refused, accepted}

-- "A field kept in ticks becomes the largest whole number of ticks not above it (-0.0 is 0); any other must be whole."
abbrev pub ticks_in : Float → Option ℕ
ticks_in x = ticks_of (to_bits binary64 x)

abbrev pub whole_in : Float → Option ℕ
whole_in x = whole_of (to_bits binary64 x)

abbrev pub amount_in : Bool → Float → Option ℕ
amount_in true x = ticks_in x
amount_in false x = whole_in x

-- "Kept in ticks: fields 6, 7, 13 to 18, a segment's length and rise (feet) and angle (radians), every moment."
abbrev pub head_in_ticks : ℕ → Bool
head_in_ticks field =
    eqb field field_number.slip || eqb field field_number.tendon_length
    || (leb field_number.volume_to_surface field && leb field field_number.own_weight_moment)

-- of a segment's field, of either path, so many fields behind the head; and of an age's, behind the segments
abbrev pub segment_in_ticks : ℕ → Bool
segment_in_ticks past = not (eqb (past % per_segment) 0)

abbrev pub age_in_ticks : ℕ → Bool
age_in_ticks past = not (eqb (past % per_age) 0)

abbrev pub in_ticks : ℕ → ℕ → Bool
in_ticks segments field =
    cond (leb field head_fields) (head_in_ticks field)
    (cond (ltb field (first_age_field segments)) (segment_in_ticks (field - first_segment_field))
    (age_in_ticks (field - first_age_field segments)))

-- some fields, the first of them numbered `field`, by which of them are kept in ticks
unfoldable pub amounts_by : (ℕ → Bool) → ℕ → List Float → List (Option ℕ)
amounts_by in_ticks field [] = []
amounts_by in_ticks field (x ∷ xs) = amount_in (in_ticks field) x ∷ amounts_by in_ticks (suc field) xs

-- the fields of a list with so many segments on both paths together, the first of them numbered `field`
abbrev pub amounts_of : ℕ → ℕ → List Float → List (Option ℕ)
amounts_of segments field list = amounts_by (in_ticks segments) field list

-- field k is element k - 1
abbrev pub field_in : ℕ → List Float → Float
field_in field list = get_or list (field - 1) nan

-- ---- the list

-- "the counts in fields 23 and 24 are ranged while the shape is read, giving 2 (in a list 9 first, if 9 fits)"
abbrev pub count_by : ℕ → Range → Option ℕ → OrRefusal ℕ
count_by field range None = Err (Refusal.Doubles field)
count_by field range (Some count) = count_within field range count

abbrev pub count_in : ℕ → Range → List Float → OrRefusal ℕ
count_in field range list = count_by field range (whole_in (field_in field list))

-- counts that ask for so many doubles
abbrev pub shaped : ℕ → Counts → OrRefusal Counts
shaped doubles counts = cond (eqb doubles (fields_in counts)) (Ok counts) (Err (Refusal.Shape 0))

-- The counts of a list that has the length they ask for: "field 23 wholly before 24", and document 02, W9, field 25 "after them"; "a list
-- that ends before it gives 8 ahead of the three".
unfoldable pub counts_in : List Float → OrRefusal Counts
counts_in list =
    cond (ltb (length list) head_fields) (Err (Refusal.Shape 0))
    (onward (count_in segments_field segment_counts list) (λ segments.
    onward (count_in ages_field age_counts list) (λ ages.
    onward (count_in second_segments_field segment_counts list) (λ second.
    shaped (length list) (record { segments = segments; ages = ages; second_segments = second })))))

-- row "doubles": the first field that is refused
abbrev pub doubles_of : Counts → List (Option ℕ) → Outcome
doubles_of counts amounts =
    cond (all_read amounts) (accepted counts (numbers_in amounts))
    (refused (Refusal.Doubles (suc (length (numbers_in amounts)))) (numbers_in amounts))

-- the fields in order, where the counts are right
abbrev pub with_counts : OrRefusal Counts → List Float → Outcome
with_counts (Ok counts) list = doubles_of counts (amounts_of (all_segments counts) 1 list)
with_counts (Err refusal) list = refused refusal []

-- What a list gives.
unfoldable pub list_outcome : List Float → Outcome
unfolding amounts_by counts_in
list_outcome list = with_counts (counts_in list) list
