-- The promise rests on it. Document 01, "The card", and document 02, W9: how the fields are set and numbered, and the quantities that they
-- are, by name.
use Rattle.std.specs.Prelude.{ℕ, suc, ◌+◌, ◌*◌, zero, ◌-◌, Bool, List, [], ◌∷◌, ◌++◌, eqb, ltb, length, get_or, drop, Ok, Err}
use Rattle.fields.specs.declared.read.Counts.{Counts}
use Rattle.fields.specs.declared.segments.Segment.{Segment}
use Rattle.fields.specs.declared.segments.Age.{Age}
use Rattle.fields.specs.Outcomes.{Outcome, OrRefusal}

-- "14-column fields"
abbrev pub columns : ℕ
columns = 14

-- Line 4: "23 segments s .. 24 ages n"; document 02, W9: "Line 4 gains field 25, its count of segments", the second path's, the last of
-- the fields of lines 1 to 4
abbrev pub segments_field : ℕ
segments_field = 23

abbrev pub ages_field : ℕ
ages_field = 24

abbrev pub second_segments_field : ℕ
second_segments_field = 25

abbrev pub head_fields : ℕ
head_fields = second_segments_field

-- "s lines: segment kind, length, rise"; "n lines: age in hours, moment added then"
abbrev pub per_segment : ℕ
per_segment = 3

abbrev pub per_age : ℕ
per_age = 2

-- document 02, W9: "Its lines follow those of the first path; later fields number on from 26"
abbrev pub first_segment_field : ℕ
first_segment_field = suc head_fields

-- behind so many segments, of both paths together
abbrev pub first_age_field : ℕ → ℕ
first_age_field segments = first_segment_field + per_segment * segments

abbrev pub all_segments : Counts → ℕ
all_segments counts = counts.segments + counts.second_segments

-- how many fields a card or a list has
abbrev pub fields_in : Counts → ℕ
fields_in counts = head_fields + per_segment * all_segments counts + per_age * counts.ages

-- one thing for each field of "Line 1" to "Line 4" but the counts, with the two paths and ages
pub record OfFields (A : Type 0) : Type 0 where
  pub kind : A
  pub steel : A
  pub ultimate_strength : A
  pub jacking_stress : A
  pub deflector_loss : A
  pub slip : A
  pub tendon_length : A
  pub cure : A
  pub concrete : A
  pub Es : A
  pub Eci : A
  pub Ec : A
  pub volume_to_surface : A
  pub area : A
  pub inertia : A
  pub eccentricity : A
  pub steel_area : A
  pub own_weight_moment : A
  pub end_of_curing : A
  pub transfer : A
  pub wobble : A
  pub curvature : A
  pub path : List Segment
  pub second_path : List Segment
  pub ages : List Age

-- a card's or a list's quantities
abbrev pub Quantities : Type 0
Quantities = OfFields ℕ

-- which field is which, by its number
abbrev pub quantities_by : (ℕ → ℕ) → (path second_path : List Segment) → List Age → Quantities
quantities_by field path second_path ages = record {
  kind = field 1;
  steel = field 2;
  ultimate_strength = field 3;
  jacking_stress = field 4;
  deflector_loss = field 5;
  slip = field 6;
  tendon_length = field 7;
  cure = field 8;
  concrete = field 9;
  Es = field 10;
  Eci = field 11;
  Ec = field 12;
  volume_to_surface = field 13;
  area = field 14;
  inertia = field 15;
  eccentricity = field 16;
  steel_area = field 17;
  own_weight_moment = field 18;
  end_of_curing = field 19;
  transfer = field 20;
  wobble = field 21;
  curvature = field 22;
  path = path;
  second_path = second_path;
  ages = ages;
}

-- the number of each field, by its name
abbrev pub field_number : Quantities
field_number = quantities_by (λ number. number) [] [] []

-- "kind (1 pretensioned, ..)", "cure (1 moist, ..)"
abbrev pub is_pretensioned : Quantities → Bool
is_pretensioned q = eqb q.kind 1

abbrev pub is_moist : Quantities → Bool
is_moist q = eqb q.cure 1

-- document 02, W9: "0 means no second path"
abbrev pub has_second_path : Quantities → Bool
has_second_path q = ltb 0 (length q.second_path)

-- the segments of both paths, in the order of their fields
abbrev pub both_paths : Quantities → List Segment
both_paths q = q.path ++ q.second_path

-- the kinds of a segment
abbrev pub straight : ℕ
straight = 1

abbrev pub parabola : ℕ
parabola = 2

abbrev pub bend : ℕ
bend = 3

-- ---- from the numbered fields, of which field k is element k - 1

-- "s lines: segment kind, length, rise"; a bend has its angle in the third field
abbrev pub segment_at : List ℕ → Segment
segment_at fields = record { kind = get_or fields 0 0; length = get_or fields 1 0; rise = get_or fields 2 0 }

-- "n lines: age in hours, moment added then"
abbrev pub age_at : List ℕ → Age
age_at fields = record { hour = get_or fields 0 0; moment = get_or fields 1 0 }

-- "s lines: .." and "n lines: .." alike: so many parts, one after the other, each of so many fields
unfoldable pub parts_from : {A : Type 0} → ℕ → (List ℕ → A) → ℕ → List ℕ → List A
parts_from width part_at zero fields = []
parts_from width part_at (suc count) fields = part_at fields ∷ parts_from width part_at count (drop width fields)

abbrev pub segments_from : ℕ → List ℕ → List Segment
segments_from count fields = parts_from per_segment segment_at count fields

abbrev pub ages_from : ℕ → List ℕ → List Age
ages_from count fields = parts_from per_age age_at count fields

-- with so many segments on each path, and so many ages
abbrev pub quantities_of : Counts → List ℕ → Quantities
quantities_of counts fields =
    quantities_by (λ number. get_or fields (number - 1) 0) (segments_from counts.segments (drop head_fields fields))
    (segments_from counts.second_segments (drop (head_fields + per_segment * counts.segments) fields))
    (ages_from counts.ages (drop (head_fields + per_segment * all_segments counts) fields))

-- what a reader's numbers are, or its refusal
abbrev pub quantities_in : OrRefusal Counts → List ℕ → OrRefusal Quantities
quantities_in (Ok counts) fields = Ok (quantities_of counts fields)
quantities_in (Err refusal) fields = Err refusal

abbrev pub quantities_read : Outcome → OrRefusal Quantities
quantities_read outcome = quantities_in outcome.reading outcome.numbers
