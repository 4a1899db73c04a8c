-- The promise rests on it. Document 01, "Refusal by place of checking", from codes to creep, with the checks of two paths by document 02,
-- W9: each row as its checks in their order.
use Rattle.std.specs.Prelude.{ℕ, ◌+◌, ◌*◌, Bool, ◌&&◌, ◌||◌, not, cond, List, [], ◌∷◌, ◌++◌, leb, ltb, eqb, length}
use Rattle.std.specs.Prelude.{Result, Ok, Err}
use Rattle.logarithm.specs.Logarithm.{service_life}
use Rattle.fields.specs.declared.refusal.Refusal.{Refusal}
use Rattle.fields.specs.Quantities.{first_segment_field, first_age_field, per_segment, per_age, Quantities, field_number}
use Rattle.fields.specs.declared.segments.Segment.{Segment}
use Rattle.fields.specs.declared.segments.Age.{Age}
use Rattle.fields.specs.Quantities.{is_pretensioned, is_moist, both_paths, straight, parabola, bend}
use Rattle.fields.specs.Outcomes.{OrRefusal, onward}
use Rattle.fields.specs.Limits.{Range, range, within, most_of_strength, hundredths, most_length, most_moment, least_straight}
use Rattle.fields.specs.Limits.{least_parabola}
use Rattle.fields.specs.Limits.{most_rise, most_angle, least_moist_transfer, most_friction, most_apart, report_room, scratch_room}
use Rattle.fields.specs.Limits.{most_kappa, most_creep_of_kappa}

-- ---- a row of checks

-- a place, and whether what is checked there holds
pub record Check : Type 0 where
  pub place : ℕ
  pub holds : Bool

abbrev pub at : ℕ → Bool → Check
at place holds = record { place = place; holds = holds }

-- "Within a row the first field wins": the place of the first check that fails, if one does
unfoldable pub checked : List Check → Result (Unit {0}) ℕ
checked [] = Ok tt
checked (check ∷ checks) = cond check.holds (checked checks) (Err check.place)

-- a row: which refusal a place of it is, and its checks
pub record CheckRow : Type 0 where
  pub refusal : ℕ → Refusal
  pub checks : List Check

abbrev pub row : (ℕ → Refusal) → List Check → CheckRow
row refusal checks = record { refusal = refusal; checks = checks }

-- the refusal of the place that a row gives
abbrev pub refused_at : (ℕ → Refusal) → Result (Unit {0}) ℕ → OrRefusal (Unit {0})
refused_at refusal (Ok held) = Ok held
refused_at refusal (Err place) = Err (refusal place)

-- "top to bottom": a value, where every check of some rows holds
unfoldable pub checked_by : {A : Type 0} → List CheckRow → A → OrRefusal A
checked_by [] value = Ok value
checked_by (row ∷ rows) value = onward (refused_at row.refusal (checked row.checks)) (λ held. checked_by rows value)

-- what stands in a field lies in its range
abbrev pub ranged : ℕ → Range → ℕ → Check
ranged number range x = at number (within range.low range.high x)

-- ---- codes: "code not listed (1, 2, 8, 9, segment)"

unfoldable pub segment_codes : ℕ → List Segment → List Check
segment_codes place [] = []
segment_codes place (segment ∷ segments) =
    at place (within straight bend segment.kind) ∷ segment_codes (place + per_segment) segments

abbrev pub head_codes : Quantities → List Check
head_codes q =
    ranged field_number.kind range.kind q.kind ∷ ranged field_number.steel range.steel q.steel
    ∷ ranged field_number.cure range.cure q.cure ∷ ranged field_number.concrete range.concrete q.concrete ∷ []

unfoldable pub codes : Quantities → List Check
codes q = head_codes q ++ segment_codes first_segment_field (both_paths q)

-- ---- ranges: "out of range; running sum of moments over 2^40"

-- "at least 1,000 and at most 0.80 F"
abbrev pub jacking_fits : Quantities → Bool
jacking_fits q =
    leb range.jacking_stress.low q.jacking_stress
    && leb (hundredths * q.jacking_stress) (most_of_strength * q.ultimate_strength)

-- "(0 if kind 2)"
abbrev pub deflector_fits : Quantities → Bool
deflector_fits q = leb q.deflector_loss range.deflector_loss.high && (is_pretensioned q || eqb q.deflector_loss 0)

-- lines 1 to 4. Fields 23 to 25 were ranged while the shape was read.
abbrev pub head_ranges : Quantities → List Check
head_ranges q =
    ranged field_number.ultimate_strength range.ultimate_strength q.ultimate_strength
    ∷ at field_number.jacking_stress (jacking_fits q) ∷ at field_number.deflector_loss (deflector_fits q)
    ∷ ranged field_number.slip range.slip q.slip
    ∷ ranged field_number.tendon_length range.tendon_length q.tendon_length
    ∷ ranged field_number.Es range.Es q.Es ∷ ranged field_number.Eci range.Eci q.Eci
    ∷ ranged field_number.Ec range.Ec q.Ec
    ∷ ranged field_number.volume_to_surface range.volume_to_surface q.volume_to_surface
    ∷ ranged field_number.area range.area q.area ∷ ranged field_number.inertia range.inertia q.inertia
    ∷ ranged field_number.eccentricity range.eccentricity q.eccentricity
    ∷ ranged field_number.steel_area range.steel_area q.steel_area
    ∷ ranged field_number.own_weight_moment range.own_weight_moment q.own_weight_moment
    ∷ ranged field_number.wobble range.wobble q.wobble
    ∷ ranged field_number.curvature range.curvature q.curvature ∷ []

abbrev pub length_fits : Segment → Bool
length_fits segment =
    cond (eqb segment.kind straight) (within least_straight most_length segment.length)
    (cond (eqb segment.kind parabola) (within least_parabola most_length segment.length) (eqb segment.length 0))

abbrev pub rise_fits : Segment → Bool
rise_fits segment =
    cond (eqb segment.kind straight) (eqb segment.rise 0)
    (cond (eqb segment.kind parabola) (leb segment.rise most_rise) (leb segment.rise most_angle))

unfoldable pub ranges_of_segments : ℕ → List Segment → List Check
ranges_of_segments place [] = []
ranges_of_segments place (segment ∷ segments) =
    at (place + 1) (length_fits segment) ∷ at (place + 2) (rise_fits segment) ∷ ranges_of_segments (place + per_segment) segments

-- "All moments together at most 2^40": `before` is the sum of the moments before these, own weight first
unfoldable pub ranges_of_moments : ℕ → ℕ → List Age → List Check
ranges_of_moments place before [] = []
ranges_of_moments place before (age ∷ ages) =
    at (place + 1) (leb (before + age.moment) most_moment) ∷ ranges_of_moments (place + per_age) (before + age.moment) ages

unfoldable pub ranges : Quantities → List Check
ranges q =
    head_ranges q
    ++ (ranges_of_segments first_segment_field (both_paths q)
    ++ ranges_of_moments (first_age_field (length (both_paths q))) q.own_weight_moment q.ages)

-- ---- hours: "rule of hours broken". "Rules of hours that name the end of curing break at field 19, transfer's own range at 20."

-- "End of curing is at most transfer, equal to it for kind 1, and at most 168 if moist."
abbrev pub curing_fits : Quantities → Bool
curing_fits q =
    leb q.end_of_curing q.transfer
    && (not (is_pretensioned q) || eqb q.end_of_curing q.transfer)
    && (not (is_moist q) || leb q.end_of_curing range.end_of_curing.high)

-- "Transfer lies in 72..960 if moist, 1..960 if accelerated."
abbrev pub transfer_fits : Quantities → Bool
transfer_fits q = within (cond (is_moist q) least_moist_transfer range.transfer.low) range.transfer.high q.transfer

-- "Ages rise strictly from above transfer to at most 438,000": `before` is the age before these, transfer first
unfoldable pub hours_of_ages : ℕ → ℕ → List Age → List Check
hours_of_ages place before [] = []
hours_of_ages place before (age ∷ ages) =
    at place (ltb before age.hour && leb age.hour service_life) ∷ hours_of_ages (place + per_age) age.hour ages

unfoldable pub hours : Quantities → List Check
hours q =
    at field_number.end_of_curing (curing_fits q) ∷ at field_number.transfer (transfer_fits q)
    ∷ hours_of_ages (first_age_field (length (both_paths q))) q.transfer q.ages

-- ---- duct: each of its checks is a row here, since 14 stands between the places of 4, and 15 behind them

-- "kind 1 with segments", place 1; document 02, W9: "(first path only)"
abbrev pub kind_row : Bool → ℕ → CheckRow
kind_row pretensioned segments = row Refusal.Duct (at 1 (not pretensioned || eqb segments 0) ∷ [])

-- document 02, W9: "14 when a second path stands on a pretensioned card, .. place 2"
abbrev pub second_path_row : Bool → ℕ → CheckRow
second_path_row pretensioned second_segments =
    row (λ place. Refusal.SecondPath) (at 2 (not pretensioned || eqb second_segments 0) ∷ [])

-- document 02, W3: "Refusal 4 place 2 now begins where X passes 1.5 T", of one path; W9: "4 place 2 .. look at both paths"
abbrev pub friction_row : ℕ → CheckRow
friction_row friction = row Refusal.Duct (at 2 (leb friction most_friction) ∷ [])

-- document 02, W9: "15 when, with a second path, the two path lengths differ from field 7 by more than one foot together, .. place 7"
abbrev pub path_lengths_row : Bool → ℕ → ℕ → CheckRow
path_lengths_row second lengths tendon_length =
    row (λ place. Refusal.PathLengths)
    (at field_number.tendon_length
    (not second || (leb lengths (tendon_length + most_apart) && leb tendon_length (lengths + most_apart))) ∷ [])

-- ---- the rows of the lent buffers, of κ and of U·κ; the places of the first are numbers of their own

-- buffers: "report or scratch under" 5n numbers (document 02, W1)
abbrev pub buffers : ℕ → ℕ → ℕ → List Check
buffers ages report scratch = at 1 (leb (report_room ages) report) ∷ at 2 (leb (scratch_room ages) scratch) ∷ []

-- section: "κ over 2^30"
abbrev pub section : ℕ → List Check
section kappa = at field_number.area (leb kappa most_kappa) ∷ []

-- creep: "U·κ over 2^56"
abbrev pub creep : ℕ → List Check
creep creep_of_kappa = at field_number.steel_area (leb creep_of_kappa most_creep_of_kappa) ∷ []
