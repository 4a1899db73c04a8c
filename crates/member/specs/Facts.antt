-- It serves the code and the proofs alone. What is known of the quantities of an accepted member.
use Rattle.std.specs.Prelude.{ℕ, ◌+◌, ◌*◌, ◌≤◌, ◌<◌, ◌^◌, ◌≡◌, true, false, List, [], ◌∷◌, length}
use Rattle.logarithm.specs.Logarithm.{service_life}
use Rattle.fields.specs.declared.segments.Segment.{Segment}
use Rattle.fields.specs.declared.segments.Age.{Age}
use Rattle.fields.specs.Quantities.{bend, Quantities, is_pretensioned, is_moist, straight}
use Rattle.fields.specs.Quantities.{parabola}
use Rattle.fields.specs.Limits.{range, most_of_strength, hundredths, most_length, most_moment, least_straight, least_parabola, most_rise}
use Rattle.fields.specs.Limits.{most_angle, least_moist_transfer, most_segments, most_friction, report_room, scratch_room, most_kappa}
use Rattle.fields.specs.Limits.{most_creep_of_kappa}
use Rattle.member.specs.Constants.{friction_of}
use Rattle.member.specs.Member.{kappa_of, creep_of}

-- ---- segments

pub record SegmentFits (segment : Segment) : Type 0 where
  pub kind_least : straight ≤ segment.kind
  pub kind_most : segment.kind ≤ bend
  pub length_most : segment.length ≤ most_length
  pub rise_most : segment.rise ≤ most_rise
  pub straight_length : segment.kind ≡ straight → least_straight ≤ segment.length
  pub straight_rise : segment.kind ≡ straight → segment.rise ≡ 0
  pub parabola_length : segment.kind ≡ parabola → least_parabola ≤ segment.length
  pub bend_length : segment.kind ≡ bend → segment.length ≡ 0
  pub bend_angle : segment.kind ≡ bend → segment.rise ≤ most_angle

pub data SegmentsFit : List Segment → Type 0 where
  no_segment : SegmentsFit []
  segment_fits : {segment : Segment} {segments : List Segment} → SegmentFits segment → SegmentsFit segments
      → SegmentsFit (segment ∷ segments)

-- what a segment's part of X is computed from: a wobble or a curvature up to its most, and a segment
pub record PartFits (most factor : ℕ) (segment : Segment) : Type 0 where
  pub factor_most : factor ≤ most
  pub segment_fits : SegmentFits segment

-- both parts
pub record SegmentFrictionFits (wobble curvature : ℕ) (segment : Segment) : Type 0 where
  pub wobble_most : wobble ≤ range.wobble.high
  pub curvature_most : curvature ≤ range.curvature.high
  pub segment_fits : SegmentFits segment

-- more than either part of a segment's friction can be, and than both together
abbrev pub most_part : ℕ
most_part = 10 ^ 9

abbrev pub most_segment_friction : ℕ
most_segment_friction = 2 * most_part

-- what a path's length is computed from
pub record PathFits (path : List Segment) : Type 0 where
  pub few : length path ≤ most_segments
  pub segments_fit : SegmentsFit path

-- what X is computed from
pub record PathFrictionFits (wobble curvature : ℕ) (path : List Segment) : Type 0 where
  pub path_fits : PathFits path
  pub wobble_most : wobble ≤ range.wobble.high
  pub curvature_most : curvature ≤ range.curvature.high

-- ---- the section

pub record SectionFits (steel_area area eccentricity inertia : ℕ) : Type 0 where
  pub area_least : range.area.low ≤ area
  pub area_most : area ≤ range.area.high
  pub inertia_least : range.inertia.low ≤ inertia
  pub inertia_most : inertia ≤ range.inertia.high
  pub eccentricity_most : eccentricity ≤ range.eccentricity.high
  pub steel_area_least : range.steel_area.low ≤ steel_area
  pub steel_area_most : steel_area ≤ range.steel_area.high

-- more than U can be: UCR is at most 95,000,000 millionths, SCF 1.05 and MCF 1.14
abbrev pub most_creep : ℕ
most_creep = 2 * 10 ^ 9

-- more than S can be: USH is at most 41·10^9 millionths of psi, and SSF 1.04
abbrev pub most_shrinkage : ℕ
most_shrinkage = 5 * 10 ^ 7

-- what a function gives, and a bound of it
pub record AtMost (limit value r : ℕ) : Type 0 where
  pub is : r ≡ value
  pub most : r ≤ limit

-- ---- lines 1 to 4

pub record HeadFits (q : Quantities) : Type 0 where
  pub kind_least : range.kind.low ≤ q.kind
  pub kind_most : q.kind ≤ range.kind.high
  pub steel_least : range.steel.low ≤ q.steel
  pub steel_most : q.steel ≤ range.steel.high
  pub cure_least : range.cure.low ≤ q.cure
  pub cure_most : q.cure ≤ range.cure.high
  pub concrete_least : range.concrete.low ≤ q.concrete
  pub concrete_most : q.concrete ≤ range.concrete.high
  pub ultimate_least : range.ultimate_strength.low ≤ q.ultimate_strength
  pub ultimate_most : q.ultimate_strength ≤ range.ultimate_strength.high
  pub jacking_least : range.jacking_stress.low ≤ q.jacking_stress
  pub jacking_most : hundredths * q.jacking_stress ≤ most_of_strength * q.ultimate_strength
  pub deflector_most : q.deflector_loss ≤ range.deflector_loss.high
  pub deflector_kind : is_pretensioned q ≡ false → q.deflector_loss ≡ 0
  pub slip_most : q.slip ≤ range.slip.high
  pub length_least : range.tendon_length.low ≤ q.tendon_length
  pub length_most : q.tendon_length ≤ range.tendon_length.high
  pub es_least : range.Es.low ≤ q.Es
  pub es_most : q.Es ≤ range.Es.high
  pub eci_least : range.Eci.low ≤ q.Eci
  pub eci_most : q.Eci ≤ range.Eci.high
  pub ec_least : range.Ec.low ≤ q.Ec
  pub ec_most : q.Ec ≤ range.Ec.high
  pub volume_to_surface_least : range.volume_to_surface.low ≤ q.volume_to_surface
  pub volume_to_surface_most : q.volume_to_surface ≤ range.volume_to_surface.high
  pub section : SectionFits q.steel_area q.area q.eccentricity q.inertia
  pub own_weight_most : q.own_weight_moment ≤ most_moment
  pub curing_most : q.end_of_curing ≤ q.transfer
  pub curing_pretensioned : is_pretensioned q ≡ true → q.end_of_curing ≡ q.transfer
  pub curing_moist : is_moist q ≡ true → q.end_of_curing ≤ range.end_of_curing.high
  pub transfer_least : range.transfer.low ≤ q.transfer
  pub transfer_moist : is_moist q ≡ true → least_moist_transfer ≤ q.transfer
  pub transfer_most : q.transfer ≤ range.transfer.high
  pub wobble_most : q.wobble ≤ range.wobble.high
  pub curvature_most : q.curvature ≤ range.curvature.high

-- ---- ages

-- hours rise strictly from above `before`, to at most the service life
pub data RisingFrom : ℕ → List Age → Type 0 where
  no_age : {before : ℕ} → RisingFrom before []
  rises : {before : ℕ} {age : Age} {ages : List Age} → before < age.hour → age.hour ≤ service_life → RisingFrom age.hour ages
      → RisingFrom before (age ∷ ages)

-- the running sum of moments, `before` being the sum of those before these, stays at most 2^40
pub data MomentsWithin : ℕ → List Age → Type 0 where
  no_moment : {before : ℕ} → MomentsWithin before []
  adds : {before : ℕ} {age : Age} {ages : List Age} → before + age.moment ≤ most_moment → MomentsWithin (before + age.moment) ages
      → MomentsWithin before (age ∷ ages)

-- ---- an accepted member

pub record Facts (q : Quantities) (report scratch : ℕ) : Type 0 where
  pub head : HeadFits q
  pub segments_fit : SegmentsFit q.path
  pub second_fit : SegmentsFit q.second_path
  pub ages_rise : RisingFrom q.transfer q.ages
  pub moments_fit : MomentsWithin q.own_weight_moment q.ages
  pub no_path : is_pretensioned q ≡ true → length q.path ≡ 0
  pub no_second_path : is_pretensioned q ≡ true → length q.second_path ≡ 0
  pub friction_most : friction_of q q.path ≤ most_friction
  pub second_friction_most : friction_of q q.second_path ≤ most_friction
  pub report_room_fits : report_room (length q.ages) ≤ report
  pub scratch_room_fits : scratch_room (length q.ages) ≤ scratch
  pub kappa_most : kappa_of q ≤ most_kappa
  pub creep_most : creep_of q * kappa_of q ≤ most_creep_of_kappa
