-- What an accepted member's quantities keep to. `accepted` gives it whole, from `checked_of` alone: no check of its rows fails,
-- so each of its checks holds, and each check says its bounds. Assumes nothing.
use mathlib.Core.Path.{◌≡◌, refl, sym, ◌∙◌}
use mathlib.Core.Bool.{Bool, true, false, not, ◌&&◌, ◌||◌, cond, and-eq-true_iff}
use mathlib.Core.List.{List, [], ◌∷◌, ◌++◌}
use Prim.Native.Nat.{ℕ, ◌+◌, ◌*◌, ◌≤◌}
use native.Mathlib.Omega.{arith}
use borrow.Author.Tests.{leb-true, ltb-true, eqb-true, eqb-false}
use lib.Dec.{leb, ltb, eqb}
use lib.ListN.{length}
use Rattle.std.specs.Prelude.{Ok}
use Rattle.logarithm.specs.Logarithm.{service_life}
use Rattle.fields.specs.declared.segments.Segment.{Segment}
use Rattle.fields.specs.declared.segments.Age.{Age}
use Rattle.fields.specs.Outcomes.{onward}
use Rattle.fields.specs.Quantities.{per_segment, per_age, first_segment_field, first_age_field, bend, Quantities}
use Rattle.fields.specs.Quantities.{is_pretensioned, is_moist, both_paths, straight, parabola}
use Rattle.fields.proofs.Laws.{in_range}
use Rattle.fields.specs.Limits.{Range, range, within, most_of_strength, hundredths, most_length, most_moment, least_straight}
use Rattle.fields.specs.Limits.{least_parabola}
use Rattle.fields.specs.Limits.{most_rise, most_angle, least_moist_transfer, most_friction, report_room, scratch_room, most_kappa}
use Rattle.fields.specs.Limits.{most_creep_of_kappa}
use Rattle.fields.specs.declared.refusal.Refusal.TheVariants.{Codes, Ranges, Hours, Duct, SecondPath, PathLengths, Buffers, Section, Creep}
use Rattle.checks.specs.Places.{ranges_of_line1, ranges_of_line2, ranges_of_line3, ranges_of_line4}
use Rattle.checks.specs.Rows.{CheckRow, checked, checked_by, head_codes, segment_codes, codes, ranges_of_segments}
use Rattle.checks.specs.Rows.{ranges_of_moments, ranges, curing_fits, transfer_fits, hours_of_ages, hours, friction_row, buffers, section}
use Rattle.checks.specs.Rows.{creep, kind_row, second_path_row}
use Rattle.checks.proofs.Holding.{Holds, all_hold, part_holds, other_true, asked_true}
use Rattle.checks.proofs.Cascade.{row_held, given_is, in_parts}
use Rattle.member.specs.declared.Member.{Member}
use Rattle.member.specs.declared.path.Paths.{Paths}
use Rattle.member.specs.Constants.{friction_of}
use Rattle.member.specs.Member.{paths_of, kappa_of, creep_of, member_of, codes_to_hours, duct_rows, codes_to_duct, buffers_to_creep}
use Rattle.member.specs.Member.{checked_of}
use Rattle.member.specs.Checking.{BelowHours}
use Rattle.member.specs.Facts.{SegmentFits, SegmentsFit, no_segment, segment_fits, HeadFits, RisingFrom, no_age, rises}
use Rattle.member.specs.Facts.{MomentsWithin, no_moment, adds, Facts}

-- ---- segments and ages, along their lists

by_kind : (segment : Segment) (straight_is parabola_is : Bool) → eqb segment.kind straight ≡ straight_is
    → eqb segment.kind parabola ≡ parabola_is → within range.kind.low bend segment.kind ≡ true
    → cond straight_is (within least_straight most_length segment.length)
    (cond parabola_is (within least_parabola most_length segment.length) (eqb segment.length 0)) ≡ true
    → cond straight_is (eqb segment.rise 0) (cond parabola_is (leb segment.rise most_rise) (leb segment.rise most_angle)) ≡ true
    → SegmentFits segment
by_kind segment true parabola_is one two code length rise =
    let kind = in_range range.kind.low bend segment.kind code in
    let is = eqb-true segment.kind straight one in
    let long = in_range least_straight most_length segment.length length in
    let flat = eqb-true segment.rise 0 rise in
    record {
      kind_least = kind.0;
      kind_most = kind.1;
      length_most = long.1;
      rise_most = omega arith;
      straight_length = λ k. long.0;
      straight_rise = λ k. flat;
      parabola_length = λ k. omega arith;
      bend_length = λ k. omega arith;
      bend_angle = λ k. omega arith;
    }
by_kind segment false true one two code length rise =
    let kind = in_range range.kind.low bend segment.kind code in
    let is = eqb-true segment.kind parabola two in
    let long = in_range least_parabola most_length segment.length length in
    let risen = leb-true segment.rise most_rise rise in
    record {
      kind_least = kind.0;
      kind_most = kind.1;
      length_most = long.1;
      rise_most = risen;
      straight_length = λ k. omega arith;
      straight_rise = λ k. omega arith;
      parabola_length = λ k. long.0;
      bend_length = λ k. omega arith;
      bend_angle = λ k. omega arith;
    }
by_kind segment false false one two code length rise =
    let kind = in_range range.kind.low bend segment.kind code in
    let is_not = eqb-false segment.kind straight one in
    let nor = eqb-false segment.kind parabola two in
    let short = eqb-true segment.length 0 length in
    let bent = leb-true segment.rise most_angle rise in
    record {
      kind_least = kind.0;
      kind_most = kind.1;
      length_most = omega arith;
      rise_most = omega arith;
      straight_length = λ k. absurd (is_not k);
      straight_rise = λ k. absurd (is_not k);
      parabola_length = λ k. absurd (nor k);
      bend_length = λ k. short;
      bend_angle = λ k. bent;
    }

segments_fit : (coded ranged : ℕ) (segments : List Segment) → Holds (segment_codes coded segments)
    → Holds (ranges_of_segments ranged segments) → SegmentsFit segments
unfolding segment_codes ranges_of_segments
segments_fit coded ranged [] c r = no_segment
segments_fit coded ranged (segment ∷ segments) c r =
    segment_fits
    (by_kind segment (eqb segment.kind straight) (eqb segment.kind parabola) refl refl c.0 r.0 r.1.0)
    (segments_fit (coded + per_segment) (ranged + per_segment) segments c.1 r.1.1)

-- what fits of both paths fits of each
each_fits : (one : List Segment) {other : List Segment} → SegmentsFit (one ++ other) → SegmentsFit one × SegmentsFit other
each_fits [] fit = (no_segment, fit)
each_fits (segment ∷ segments) (segment_fits first later) =
    let both = each_fits segments later in
    (segment_fits first both.0, both.1)

moments_fit : (place before : ℕ) (ages : List Age) → Holds (ranges_of_moments place before ages) → MomentsWithin before ages
unfolding ranges_of_moments
moments_fit place before [] h = no_moment
moments_fit place before (age ∷ ages) h =
    adds (leb-true (before + age.moment) most_moment h.0) (moments_fit (place + per_age) (before + age.moment) ages h.1)

ages_rise : (place before : ℕ) (ages : List Age) → Holds (hours_of_ages place before ages) → RisingFrom before ages
unfolding hours_of_ages
ages_rise place before [] h = no_age
ages_rise place before (age ∷ ages) h =
    let both = (and-eq-true_iff (ltb before age.hour) (leb age.hour service_life)).0 h.0 in
    rises (ltb-true before age.hour both.0) (leb-true age.hour service_life both.1)
    (ages_rise (place + per_age) age.hour ages h.1)

-- ---- the parts of the rows "codes" and "ranges"

module _ (q : Quantities) where
  record Coded : Type 0 where
    head : Holds (head_codes q)
    path : Holds (segment_codes first_segment_field (both_paths q))

  coded : checked (codes q) ≡ Ok tt → Coded
  unfolding codes
  coded e =
      let path = segment_codes first_segment_field (both_paths q) in
      let head = part_holds (head_codes q) path e in
      record { head = head.0; path = all_hold path head.1 }

  record Ranged : Type 0 where
    line_1 : Holds (ranges_of_line1 q)
    line_2 : Holds (ranges_of_line2 q)
    line_3 : Holds (ranges_of_line3 q)
    line_4 : Holds (ranges_of_line4 q)
    path : Holds (ranges_of_segments first_segment_field (both_paths q))
    moments : Holds (ranges_of_moments (first_age_field (length (both_paths q))) q.own_weight_moment q.ages)

  ranged : checked (ranges q) ≡ Ok tt → Ranged
  unfolding ranges ranges_of_line1 ranges_of_line2 ranges_of_line3 ranges_of_line4
  ranged e =
      let path = ranges_of_segments first_segment_field (both_paths q) in
      let moments = ranges_of_moments (first_age_field (length (both_paths q))) q.own_weight_moment q.ages in
      let from_4 = ranges_of_line4 q ++ (path ++ moments) in
      let from_3 = ranges_of_line3 q ++ from_4 in
      let one = part_holds (ranges_of_line1 q) (ranges_of_line2 q ++ from_3) e in
      let two = part_holds (ranges_of_line2 q) from_3 one.1 in
      let three = part_holds (ranges_of_line3 q) from_4 two.1 in
      let four = part_holds (ranges_of_line4 q) (path ++ moments) three.1 in
      let five = part_holds path moments four.1 in
      record {
        line_1 = one.0;
        line_2 = two.0;
        line_3 = three.0;
        line_4 = four.0;
        path = five.0;
        moments = all_hold moments five.1;
      }

-- ---- lines 1 to 4

least : (moist : Bool) (transfer : ℕ) → cond moist least_moist_transfer range.transfer.low ≤ transfer → range.transfer.low ≤ transfer
least true transfer h = omega arith
least false transfer h = h

lies : (range : Range) (x : ℕ) → within range.low range.high x ≡ true → (range.low ≤ x) × (x ≤ range.high)
lies range x = in_range range.low range.high x

head_fits : (q : Quantities) → Coded q → Ranged q → curing_fits q ≡ true → transfer_fits q ≡ true → HeadFits q
unfolding ranges_of_line1 ranges_of_line2 ranges_of_line3 ranges_of_line4
head_fits q coded ranged cured transferred =
    let code = coded.head in
    let kind = lies range.kind q.kind code.0 in
    let steel = lies range.steel q.steel code.1.0 in
    let cure = lies range.cure q.cure code.1.1.0 in
    let concrete = lies range.concrete q.concrete code.1.1.1.0 in
    let one = ranged.line_1 in
    let ultimate = lies range.ultimate_strength q.ultimate_strength one.0 in
    let of_strength = leb (hundredths * q.jacking_stress) (most_of_strength * q.ultimate_strength) in
    let jacking = (and-eq-true_iff (leb range.jacking_stress.low q.jacking_stress) of_strength).0 one.1.0 in
    let none_lost = eqb q.deflector_loss 0 in
    let deflected = leb q.deflector_loss range.deflector_loss.high in
    let deflector = (and-eq-true_iff deflected (is_pretensioned q || none_lost)).0 one.1.1.0 in
    let length = lies range.tendon_length q.tendon_length one.1.1.1.1.0 in
    let two = ranged.line_2 in
    let es = lies range.Es q.Es two.0 in
    let eci = lies range.Eci q.Eci two.1.0 in
    let ec = lies range.Ec q.Ec two.1.1.0 in
    let volume = lies range.volume_to_surface q.volume_to_surface two.1.1.1.0 in
    let three = ranged.line_3 in
    let wide = lies range.area q.area three.0 in
    let stiff = lies range.inertia q.inertia three.1.0 in
    let steel_area = lies range.steel_area q.steel_area three.1.1.1.0 in
    let until = eqb q.end_of_curing q.transfer in
    let short = leb q.end_of_curing range.end_of_curing.high in
    let most = leb q.end_of_curing q.transfer in
    let kinds = not (is_pretensioned q) || until in
    let curing = (and-eq-true_iff (most && kinds) (not (is_moist q) || short)).0 cured in
    let before = (and-eq-true_iff most kinds).0 curing.0 in
    let earliest = cond (is_moist q) least_moist_transfer range.transfer.low in
    let transfer = in_range earliest range.transfer.high q.transfer transferred in
    record {
      kind_least = kind.0;
      kind_most = kind.1;
      steel_least = steel.0;
      steel_most = steel.1;
      cure_least = cure.0;
      cure_most = cure.1;
      concrete_least = concrete.0;
      concrete_most = concrete.1;
      ultimate_least = ultimate.0;
      ultimate_most = ultimate.1;
      jacking_least = leb-true range.jacking_stress.low q.jacking_stress jacking.0;
      jacking_most = leb-true (hundredths * q.jacking_stress) (most_of_strength * q.ultimate_strength) jacking.1;
      deflector_most = leb-true q.deflector_loss range.deflector_loss.high deflector.0;
      deflector_kind = λ k. eqb-true q.deflector_loss 0 (other_true (is_pretensioned q) none_lost deflector.1 k);
      slip_most = (lies range.slip q.slip one.1.1.1.0).1;
      length_least = length.0;
      length_most = length.1;
      es_least = es.0;
      es_most = es.1;
      eci_least = eci.0;
      eci_most = eci.1;
      ec_least = ec.0;
      ec_most = ec.1;
      volume_to_surface_least = volume.0;
      volume_to_surface_most = volume.1;
      section = record {
        area_least = wide.0;
        area_most = wide.1;
        inertia_least = stiff.0;
        inertia_most = stiff.1;
        eccentricity_most = (lies range.eccentricity q.eccentricity three.1.1.0).1;
        steel_area_least = steel_area.0;
        steel_area_most = steel_area.1;
      };
      own_weight_most = (lies range.own_weight_moment q.own_weight_moment three.1.1.1.1.0).1;
      curing_most = leb-true q.end_of_curing q.transfer before.0;
      curing_pretensioned = λ k. eqb-true q.end_of_curing q.transfer (asked_true (is_pretensioned q) until before.1 k);
      curing_moist = λ k. leb-true q.end_of_curing range.end_of_curing.high (asked_true (is_moist q) short curing.1 k);
      transfer_least = least (is_moist q) q.transfer transfer.0;
      transfer_moist = λ k. rw k at transfer.0;
      transfer_most = transfer.1;
      wobble_most = (lies range.wobble q.wobble ranged.line_4.0).1;
      curvature_most = (lies range.curvature q.curvature ranged.line_4.1.0).1;
    }

-- ---- the rows "codes", "ranges" and "hours"

-- what is known once none of the three fails
module _ (q : Quantities) where
  pub record FieldsFit : Type 0 where
    pub below_hours : BelowHours q
    pub ages : RisingFrom q.transfer q.ages
    pub moments : MomentsWithin q.own_weight_moment q.ages

  pub fields_fit : checked (codes q) ≡ Ok tt → checked (ranges q) ≡ Ok tt → checked (hours q) ≡ Ok tt → FieldsFit
  unfolding hours
  fields_fit codes_row ranges_row hours_row =
      let c = coded q codes_row in
      let r = ranged q ranges_row in
      let h = all_hold (hours q) hours_row in
      let place = first_age_field (length (both_paths q)) in
      let paths = segments_fit first_segment_field first_segment_field (both_paths q) c.path r.path in
      let each = each_fits q.path paths in
      record {
        below_hours = record {
          head = head_fits q c r h.0 h.1.0;
          segments_fit = each.0;
          second_fit = each.1;
        };
        ages = ages_rise place q.transfer q.ages h.1.1;
        moments = moments_fit place q.own_weight_moment q.ages r.moments;
      }

-- ---- the rows to "hours", and those of the duct: what is known where they hold, and a value is given by those below

pub record ToHours {A : Type 0} (q : Quantities) (rows : List CheckRow) (value given : A) : Type 0 where
  pub fields : FieldsFit q
  pub below : checked_by rows value ≡ Ok given

pub to_hours : {A : Type 0} (q : Quantities) (rows : List CheckRow) (value : A) {given : A}
    → checked_by (codes_to_hours q ++ rows) value ≡ Ok given → ToHours q rows value given
to_hours q rows value e =
    let codes_row = row_held Codes (codes q) _ value e in
    let ranges_row = row_held Ranges (ranges q) _ value codes_row.below in
    let hours_row = row_held Hours (hours q) _ value ranges_row.below in
    record {
      fields = fields_fit q codes_row.holds ranges_row.holds hours_row.holds;
      below = hours_row.below;
    }

pub record DuctHeld {A : Type 0} (q : Quantities) (rows : List CheckRow) (value given : A) : Type 0 where
  pub no_path : is_pretensioned q ≡ true → length q.path ≡ 0
  pub no_second_path : is_pretensioned q ≡ true → length q.second_path ≡ 0
  pub friction_most : friction_of q q.path ≤ most_friction
  pub second_friction_most : friction_of q q.second_path ≤ most_friction
  pub below : checked_by rows value ≡ Ok given

pub duct_held : {A : Type 0} (q : Quantities) (rows : List CheckRow) (value : A) {given : A}
    → checked_by (duct_rows q ++ rows) value ≡ Ok given → DuctHeld q rows value given
duct_held q rows value e =
    let pretensioned = is_pretensioned q in
    let kind = row_held Duct (kind_row pretensioned (length q.path)).checks _ value e in
    let second =
    row_held (λ place. SecondPath) (second_path_row pretensioned (length q.second_path)).checks _ value kind.below in
    let no_segments : (count : ℕ) → (not pretensioned || eqb count 0) ≡ true → pretensioned ≡ true → count ≡ 0 =
    λ count. λ asked. λ is. eqb-true count 0 (asked_true pretensioned (eqb count 0) asked is) in
    let rubbed = row_held Duct (friction_row (friction_of q q.path)).checks _ value second.below in
    let second_rubbed = row_held Duct (friction_row (friction_of q q.second_path)).checks _ value rubbed.below in
    let lengths = row_held (λ place. PathLengths) _ _ value second_rubbed.below in
    record {
      no_path = no_segments (length q.path) (all_hold _ kind.holds).0;
      no_second_path = no_segments (length q.second_path) (all_hold _ second.holds).0;
      friction_most = leb-true (friction_of q q.path) most_friction (all_hold _ rubbed.holds).0;
      second_friction_most = leb-true (friction_of q q.second_path) most_friction (all_hold _ second_rubbed.holds).0;
      below = lengths.below;
    }

-- ---- what the code of the rows knows on its way down

pub below_hours : (q : Quantities) → checked_by (codes_to_hours q) (tt {0}) ≡ Ok tt → BelowHours q
below_hours q e = (to_hours q [] (tt {0}) e).fields.below_hours

pub to_duct : (q : Quantities)
    → checked_by (codes_to_duct q) (paths_of q)
    ≡ onward (checked_by (codes_to_hours q) (tt {0})) (λ held. checked_by (duct_rows q) (paths_of q))
to_duct q = in_parts (codes_to_hours q) (duct_rows q) (tt {0}) (paths_of q)

pub below_duct : (q : Quantities) {paths : Paths} → checked_by (codes_to_duct q) (paths_of q) ≡ Ok paths → BelowHours q
below_duct q e = (to_hours q (duct_rows q) (paths_of q) e).fields.below_hours

pub paths_given : (q : Quantities) {paths : Paths} → checked_by (codes_to_duct q) (paths_of q) ≡ Ok paths → paths ≡ paths_of q
paths_given q = given_is (codes_to_duct q) (paths_of q)

pub by_rows : (q : Quantities) (report scratch : ℕ)
    → checked_of q report scratch ≡ checked_by (codes_to_duct q ++ buffers_to_creep q report scratch) (member_of q)
unfolding checked_of
by_rows q report scratch = refl

pub to_creep : (q : Quantities) (report scratch : ℕ)
    → checked_of q report scratch
    ≡ onward (checked_by (codes_to_duct q) (paths_of q)) (λ paths. checked_by (buffers_to_creep q report scratch) (member_of q))
to_creep q report scratch =
    by_rows q report scratch ∙ in_parts (codes_to_duct q) (buffers_to_creep q report scratch) (paths_of q) (member_of q)

-- ---- an accepted member

pub record AcceptedMember (q : Quantities) (report scratch : ℕ) (m : Member) : Type 0 where
  pub is : m ≡ member_of q
  pub facts : Facts q report scratch

-- "Refusal by place of checking", read the other way round
pub accepted : (q : Quantities) (report scratch : ℕ) {m : Member} → checked_of q report scratch ≡ Ok m
    → AcceptedMember q report scratch m
accepted q report scratch e =
    let value = member_of q in
    let top = to_hours q (duct_rows q ++ buffers_to_creep q report scratch) value (sym (by_rows q report scratch) ∙ e) in
    let ducted = duct_held q (buffers_to_creep q report scratch) value top.below in
    let known = top.fields in
    let lent = buffers (length q.ages) report scratch in
    let buffers_row = row_held Buffers lent _ value ducted.below in
    let section_row = row_held (λ place. Section) (section (kappa_of q)) _ value buffers_row.below in
    let creep_row = row_held (λ place. Creep) (creep (creep_of q * kappa_of q)) _ value section_row.below in
    let b = all_hold lent buffers_row.holds in
    let s = all_hold (section (kappa_of q)) section_row.holds in
    let u = all_hold (creep (creep_of q * kappa_of q)) creep_row.holds in
    record {
      is = given_is [] value creep_row.below;
      facts = record {
        head = known.below_hours.head;
        segments_fit = known.below_hours.segments_fit;
        second_fit = known.below_hours.second_fit;
        ages_rise = known.ages;
        moments_fit = known.moments;
        no_path = ducted.no_path;
        no_second_path = ducted.no_second_path;
        friction_most = ducted.friction_most;
        second_friction_most = ducted.second_friction_most;
        report_room_fits = leb-true (report_room (length q.ages)) report b.0;
        scratch_room_fits = leb-true (scratch_room (length q.ages)) scratch b.1.0;
        kappa_most = leb-true (kappa_of q) most_kappa s.0;
        creep_most = leb-true (creep_of q * kappa_of q) most_creep_of_kappa u.0;
      };
    }
