-- Friction along a path: the stress in ticks beside the stress without rounding, both from the jacking stress. Each segment
-- adds two parts to X, each rounded down, so that X is short by at most 2 for each segment; the factor is off by that many units, by 2.5 of
-- its own, and the one of the method in fractions by 1. The jacking stress is less than 15 T, so that a unit is less than 15 ticks of
-- stress; and the stress left is rounded down once. Assumes nothing.
use mathlib.Core.Path.{◌≡◌, refl}
use mathlib.Core.Bool.{Bool, true, false, cond}
use mathlib.Core.List.{List, [], ◌∷◌}
use Prim.Native.Nat.{ℕ, zero, suc, ◌+◌, ◌*◌, ◌/◌, ◌≤◌}
use native.Mathlib.Nat.{le_trans, mul-pos, min-eq_left}
use native.Mathlib.Omega.{arith}
use lib.Dec.{eqb, lit<, lit≤}
use lib.ListN.{length, take, length-take}
use borrow.Author.Tests.{eqb-true}
use Rattle.fraction.specs.Fraction.{Fraction, whole, ◌⊕◌, ◌⊗◌, ◌÷◌, ◌≼◌, Within}
use Rattle.fraction.specs.Equality.{◌≈◌}
use Rattle.fraction.proofs.Laws.{≈-refl, ≈-sym, ◌⨾◌, ≼_trans, ≼-of-≈, ⊗-cong, ⊗-mono-left, ⊗-not-negative, one-⊗, whole-⊕}
use Rattle.fraction.proofs.Floors.{whole_order, whole_not_negative}
use Rattle.fraction.proofs.Quotients.{quotient_not_negative, quotient_times}
use Rattle.fraction.proofs.Distances.{within_refl, within_weaken, within_resp_≈}
use Rattle.fraction.proofs.Certificate.{◌⊠◌, ◌≐◌, identity}
use Rattle.ticks.specs.Ticks.{ticks_per_unit, T}
use Rattle.exponential.specs.Factor.{factor, powers}
use Rattle.exponential.specs.Series.{sum_to, BySeries}
use Rattle.exponential.proofs.Turns.{factor_most}
use Rattle.exponential.proofs.Series.{series, factor_error, factor_near}
use Rattle.fields.specs.declared.segments.Segment.{Segment}
use Rattle.fields.specs.Quantities.{Quantities, parabola, bend}
use Rattle.fields.specs.Limits.{most_segments, most_friction}
use Rattle.member.specs.Constants.{million, path_friction as ticks_friction, wobble_part as ticks_wobble}
use Rattle.member.specs.Constants.{curvature_part as ticks_curvature, jacked, friction_of, stress_along as ticks_along}
use Rattle.member.specs.Facts.{SegmentFits, SegmentsFit, no_segment, segment_fits}
use Rattle.formulas.specs.Steps.{stress_left}
use Rattle.tolerance.specs.Formulas.{wobble_part, curvature_part, path_friction}
use Rattle.tolerance.specs.Method.{exponent_along, FactorsAlong, stress_along}
use Rattle.tolerance.proofs.Rounded.{Rounded, rounded_weaken, rounded_exact, rounded_whole_sum, rounded_not_negative}
use Rattle.tolerance.proofs.Rounded.{floor_rounded, product_near}
use Rattle.tolerance.proofs.Concrete.{highest_stress}

-- the parts of X that a segment has, each a division
abbrev parts_of_segment : ℕ
parts_of_segment = 2

-- the highest stress over T, rounded up: what a unit of the factor costs
abbrev stress_per_unit : ℕ
stress_per_unit = highest_stress / T + 1

-- what the factor and that of the method in fractions are off by, rounded up
abbrev units_of_factors : ℕ
units_of_factors = 4

-- what X and the factors are off by costs along so many segments, and a division
abbrev pub path_error : ℕ → ℕ
path_error segments = 1 + stress_per_unit * (parts_of_segment * segments + units_of_factors)

-- ---- X

-- a choice is rounded as each of the two is in its own case
rounded_choice : (b : Bool) {m n : ℕ} {e x y : Fraction} → (b ≡ true → Rounded e m x) → Rounded e n y
    → Rounded e (cond b m n) (cond b x y)
rounded_choice true r s = r refl
rounded_choice false r s = s

module _ (wobble curvature : ℕ) where
  wobble_rounded : (segment : Segment) → Rounded (whole 1) (ticks_wobble wobble segment) (wobble_part wobble segment)
  wobble_rounded segment = floor_rounded (wobble * segment.length * T) (ticks_per_unit * million) (lit< tt)

  -- a parabola has a length, by which its part is divided
  curvature_rounded : (segment : Segment) → SegmentFits segment
      → Rounded (whole 1) (ticks_curvature curvature segment) (curvature_part curvature segment)
  curvature_rounded segment fits =
      rounded_choice (eqb segment.kind bend)
      (λ _. floor_rounded (curvature * segment.rise * T) (ticks_per_unit * million) (lit< tt))
      (rounded_choice (eqb segment.kind parabola)
      (λ t. floor_rounded (curvature * (2 * segment.rise) * T) (segment.length * million)
      (mul-pos (le_trans (lit≤ tt) (fits.parabola_length (eqb-true segment.kind parabola t))) (lit< tt)))
      (rounded_exact (whole_not_negative 1) 0))

  -- X, and what its parts without rounding sum to
  path_rounded : {path : List Segment} → SegmentsFit path
      → Rounded (whole (parts_of_segment * length path)) (ticks_friction wobble curvature path) (path_friction wobble curvature path)
  unfolding ticks_friction path_friction
  path_rounded no_segment = rounded_exact (whole_not_negative 0) 0
  path_rounded (segment_fits {segment} {segments} fits rest) =
      rounded_weaken (whole_order (omega arith))
      (rounded_whole_sum parts_of_segment (parts_of_segment * length segments)
      (rounded_whole_sum 1 1 (wobble_rounded segment) (curvature_rounded segment fits)) (path_rounded rest))

  -- the first j segments have no more friction than all
  pub friction_of_part : (path : List Segment) (j : ℕ)
      → ticks_friction wobble curvature (take j path) ≤ ticks_friction wobble curvature path
  unfolding ticks_friction
  friction_of_part path zero = omega arith
  friction_of_part [] (suc j) = omega arith
  friction_of_part (segment ∷ segments) (suc j) = omega (arith, friction_of_part segments j)

segments_fit_take : (j : ℕ) {path : List Segment} → SegmentsFit path → SegmentsFit (take j path)
segments_fit_take zero fit = no_segment
segments_fit_take (suc j) no_segment = no_segment
segments_fit_take (suc j) (segment_fits fits rest) = segment_fits fits (segments_fit_take j rest)

-- ---- the stress after some segments

-- what the units cost at the highest stress, and the division of the stress left
units_room : (n : ℕ)
    → whole 1 ⊕ (1 ÷ T) ⊗ (whole 0 ⊗ whole T ⊕ whole highest_stress ⊗ (factor_error ⊕ (whole (parts_of_segment * n) ⊕ whole 1)))
    ≼ whole (path_error n)
unfolding ◌÷◌ whole ◌⊕◌ ◌⊗◌
units_room n = record { at_most = omega arith }

twice : whole (2 * T) ⊗ (1 ÷ T) ≼ whole 2
unfolding ◌÷◌ whole ◌⊗◌
twice = record { at_most = lit≤ tt }

module _ (q : Quantities) (segments : List Segment) (fits : SegmentsFit segments) (few : length segments ≤ most_segments)
    (most : ticks_friction q.wobble q.curvature segments ≤ most_friction) where
  abbrev X : ℕ
  X = ticks_friction q.wobble q.curvature segments

  abbrev exact : Fraction
  exact = path_friction q.wobble q.curvature segments

  X_rounded : Rounded (whole (parts_of_segment * length segments)) X exact
  X_rounded = path_rounded q.wobble q.curvature fits

  exponent_not_negative : whole 0 ≼ exact ⊗ (1 ÷ T)
  exponent_not_negative = ⊗-not-negative (rounded_not_negative X_rounded) (quotient_not_negative 1 T)

  -- the unrounded X passes 1.5 T by two for each segment at the most
  exponent_most : exact ⊗ (1 ÷ T) ≼ whole 2
  exponent_most =
      let short = parts_of_segment * length segments in
      ≼_trans
      (⊗-mono-left (1 ÷ T) (quotient_not_negative 1 T)
      (≼_trans X_rounded.greatest (≼_trans (≼-of-≈ (≈-sym (whole-⊕ X short))) (whole_order (omega arith)))))
      twice

  path_close : {φ : Fraction} → jacked q ≤ highest_stress → BySeries (exact ⊗ (1 ÷ T)) φ
      → Within (whole (path_error (length segments))) (whole (stress_left (jacked q) X)) (whole (jacked q) ⊗ φ)
  path_close {φ} small allowed =
      within_weaken (units_room (length segments))
      (within_resp_≈ ≈-refl cancelled
      (product_near (jacked q) (factor X) T T highest_stress (lit< tt) (factor_most X) (whole_not_negative (jacked q))
      (whole_order small) (within_refl (whole (jacked q)))
      (factor_near X most exact (whole (parts_of_segment * length segments)) φ X_rounded.least X_rounded.greatest exponent_most
      allowed)))
    where
      cancelled : whole (jacked q) ⊗ (whole T ⊗ φ) ⊗ (1 ÷ T) ≈ whole (jacked q) ⊗ φ
      cancelled =
          identity (whole (jacked q) ∷ whole T ∷ φ ∷ 1 ÷ T ∷ []) (λ F N P Q. F ⊠ (N ⊠ P) ⊠ Q ≐ F ⊠ (N ⊠ Q ⊠ P)) tt
          ⨾ ⊗-cong ≈-refl (⊗-cong (quotient_times 1 T (lit< tt)) ≈-refl ⨾ one-⊗ φ)

-- ---- the stress along one of a member's paths

module _ (q : Quantities) {path : List Segment} (fits : SegmentsFit path) (few : length path ≤ most_segments)
    (most : friction_of q path ≤ most_friction) where
  part_fits : (j : ℕ) → SegmentsFit (take j path)
  part_fits j = segments_fit_take j fits

  part_count : (j : ℕ) → j ≤ length path → length (take j path) ≡ j
  part_count j h = rw length-take (min-eq_left h)

  part_few : (j : ℕ) → j ≤ length path → length (take j path) ≤ most_segments
  part_few j h = rw (part_count j h) (le_trans h few)

  part_most : (j : ℕ) → ticks_friction q.wobble q.curvature (take j path) ≤ most_friction
  part_most j = le_trans (friction_of_part q.wobble q.curvature path j) most

  -- X/T of the first j segments, not rounded
  pub exponent_between : (j : ℕ) → j ≤ length path → (whole 0 ≼ exponent_along q path j) × (exponent_along q path j ≼ whole 2)
  exponent_between j h =
      let part = take j path in (
        exponent_not_negative q part (part_fits j) (part_few j h) (part_most j),
        exponent_most q part (part_fits j) (part_few j h) (part_most j),
      )

  pub some_factors : FactorsAlong q path (λ j. sum_to powers (exponent_along q path j))
  some_factors j h = let (least, most) = exponent_between j h in series.some_allowed (exponent_along q path j) least most

  -- after the first j segments
  pub along_close : jacked q ≤ highest_stress → {factor : ℕ → Fraction} → FactorsAlong q path factor → (j : ℕ) → j ≤ length path
      → Within (whole (path_error j)) (whole (ticks_along q path j)) (stress_along factor q j)
  along_close small factors j h =
      rw (part_count j h) at
      (path_close q (take j path) (part_fits j) (part_few j h) (part_most j) small (factors j h))
