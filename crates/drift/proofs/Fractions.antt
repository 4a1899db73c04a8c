-- The two runs in fractions, by one choice of logarithms and factors: no step brings them further apart. Along each path both stresses are
-- the jacking stress by the same factor, which lies between −1 and 1. Slip and the deflector loss take the same of both, and the larger of
-- two keeps their distance. The steps after slip are the same maps of stresses for both members, and keep every distance up to 1.1·Y; that
-- no stress in fractions passes it follows from demand 3, by which it lies near the core's, and that is at most 0.80 F. Assumes nothing.
use mathlib.Core.Path.{◌≡◌, refl, ap}
use mathlib.Core.Bool.{Bool, true, false, cond}
use mathlib.Core.List.{List, [], ◌∷◌, ◌++◌}
use Prim.Native.Nat.{ℕ, suc, ◌+◌, ◌*◌, ◌≤◌, ◌<◌}
use native.Mathlib.Nat.{le_refl, mul-le-mul_right}
use native.Mathlib.Omega.{arith}
use lib.Dec.{ltb}
use lib.ListN.{length, get_or}
use Rattle.fraction.specs.Fraction.{Fraction, whole, ◌⊖◌, ◌≼◌, larger, Within}
use Rattle.fraction.proofs.Laws.{larger_left, larger_right}
use Rattle.fraction.proofs.Distances.{within_larger}
use Rattle.fraction.proofs.Slopes.{constant_keeps_distance}
use Rattle.fields.specs.declared.segments.Segment.{Segment}
use Rattle.fields.specs.declared.segments.Age.{Age}
use Rattle.fields.specs.Quantities.{Quantities, has_second_path}
use Rattle.fields.specs.Limits.{most_segments, most_friction}
use Rattle.coefficient.specs.declared.codes.Kind.{Kind}
use Rattle.coefficient.specs.declared.codes.Kind.TheVariants.{Pretensioned, PostTensioned}
use Rattle.member.specs.Constants.{jacked, friction_of}
use Rattle.member.specs.Member.{kind_of}
use Rattle.member.specs.Facts.{SegmentsFit}
use Rattle.stages.specs.Run.{Report}
use Rattle.tolerance.specs.Method.{Choice, FactorsAlong, Admissible, stress_along, after_deflector, early_relaxation, after_age, end_at}
use Rattle.tolerance.specs.Method.{age_steps, steps_after_slip}
use Rattle.tolerance.specs.Demand.{path_steps, steps_of, each, core_stresses, exact_left_along, exact_after_slip, exact_stresses}
use Rattle.tolerance.specs.Demand.{stresses_by}
use Rattle.tolerance.specs.Demand.{counted, wide_step}
use Rattle.tolerance.proofs.Allowance.{most_steps}
use Rattle.tolerance.proofs.Bounds.{Low}
use Rattle.tolerance.proofs.Chains.{each_length_then, each_then}
use Rattle.tolerance.proofs.Closeness.{near_in_room}
use Rattle.tolerance.proofs.Distance.{most_stress_of, EachKeepsDistance, steps_keep_distance}
use Rattle.tolerance.proofs.Distance.{no_step as none_keeps, a_step as one_keeps}
use Rattle.tolerance.proofs.Logarithms.{admissible_logs}
use Rattle.tolerance.proofs.Path.{exponent_between}
use Rattle.drift.specs.Drift.{Common, jacked_to}
use Rattle.drift.proofs.Beside.{Beside, no_step, a_step, beside_append, beside_each}
use Rattle.drift.proofs.Factors.{factor_contracts, contracted}
use Rattle.drift.proofs.Runs.{AcceptedRun}

-- each of some stresses is one at which the steps keep their distance
abbrev InRoom : Fraction → List Fraction → Type 0
InRoom most stresses = (i : ℕ) → i < length stresses → get_or stresses i (whole 0) ≼ most

steps_apart : {most e : Fraction} {steps : List (Fraction → Fraction)} → EachKeepsDistance most steps → (x y : Fraction)
    → InRoom most (x ∷ stresses_by steps x) → InRoom most (y ∷ stresses_by steps y) → Within e x y
    → Beside (Within e) (stresses_by steps x) (stresses_by steps y)
unfolding stresses_by
steps_apart none_keeps x y x≤ y≤ near = no_step
steps_apart {e = e} (one_keeps {step = step} keeps keep) x y x≤ y≤ near =
    let next = keeps e x y (x≤ 0 (omega arith)) (y≤ 0 (omega arith)) near in
    a_step next (steps_apart keep (step x) (step y) (λ i h. x≤ (suc i) (omega arith)) (λ i h. y≤ (suc i) (omega arith)) next)

either_most : (b : Bool) {x y most : ℕ} → x ≤ most → y ≤ most → cond b x y ≤ most
either_most true x≤ y≤ = x≤
either_most false x≤ y≤ = y≤

-- a loss that is the same, whatever the stress
same_off : {e x y : Fraction} (loss : Fraction) → Within e x y → Within e (x ⊖ loss) (y ⊖ loss)
same_off {e} {x} {y} loss = constant_keeps_distance (larger x y) loss e x y (larger_left x y) (larger_right x y)

-- ---- a run by itself

-- no stress of the core is above 0.80 F
abbrev pub Lows : Quantities → Report → Type 0
Lows q given = (place : ℕ) → place < steps_of q → Low q (get_or (core_stresses q given) place 0)

module _ {q : Quantities} {given : Report} (run : AcceptedRun q given) (choice : Choice) (admissible : Admissible q choice)
    (lows : Lows q given) where
  few_count : (place : ℕ) → place < steps_of q → counted q place ≤ most_steps
  few_count place h =
      let few = run.few in
      rw run.over_the_tendon.first
      (either_most (ltb place (length q.path)) (omega (arith, few.segments, few.second, few.ages))
      (either_most (ltb place (path_steps q)) (omega (arith, few.segments, few.second, few.ages))
      (omega (arith, few.segments, few.second, few.ages))))

  exact_in_room : InRoom (most_stress_of q) (exact_stresses choice q)
  exact_in_room place h =
      let close = run.demand.wide choice admissible in
      let within : place < steps_of q = omega (arith, close.exact_count) in
      near_in_room run.facts (get_or (core_stresses q given) place 0) (counted q place * wide_step)
      (get_or (exact_stresses choice q) place (whole 0)) (lows place within)
      (mul-le-mul_right wide_step (few_count place within)) (close.steps place within)

  -- from slip on
  rest_in_room : InRoom (most_stress_of q) (exact_after_slip choice q ∷ stresses_by (steps_after_slip choice q) (exact_after_slip choice q))
  rest_in_room i h =
      let rest = exact_after_slip choice q ∷ stresses_by (steps_after_slip choice q) (exact_after_slip choice q) in
      let along = stress_along choice.factor q in
      let second_along = stress_along choice.second_factor q in
      let segments = length q.path in
      let second = length q.second_path in
      let from_Second = each second second_along ++ rest in
      rw (each_then along segments from_Second (second + i) (whole 0), each_then second_along second rest i (whole 0)) at
      (exact_in_room (segments + (second + i))
      (omega (arith, each_length_then along segments from_Second, each_length_then second_along second rest)))

-- ---- the two runs

module _ (common : Common) (a b : ℕ) (choice : Choice) where
  abbrev q : Quantities
  q = jacked_to a common

  abbrev p : Quantities
  p = jacked_to b common

  -- the jacking stress has no part in the steps after slip, nor in what is admissible
  same_ages : (moments hour : ℕ) (some : List Age) → age_steps choice p moments hour some ≡ age_steps choice q moments hour some
  unfolding age_steps
  same_ages moments hour [] = refl
  same_ages moments hour (age ∷ later) =
      ap (λ steps. after_age choice q (end_at choice q moments hour) (end_at choice q (moments + age.moment) age.hour) ∷ steps)
      (same_ages (moments + age.moment) age.hour later)

  same_early : (kind : Kind) → early_relaxation choice p kind ≡ early_relaxation choice q kind
  same_early Pretensioned = refl
  same_early PostTensioned = refl

  same_steps : steps_after_slip choice p ≡ steps_after_slip choice q
  same_steps = rw (same_early (kind_of q.kind), same_ages q.own_weight_moment q.transfer q.ages)

  module _ {one other : Report} (run : AcceptedRun q one) (run' : AcceptedRun p other) (admissible : Admissible q choice)
      (e : Fraction) (gauges : Within e (whole (jacked q)) (whole (jacked p))) where
    -- after the first j segments of a path
    along : {path : List Segment} → SegmentsFit path → length path ≤ most_segments → friction_of q path ≤ most_friction
        → {factor : ℕ → Fraction} → FactorsAlong q path factor
        → (j : ℕ) → j ≤ length path → Within e (stress_along factor q j) (stress_along factor p j)
    along fits few most factors j h =
        let (least, greatest) = exponent_between q fits few most j h in
        contracted (factor_contracts _ least greatest (factors j h)) gauges

    on_first : (j : ℕ) → j ≤ length q.path → Within e (stress_along choice.factor q j) (stress_along choice.factor p j)
    on_first = along run.facts.segments_fit run.few.segments run.facts.friction_most admissible.factors

    on_second : (j : ℕ) → j ≤ length q.second_path
        → Within e (stress_along choice.second_factor q j) (stress_along choice.second_factor p j)
    on_second = along run.facts.second_fit run.few.second run.facts.second_friction_most admissible.second_factors

    -- after slip, along each path, and of the larger
    first_left : Within e (exact_left_along choice q q.path choice.factor) (exact_left_along choice p p.path choice.factor)
    first_left =
        rw (run.over_the_tendon.first, run'.over_the_tendon.first)
        (same_off _ (on_first (length q.path) (le_refl (length q.path))))

    second_left : Within e (exact_left_along choice q q.second_path choice.second_factor)
        (exact_left_along choice p p.second_path choice.second_factor)
    second_left =
        rw (run.over_the_tendon.second, run'.over_the_tendon.second)
        (same_off _ (on_second (length q.second_path) (le_refl (length q.second_path))))

    larger_apart : (both : Bool) {x x' y y' : Fraction} → Within e x x' → Within e y y'
        → Within e (cond both (larger x y) x) (cond both (larger x' y') x')
    larger_apart true near near' = within_larger near near'
    larger_apart false near near' = near

    slipped_apart : Within e (exact_after_slip choice q) (exact_after_slip choice p)
    slipped_apart = larger_apart (has_second_path q) first_left second_left

    pub deflected_apart :
        Within e (after_deflector choice q (exact_after_slip choice q)) (after_deflector choice p (exact_after_slip choice p))
    deflected_apart = same_off _ slipped_apart

    admissible' : Admissible p choice
    admissible' = record {
      least = admissible.least;
      most = admissible.most;
      rises = admissible.rises;
      factors = admissible.factors;
      second_factors = admissible.second_factors;
    }

    pub run_apart : Lows q one → Lows p other → Beside (Within e) (exact_stresses choice q) (exact_stresses choice p)
    run_apart lows lows' =
        beside_append (beside_each (stress_along choice.factor q) (stress_along choice.factor p) (length q.path) on_first)
        (beside_append
        (beside_each (stress_along choice.second_factor q) (stress_along choice.second_factor p) (length q.second_path) on_second)
        (a_step slipped_apart
        (rw same_steps
        (steps_apart (steps_keep_distance run.facts (admissible_logs admissible)) _ _
        (rest_in_room run choice admissible lows) (rw same_steps at (rest_in_room run' choice admissible' lows')) slipped_apart))))
