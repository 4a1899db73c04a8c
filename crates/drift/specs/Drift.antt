-- The theorem `gauge_drift` rests on it. Two runs of one member whose jacking stress two gauges read, as one statement: document 02, W8 and
-- W9.
use Rattle.std.specs.Prelude.{ℕ, suc, ◌+◌, ◌-◌, ◌*◌, ◌≤◌, ◌<◌, ◌≡◌, false, cond, List, eqb, length, get_or}
use Rattle.fraction.specs.Fraction.{Fraction, whole, Within}
use Rattle.ticks.specs.Ticks.{ticks_per_unit}
use Rattle.exponential.specs.Factor.{powers}
use Rattle.exponential.specs.Series.{sum_to}
use Rattle.fields.specs.declared.segments.Segment.{Segment}
use Rattle.fields.specs.declared.segments.Age.{Age}
use Rattle.fields.specs.Quantities.{Quantities, quantities_by, field_number}
use Rattle.stages.specs.Run.{Report}
use Rattle.tolerance.specs.Method.{Choice, exponent_along, Admissible, table_choice, after_deflector}
use Rattle.tolerance.specs.Demand.{path_steps, steps_of, OfEachPath, slip_dies_out, core_stresses, core_after_deflector, exact_after_slip}
use Rattle.tolerance.specs.Demand.{exact_stresses, Linked}

-- ---- "two accepted cards differ only in jacking stress, by d psi"

-- fields by their numbers, but for one of them
abbrev pub all_but : ℕ → ℕ → (ℕ → ℕ) → ℕ → ℕ
all_but changed value field number = cond (eqb number changed) value (field number)

-- what two members have in common, but for their jacking stress: their fields by their numbers, their paths and their ages
pub record Common : Type 0 where
  pub field : ℕ → ℕ
  pub path : List Segment
  pub second_path : List Segment
  pub ages : List Age

-- the member of these that is jacked to this stress
abbrev pub jacked_to : ℕ → Common → Quantities
jacked_to stress common =
    quantities_by (all_but field_number.jacking_stress stress common.field) common.path common.second_path common.ages

-- two members that have all in common but their jacking stress, and whose slip goes over the tendon: "Cards whose slip follows W5 are left
-- out", and W9: "W8 leaves a card out if either path follows W5". If the one's does, so does the other's (law `same_rule`)
pub record TwoGauges (q p : Quantities) : Type 0 where
  pub common : Common
  pub one_is : q ≡ jacked_to q.jacking_stress common
  pub other_is : p ≡ jacked_to p.jacking_stress common
  pub over_the_tendon : OfEachPath q (λ path. slip_dies_out q path ≡ false)

-- how far apart two numbers are
abbrev pub distance : ℕ → ℕ → ℕ
distance x y = x - y + (y - x)

-- d
abbrev pub drift_of : Quantities → Quantities → ℕ
drift_of q p = distance q.jacking_stress p.jacking_stress

-- ---- "After the same step"

-- "2 psi for each step done"
abbrev pub psi_per_step : ℕ
psi_per_step = 2

-- "no more than d plus" so many psi for each step done, in ticks
abbrev pub allowance : ℕ → Quantities → Quantities → ℕ → ℕ
allowance per_step q p steps = (drift_of q p + per_step * steps) * ticks_per_unit

-- Two lists with a stress for each step. After each step, the first being 1, the two stresses of the core differ by at most what is
-- allowed; and what is allowed after slip is allowed after the deflector loss, which is no step.
pub record Carried (per_step : ℕ) (q p : Quantities) (one other : Report) : Type 0 where
  pub one_count : length (core_stresses q one) ≡ steps_of q
  pub other_count : length (core_stresses p other) ≡ steps_of q
  pub steps : (place : ℕ) → place < steps_of q
      → distance (get_or (core_stresses q one) place 0) (get_or (core_stresses p other) place 0) ≤ allowance per_step q p (suc place)
  pub deflector :
      distance (core_after_deflector q one.before) (core_after_deflector p other.before) ≤ allowance per_step q p (suc (path_steps q))

-- the same two runs in fractions, by one choice of logarithms and factors for both: no step brings their stresses further apart
pub record CarriedInFractions (choice : Choice) (q p : Quantities) : Type 0 where
  pub one_count : length (exact_stresses choice q) ≡ steps_of q
  pub other_count : length (exact_stresses choice p) ≡ steps_of q
  pub steps : (place : ℕ) → place < steps_of q
      → Within (whole (drift_of q p * ticks_per_unit)) (get_or (exact_stresses choice q) place (whole 0))
      (get_or (exact_stresses choice p) place (whole 0))
  pub deflector :
      Within (whole (drift_of q p * ticks_per_unit)) (after_deflector choice q (exact_after_slip choice q))
      (after_deflector choice p (exact_after_slip choice p))

-- the sums up to the 15th power, after each count of a path's segments
abbrev pub sums_along : Quantities → List Segment → ℕ → Fraction
sums_along q path j = sum_to powers (exponent_along q path j)

-- one statement over the two whole runs
pub record Drift (q p : Quantities) (one other : Report) : Type 0 where
  -- "After the same step the two stresses must differ by no more than d plus 2 psi for each step done."
  pub asked : Carried psi_per_step q p one other
  -- better than asked: d itself, no step adds anything
  pub kept : Carried 0 q p one other
  -- and so it is in fractions, whatever choice is admissible, which is the same for both members
  pub in_fractions : (choice : Choice) → Admissible q choice → CarriedInFractions choice q p
  -- there is such a choice: the core's own logarithms, and the sums up to the 15th power, next to those up to the 16th
  pub some_choice : Admissible q (table_choice (sums_along q q.path) (sums_along q q.second_path))
  -- as in demand 3: the stresses are those of reply and report, the last one among them, and none is a difference that is cut at 0
  pub one_linked : Linked q one
  pub other_linked : Linked p other
