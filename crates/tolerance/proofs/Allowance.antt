-- What a step may cost. At the same whole stress the core's step and the exact one differ by at most the step's own error, of which
-- an age's is the largest. Narrow and wide are two choices of how far the logarithms may lie above the table's, and of what a step is
-- allowed: 0 with 1 psi, and 1 with 40 psi. A stress of the core is at most 0.80 F, and all steps at 40 psi each do not lead from
-- there past 1.1·Y, up to which the exact steps keep their distance: the lemma `room`. Assumes nothing.
use Prim.Native.Nat.{ℕ, ◌+◌, ◌*◌, ◌≤◌}
use native.Mathlib.Nat.{mul-le-mul}
use native.Mathlib.Omega.{arith}
use lib.Dec.{lit≤}
use Rattle.fraction.specs.Fraction.{Fraction, whole, ◌⊕◌, ◌⊗◌, ◌÷◌, ◌≼◌}
use Rattle.fraction.proofs.Laws.{≼_trans}
use Rattle.ticks.specs.Ticks.{ticks_per_unit}
use Rattle.coefficient.specs.declared.codes.Steel.{Steel}
use Rattle.coefficient.specs.declared.codes.Steel.TheVariants.{StressRelieved, LowRelaxation}
use Rattle.fields.specs.Quantities.{Quantities}
use Rattle.fields.specs.Limits.{range, most_of_strength, hundredths, most_segments, most_ages}
use Rattle.tolerance.specs.Method.{Choice, Admissible, table_choice}
use Rattle.tolerance.specs.Demand.{narrow_step, wide_step}
use Rattle.tolerance.proofs.Logarithms.{most_above, Logs, table_logs, admissible_logs}
use Rattle.tolerance.proofs.Bounds.{shrinkage_error}
use Rattle.tolerance.proofs.Creep.{creep_error}
use Rattle.tolerance.proofs.Gain.{gain_error}
use Rattle.tolerance.proofs.Relaxation.{yield_part, relaxation_error_by}
use Rattle.tolerance.proofs.RelaxationSlope.{above_yield, most_stress}

-- an age's three losses, by logarithms up to δ above the table's, and its gain
abbrev pub age_error_by : ℕ → ℕ
age_error_by δ = creep_error + shrinkage_error + relaxation_error_by δ + gain_error

-- logarithms at most δ above the table's, and an allowance that covers every step with them
pub record Allowance (δ step : ℕ) (choice : Choice) : Type 0 where
  pub logs : Logs δ choice
  pub covers : age_error_by δ ≤ step
  pub step_most : step ≤ wide_step

pub narrow_allowance : {factor second_factor : ℕ → Fraction} → Allowance 0 narrow_step (table_choice factor second_factor)
narrow_allowance = record { logs = table_logs; covers = lit≤ tt; step_most = lit≤ tt }

pub wide_allowance : {q : Quantities} {choice : Choice} → Admissible q choice → Allowance most_above wide_step choice
wide_allowance admissible = record { logs = admissible_logs admissible; covers = lit≤ tt; step_most = lit≤ tt }

-- the steps of the two longest paths and the most ages, with slip, early relaxation and shortening
abbrev pub most_steps : ℕ
most_steps = most_segments + most_segments + most_ages + 3

-- how far apart so many steps can be
pub steps_top : {δ step : ℕ} {choice : Choice} → Allowance δ step choice → (k : ℕ) → k ≤ most_steps
    → k * step ≤ most_steps * wide_step
steps_top allowed k h = mul-le-mul h allowed.step_most

room_for : (P n d : ℕ) → 1000 * (n + d) ≤ 11 * P → whole n ⊕ whole d ≼ P ÷ 100 ⊗ above_yield
unfolding whole ◌÷◌ ◌⊕◌ ◌⊗◌
room_for P n d h = record { at_most = omega arith }

pub room : (steel : Steel) (F n d : ℕ) (y : Fraction) → range.ultimate_strength.low ≤ F
    → hundredths * n ≤ most_of_strength * F * ticks_per_unit → d ≤ most_steps * wide_step → y ≼ whole n ⊕ whole d → y ≼ most_stress steel F
room StressRelieved F n d y strong low near h = ≼_trans h (room_for (yield_part StressRelieved * F * ticks_per_unit) n d (omega arith))
room LowRelaxation F n d y strong low near h = ≼_trans h (room_for (yield_part LowRelaxation * F * ticks_per_unit) n d (omega arith))
