-- The drift is carried through two accepted runs of one member. Where the gauges agree the two runs are one; else they differ by a psi or
-- more, which is what the walk in ticks asks for. So each stress lies within d of the other, which is more than is asked; in fractions it
-- is the walk there. Assumes nothing.
use mathlib.Core.Path.{◌≡◌, ◌∙◌}
use Prim.Native.Nat.{ℕ, suc, ◌+◌, ◌*◌, ◌≤◌, ◌<◌}
use native.Mathlib.Nat.{le_refl, le_trans}
use native.Mathlib.Decide.{dec_le}
use native.Mathlib.Omega.{arith}
use lib.ListN.{length, get_or}
use Rattle.fraction.specs.Fraction.{whole, Within}
use Rattle.fraction.proofs.Laws.{≼_trans, ≼-of-≈, whole-⊕}
use Rattle.fraction.proofs.Floors.{whole_order}
use Rattle.ticks.specs.Ticks.{ticks_per_unit}
use Rattle.fields.specs.Quantities.{Quantities}
use Rattle.member.specs.Constants.{jacked}
use Rattle.stages.specs.Run.{Report}
use Rattle.tolerance.specs.Method.{Choice, Admissible, table_choice}
use Rattle.tolerance.specs.Demand.{path_steps, steps_of, core_stresses, core_after_deflector, exact_stresses}
use Rattle.tolerance.proofs.Logarithms.{table_logs}
use Rattle.drift.specs.Drift.{Common, jacked_to, distance, psi_per_step, allowance, Carried, CarriedInFractions, sums_along, Drift}
use Rattle.drift.proofs.Beside.{Beside, beside_at, beside_lengths}
use Rattle.drift.proofs.Runs.{AcceptedRun}
use Rattle.drift.proofs.Kept.{Apart, run_apart, deflected}
use Rattle.drift.proofs.Fractions.{deflected_apart, run_apart as exact_apart}

-- the core's list has a stress for each step
count : {q : Quantities} {given : Report} → AcceptedRun q given → length (core_stresses q given) ≡ steps_of q
count run = (run.demand.narrow _ _ run.demand.some_factors.first run.demand.some_factors.second).core_count

whole_apart : (x y e : ℕ) → distance x y ≤ e → Within (whole e) (whole x) (whole y)
whole_apart x y e near = record {
  above = ≼_trans (whole_order (omega arith)) (≼-of-≈ (whole-⊕ y e));
  below = ≼_trans (whole_order (omega arith)) (≼-of-≈ (whole-⊕ x e));
}

module _ (common : Common) (a b : ℕ) where
  abbrev q : Quantities
  q = jacked_to a common

  abbrev p : Quantities
  p = jacked_to b common

  -- d, in ticks
  abbrev e : ℕ
  e = distance a b * ticks_per_unit

  allowed : (per_step steps : ℕ) → e ≤ allowance per_step q p steps
  allowed per_step steps = omega arith

  gauges_apart : (most : ℕ) → e ≤ most → distance (jacked q) (jacked p) ≤ most
  gauges_apart most h = omega arith

  module _ {one other : Report} (run : AcceptedRun q one) (run' : AcceptedRun p other) where
    -- where the gauges agree the two runs are one
    same_run : a ≡ b → one ≡ other
    same_run same = cc

    -- so that of any stress of theirs it may be taken that they differ, by a psi or more
    within_drift : (stress : ℕ → Report → ℕ) → (ticks_per_unit ≤ e → distance (stress a one) (stress b other) ≤ e)
        → distance (stress a one) (stress b other) ≤ e
    within_drift stress differ = by (dec_le 1 (distance a b))
      where
        by : Dec (1 ≤ distance a b) → distance (stress a one) (stress b other) ≤ e
        by (yes h) = differ (omega arith)
        by (no h) = let same : a ≡ b = omega arith in rw (same, same_run same) (omega arith)

    walk : (most : ℕ) → ticks_per_unit ≤ most → e ≤ most → Beside (Apart q most) (core_stresses q one) (core_stresses p other)
    walk most large h = run_apart common a b run run' most large (gauges_apart most h)

    at : (most : ℕ) → ticks_per_unit ≤ most → e ≤ most → (place : ℕ) → place < steps_of q
        → Apart q most (get_or (core_stresses q one) place 0) (get_or (core_stresses p other) place 0)
    at most large h place within = beside_at (walk most large h) place 0 (omega (arith, count run))

    step_kept : (place : ℕ) → place < steps_of q
        → distance (get_or (core_stresses q one) place 0) (get_or (core_stresses p other) place 0) ≤ e
    step_kept place within =
        within_drift (λ stress given. get_or (core_stresses (jacked_to stress common) given) place 0)
        (λ large. (at e large (le_refl e) place within).apart)

    deflector_kept : distance (core_after_deflector q one.before) (core_after_deflector p other.before) ≤ e
    deflector_kept =
        within_drift (λ stress given. core_after_deflector (jacked_to stress common) given.before)
        (λ large. (deflected common a b run run' e large (gauges_apart e (le_refl e))).apart)

    carried : (per_step : ℕ) → Carried per_step q p one other
    carried per_step = record {
      one_count = count run;
      other_count = count run';
      steps = λ place within. le_trans (step_kept place within) (allowed per_step (suc place));
      deflector = le_trans deflector_kept (allowed per_step (suc (path_steps q)));
    }

    -- a walk of a psi more, which can be made where the gauges agree too: it is here for its bounds of 0.80 F, which the walk in fractions
    -- needs
    near : (place : ℕ) → place < steps_of q
        → Apart q (e + ticks_per_unit) (get_or (core_stresses q one) place 0) (get_or (core_stresses p other) place 0)
    near = at (e + ticks_per_unit) (omega arith) (omega arith)

    module _ (choice : Choice) (admissible : Admissible q choice) where
      exact_gauges : Within (whole e) (whole (jacked q)) (whole (jacked p))
      exact_gauges = whole_apart (jacked q) (jacked p) e (gauges_apart e (le_refl e))

      exact_walk : Beside (Within (whole e)) (exact_stresses choice q) (exact_stresses choice p)
      exact_walk =
          exact_apart common a b choice run run' admissible (whole e) exact_gauges (λ place within. (near place within).one_low)
          (λ place within. (near place within).other_low)

      in_fractions : CarriedInFractions choice q p
      in_fractions =
          let exact_count = (run.demand.wide choice admissible).exact_count in
          record {
            one_count = exact_count;
            other_count = beside_lengths exact_walk ∙ exact_count;
            steps = λ place within. beside_at exact_walk place (whole 0) (omega (arith, exact_count));
            deflector = deflected_apart common a b choice run run' admissible (whole e) exact_gauges;
          }

    some_choice : Admissible q (table_choice (sums_along q q.path) (sums_along q q.second_path))
    some_choice =
        let logs = table_logs {factor = sums_along q q.path} {second_factor = sums_along q q.second_path} in
        record {
          least = logs.least;
          most = λ hour some life. whole_order (omega arith);
          rises = logs.rises;
          factors = run.demand.some_factors.first;
          second_factors = run.demand.some_factors.second;
        }

    pub drift : Drift q p one other
    drift = record {
      asked = carried psi_per_step;
      kept = carried 0;
      in_fractions = in_fractions;
      some_choice = some_choice;
      one_linked = run.demand.linked;
      other_linked = run'.demand.linked;
    }
