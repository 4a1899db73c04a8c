-- The core's stresses stay near the exact ones. At the same whole stress the core's step is near the exact one, and the exact step
-- brings no two stresses further apart; so after one step more the distance is at most one step's allowance more, `step_close`. The
-- steps after slip may be entered with any exact stress that is near the core's, after any count of steps before. Assumes nothing.
use mathlib.Core.Path.{◌≡◌}
use mathlib.Core.List.{List, ◌∷◌}
use Prim.Native.Nat.{ℕ, suc, ◌+◌, ◌-◌, ◌*◌, ◌≤◌}
use native.Mathlib.Omega.{arith}
use lib.ListN.{length}
use Rattle.fraction.specs.Fraction.{Fraction, whole, ◌⊕◌, ◌≼◌, Within}
use Rattle.fraction.proofs.Laws.{≈-sym, ≼_trans, ≼-of-≈, whole-⊕}
use Rattle.fraction.proofs.Floors.{whole_order}
use Rattle.fraction.proofs.Distances.{within_refl, within_trans, within_weaken}
use Rattle.fraction.proofs.Slopes.{KeepsDistance}
use Rattle.fields.specs.Quantities.{Quantities}
use Rattle.member.specs.Member.{steel_of}
use Rattle.member.specs.Facts.{Facts}
use Rattle.stages.specs.declared.before.BeforeAges.{BeforeAges}
use Rattle.stages.specs.declared.intervals.Row.{Row}
use Rattle.tolerance.specs.Method.{Choice, after_deflector, after_early, after_shortening, steps_after_slip}
use Rattle.tolerance.specs.Demand.{stresses_by, core_after_slip, core_after_deflector, core_after_early, stresses_of, wide_step}
use Rattle.tolerance.proofs.Relaxation.{relaxation_error_by}
use Rattle.tolerance.proofs.Shortening.{shortening_error}
use Rattle.tolerance.proofs.Bounds.{Low, low}
use Rattle.tolerance.proofs.Allowance.{Allowance, most_steps, steps_top, room}
use Rattle.tolerance.proofs.Chains.{Chain, no_step, one_step}
use Rattle.tolerance.proofs.Run.{Began, AgesRun, rows_count, stresses_count}
use Rattle.tolerance.proofs.Distance.{most_stress_of, early_keeps_distance, EachKeepsDistance, steps_keep_distance}
use Rattle.tolerance.proofs.Distance.{no_step as none_keeps, a_step as one_keeps}
use Rattle.tolerance.proofs.Near.{after_deflector_near, after_early_near, after_shortening_near, EachNear, ages_near}
use Rattle.tolerance.proofs.Near.{no_step as none_near, a_step as one_near}

-- `left` is near what the step makes of x, and the step keeps the distance of x and y
pub step_close : {most e error x y left : Fraction} {step : Fraction → Fraction} → KeepsDistance most step → x ≼ most → y ≼ most
    → Within error left (step x) → Within e x y → Within (error ⊕ e) left (step y)
step_close {e = e} {x = x} {y} keeps x≤ y≤ near so_far = within_trans near (keeps e x y x≤ y≤ so_far)

one_step_more : (k step : ℕ) → whole step ⊕ whole (k * step) ≼ whole (suc k * step)
one_step_more k step = ≼_trans (≼-of-≈ (≈-sym (whole-⊕ step (k * step)))) (whole_order (omega arith))

module _ {q : Quantities} {report scratch : ℕ} (facts : Facts q report scratch) where
  -- what lies near a stress of the core, and that stress itself, are not above the stresses that keep their distance
  pub near_in_room : (n d : ℕ) (y : Fraction) → Low q n → d ≤ most_steps * wide_step → Within (whole d) (whole n) y → y ≼ most_stress_of q
  near_in_room n d y n≤ d≤ near = room (steel_of q.steel) q.ultimate_strength n d y facts.head.ultimate_least n≤ d≤ near.below

  pub core_in_room : (n : ℕ) → Low q n → whole n ≼ most_stress_of q
  core_in_room n n≤ = near_in_room n 0 (whole n) n≤ (omega arith) (within_refl (whole n))

  module _ {δ step : ℕ} {choice : Choice} (allowed : Allowance δ step choice) where
    pub steps_close : {n : ℕ} {steps : List (Fraction → Fraction)} {later : List ℕ} → EachKeepsDistance (most_stress_of q) steps
        → EachNear q step n steps later → (k : ℕ) (y : Fraction) → k + length later ≤ most_steps
        → Within (whole (k * step)) (whole n) y → Chain step k later (stresses_by steps y)
    unfolding stresses_by
    steps_close none_keeps none_near k y k≤ so_far = no_step
    steps_close (one_keeps {step = exact} keeps keep) (one_near n n≤ near nears) k y k≤ so_far =
        let y≤ = near_in_room n (k * step) y n≤ (steps_top allowed k (omega arith)) so_far in
        let next = within_weaken (one_step_more k step) (step_close keeps (core_in_room n n≤) y≤ near so_far) in
        one_step next (steps_close keep nears (suc k) (exact y) (omega arith) next)

    -- ---- the steps after slip of a run

    module _ {before : BeforeAges} {rows : List Row} {last : ℕ} (began : Began q before)
        (ran : AgesRun q q.own_weight_moment q.transfer before.stress q.ages rows last) where
      pub deflected : Within (whole 0) (whole (core_after_deflector q before))
          (after_deflector choice q (whole (core_after_slip q before)))
      deflected =
          rw began.deflector
          (after_deflector_near facts choice (core_after_slip q before) (omega (arith, began.closes, began.deflector)))

      relaxed : Within (whole (relaxation_error_by δ)) (whole (core_after_early q before))
          (after_early choice q (whole (core_after_deflector q before)))
      relaxed =
          rw began.early
          (after_early_near facts choice (core_after_deflector q before)
          (low facts (core_after_deflector q before) (omega arith)) allowed.logs (omega (arith, began.closes, began.early)))

      shortened : Within (whole shortening_error) (whole before.stress)
          (after_shortening choice q (whole (core_after_early q before)))
      shortened =
          let left : before.stress ≡ core_after_early q before - before.shortening = omega (arith, began.closes) in
          rw (left, began.shortening)
          (after_shortening_near facts choice (core_after_early q before) (low facts (core_after_early q before) (omega arith))
          (omega (arith, began.closes, began.shortening)))

      pub run_near : EachNear q step (core_after_slip q before) (steps_after_slip choice q)
          (core_after_early q before ∷ before.stress ∷ stresses_of rows)
      run_near =
          let covers = allowed.covers in
          one_near (core_after_slip q before) (low facts (core_after_slip q before) (omega arith))
          (within_weaken (≼_trans (≼-of-≈ (≈-sym (whole-⊕ (relaxation_error_by δ) 0))) (whole_order (omega arith)))
          (step_close (early_keeps_distance facts choice allowed.logs)
          (core_in_room (core_after_deflector q before) (low facts (core_after_deflector q before) (omega arith)))
          (near_in_room (core_after_deflector q before) 0 (after_deflector choice q (whole (core_after_slip q before)))
          (low facts (core_after_deflector q before) (omega arith)) (omega arith) deflected)
          relaxed deflected))
          (one_near (core_after_early q before) (low facts (core_after_early q before) (omega arith))
          (within_weaken (whole_order (omega arith)) shortened)
          (ages_near facts allowed ran facts.ages_rise (low facts before.stress (omega (arith, began.closes)))))

      -- from the core's stress after slip and any exact stress near it, k steps having been counted
      pub after_slip_close : (k : ℕ) (y : Fraction) → k + length q.ages + 2 ≤ most_steps
          → Within (whole (k * step)) (whole (core_after_slip q before)) y
          → Chain step k (core_after_early q before ∷ before.stress ∷ stresses_of rows) (stresses_by (steps_after_slip choice q) y)
      after_slip_close k y k≤ =
          steps_close (steps_keep_distance facts allowed.logs) run_near k y
          (omega (arith, stresses_count rows, rows_count ran))
