-- At the same whole stress a step of the core lies near the step in fractions. What the core's step leaves differs from what the
-- exact step leaves as the two losses differ, and each loss has its own error; those of an age's three and of its gain add up. Along a
-- run `EachNear` says it of every step after slip, from the core's own stress before the step. Assumes nothing.
use mathlib.Core.List.{List, [], ◌∷◌}
use Prim.Native.Nat.{ℕ, ◌+◌, ◌-◌, ◌*◌, ◌≤◌}
use native.Mathlib.Nat.{le_trans, mul-pos}
use native.Mathlib.Omega.{arith}
use lib.Dec.{lit<, lit≤}
use Rattle.fraction.specs.Fraction.{Fraction, whole, ◌⊕◌, ◌⊖◌, Within}
use Rattle.fraction.proofs.Laws.{≈-refl, ≈-sym, ≼-of-≈, whole-⊕}
use Rattle.fraction.proofs.Floors.{whole_order, whole_not_negative}
use Rattle.fraction.proofs.Distances.{within_refl, within_weaken, within_resp_≈, within_sum}
use Rattle.ticks.specs.Ticks.{ticks_per_unit}
use Rattle.coefficient.specs.declared.codes.Kind.{Kind}
use Rattle.coefficient.specs.declared.codes.Kind.TheVariants.{Pretensioned, PostTensioned}
use Rattle.fields.specs.declared.segments.Age.{Age}
use Rattle.fields.specs.Quantities.{Quantities}
use Rattle.member.specs.Member.{member_of, kind_of, steel_of, kappa_of}
use Rattle.member.specs.Facts.{RisingFrom, rises, Facts}
use Rattle.formulas.specs.Steps.{slip_loss as ticks_slip_loss, deflector_ticks}
use Rattle.stages.specs.declared.ends.End.{End as TicksEnd}
use Rattle.stages.specs.declared.intervals.Row.{Row}
use Rattle.stages.specs.Run.{early_relaxation as ticks_early, early_relaxation_of, shortening_of, losses_between, together, gain_between}
use Rattle.tolerance.specs.Formulas.{kappa}
use Rattle.tolerance.specs.Method.{Choice, End, transfer_end, early_relaxation, after_tendon_slip, after_deflector, after_early}
use Rattle.tolerance.specs.Method.{after_shortening, after_age, age_steps}
use Rattle.tolerance.specs.Demand.{stresses_of}
use Rattle.tolerance.proofs.Rounded.{floor_rounded, rounded_within, taken_from, taken_off}
use Rattle.tolerance.proofs.Logarithms.{Logs}
use Rattle.tolerance.proofs.Shares.{part_near}
use Rattle.tolerance.proofs.Relaxation.{relaxation_error_by, relaxation_near}
use Rattle.tolerance.proofs.Shortening.{shortening_error, shortening_near}
use Rattle.tolerance.proofs.Creep.{creep_error, creep_near}
use Rattle.tolerance.proofs.Gain.{gain_error, gain_near}
use Rattle.tolerance.proofs.Bounds.{Low, low_top, kappa_rounded, moment_rounded, creep_rounded, shrinkage_rounded}
use Rattle.tolerance.proofs.Bounds.{shrinkage_error, creep_top, shrinkage_top}
use Rattle.tolerance.proofs.Allowance.{age_error_by, Allowance}
use Rattle.tolerance.proofs.Ends.{Between, between, before_transfer}
use Rattle.tolerance.proofs.Run.{AgesRun, no_age, an_age}

-- slip's division
abbrev pub slip_error : ℕ
slip_error = 1

-- two losses together, or a stress and a gain
sum_near : (a b d e : ℕ) {x y : Fraction} → Within (whole d) (whole a) x → Within (whole e) (whole b) y
    → Within (whole (d + e)) (whole (a + b)) (x ⊕ y)
sum_near a b d e near_x near_y =
    within_weaken (≼-of-≈ (≈-sym (whole-⊕ d e))) (within_resp_≈ (≈-sym (whole-⊕ a b)) ≈-refl (within_sum near_x near_y))

module _ {q : Quantities} {report scratch : ℕ} (facts : Facts q report scratch) (choice : Choice) (n : ℕ) where
  -- slip may take more than there is, of the path that does not go on
  pub after_slip_near : Within (whole slip_error) (whole n ⊖ whole (ticks_slip_loss q.Es q.slip q.tendon_length))
      (after_tendon_slip choice q (whole n))
  after_slip_near =
      taken_from (whole n)
      (rounded_within (whole_not_negative slip_error)
      (floor_rounded (q.Es * q.slip * ticks_per_unit) (12 * q.tendon_length)
      (mul-pos (lit< tt) (le_trans (lit≤ tt) facts.head.length_least))))

  -- the deflector loss is whole
  pub after_deflector_near : deflector_ticks q.deflector_loss ≤ n
      → Within (whole 0) (whole (n - deflector_ticks q.deflector_loss)) (after_deflector choice q (whole n))
  after_deflector_near fits = taken_off fits (within_refl (whole (q.deflector_loss * ticks_per_unit)))

  pub after_shortening_near : Low q n → shortening_of (member_of q) n ≤ n
      → Within (whole shortening_error) (whole (n - shortening_of (member_of q) n)) (after_shortening choice q (whole n))
  unfolding member_of
  after_shortening_near n≤ fits =
      taken_off fits
      (shortening_near q.Es q.Eci n (kappa_of q) _ (kappa q) (transfer_end choice q).g facts.head.es_most
      facts.head.eci_least (low_top facts n n≤) (kappa_rounded facts) (moment_rounded facts q.own_weight_moment))

  module _ {δ : ℕ} (n≤ : Low q n) where
    early_near : Logs δ choice → (kind : Kind) → ticks_early kind (member_of q) n ≤ n
        → Within (whole (relaxation_error_by δ)) (whole (n - ticks_early kind (member_of q) n))
        (whole n ⊖ early_relaxation choice q kind (whole n))
    unfolding member_of
    early_near logs Pretensioned fits =
        taken_off fits
        (relaxation_near (steel_of q.steel) q.ultimate_strength n facts.head.ultimate_least facts.head.ultimate_most n≤
        (before_transfer facts logs))
    early_near logs PostTensioned fits =
        taken_off fits (within_weaken (whole_not_negative (relaxation_error_by δ)) (within_refl (whole 0)))

    pub after_early_near : Logs δ choice → early_relaxation_of (member_of q) n ≤ n
        → Within (whole (relaxation_error_by δ)) (whole (n - early_relaxation_of (member_of q) n)) (after_early choice q (whole n))
    unfolding member_of
    after_early_near logs = early_near logs (kind_of q.kind)

    pub after_age_near : {ticks_start ticks_end : TicksEnd} {start end : End} → Between δ ticks_start ticks_end start end
        → together (losses_between (member_of q) n ticks_start ticks_end) ≤ n
        → Within (whole (age_error_by δ))
        (whole (n - together (losses_between (member_of q) n ticks_start ticks_end) + gain_between (member_of q) ticks_start ticks_end))
        (after_age choice q start end (whole n))
    unfolding member_of
    after_age_near ends fits =
        sum_near _ _ (creep_error + shrinkage_error + relaxation_error_by δ) gain_error
        (taken_off fits
        (sum_near _ _ (creep_error + shrinkage_error) (relaxation_error_by δ)
        (sum_near _ _ creep_error shrinkage_error
        (creep_near (creep_rounded q) (creep_top q) ends.creep (low_top facts n n≤) facts.kappa_most (kappa_rounded facts)
        ends.g)
        (part_near (shrinkage_rounded q) (shrinkage_top q) ends.shrinkage))
        (relaxation_near (steel_of q.steel) q.ultimate_strength n facts.head.ultimate_least facts.head.ultimate_most n≤
        ends.logarithm)))
        (gain_near q.Es q.Ec facts.head.es_most facts.head.ec_least ends.g_rises ends.later_g ends.g)

-- ---- the steps of a run

-- the core's stresses from n on, beside steps in fractions: no step starts above 0.80 F, and each stress is near what its step makes of
-- the one before
pub data EachNear (q : Quantities) (error : ℕ) : ℕ → List (Fraction → Fraction) → List ℕ → Type 0 where
  no_step : {n : ℕ} → EachNear q error n [] []
  a_step : (n : ℕ) {next : ℕ} {step : Fraction → Fraction} {steps : List (Fraction → Fraction)} {later : List ℕ} → Low q n
      → Within (whole error) (whole next) (step (whole n)) → EachNear q error next steps later
      → EachNear q error n (step ∷ steps) (next ∷ later)

module _ {q : Quantities} {report scratch : ℕ} (facts : Facts q report scratch) {δ step : ℕ} {choice : Choice}
    (allowed : Allowance δ step choice) where
  pub ages_near : {moments hour stress last : ℕ} {ages : List Age} {rows : List Row}
      → AgesRun q moments hour stress ages rows last → RisingFrom hour ages → Low q stress
      → EachNear q step stress (age_steps choice q moments hour ages) (stresses_of rows)
  unfolding age_steps stresses_of
  ages_near no_age rising stress≤ = no_step
  ages_near (an_age {moments} {hour} {stress} {age} fits low run) (rises on life rising) stress≤ =
      let ends = between facts allowed.logs moments (moments + age.moment) hour age.hour (omega arith) (omega arith) life in
      a_step stress stress≤
      (within_weaken (whole_order allowed.covers) (after_age_near facts choice stress stress≤ ends (omega arith)))
      (ages_near run rising low)
