-- The three losses of an interval fit together, as does the gain, and what is said of its row where it is passed and where it is not.
-- Each share, the logarithms and the rise of g are differences of the interval's ends, no more than what stands at the later, so that
-- every loss and the gain have their bounds. Assumes nothing.
use mathlib.Core.Path.{◌≡◌}
use mathlib.Core.Bool.{true}
use Prim.Native.Nat.{ℕ, ◌-◌, ◌^◌, ◌≤◌, ◌<◌}
use native.Mathlib.Omega.{arith}
use Rattle.std.specs.Prelude.{Ok, Err}
use Rattle.fields.specs.declared.refusal.Refusal.{Refusal}
use Rattle.fields.specs.Refusals.{may_alter_scratch}
use Rattle.fields.proofs.Onward.{through, refused, of_refused}
use Rattle.member.specs.declared.Member.{Member}
use Rattle.formulas.specs.Steps.{concrete_stress}
use Rattle.formulas.specs.Conditions.{stress_limit, ConcreteFits, CreepFits, ShrinkageFits, RelaxationFits}
use Rattle.formulas.proofs.Laws.{concrete_most, creep_most, shrinkage_most, relaxation_most}
use Rattle.stages.specs.declared.ends.End.{End}
use Rattle.stages.specs.declared.intervals.Losses.{Losses}
use Rattle.stages.specs.declared.intervals.Row.{Row}
use Rattle.stages.specs.Run.{after, lifted, losses_between, together, gain_between, row_of, row_between}
use Rattle.stages.specs.Conditions.{Bounded, EndBounded}
use Rattle.stages.proofs.Leaving.{lifted_fits, refuses_stress, refuses_overstress}

pub record LossesFit (losses : Losses) : Type 0 where
  pub creep_fits : losses.creep ≤ 2 ^ 59
  pub shrinkage_fits : losses.shrinkage ≤ 2 ^ 59
  pub relaxation_fits : losses.relaxation ≤ 2 ^ 59

module _ {m : Member} {stress : ℕ} {end : End} (start : End) (bounded : Bounded m) (ends : EndBounded end)
    (fits : stress < stress_limit) where
  -- each loss has what it asks
  concrete : ConcreteFits stress m.kappa
  concrete = record { stress_fits = fits; kappa_fits = omega arith }

  creep : CreepFits m.creep (end.creep - start.creep) (concrete_stress stress m.kappa start.g)
  creep = record {
    creep_fits = bounded.creep_fits;
    share_fits = omega arith;
    c_fits = concrete_most start.g concrete;
  }

  shrinkage : ShrinkageFits m.shrinkage (end.shrinkage - start.shrinkage)
  shrinkage = record { shrinkage_fits = bounded.shrinkage_fits; share_fits = omega arith }

  relaxation : RelaxationFits m.ultimate_strength stress (end.logarithm - start.logarithm)
  relaxation = record {
    strength_least = bounded.strength;
    strength_fits = omega arith;
    stress_fits = fits;
    logarithms_fit = omega arith;
  }

  pub losses_fit : {losses : Losses} → losses ≡ losses_between m stress start end → LossesFit losses
  losses_fit {losses} is =
      let fit : LossesFit (losses_between m stress start end) = record {
        creep_fits = creep_most creep;
        shrinkage_fits = omega (arith, shrinkage_most shrinkage);
        relaxation_fits = omega (arith, relaxation_most m.steel relaxation);
      } in
      rw is fit

-- ---- the row

module _ (m : Member) (number stress : ℕ) (start end : End) {losses : Losses} (is : losses ≡ losses_between m stress start end) where
  -- where the losses leave too little, and where they and the gain leave a stress
  pub row_refused : {refusal : Refusal} → Err refusal ≡ after number stress (together losses)
      → Err refusal ≡ row_between m number stress start end
  row_refused e = rw (← rw is at e)

  pub row_is : {left gain risen : ℕ} → Ok left ≡ after number stress (together losses) → gain ≡ gain_between m start end
      → Ok risen ≡ lifted number m.ultimate_strength left gain
      → Ok (row_of losses risen gain) ≡ row_between m number stress start end
  row_is e g l = rw (← rw is at e, ← rw g at l, is, g)

module _ (m : Member) (number stress : ℕ) (start end : End) where
  abbrev losses : Losses
  losses = losses_between m stress start end

  abbrev lost : ℕ
  lost = together losses

  abbrev gain : ℕ
  gain = gain_between m start end

  pub row_fits : {row : Row} → Bounded m → row_between m number stress start end ≡ Ok row → row.stress < stress_limit
  row_fits {row} bounds e =
      let left = through (after number stress lost) _ e in
      let risen = through (lifted number m.ultimate_strength left.from gain) _ left.next_is in
      let same : risen.from ≡ row.stress = cc in
      omega (
        arith,
        lifted_fits number m.ultimate_strength left.from gain risen.from bounds.strength_most risen.given_is,
      )

  pub row_refuses : {refusal : Refusal} → row_between m number stress start end ≡ Err refusal → may_alter_scratch refusal ≡ true
  row_refuses =
      of_refused (λ refusal. may_alter_scratch refusal ≡ true) (after number stress lost) _
      (λ early gone. rw (← refuses_stress number stress lost gone))
      (λ left late e.
      rw (← refuses_overstress number m.ultimate_strength left gain
      (refused (lifted number m.ultimate_strength left gain)
      (λ risen. row_of losses risen gain) e)))
