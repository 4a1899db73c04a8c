-- The promise rests on it. The method in fractions: document 01, "Steps", "these lines without rounding", with the gain, the friction and
-- the second path of document 02, W1, W3 and W9, beside `Run` of `stages`. Each step after the paths is a map of stresses.
use Rattle.std.specs.Prelude.{ℕ, suc, ◌≤◌, ◌+◌, ◌*◌, List, [], ◌∷◌, length, take}
use Rattle.fraction.specs.Fraction.{Fraction, whole, ◌≼◌, ◌⊕◌, ◌⊖◌, ◌⊗◌, ◌÷◌}
use Rattle.exponential.specs.Series.{BySeries}
use Rattle.logarithm.specs.Logarithm.{logarithm, service_life}
use Rattle.ticks.specs.Ticks.{ticks_per_unit, T}
use Rattle.coefficient.specs.declared.codes.Kind.{Kind}
use Rattle.coefficient.specs.Coefficients.{since_transfer, since_curing, since_tensioning}
use Rattle.tables.specs.Tables.{creep_rows, shrinkage_rows}
use Rattle.fields.specs.declared.segments.Segment.{Segment}
use Rattle.fields.specs.declared.segments.Age.{Age}
use Rattle.fields.specs.Quantities.{Quantities}
use Rattle.member.specs.Member.{kind_of, steel_of, hours_of}
use Rattle.member.specs.Constants.{jacked}
use Rattle.tolerance.specs.Formulas.{path_friction, kappa, whole_creep, whole_shrinkage, share_of, slip_loss}
use Rattle.tolerance.specs.Formulas.{relaxation_loss, moment_stress, concrete_stress, shortening_loss, creep_loss, shrinkage_loss}
use Rattle.tolerance.specs.Formulas.{moment_gain}

-- what the method may choose, once for the whole run: the logarithm of an hour, and the factor that is left of the jacking stress after
-- so many segments of the first path, and of the second
pub record Choice : Type 0 where
  pub log : ℕ → Fraction
  pub factor : ℕ → Fraction
  pub second_factor : ℕ → Fraction

-- X/T of the first j segments of a path, not rounded
abbrev pub exponent_along : Quantities → List Segment → ℕ → Fraction
exponent_along q path j = path_friction q.wobble q.curvature (take j path) ⊗ (1 ÷ T)

-- document 02, W3: "the fraction method may take any factor between a pair of neighbouring sums that are no further apart than 1/T",
-- after each count of segments. After none X is 0 and every sum is 1, and so is the factor.
abbrev pub FactorsAlong : Quantities → List Segment → (ℕ → Fraction) → Type 0
FactorsAlong q path factor = (j : ℕ) → j ≤ length path → BySeries (exponent_along q path j) (factor j)

-- 1. document 02, W3: "f times e to the power −X/T", where "the stress after j segments takes X of the first j"
abbrev pub stress_along : (ℕ → Fraction) → Quantities → ℕ → Fraction
stress_along factor q j = whole (jacked q) ⊗ factor j

-- "one choice for the whole run gives each hour h a fraction from L(h) to L(h) + 1, no later hour a smaller one"; and factors as above
pub record Admissible (q : Quantities) (choice : Choice) : Type 0 where
  pub least : (hour : ℕ) → 1 ≤ hour → hour ≤ service_life → whole (logarithm hour) ≼ choice.log hour
  pub most : (hour : ℕ) → 1 ≤ hour → hour ≤ service_life → choice.log hour ≼ whole (suc (logarithm hour))
  pub rises : (hour later : ℕ) → 1 ≤ hour → hour ≤ later → later ≤ service_life → choice.log hour ≼ choice.log later
  pub factors : FactorsAlong q q.path choice.factor
  pub second_factors : FactorsAlong q q.second_path choice.second_factor

-- the core's own logarithms, beside these factors
abbrev pub table_choice : (factor second_factor : ℕ → Fraction) → Choice
table_choice factor second_factor =
    record { log = λ hour. whole (logarithm hour); factor = factor; second_factor = second_factor }

-- what stands at an end of an interval: g, the shares that are done, and the logarithm of relaxation's clock
pub record End : Type 0 where
  pub g : Fraction
  pub creep : Fraction
  pub shrinkage : Fraction
  pub logarithm : Fraction

module _ (choice : Choice) (q : Quantities) where
  -- 2. slip over the tendon; where it dies out along a path the method is entered anew (`exact_left_along`). Then the deflector loss, which
  -- is no step
  abbrev pub after_tendon_slip : Fraction → Fraction
  after_tendon_slip stress = stress ⊖ slip_loss q.Es q.slip q.tendon_length

  abbrev pub after_deflector : Fraction → Fraction
  after_deflector stress = stress ⊖ whole (q.deflector_loss * ticks_per_unit)

  abbrev pub end_at : ℕ → ℕ → End
  end_at moments hour = record {
    g = moment_stress moments q.eccentricity q.inertia;
    creep = share_of (creep_rows (since_transfer (hours_of q) service_life).0) (since_transfer (hours_of q) hour).0;
    shrinkage = share_of (shrinkage_rows (since_curing (hours_of q) service_life).0) (since_curing (hours_of q) hour).0;
    logarithm = choice.log (since_tensioning (hours_of q) hour).0;
  }

  abbrev pub transfer_end : End
  transfer_end = end_at q.own_weight_moment q.transfer

  -- 3. "Kind 1: relaxation from hour 1 to transfer."
  abbrev pub early_relaxation : Kind → Fraction → Fraction
  early_relaxation Kind.Pretensioned stress =
      relaxation_loss (steel_of q.steel) q.ultimate_strength stress (transfer_end.logarithm ⊖ choice.log 1)
  early_relaxation Kind.PostTensioned stress = whole 0

  abbrev pub after_early : Fraction → Fraction
  after_early stress = stress ⊖ early_relaxation (kind_of q.kind) stress

  -- 4. shortening
  abbrev pub after_shortening : Fraction → Fraction
  after_shortening stress =
      stress ⊖ shortening_loss q.Es q.Eci (kappa q) (concrete_stress stress (kappa q) transfer_end.g)

  -- 5. an age: the losses from the stress and the moments at the start of its interval, then the gain from the moment at its end
  abbrev pub after_age : End → End → Fraction → Fraction
  after_age start end stress =
      stress
      ⊖ (creep_loss (whole_creep q) (end.creep ⊖ start.creep) (concrete_stress stress (kappa q) start.g)
      ⊕ shrinkage_loss (whole_shrinkage q) (end.shrinkage ⊖ start.shrinkage)
      ⊕ relaxation_loss (steel_of q.steel) q.ultimate_strength stress (end.logarithm ⊖ start.logarithm))
      ⊕ moment_gain q.Es q.Ec (end.g ⊖ start.g)

  -- the steps of ages, the first of whose intervals starts under these moments at this hour
  unfoldable pub age_steps : ℕ → ℕ → List Age → List (Fraction → Fraction)
  age_steps moments hour [] = []
  age_steps moments hour (age ∷ ages) =
      let added = moments + age.moment in
      after_age (end_at moments hour) (end_at added age.hour) ∷ age_steps added age.hour ages

  -- every step after slip
  abbrev pub steps_after_slip : List (Fraction → Fraction)
  steps_after_slip =
      (λ stress. after_early (after_deflector stress)) ∷ after_shortening ∷ age_steps q.own_weight_moment q.transfer q.ages
