-- It serves the code alone, and every accepted member has it. What the code's arithmetic asks of a member and of the ends of its
-- intervals, so that no product wraps.
use Rattle.std.specs.Prelude.{ℕ, ◌≤◌, ◌<◌, ◌≡◌, Some}
use Rattle.ticks.specs.Ticks.{T}
use Rattle.logarithm.specs.Logarithm.{service_life, last_threshold}
use Rattle.member.specs.declared.Member.{Member}
use Rattle.member.specs.declared.path.Path.{Path}
use Rattle.fields.specs.Limits.{strengths, most_moment, most_friction, most_kappa}
use Rattle.formulas.specs.Conditions.{stress_limit, most_slip, length_limit, path_limit, deflector_limit, least_strength}
use Rattle.formulas.specs.Conditions.{es_limit, eci_limit, least_ec, ec_limit, least_inertia, most_moment_stress, eccentricity_limit}
use Rattle.formulas.specs.Conditions.{creep_limit}
use Rattle.formulas.specs.Conditions.{shrinkage_limit, most_gain}
use Rattle.stages.specs.declared.ends.End.{End}
use Rattle.stages.specs.Run.{jacked, friction_along, relaxation_logarithm, moment_stress_of}

-- ---- a member

pub record PathBounded (path : Path) : Type 0 where
  pub friction_most : path.friction ≤ most_friction
  pub length_fits : path.length < path_limit

pub record Bounded (m : Member) : Type 0 where
  pub transfer : m.hours.transfer ≤ service_life
  pub strength : least_strength ≤ m.ultimate_strength
  pub strength_most : m.ultimate_strength ≤ strengths.high
  pub jacking_fits : jacked m < stress_limit
  pub deflector_fits : m.deflector_loss < deflector_limit
  pub slip_most : m.slip ≤ most_slip
  pub length : 1 ≤ m.length
  pub length_fits : m.length < length_limit
  pub es_fits : m.es < es_limit
  pub eci : 1 ≤ m.eci
  pub eci_fits : m.eci < eci_limit
  pub ec : least_ec ≤ m.ec
  pub ec_fits : m.ec < ec_limit
  pub inertia : least_inertia ≤ m.inertia
  pub eccentricity_fits : m.eccentricity < eccentricity_limit
  pub own_weight_fits : m.own_weight_moment ≤ most_moment
  pub first_path : PathBounded m.paths.first
  pub second_path : (second : Path) → m.paths.second ≡ Some second → PathBounded second
  pub kappa_fits : m.kappa ≤ most_kappa
  pub creep_fits : m.creep < creep_limit
  pub shrinkage_fits : m.shrinkage < shrinkage_limit

-- what slip asks of a path, and of the friction along it
pub record FrictionTaken (m : Member) (path : Path) (friction : ℕ) : Type 0 where
  pub bounded : PathBounded path
  pub friction_is : friction ≡ friction_along m path

-- ---- the ends of the intervals

-- what stands at an end
pub record EndBounded (end : End) : Type 0 where
  pub g_most : end.g ≤ most_moment_stress
  pub creep_fits : end.creep ≤ T
  pub shrinkage_fits : end.shrinkage ≤ T
  pub logarithm_fits : end.logarithm ≤ last_threshold

-- ---- the losses before the ages, and the gain

-- what early relaxation asks, and shortening, of what stands at transfer and of the stress that they begin with
pub record RelaxesEarly (m : Member) (logarithm stress : ℕ) : Type 0 where
  pub logarithm_is : logarithm ≡ relaxation_logarithm m m.hours.transfer
  pub stress_fits : stress < stress_limit

pub record Shortens (m : Member) (g stress : ℕ) : Type 0 where
  pub g_is : g ≡ moment_stress_of m m.own_weight_moment
  pub stress_fits : stress < stress_limit

-- what a gain asks of the stress that it lifts
pub record LiftFits (ultimate_strength stress gain : ℕ) : Type 0 where
  pub strength_most : ultimate_strength ≤ strengths.high
  pub stress_fits : stress < stress_limit
  pub gain_most : gain ≤ most_gain
