-- It serves the code alone, and every accepted member has it. What the code's arithmetic asks of the numbers of each step, so that no
-- product wraps: the powers of two above document 01's ranges.
use Rattle.std.specs.Prelude.{ℕ, ◌^◌, ◌≤◌, ◌<◌}
use Rattle.ticks.specs.Ticks.{T}
use Rattle.fields.specs.Limits.{strengths, range, most_friction}

-- ---- the bounds

-- above every stress, of the steel and of the concrete, in ticks
abbrev pub stress_limit : ℕ
stress_limit = 2 ^ 28

abbrev pub most_slip : ℕ
most_slip = range.slip.high

abbrev pub length_limit : ℕ
length_limit = 2 ^ 22

-- above the length of every path
abbrev pub path_limit : ℕ
path_limit = 2 ^ 28

abbrev pub deflector_limit : ℕ
deflector_limit = 2 ^ 15

-- the ultimate strength F is at least this, and below the next
abbrev pub least_strength : ℕ
least_strength = strengths.low

abbrev pub strength_limit : ℕ
strength_limit = 2 ^ 19

-- above every difference of two logarithms
abbrev pub logarithm_limit : ℕ
logarithm_limit = 2 ^ 11

abbrev pub es_limit : ℕ
es_limit = 2 ^ 25

abbrev pub eci_limit : ℕ
eci_limit = 2 ^ 23

-- Ec is at least this, and below the next
abbrev pub least_ec : ℕ
least_ec = range.Ec.low

abbrev pub ec_limit : ℕ
ec_limit = 2 ^ 23

-- the inertia is at least this; so g, all moments by the eccentricity over the inertia, is at most the next
abbrev pub least_inertia : ℕ
least_inertia = range.inertia.low

abbrev pub most_moment_stress : ℕ
most_moment_stress = 2 ^ 48

-- above all moments together
abbrev pub moment_limit : ℕ
moment_limit = 2 ^ 41

abbrev pub eccentricity_limit : ℕ
eccentricity_limit = 2 ^ 17

abbrev pub kappa_limit : ℕ
kappa_limit = 2 ^ 31

-- above U and S
abbrev pub creep_limit : ℕ
creep_limit = 2 ^ 31

abbrev pub shrinkage_limit : ℕ
shrinkage_limit = 2 ^ 26

-- the most of a gain, Es by g over Ec
abbrev pub most_gain : ℕ
most_gain = 2 ^ 54

-- ---- what each step asks

pub record FrictionFits (stress friction : ℕ) : Type 0 where
  pub stress_fits : stress < stress_limit
  pub friction_most : friction ≤ most_friction

-- of the drop at the jack, where slip dies out along the path
pub record DropFits (d es slip path_length : ℕ) : Type 0 where
  pub d_fits : d < stress_limit
  pub es_fits : es < es_limit
  pub slip_most : slip ≤ most_slip
  pub some_path : 1 ≤ path_length
  pub path_fits : path_length < path_limit

-- of the affected length
pub record AffectedFits (d path_length length : ℕ) : Type 0 where
  pub d_fits : d < stress_limit
  pub some_path : 1 ≤ path_length
  pub length_fits : length < length_limit

pub record SlipFits (es slip length : ℕ) : Type 0 where
  pub es_fits : es < es_limit
  pub slip_most : slip ≤ most_slip
  pub some_length : 1 ≤ length
  pub length_fits : length < length_limit

pub record DeflectorFits (deflector_loss : ℕ) : Type 0 where
  pub deflector_fits : deflector_loss < deflector_limit

pub record RelaxationFits (ultimate_strength stress logarithms : ℕ) : Type 0 where
  pub strength_least : least_strength ≤ ultimate_strength
  pub strength_fits : ultimate_strength < strength_limit
  pub stress_fits : stress < stress_limit
  pub logarithms_fit : logarithms < logarithm_limit

-- of the relaxation factor, where y is Y
pub record FactorFits (stress y : ℕ) : Type 0 where
  pub stress_fits : stress < stress_limit
  pub some_yield : 1 ≤ y

pub record MomentsFit (moments eccentricity inertia : ℕ) : Type 0 where
  pub moments_fit : moments < moment_limit
  pub eccentricity_fits : eccentricity < eccentricity_limit
  pub some_inertia : 1 ≤ inertia

pub record ConcreteFits (stress kappa : ℕ) : Type 0 where
  pub stress_fits : stress < stress_limit
  pub kappa_fits : kappa < kappa_limit

pub record ShorteningFits (es eci kappa c : ℕ) : Type 0 where
  pub es_fits : es < es_limit
  pub some_eci : 1 ≤ eci
  pub eci_fits : eci < eci_limit
  pub kappa_fits : kappa < kappa_limit
  pub c_fits : c < stress_limit

pub record CreepFits (whole_creep share c : ℕ) : Type 0 where
  pub creep_fits : whole_creep < creep_limit
  pub share_fits : share ≤ T
  pub c_fits : c < stress_limit

pub record ShrinkageFits (whole_shrinkage share : ℕ) : Type 0 where
  pub shrinkage_fits : whole_shrinkage < shrinkage_limit
  pub share_fits : share ≤ T

pub record GainFits (es ec rise : ℕ) : Type 0 where
  pub es_fits : es < es_limit
  pub ec_least : least_ec ≤ ec
  pub ec_fits : ec < ec_limit
  pub rise_most : rise ≤ most_moment_stress
