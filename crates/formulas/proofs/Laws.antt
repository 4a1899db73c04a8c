-- How large a loss can be, for callers that add them up: each product is bounded, and a division does not raise it.
-- Assumes nothing.
use Prim.Native.Nat.{ℕ, ◌*◌, ◌/◌, ◌^◌, ◌≤◌, ◌<◌}
use native.Mathlib.Nat.{div-le_self, div-le_of_le-mul, le_trans, mul-le-mul_left}
use native.Mathlib.Omega.{arith}
use Rattle.ticks.specs.Ticks.{T}
use Rattle.coefficient.specs.declared.codes.Steel.{Steel}
use Rattle.coefficient.specs.declared.codes.Steel.TheVariants.{StressRelieved, LowRelaxation}
use Rattle.exponential.proofs.Turns.{factor_most}
use Rattle.formulas.specs.Steps.{stress_left, yield, relaxation_divisor, relaxation_factor, relaxation_loss}
use Rattle.formulas.specs.Steps.{moment_stress, concrete_stress, creep_loss, shrinkage_loss}
use Rattle.formulas.specs.Conditions.{stress_limit, least_strength, logarithm_limit, least_inertia, most_moment_stress, creep_limit}
use Rattle.formulas.specs.Conditions.{RelaxationFits, MomentsFit, ConcreteFits, CreepFits, ShrinkageFits}
use Rattle.formulas.proofs.Products.{product}

-- the factor of friction is at most T
pub stress_left_most : (stress friction : ℕ) → stress_left stress friction ≤ stress
stress_left_most stress friction =
    div-le_of_le-mul T (omega (arith, mul-le-mul_left stress (factor_most friction)))

pub yield_least : (steel : Steel) (ultimate_strength : ℕ) → least_strength ≤ ultimate_strength → 2 ^ 26 ≤ yield steel ultimate_strength
yield_least StressRelieved ultimate_strength h = omega arith
yield_least LowRelaxation ultimate_strength h = omega arith

-- a stress in yields, in parts of T
pub relaxation_factor_most : (stress y : ℕ) → stress < stress_limit → 2 ^ 26 ≤ y → relaxation_factor stress y ≤ 2 ^ 26
relaxation_factor_most stress y s h =
    let whole : stress * T ≤ 2 ^ 26 * y = omega arith in
    let ratio : stress * T / y ≤ 2 ^ 26 = div-le_of_le-mul y (omega (arith, whole)) in
    omega arith

inner_most : (steel : Steel) (x : ℕ) → x ≤ 2 ^ 39 → x / relaxation_divisor steel ≤ 2 ^ 28
inner_most StressRelieved x h = omega arith
inner_most LowRelaxation x h = omega arith

-- the product in relaxation's loss, before it is divided
pub relaxation_product : (steel : Steel) (stress logarithms y : ℕ) → stress < stress_limit → logarithms < logarithm_limit
    → 2 ^ 26 ≤ y
    → stress * logarithms / relaxation_divisor steel * relaxation_factor stress y ≤ 2 ^ 54
relaxation_product steel stress logarithms y s l h =
    product 28 26 (inner_most steel (stress * logarithms) (product 28 11 (omega arith) (omega arith))) (relaxation_factor_most stress y s h)

pub relaxation_most : {ultimate_strength stress logarithms : ℕ} (steel : Steel) → RelaxationFits ultimate_strength stress logarithms
    → relaxation_loss steel ultimate_strength stress logarithms ≤ 2 ^ 54
relaxation_most {ultimate_strength} {stress} {logarithms} steel fits =
    le_trans (div-le_self _ T)
    (relaxation_product steel stress logarithms _ fits.stress_fits fits.logarithms_fit
    (yield_least steel ultimate_strength fits.strength_least))

pub concrete_most : {stress kappa : ℕ} (g : ℕ) → ConcreteFits stress kappa → concrete_stress stress kappa g < stress_limit
concrete_most {stress} {kappa} g fits =
    let whole : stress * kappa ≤ 2 ^ 59 = product 28 31 (omega arith) (omega arith) in omega arith

-- W = U·share/T
pub done_creep_most : (whole_creep share : ℕ) → whole_creep < creep_limit → share ≤ T → whole_creep * share / T ≤ 2 ^ 31
done_creep_most whole_creep share u h = let whole : whole_creep * share ≤ 2 ^ 55 = product 31 24 (omega arith) h in omega arith

pub creep_most : {whole_creep share c : ℕ} → CreepFits whole_creep share c → creep_loss whole_creep share c ≤ 2 ^ 59
creep_most {whole_creep} {share} fits =
    le_trans (div-le_self _ T)
    (product 31 28 (done_creep_most whole_creep share fits.creep_fits fits.share_fits) (omega arith))

pub shrinkage_most : {whole_shrinkage share : ℕ} → ShrinkageFits whole_shrinkage share → shrinkage_loss whole_shrinkage share ≤ 2 ^ 50
shrinkage_most fits = le_trans (div-le_self _ T) (product 26 24 (omega arith) fits.share_fits)

pub moment_stress_most : {moments eccentricity inertia : ℕ} → MomentsFit moments eccentricity inertia → least_inertia ≤ inertia
    → moment_stress moments eccentricity inertia ≤ most_moment_stress
moment_stress_most {inertia = inertia} fits least =
    div-le_of_le-mul inertia
    (le_trans (product 41 17 (omega arith) (omega arith)) (omega (arith, mul-le-mul_left most_moment_stress least)))
