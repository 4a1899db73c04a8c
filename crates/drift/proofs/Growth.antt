-- How much a loss, in ticks and with its roundings, grows when the stress rises. Each is a quotient, rounded down: where what is divided
-- rises by at most n divisors, the quotient rises by at most n. Of a rise friction leaves the whole at the most. Creep and shortening
-- are multiples of the concrete's stress: the member's check U·κ ≤ 2^56, and Es·κ/2^32 in shortening's divisor, keep their growth to the
-- rise, and the tick that the concrete's stress may gain by its division costs the multiple. Relaxation is a product of two parts of the
-- stress, and grows by the growth of each times the other: by 0.22 and 0.53 of the rise. Assumes nothing.
use Prim.Native.Nat.{ℕ, ◌+◌, ◌-◌, ◌*◌, ◌/◌, ◌≤◌, ◌<◌}
use native.Mathlib.Nat.{le_trans, mul-le-mul, mul-le-mul_left, mul-le-mul_right, mul-div-le, lt-mul-div-succ, div-le_of_le-mul}
use native.Mathlib.Nat.{div-lt_iff_lt-mul}
use native.Mathlib.Omega.{arith}
use lib.Dec.{lit<}
use lib.Ieee.Nearest.{div_mono}
use Rattle.ticks.specs.Ticks.{ticks_per_unit, T}
use Rattle.coefficient.specs.declared.codes.Steel.{Steel}
use Rattle.coefficient.specs.declared.codes.Steel.TheVariants.{StressRelieved, LowRelaxation}
use Rattle.exponential.proofs.Turns.{factor_most}
use Rattle.fields.specs.Limits.{range, most_of_strength, hundredths, most_creep_of_kappa}
use Rattle.member.specs.Facts.{most_creep}
use Rattle.formulas.specs.Steps.{stress_left, yield, relaxation_divisor, relaxation_factor, relaxation_loss, kappa_unit, concrete_stress}
use Rattle.formulas.specs.Steps.{shortening_loss, creep_loss}
use Rattle.tolerance.proofs.Concrete.{highest_stress}
use Rattle.tolerance.proofs.Logarithms.{most_rise}
use Rattle.tolerance.proofs.Relaxation.{lowest_yield, least_divisor, most_ratio, most_factor, most_inner}

-- growth is counted in sixteenths of the rise; these are the whole of it
abbrev pub whole_rise : ℕ
whole_rise = 16

-- a loss, or a stress that is left, which is `low` at one stress and `high` at another that lies `rise` ticks above: it does not fall, and
-- it grows by at most so many sixteenths of the rise, and a rounding
pub record Grows (sixteenths rounding rise low high : ℕ) : Type 0 where
  pub least : low ≤ high
  pub most : whole_rise * high ≤ whole_rise * low + sixteenths * rise + whole_rise * rounding

-- ---- quotients

module _ (D : ℕ) (some : 0 < D) where
  quotient_least : {a b : ℕ} → a ≤ b → a / D ≤ b / D
  quotient_least {a} {b} h = div_mono a D b D some some (mul-le-mul_right D h)

  quotient_most : (a n : ℕ) {b : ℕ} → b ≤ a + n * D → b / D ≤ a / D + n
  quotient_most a n {b} h =
      let below : b / D < a / D + n + 1 = (div-lt_iff_lt-mul some).1 (omega (arith, lt-mul-div-succ a some)) in omega arith

  quotient_grows : (rise rounding : ℕ) {a b : ℕ} → a ≤ b → b ≤ a + (rise + rounding) * D → Grows whole_rise rounding rise (a / D) (b / D)
  quotient_grows rise rounding {a} least most =
      let quotient = quotient_most a (rise + rounding) most in record { least = quotient_least least; most = omega arith }

  -- a part of the stress
  module _ (m y rise : ℕ) where
    part_least : y * m / D ≤ (y + rise) * m / D
    part_least = quotient_least (omega arith)

    part_most : (y + rise) * m / D ≤ y * m / D + (rise * m / D + 1)
    part_most = quotient_most (y * m) (rise * m / D + 1) (omega (arith, lt-mul-div-succ (rise * m) some))

-- ---- friction

pub left_grows : (X y rise : ℕ) → Grows whole_rise 0 rise (stress_left y X) (stress_left (y + rise) X)
left_grows X y rise = quotient_grows T (lit< tt) rise 0 (omega arith) (omega (arith, mul-le-mul_left rise (factor_most X)))

-- ---- creep and shortening

module _ (kappa g y rise : ℕ) where
  concrete_least : concrete_stress y kappa g ≤ concrete_stress (y + rise) kappa g
  concrete_least = omega (arith, part_least kappa_unit (lit< tt) kappa y rise)

  concrete_most : concrete_stress (y + rise) kappa g ≤ concrete_stress y kappa g + (rise * kappa / kappa_unit + 1)
  concrete_most = omega (arith, part_most kappa_unit (lit< tt) kappa y rise)

  slope_most : (m D : ℕ) → m * kappa ≤ D * kappa_unit → m * (rise * kappa / kappa_unit) ≤ D * rise
  slope_most m D slope = omega (arith, mul-le-mul_left m (mul-div-le (rise * kappa) kappa_unit), mul-le-mul_right rise slope)

  -- m/D times the concrete's stress: m·κ/(D·2^32), its slope, is at most 1, and m/D times a tick at most the rounding
  multiple_grows : (m D rounding : ℕ) → 0 < D → m * kappa ≤ D * kappa_unit → m ≤ rounding * D
      → Grows whole_rise rounding rise (m * concrete_stress y kappa g / D) (m * concrete_stress (y + rise) kappa g / D)
  multiple_grows m D rounding some slope tick =
      quotient_grows D some rise rounding (mul-le-mul_left m concrete_least)
      (omega (arith, mul-le-mul_left m concrete_most, slope_most m D slope))

-- W/T by what is more than U can be, rounded up
abbrev pub creep_rounding : ℕ
creep_rounding = most_creep / T + 1

pub creep_grows : (whole_creep share kappa g y rise : ℕ) → share ≤ T → whole_creep ≤ most_creep → whole_creep * kappa ≤ most_creep_of_kappa
    → Grows whole_rise creep_rounding rise (creep_loss whole_creep share (concrete_stress y kappa g))
    (creep_loss whole_creep share (concrete_stress (y + rise) kappa g))
creep_grows whole_creep share kappa g y rise share_most creep_most slope =
    let done : whole_creep * share / T ≤ whole_creep = div-le_of_le-mul T (omega (arith, mul-le-mul_left whole_creep share_most)) in
    multiple_grows kappa g y rise (whole_creep * share / T) T creep_rounding (lit< tt) (le_trans (mul-le-mul_right kappa done) slope)
    (omega arith)

-- Es over Eci at the most
abbrev pub shortening_rounding : ℕ
shortening_rounding = range.Es.high / range.Eci.low

pub shortening_grows : (es eci kappa g y rise : ℕ) → es ≤ range.Es.high → range.Eci.low ≤ eci
    → Grows whole_rise shortening_rounding rise (shortening_loss es eci kappa (concrete_stress y kappa g))
    (shortening_loss es eci kappa (concrete_stress (y + rise) kappa g))
shortening_grows es eci kappa g y rise es_most eci_least =
    multiple_grows kappa g y rise es (eci + es * kappa / kappa_unit) shortening_rounding (omega arith) (omega arith) (omega arith)

-- ---- relaxation

-- f·ΔL/D grows by 1445/2560 of the rise, times q at its most, 0.3912: 0.221; and q grows by T/Y of it, times f·ΔL/D at 0.80 F: 0.531.
-- Together 0.752, rounded up to sixteenths
abbrev pub relaxation_sixteenths : ℕ
relaxation_sixteenths = 13

-- a tick of q and one of f·ΔL/D, 8.27 and 0.3912, together rounded up; and a division
abbrev pub relaxation_rounding : ℕ
relaxation_rounding = most_inner / T + 2

-- each factor of a product grows, and costs its growth times the other
product_most : (a b m n : ℕ) {c d : ℕ} → c ≤ a + m → d ≤ b + n → c * d ≤ a * b + m * b + c * n
product_most a b m n {c} h k = omega (arith, mul-le-mul_left c k, mul-le-mul_right b h)

module _ (Y D logarithms : ℕ) (Y_least : T ≤ Y) (D-least : least_divisor ≤ D) (logarithms_most : logarithms ≤ most_rise) where
  abbrev inner : ℕ → ℕ
  inner stress = stress * logarithms / D

  abbrev in_yields : ℕ → ℕ
  in_yields stress = stress * T / Y

  abbrev factor_of : ℕ → ℕ
  factor_of stress = relaxation_factor stress Y

  inner_most : (stress : ℕ) → least_divisor * inner stress ≤ most_rise * stress
  inner_most stress =
      omega (arith, mul-div-le (stress * logarithms) D, mul-le-mul_right (inner stress) D-least, mul-le-mul_left stress logarithms_most)

  -- the higher stress is at most 0.80/0.85 of Y, but for Y's rounding
  module _ (y rise : ℕ) (ratio : lowest_yield * (y + rise) ≤ most_of_strength * (Y + 1)) (top : y + rise ≤ highest_stress) where
    factor_top : factor_of y ≤ most_factor
    factor_top = let yields : in_yields y ≤ most_ratio = div-le_of_le-mul Y (omega arith) in omega arith

    factor_least : factor_of y ≤ factor_of (y + rise)
    factor_least = omega (arith, part_least Y (omega arith) T y rise)

    factor_rises : factor_of (y + rise) ≤ factor_of y + (in_yields rise + 1)
    factor_rises = omega (arith, part_most Y (omega arith) T y rise)

    inner_growth : least_divisor * (inner rise * factor_of y) ≤ most_rise * most_factor * rise
    inner_growth = omega (arith, mul-le-mul_left (inner rise) factor_top, inner_most rise)

    -- Y is a factor of the inner part's bound, and the divisor of q's growth
    factor_growth : least_divisor * lowest_yield * (inner (y + rise) * in_yields rise) ≤ most_rise * most_of_strength * (T + 1) * rise
    factor_growth =
        let growth = in_yields rise in
        omega (
          arith,
          mul-div-le (rise * T) Y,
          mul-le-mul_right growth (inner_most (y + rise)),
          mul-le-mul_right growth ratio,
          mul-le-mul_right growth Y_least,
        )

    product_grows : Grows relaxation_sixteenths relaxation_rounding rise (inner y * factor_of y / T)
        (inner (y + rise) * factor_of (y + rise) / T)
    product_grows =
        let some : 0 < D = omega arith in
        let inner_rises = part_most D some logarithms y rise in
        let product = product_most (inner y) (factor_of y) (inner rise + 1) (in_yields rise + 1) inner_rises factor_rises in
        record {
          least = quotient_least T (lit< tt) (mul-le-mul (part_least D some logarithms y rise) factor_least);
          most = omega (arith, product, inner_growth, factor_growth, factor_top, inner_most (y + rise));
        }

yield_least : (steel : Steel) (F : ℕ) → lowest_yield * F * ticks_per_unit ≤ hundredths * (yield steel F + 1)
yield_least StressRelieved F = omega arith
yield_least LowRelaxation F = omega arith

divisor_least : (steel : Steel) → least_divisor ≤ relaxation_divisor steel
divisor_least StressRelieved = omega arith
divisor_least LowRelaxation = omega arith

pub relaxation_grows : (steel : Steel) (F logarithms y rise : ℕ) → range.ultimate_strength.low ≤ F
    → F ≤ range.ultimate_strength.high → logarithms ≤ most_rise → hundredths * (y + rise) ≤ most_of_strength * F * ticks_per_unit
    → Grows relaxation_sixteenths relaxation_rounding rise (relaxation_loss steel F y logarithms)
    (relaxation_loss steel F (y + rise) logarithms)
relaxation_grows steel F logarithms y rise F-least F-most logarithms_most stress_most =
    let yields = yield_least steel F in
    product_grows (yield steel F) (relaxation_divisor steel) logarithms (omega arith) (divisor_least steel) logarithms_most y rise
    (omega arith) (omega arith)

-- ---- sums, and what a step leaves

pub stays : (rise loss : ℕ) → Grows 0 0 rise loss loss
stays rise loss = omega arith

pub grow_together : {s t r u rise low high low' high' : ℕ} → Grows s r rise low high → Grows t u rise low' high'
    → Grows (s + t) (r + u) rise (low + low') (high + high')
grow_together one other = omega arith

-- of creep and relaxation, which a step takes together
abbrev pub most_sixteenths : ℕ
most_sixteenths = whole_rise + relaxation_sixteenths

abbrev pub most_rounding : ℕ
most_rounding = creep_rounding + relaxation_rounding

-- two stresses at most e apart, where e is a psi or more, are so after a step
pub keeps_apart : {sixteenths rounding rise low high : ℕ} (e y : ℕ) → Grows sixteenths rounding rise low high
    → sixteenths ≤ most_sixteenths → rounding ≤ most_rounding → ticks_per_unit ≤ e → rise ≤ e → low ≤ y → high ≤ y + rise
    → (y - low ≤ (y + rise - high) + e) × (y + rise - high ≤ (y - low) + e)
keeps_apart {rise = rise} e y grows sixteenths_most rounding_most e_least rise_most low_most high_most =
    omega (arith, mul-le-mul_right rise sixteenths_most)
