-- The promise rests on it. What each loss is: document 01, "Steps", with friction and slip by document 02, W3 and W5; and the gain of
-- document 02, W1. Stresses are in ticks, "Every division rounds down".
use Rattle.std.specs.Prelude.{ℕ, suc, ◌+◌, ◌-◌, ◌*◌, ◌/◌, ◌^◌, max, ◌≡◌, Bool, true, false, ◌&&◌, leb, ltb}
use Rattle.ticks.specs.Ticks.{ticks_per_unit, T}
use Rattle.logarithm.specs.Largest.{largest_up_to}
use Rattle.coefficient.specs.declared.codes.Steel.{Steel}
use Rattle.exponential.specs.Factor.{factor}

-- "1. Friction", by document 02, W3: "Equation 1 of document 001 .. the stress left, rounded down, is f times e to the power −X/T"
abbrev pub stress_left : ℕ → ℕ → ℕ
stress_left stress friction = stress * factor friction / T

-- the friction reported: f less the stress left
abbrev pub friction_loss : ℕ → ℕ → ℕ
friction_loss stress friction = stress - stress_left stress friction

-- "2. Slip", by document 02, W5: "spreads the wedge slip only as far as friction lets it", where neither "friction loss d at the
-- section" nor "path length P" is 0
abbrev pub dies_out : (d path_length : ℕ) → Bool
dies_out d path_length = ltb 0 d && ltb 0 path_length

-- whether the slip covers a drop of z at the jack: "Z²·P at most 4·d·Es·slip; Z, d and Es are in ticks of psi, the slip in inches". P, 12
-- inches for each foot of the path, and the slip are both in ticks of inch here, so that each side is 1,024 times the paper's.
abbrev pub slip_covers : (d es slip path_length z : ℕ) → Bool
slip_covers d es slip path_length z = leb (z * z * (12 * path_length)) (4 * d * (es * ticks_per_unit) * slip)

-- "let Z be the largest whole number", by its two squares: the slip covers it, and not the next
pub record IsDropAtJack (d es slip path_length z : ℕ) : Type 0 where
  pub covered : slip_covers d es slip path_length z ≡ true
  pub next_not_covered : slip_covers d es slip path_length (suc z) ≡ false

-- Z itself: where the path has a length it is such a number by the law `is_drop`, and no other is by `one_drop`; the slip covers none above
-- the right side
unfoldable pub drop_at_jack : (d es slip path_length : ℕ) → ℕ
unfolding largest_up_to
drop_at_jack d es slip path_length = largest_up_to (4 * d * (es * ticks_per_unit) * slip) (slip_covers d es slip path_length)

-- "the affected length Z·P/(2d) passes the tendon length, both unrounded"
abbrev pub passes_tendon : (z d path_length length : ℕ) → Bool
passes_tendon z d path_length length = ltb (2 * d * length) (z * path_length)

-- "The drop at the section is Z − 2d, or 0 where that is negative", as a natural difference is
abbrev pub drop_at_section : (z d : ℕ) → ℕ
drop_at_section z d = z - 2 * d

-- "Where d or P is 0 the old rule stays": document 01's "Es·slip·1024/(12·length)", over the tendon
abbrev pub slip_loss : (es slip length : ℕ) → ℕ
slip_loss es slip length = es * slip * ticks_per_unit / (12 * length)

-- "Then deflector loss, whole psi."
abbrev pub deflector_ticks : ℕ → ℕ
deflector_ticks deflector_loss = deflector_loss * ticks_per_unit

-- "Y = 0.85 F or 0.90 F (steel 1, 2) in ticks, rounded down"
abbrev pub yield : Steel → ℕ → ℕ
yield Steel.StressRelieved ultimate_strength = 85 * ultimate_strength * ticks_per_unit / 100
yield Steel.LowRelaxation ultimate_strength = 90 * ultimate_strength * ticks_per_unit / 100

-- "D = 2,560 (steel 1) or 11,520 (steel 2)"
abbrev pub relaxation_divisor : Steel → ℕ
relaxation_divisor Steel.StressRelieved = 2560
relaxation_divisor Steel.LowRelaxation = 11520

-- "q the larger of f·T/Y − 0.55 T and 0.05 T, each part rounded"
abbrev pub relaxation_factor : ℕ → ℕ → ℕ
relaxation_factor stress y = max (stress * T / y - 55 * T / 100) (5 * T / 100)

-- "relaxation (f·ΔL/D)·q/T with the inner part rounded"
abbrev pub relaxation_loss : Steel → ℕ → ℕ → ℕ → ℕ
relaxation_loss steel ultimate_strength stress logarithms =
    stress * logarithms / relaxation_divisor steel * relaxation_factor stress (yield steel ultimate_strength) / T

-- "g = M·e/I, M all moments so far"
abbrev pub moment_stress : ℕ → ℕ → ℕ → ℕ
moment_stress moments eccentricity inertia = moments * eccentricity / inertia

-- the unit of κ
abbrev pub kappa_unit : ℕ
kappa_unit = 2 ^ 32

-- "c = f·κ/2^32 − g". A natural difference: 0 where c is negative, and each loss is "0 if c ≤ 0".
abbrev pub concrete_stress : ℕ → ℕ → ℕ → ℕ
concrete_stress stress kappa g = stress * kappa / kappa_unit - g

-- "4. Shortening .. loss Es·c/(Eci + Es·κ/2^32), inner part rounded"
abbrev pub shortening_loss : ℕ → ℕ → ℕ → ℕ → ℕ
shortening_loss es eci kappa c = es * c / (eci + es * kappa / kappa_unit)

-- "creep W·c/T, W = U·share/T"
abbrev pub creep_loss : ℕ → ℕ → ℕ → ℕ
creep_loss whole_creep share c = whole_creep * share / T * c / T

-- "shrinkage S·share/T"
abbrev pub shrinkage_loss : ℕ → ℕ → ℕ
shrinkage_loss whole_shrinkage share = whole_shrinkage * share / T

-- document 02, W1: "Es times the rise of g over Ec, rounded down"
abbrev pub moment_gain : ℕ → ℕ → ℕ → ℕ
moment_gain es ec rise = es * rise / ec
