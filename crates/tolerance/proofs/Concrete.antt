-- The stress of the concrete at the tendon, in ticks and in fractions. κ loses less than 2 to its two divisions and g less than 1 to
-- one. A stress stays below 2^28 ticks, so of the 2 in κ an eighth of a tick is left in f·κ/2^32, whose own division adds 1; and what
-- g loses is lost on the same side. So the two differ by 9/8 at most. Assumes nothing.
use mathlib.Core.List.{[], ◌∷◌}
use Prim.Native.Nat.{ℕ, ◌*◌, ◌/◌, ◌≤◌}
use native.Mathlib.Nat.{le_trans, mul-le-mul, div-le_of_le-mul, sub-le}
use native.Mathlib.Omega.{arith}
use lib.Dec.{lit<, lit≤}
use Rattle.fraction.specs.Fraction.{Fraction, whole, ◌⊕◌, ◌⊖◌, ◌⊗◌, ◌÷◌, ◌≼◌, Within}
use Rattle.fraction.specs.Equality.{◌≈◌}
use Rattle.fraction.proofs.Laws.{≈-refl, ≈-sym, ⊗-assoc, ⊗-not-negative, ⊖-cong, larger_right, larger_least, larger_cong}
use Rattle.fraction.proofs.Certificate.{num, ◌⊟◌, ◌⊠◌, ◌⊑◌, ◌⊢◌, follows}
use Rattle.fraction.proofs.Slopes.{hinge}
use Rattle.fraction.proofs.Quotients.{quotient_not_negative}
use Rattle.ticks.specs.Ticks.{ticks_per_unit}
use Rattle.fields.specs.Limits.{range, most_kappa}
use Rattle.formulas.specs.Steps.{concrete_stress as ticks_concrete_stress, kappa_unit}
use Rattle.tolerance.specs.Formulas.{concrete_stress}
use Rattle.tolerance.proofs.Rounded.{Rounded, rounded_part, rounded_difference}

-- 0.80 F at the highest F, in ticks: no stress is above it
abbrev pub highest_stress : ℕ
highest_stress = range.jacking_stress.high * ticks_per_unit

-- the divisions in κ
abbrev pub kappa_error : ℕ
kappa_error = 2

-- a division, and what κ is off by, of the highest stress: 1 and 0.115
abbrev pub concrete_error : Fraction
concrete_error = 9 ÷ 8

-- f·κ/2^32 at the highest stress and κ
abbrev pub highest_concrete : ℕ
highest_concrete = highest_stress * most_kappa / kappa_unit

-- 1 / 2^32
abbrev pub per_kappa_unit : Fraction
per_kappa_unit = 1 ÷ kappa_unit

pub kappa_unit_not_negative : whole 0 ≼ per_kappa_unit
kappa_unit_not_negative = quotient_not_negative 1 kappa_unit

-- ---- the stress of the concrete in fractions

-- a hinge: a line, and 0 at the least
pub concrete_is_hinge : (x κ g : Fraction) → hinge (κ ⊗ per_kappa_unit) g (whole 0) x ≈ concrete_stress x κ g
concrete_is_hinge x κ g = larger_cong (⊖-cong (≈-sym (⊗-assoc x κ per_kappa_unit)) ≈-refl) ≈-refl

pub concrete_not_negative : (x κ g : Fraction) → whole 0 ≼ concrete_stress x κ g
concrete_not_negative x κ g = larger_right (x ⊗ κ ⊗ per_kappa_unit ⊖ g) (whole 0)

-- without the moments the stress would be higher
pub concrete_below : (x κ g : Fraction) → whole 0 ≼ x → whole 0 ≼ κ → whole 0 ≼ g → concrete_stress x κ g ≼ x ⊗ κ ⊗ per_kappa_unit
concrete_below x κ g x≥0 κ≥0 g≥0 = larger_least
    (follows (x ∷ κ ∷ g ∷ per_kappa_unit ∷ []) (λ X K G Q. num 0 ⊑ G ∷ [] ⊢ X ⊠ K ⊠ Q ⊟ G ⊑ X ⊠ K ⊠ Q) tt g≥0)
    (⊗-not-negative (⊗-not-negative x≥0 κ≥0) kappa_unit_not_negative)

-- ---- ticks and fractions

kappa_share : (n : ℕ) → n ≤ highest_stress → whole 1 ⊕ whole n ⊗ whole kappa_error ⊗ per_kappa_unit ≼ concrete_error
unfolding ◌÷◌ whole ◌⊕◌ ◌⊗◌
kappa_share n h = record { at_most = omega arith }

one_below : whole 1 ≼ concrete_error
unfolding ◌÷◌ whole
one_below = record { at_most = lit≤ tt }

-- what the core's does not exceed
pub concrete_top : (n κ₀ g₀ : ℕ) → n ≤ highest_stress → κ₀ ≤ most_kappa → ticks_concrete_stress n κ₀ g₀ ≤ highest_concrete
concrete_top n κ₀ g₀ n≤ κ₀≤ =
    le_trans (sub-le (n * κ₀ / kappa_unit) g₀) (div-le_of_le-mul kappa_unit (le_trans (mul-le-mul n≤ κ₀≤) (lit≤ tt)))

pub concrete_near : (n κ₀ g₀ : ℕ) (κ g : Fraction) → n ≤ highest_stress → Rounded (whole kappa_error) κ₀ κ → Rounded (whole 1) g₀ g
    → Within concrete_error (whole (ticks_concrete_stress n κ₀ g₀)) (concrete_stress (whole n) κ g)
concrete_near n κ₀ g₀ κ g n≤ κ_close g_close =
    rounded_difference one_below (rounded_part n kappa_unit concrete_error (lit< tt) κ_close (kappa_share n n≤)) g_close
