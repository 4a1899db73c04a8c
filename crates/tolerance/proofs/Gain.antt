-- The gain from an added moment, Es·Δg/Ec, in ticks and in fractions. Each g loses less than 1 to its division, so that their difference
-- is off by 1 at the most, either way; Es is at most 32 times Ec, and the gain's own division adds 1. Assumes nothing.
use Prim.Native.Nat.{ℕ, ◌+◌, ◌-◌, ◌*◌, ◌/◌, ◌≤◌, ◌<◌}
use native.Mathlib.Nat.{le_refl}
use native.Mathlib.Omega.{arith}
use Rattle.fraction.specs.Fraction.{Fraction, whole, ◌⊕◌, ◌⊖◌, ◌⊗◌, ◌÷◌, ◌≼◌, Within}
use Rattle.fraction.proofs.Laws.{≈-refl, ≈-sym, ≼_refl}
use Rattle.fraction.proofs.Floors.{whole_not_negative, whole_difference}
use Rattle.fraction.proofs.Distances.{within_refl, within_weaken, within_resp_≈}
use Rattle.fields.specs.Limits.{range}
use Rattle.formulas.specs.Steps.{moment_gain as ticks_moment_gain}
use Rattle.tolerance.specs.Formulas.{moment_gain}
use Rattle.tolerance.proofs.Rounded.{Rounded, product_near, difference_near}

-- Es over Ec, at the most
abbrev most_modular_ratio : ℕ
most_modular_ratio = range.Es.high / range.Ec.low

abbrev pub gain_error : ℕ
gain_error = most_modular_ratio + 1

-- a tick of g, and a division
tick_covered : (es ec n : ℕ) → 0 < ec → es ≤ most_modular_ratio * ec
    → whole 1 ⊕ (1 ÷ ec) ⊗ (whole 0 ⊗ whole n ⊕ whole es ⊗ whole 1) ≼ whole gain_error
unfolding ◌÷◌ whole ◌⊕◌ ◌⊗◌
tick_covered es ec n some ratio = record { at_most = omega arith }

pub gain_near : {x y : Fraction} {m n : ℕ} (es ec : ℕ) → es ≤ range.Es.high → range.Ec.low ≤ ec → n ≤ m
    → Rounded (whole 1) m x → Rounded (whole 1) n y
    → Within (whole gain_error) (whole (ticks_moment_gain es ec (m - n))) (moment_gain es ec (x ⊖ y))
gain_near {m = m} {n} es ec es≤ ≤ec h r s =
    within_weaken (tick_covered es ec (m - n) (omega arith) (omega arith))
    (product_near es (m - n) ec (m - n) es (omega arith) (le_refl (m - n)) (whole_not_negative es) ≼_refl
    (within_refl (whole es)) (within_resp_≈ (≈-sym (whole_difference h)) ≈-refl (difference_near ≼_refl r s)))
