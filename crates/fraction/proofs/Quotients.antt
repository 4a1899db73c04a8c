-- Laws of quotients without rounding: where the divisor is above 0, `a ÷ b` is the fraction a / b, and `inverse` turns a fraction
-- round. Both replace a divisor of 0 by 1, which a divisor above 0 does not notice. Assumes nothing.
use mathlib.Core.Path.{◌≡◌, sym, ap, ◌∙◌}
use Prim.Native.Nat.{ℕ, ◌+◌, ◌-◌, ◌*◌, ◌≤◌, ◌<◌, max}
use native.Mathlib.Omega.{arith}
use Rattle.fraction.specs.Fraction.{Fraction, whole, ◌⊗◌, ◌÷◌, inverse, ◌≼◌}
use Rattle.fraction.specs.Equality.{over, ◌≈◌}
use Rattle.fraction.proofs.Laws.{≈-sym, ≼_trans, ≼-of-≈, ≼-resp-≈}
use Rattle.fraction.proofs.Floors.{over_order}

-- a / b
pub quotient : (a b : ℕ) (h : 0 < b) → a ÷ b ≈ over a b h
unfolding ◌÷◌ over
quotient a b h = record { equal = let e : max 1 b ≡ b = omega arith in rw e }

pub quotient_not_negative : (a b : ℕ) → whole 0 ≼ a ÷ b
unfolding ◌÷◌ whole
quotient_not_negative a b = record { at_most = omega arith }

pub quotient_most : (a b most : ℕ) → 0 < b → a ≤ most * b → a ÷ b ≼ whole most
unfolding over whole
quotient_most a b most h k = ≼_trans (≼-of-≈ (quotient a b h)) (record { at_most = omega arith })

pub quotient_times : (a b : ℕ) → 0 < b → whole b ⊗ (a ÷ b) ≈ whole a
unfolding ◌÷◌ whole ◌⊗◌
quotient_times a b h = record { equal = let e : max 1 b ≡ b = omega arith in rw e (omega arith) }

-- quotients compare as their cross products do
pub quotient_order : (a b c d : ℕ) → 0 < b → 0 < d → a * d ≤ c * b → a ÷ b ≼ c ÷ d
quotient_order a b c d h k l = ≼-resp-≈ (≈-sym (quotient a b h)) (≈-sym (quotient c d k)) (over_order a b c d h k l)

-- x · (1/x) = 1 for an x above 0
pub inverse_cancels : (x : Fraction) → x.down < x.up → x ⊗ inverse x ≈ whole 1
unfolding inverse ◌⊗◌ whole
inverse_cancels x h =
    let k = x.up - x.down in
    let e : max 1 k ≡ k = omega arith in
    let u : x.up ≡ k + x.down = omega arith in
    record {
      equal = rw e
          (ap (λ (n : ℕ). (n * x.den + x.down * 0) * 1 + 0 * (x.den * k)) u ∙ turned k x.down x.den
          ∙ sym (ap (λ (n : ℕ). 1 * (x.den * k) + (n * 0 + x.down * x.den) * 1) u));
    }
  where
    turned : (k d n : ℕ) → ((k + d) * n + d * 0) * 1 + 0 * (n * k) ≡ 1 * (n * k) + ((k + d) * 0 + d * n) * 1
    turned k d n = omega arith

-- 1 over a / b is b / a
pub inverse_quotient : (a b : ℕ) → 0 < a → inverse (a ÷ b) ≈ max 1 b ÷ a
unfolding inverse ◌÷◌
inverse_quotient a b h = record { equal = let e : max 1 (a - 0) ≡ max 1 a = omega arith in rw e }

-- 1 / x is not negative, and what is 1 at least is above 0
pub inverse_not_negative : (x : Fraction) → whole 0 ≼ inverse x
unfolding inverse whole
inverse_not_negative x = record { at_most = omega arith }

pub above_zero : (x : Fraction) → whole 1 ≼ x → x.down < x.up
unfolding whole
above_zero x h = omega (arith, h.at_most, x.positive)
