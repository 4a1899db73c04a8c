-- The promise rests on it. Document 01: "A fraction is a whole number over a positive one, and two are compared by cross products." The
-- whole number is a difference of two naturals, up − down, so that every law of fractions is one of + and × on naturals.
use Rattle.std.specs.Prelude.{cond, ℕ, ◌+◌, ◌-◌, ◌*◌, ◌≤◌, ◌<◌, max, leb}
use Rattle.std.proofs.Common.{mul-pos, lit<}
use Rattle.std.proofs.Math.Nat.{le-max_left}

infix 40 ◌≼◌
infixl 75 ◌⊕◌ ◌⊖◌
infixl 80 ◌⊗◌
infixl 85 ◌÷◌
-- (up − down) / den
pub record Fraction : Type 0 where
  pub up : ℕ
  pub down : ℕ
  pub den : ℕ
  pub positive : 0 < den

-- n / 1
unfoldable pub whole : ℕ → Fraction
whole n = record { up = n; down = 0; den = 1; positive = lit< tt }

unfoldable pub ◌⊕◌ : Fraction → Fraction → Fraction
x ⊕ y = record {
  up = x.up * y.den + y.up * x.den;
  down = x.down * y.den + y.down * x.den;
  den = x.den * y.den;
  positive = mul-pos x.positive y.positive;
}

unfoldable pub opposite : Fraction → Fraction
opposite x = record { up = x.down; down = x.up; den = x.den; positive = x.positive }

unfoldable pub ◌⊖◌ : Fraction → Fraction → Fraction
x ⊖ y = x ⊕ opposite y

unfoldable pub ◌⊗◌ : Fraction → Fraction → Fraction
x ⊗ y = record {
  up = x.up * y.up + x.down * y.down;
  down = x.up * y.down + x.down * y.up;
  den = x.den * y.den;
  positive = mul-pos x.positive y.positive;
}

-- quotients without rounding: a divisor of 0 would read 1 here; no definition has one for an accepted member
pub at_least_one : (b : ℕ) → 0 < max 1 b
at_least_one b = le-max_left 1 b

-- a / b
unfoldable pub ◌÷◌ : ℕ → ℕ → Fraction
a ÷ b = record { up = a; down = 0; den = max 1 b; positive = at_least_one b }

-- 1 / x, for an x above 0
unfoldable pub inverse : Fraction → Fraction
inverse x = record { up = x.den; down = 0; den = max 1 (x.up - x.down); positive = at_least_one (x.up - x.down) }

-- x ≤ y by cross products is (up − down of x) · (den of y) ≤ (up − down of y) · (den of x). What one side takes off the other
-- adds instead, and each side is a natural: x's is `cross x y`, y's is `cross y x`.
abbrev pub cross : Fraction → Fraction → ℕ
cross x y = x.up * y.den + y.down * x.den

-- x ≤ y
pub record ◌≼◌ (x y : Fraction) : Type 0 where
  pub at_most : cross x y ≤ cross y x

unfoldable pub larger : Fraction → Fraction → Fraction
larger x y = cond (leb (cross x y) (cross y x)) y x

-- x and y differ by at most e
pub record Within (e x y : Fraction) : Type 0 where
  pub above : x ≼ y ⊕ e
  pub below : y ≼ x ⊕ e
