-- It serves the proofs alone. Equal fractions, and a quotient whose divisor is known to be positive.
use Rattle.std.specs.Prelude.{◌≡◌, ℕ, ◌<◌}
use Rattle.fraction.specs.Fraction.{Fraction, cross}

infix 40 ◌≈◌
-- a / b
unfoldable pub over : (a b : ℕ) → 0 < b → Fraction
over a b h = record { up = a; down = 0; den = b; positive = h }

-- x = y
pub record ◌≈◌ (x y : Fraction) : Type 0 where
  pub equal : cross x y ≡ cross y x
