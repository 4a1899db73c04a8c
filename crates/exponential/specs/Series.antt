-- The promise rests on it. The series of e to the power −x in fractions, and the factors that it allows: document 02, W3.
use Rattle.std.specs.Prelude.{ℕ, zero, suc}
use Rattle.fraction.specs.Fraction.{Fraction, whole, ◌⊕◌, ◌⊖◌, ◌⊗◌, ◌÷◌, ◌≼◌, Within}
use Rattle.ticks.specs.Ticks.{T}

-- x^i / i!
unfoldable pub term : ℕ → Fraction → Fraction
term zero x = whole 1
term (suc i) x = term i x ⊗ x ⊗ (1 ÷ suc i)

-- "the series' sums": of (−x)^i / i! for i from 0 up to the power m
unfoldable pub sum_to : ℕ → Fraction → Fraction
sum_to zero x = whole 1
sum_to (suc m) x = sum_to m x ⊕ term (suc m) (whole 0 ⊖ x)

-- z lies between a and b, whichever of them is the larger
pub data Between (z a b : Fraction) : Type 0 where
  upward : a ≼ z → z ≼ b → Between z a b
  downward : b ≼ z → z ≼ a → Between z a b

-- "any factor between a pair of neighbouring sums that are no further apart than 1/T"
pub record BySeries (x factor : Fraction) : Type 0 where
  pub power : ℕ
  pub apart : Within (1 ÷ T) (sum_to power x) (sum_to (suc power) x)
  pub between : Between factor (sum_to power x) (sum_to (suc power) x)
