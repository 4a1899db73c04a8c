-- The theorem `series` rests on it. What document 02, W3, says of the factor and of the series.
use Rattle.std.specs.Prelude.{ℕ, suc, ◌+◌, ◌≤◌, ◌≡◌}
use Rattle.fraction.specs.Fraction.{Fraction, whole, ◌⊗◌, ◌÷◌, ◌≼◌, Within}
use Rattle.ticks.specs.Ticks.{T}
use Rattle.fields.specs.Limits.{most_friction}
use Rattle.exponential.specs.Factor.{factor}
use Rattle.exponential.specs.Series.{sum_to, Between, BySeries}

pub record Claims : Type 0 where
  -- "Its error is under three units against the series' sums up to the 15th and the 16th power": two and a half at the most
  pub error_15 : (X : ℕ) → X ≤ most_friction → Within (5 ÷ 2) (whole (factor X)) (whole T ⊗ sum_to 15 (X ÷ T))
  pub error_16 : (X : ℕ) → X ≤ most_friction → Within (5 ÷ 2) (whole (factor X)) (whole T ⊗ sum_to 16 (X ÷ T))
  -- "between which the true value lies": every later sum lies between two neighbouring ones
  pub later : (x : Fraction) → whole 0 ≼ x → x ≼ whole 2 → (m j : ℕ) → m ≤ j → Between (sum_to j x) (sum_to m x) (sum_to (suc m) x)
  -- "any factor between a pair of neighbouring sums that are no further apart than 1/T" is as near to the 15th sum, which is such a
  -- factor itself
  pub allowed : (x : Fraction) → whole 0 ≼ x → x ≼ whole 2 → (φ : Fraction) → BySeries x φ → Within (1 ÷ T) φ (sum_to 15 x)
  pub some_allowed : (x : Fraction) → whole 0 ≼ x → x ≼ whole 2 → BySeries x (sum_to 15 x)
  -- "rounding may lift the factor by some units": from this X to the next, by three
  pub lifted : factor 22428084 ≡ factor 22428083 + 3
