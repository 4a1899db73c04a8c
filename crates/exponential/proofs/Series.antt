-- What is claimed of the factor and of the series, put together; and how far the factor, in units of 1/T, lies from any that the series
-- allows at an x somewhat above X / T: its own error, what T x lies above X, for the 15th sum has slope 1 at the most, and 1 for what is
-- allowed. Assumes nothing.
use mathlib.Core.Path.{refl}
use mathlib.Core.List.{[], ◌∷◌}
use Prim.Native.Nat.{ℕ, ◌*◌, ◌≤◌}
use native.Mathlib.Omega.{arith}
use lib.Dec.{lit<, lit≤}
use Rattle.fraction.specs.Fraction.{Fraction, whole, ◌⊕◌, ◌⊖◌, ◌⊗◌, ◌÷◌, ◌≼◌, Within}
use Rattle.fraction.specs.Equality.{◌≈◌}
use Rattle.fraction.proofs.Laws.{≈-sym, ≼_trans, ≼-of-≈}
use Rattle.fraction.proofs.Floors.{whole_not_negative, whole_cancel}
use Rattle.fraction.proofs.Quotients.{quotient_not_negative, quotient_most, quotient_order, quotient_times}
use Rattle.fraction.proofs.Distances.{within_sym, within_trans, within_weaken, within_scaled}
use Rattle.fraction.proofs.Certificate.{num, ◌⊞◌, ◌⊟◌, ◌⊠◌, ◌⊑◌, ◌≐◌, ◌⊛◌, ◌⊢◌, follows}
use Rattle.ticks.specs.Ticks.{T}
use Rattle.fields.specs.Limits.{most_friction}
use Rattle.exponential.specs.Factor.{powers, factor, turns}
use Rattle.exponential.specs.Series.{sum_to, BySeries}
use Rattle.exponential.specs.Claims.{Claims}
use Rattle.exponential.proofs.Alternation.{alternates}
use Rattle.exponential.proofs.Allowed.{sixteenth_near, some_allowed, allowed_near}
use Rattle.exponential.proofs.Rounding.{factor_within}
use Rattle.exponential.proofs.Slow.{sum_slow}

-- what the factor is off by, in units of 1/T
abbrev pub factor_error : Fraction
factor_error = 5 ÷ 2

error_of_16 : 154 ÷ 64 ⊕ whole T ⊗ (1 ÷ (16 * T)) ≼ factor_error
unfolding ◌÷◌ whole ◌⊕◌ ◌⊗◌
error_of_16 = record { at_most = omega arith }

module _ (X : ℕ) (most : X ≤ most_friction) where
  x≥0 : whole 0 ≼ X ÷ T
  x≥0 = quotient_not_negative X T

  x≤2 : X ÷ T ≼ whole 2
  x≤2 = quotient_most X T 2 (lit< tt) (omega arith)

  error_15 : Within factor_error (whole (factor X)) (whole T ⊗ sum_to powers (X ÷ T))
  error_15 = within_weaken (quotient_order 154 64 5 2 (lit< tt) (lit< tt) (lit≤ tt)) (factor_within X most)

  error_16 : Within factor_error (whole (factor X)) (whole T ⊗ sum_to 16 (X ÷ T))
  error_16 = within_weaken error_of_16
      (within_trans (factor_within X most)
      (within_scaled (whole T) (whole_not_negative T) (sixteenth_near (X ÷ T) x≥0 x≤2)))

  -- y is X before its parts are rounded down
  module _ (y above φ : Fraction) (low : whole X ≼ y) (high : y ≼ whole X ⊕ above) (y≤2 : y ⊗ (1 ÷ T) ≼ whole 2)
      (allowed : BySeries (y ⊗ (1 ÷ T)) φ) where
    y≥0 : whole 0 ≼ y
    y≥0 = ≼_trans (whole_not_negative X) low

    unit : whole T ⊗ (1 ÷ T) ≈ whole 1
    unit = quotient_times 1 T (lit< tt)

    order : X ÷ T ≼ y ⊗ (1 ÷ T)
    order = whole_cancel T (lit< tt) (follows (whole T ∷ 1 ÷ T ∷ whole X ∷ X ÷ T ∷ y ∷ [])
        (λ N Q X A Y. N ⊠ A ≐ X ∷ X ⊑ Y ∷ (num 0 ⊑ Y) ⊛ (num 1 ≐ N ⊠ Q) ∷ [] ⊢ N ⊠ A ⊑ N ⊠ (Y ⊠ Q)) tt
        (quotient_times X T (lit< tt)) low (y≥0, ≈-sym unit))

    moved : whole T ⊗ (y ⊗ (1 ÷ T) ⊖ X ÷ T) ≼ above
    moved = follows (whole T ∷ 1 ÷ T ∷ whole X ∷ X ÷ T ∷ y ∷ above ∷ [])
        (λ N Q X A Y D. X ≐ N ⊠ A ∷ Y ⊑ X ⊞ D ∷ (num 0 ⊑ Y) ⊛ (N ⊠ Q ≐ num 1) ∷ [] ⊢ N ⊠ (Y ⊠ Q ⊟ A) ⊑ D) tt
        (≈-sym (quotient_times X T (lit< tt))) high (y≥0, unit)

    pub factor_near : Within (factor_error ⊕ (above ⊕ whole 1)) (whole (factor X)) (whole T ⊗ φ)
    factor_near =
        within_trans error_15
        (within_trans
        (within_weaken moved (within_scaled (whole T) (whole_not_negative T) (sum_slow (X ÷ T) (y ⊗ (1 ÷ T)) x≥0 order y≤2)))
        (within_weaken (≼-of-≈ unit)
        (within_scaled (whole T) (whole_not_negative T)
        (within_sym (allowed_near (y ⊗ (1 ÷ T)) (≼_trans x≥0 order) y≤2 allowed)))))

pub series : Claims
unfolding factor turns
series = record {
  error_15 = error_15;
  error_16 = error_16;
  later = alternates;
  allowed = λ x x≥0 x≤2 φ. allowed_near x x≥0 x≤2;
  some_allowed = some_allowed;
  lifted = refl;
}
