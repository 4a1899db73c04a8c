-- What a factor of friction does to two stresses in fractions: it brings them no further apart. Up to an exponent of 2 every sum of the
-- series lies between the first two, 1 and 1 − x, and so between −1 and 1; and so does what lies between two sums. Assumes nothing.
use mathlib.Core.List.{[], ◌∷◌}
use mathlib.Core.Logic.{⊎_elim}
use Prim.Native.Nat.{ℕ, suc}
use native.Mathlib.Omega.{arith}
use Rattle.fraction.specs.Fraction.{Fraction, whole, ◌⊕◌, ◌⊗◌, ◌≼◌, Within}
use Rattle.fraction.proofs.Laws.{≼_refl, ≼_trans, ≼-total, ⊕-mono}
use Rattle.fraction.proofs.Floors.{whole_not_negative}
use Rattle.fraction.proofs.Distances.{within_sym}
use Rattle.fraction.proofs.Certificate.{num, ◌⊞◌, ◌⊟◌, ◌⊠◌, ◌⊑◌, ◌≐◌, ◌⊛◌, ◌⊢◌, follows}
use Rattle.exponential.specs.Series.{term, sum_to, Between, upward, downward, BySeries}
use Rattle.exponential.proofs.Sums.{part, part_not_negative, part_cancels}
use Rattle.exponential.proofs.Series.{series}

-- z lies between −1 and 1
pub record Contracts (z : Fraction) : Type 0 where
  pub most : z ≼ whole 1
  pub least : whole 0 ≼ z ⊕ whole 1

between_contracts : {z a b : Fraction} → Contracts a → Contracts b → Between z a b → Contracts z
between_contracts a b (upward low high) =
    record { most = ≼_trans high b.most; least = ≼_trans a.least (⊕-mono low ≼_refl) }
between_contracts a b (downward low high) =
    record { most = ≼_trans high a.most; least = ≼_trans b.least (⊕-mono low ≼_refl) }

-- ---- the factors

module _ (x : Fraction) (x≥0 : whole 0 ≼ x) (x≤2 : x ≼ whole 2) where
  first_contracts : Contracts (sum_to 0 x)
  unfolding sum_to
  first_contracts = record {
    most = ≼_refl;
    least = follows (x ∷ []) (λ X. num 0 ⊑ num 1 ∷ num 0 ⊑ num 1 ∷ [] ⊢ num 0 ⊑ num 1 ⊞ num 1) tt
        (whole_not_negative 1) (whole_not_negative 1);
  }

  -- 1 − x
  second_contracts : Contracts (sum_to 1 x)
  unfolding sum_to term
  second_contracts = record {
    most = follows (x ∷ part 0 ∷ [])
        (λ X Q. (num 0 ⊑ X) ⊛ (num 0 ⊑ Q) ∷ [] ⊢ num 1 ⊞ num 1 ⊠ (num 0 ⊟ X) ⊠ Q ⊑ num 1) tt
        (x≥0, part_not_negative 0);
    least = follows (x ∷ part 0 ∷ [])
        (λ X Q. (num 0 ⊑ X) ⊛ (num 1 ⊠ Q ≐ num 1) ∷ X ⊑ num 2 ∷ [] ⊢ num 0 ⊑ num 1 ⊞ num 1 ⊠ (num 0 ⊟ X) ⊠ Q ⊞ num 1) tt
        (x≥0, part_cancels 0) x≤2;
  }

  sum_contracts : (j : ℕ) → Contracts (sum_to j x)
  sum_contracts j = between_contracts first_contracts second_contracts (series.later x x≥0 x≤2 0 j (omega arith))

  pub factor_contracts : {φ : Fraction} → BySeries x φ → Contracts φ
  factor_contracts allowed =
      between_contracts (sum_contracts allowed.power) (sum_contracts (suc allowed.power)) allowed.between

-- ---- two stresses

ordered_contracted : (e x y φ : Fraction) → Contracts φ → y ≼ x → x ≼ y ⊕ e → Within e (x ⊗ φ) (y ⊗ φ)
ordered_contracted e x y φ contracts y≤x near = record {
  above = follows (e ∷ x ∷ y ∷ φ ∷ [])
      (λ E X Y P. (Y ⊑ X) ⊛ (P ⊑ num 1) ∷ X ⊑ Y ⊞ E ∷ [] ⊢ X ⊠ P ⊑ Y ⊠ P ⊞ E) tt (y≤x, contracts.most) near;
  below = follows (e ∷ x ∷ y ∷ φ ∷ [])
      (λ E X Y P. (Y ⊑ X) ⊛ (num 0 ⊑ P ⊞ num 1) ∷ X ⊑ Y ⊞ E ∷ [] ⊢ Y ⊠ P ⊑ X ⊠ P ⊞ E) tt (y≤x, contracts.least) near;
}

pub contracted : {e x y φ : Fraction} → Contracts φ → Within e x y → Within e (x ⊗ φ) (y ⊗ φ)
contracted {e} {x} {y} {φ} contracts near = ⊎_elim
    (λ x≤y. within_sym (ordered_contracted e y x φ contracts x≤y near.below))
    (λ y≤x. ordered_contracted e x y φ contracts y≤x near.above)
    (≼-total x y)
