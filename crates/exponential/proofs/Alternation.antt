-- The sums alternate: for 0 ≼ x ≼ 2 every later sum lies between two neighbouring ones. The sum up to j ≥ m is the sum up to m and λ times
-- the next term, with a λ between 0 and 1, `ratio`: from term to term λ is 1 less a part of the λ after it, for x / k ≼ 1 from k = 2 on.
-- So the sum lies on the way from the one neighbour to the other, whichever sign the term has. Assumes nothing.
use mathlib.Core.Path.{◌≡◌}
use mathlib.Core.List.{[], ◌∷◌}
use mathlib.Core.Logic.{⊎_elim}
use Prim.Native.Nat.{ℕ, zero, suc, ◌+◌, ◌-◌, ◌≤◌}
use native.Mathlib.Omega.{arith}
use Rattle.fraction.specs.Fraction.{Fraction, whole, ◌⊕◌, ◌⊖◌, ◌⊗◌, ◌≼◌}
use Rattle.fraction.specs.Equality.{◌≈◌}
use Rattle.fraction.proofs.Laws.{≈-sym, ≼_refl, ≼_trans, ≼-total, ◌⨾◌}
use Rattle.fraction.proofs.Floors.{whole_order, whole_not_negative}
use Rattle.fraction.proofs.Certificate.{num, ◌⊞◌, ◌⊟◌, ◌⊠◌, ◌⊑◌, ◌≐◌, ◌⊛◌, ◌⊢◌, follows, identity}
use Rattle.exponential.specs.Series.{term, sum_to, Between, upward, downward}
use Rattle.exponential.proofs.Sums.{part, part_not_negative, part_cancels, sum_suc, exact_turn}

-- x / k ≼ 1 where x ≼ k
pub part_most : (i : ℕ) (x : Fraction) → x ≼ whole (suc i) → x ⊗ part i ≼ whole 1
part_most i x h = follows (x ∷ part i ∷ whole (suc i) ∷ [])
    (λ X Q K. (num 0 ⊑ Q) ⊛ (X ⊑ K) ∷ K ⊠ Q ≐ num 1 ∷ [] ⊢ X ⊠ Q ⊑ num 1) tt
    (part_not_negative i, h) (part_cancels i)

-- the λ of the sum up to m + n
ratio : Fraction → ℕ → ℕ → Fraction
ratio x m zero = whole 0
ratio x m (suc n) = exact_turn (suc m) x (ratio x (suc m) n)

sum_on : (n m j : ℕ) (x : Fraction) → m + n ≡ j → sum_to j x ≈ sum_to m x ⊕ term (suc m) (whole 0 ⊖ x) ⊗ ratio x m n
unfolding ratio sum_to term
sum_on zero m j x e =
    let same : j ≡ m = omega arith in
    rw same (identity (sum_to m x ∷ term (suc m) (whole 0 ⊖ x) ∷ []) (λ A B. A ≐ A ⊞ B ⊠ num 0) tt)
sum_on (suc n) m j x e =
    sum_on n (suc m) j x (omega arith)
    ⨾ identity (sum_to m x ∷ term (suc m) (whole 0 ⊖ x) ∷ x ∷ part (suc m) ∷ ratio x (suc m) n ∷ [])
    (λ A B X Q R. A ⊞ B ⊞ B ⊠ (num 0 ⊟ X) ⊠ Q ⊠ R ≐ A ⊞ B ⊠ (num 1 ⊟ X ⊠ Q ⊠ R)) tt

-- what lies a part of the way from a to a + v
on_the_way : (z a v l : Fraction) → z ≈ a ⊕ v ⊗ l → whole 0 ≼ l → l ≼ whole 1 → Between z a (a ⊕ v)
on_the_way z a v l e l≥0 l≤1 = ⊎_elim
    (λ v≥0. upward
    (follows (z ∷ a ∷ v ∷ l ∷ []) (λ Z A B L. A ⊞ B ⊠ L ≐ Z ∷ (num 0 ⊑ L) ⊛ (num 0 ⊑ B) ∷ [] ⊢ A ⊑ Z) tt (≈-sym e) (l≥0, v≥0))
    (follows (z ∷ a ∷ v ∷ l ∷ []) (λ Z A B L. Z ≐ A ⊞ B ⊠ L ∷ (L ⊑ num 1) ⊛ (num 0 ⊑ B) ∷ [] ⊢ Z ⊑ A ⊞ B) tt e (l≤1, v≥0)))
    (λ v≤0. downward
    (follows (z ∷ a ∷ v ∷ l ∷ []) (λ Z A B L. A ⊞ B ⊠ L ≐ Z ∷ (L ⊑ num 1) ⊛ (B ⊑ num 0) ∷ [] ⊢ A ⊞ B ⊑ Z) tt (≈-sym e) (l≤1, v≤0))
    (follows (z ∷ a ∷ v ∷ l ∷ []) (λ Z A B L. Z ≐ A ⊞ B ⊠ L ∷ (num 0 ⊑ L) ⊛ (B ⊑ num 0) ∷ [] ⊢ Z ⊑ A) tt e (l≥0, v≤0)))
    (≼-total (whole 0) v)

module _ (x : Fraction) (x≥0 : whole 0 ≼ x) (x≤2 : x ≼ whole 2) where
  ratio_between : (n m : ℕ) → (whole 0 ≼ ratio x m n) × (ratio x m n ≼ whole 1)
  unfolding ratio
  ratio_between zero m = (≼_refl, whole_not_negative 1)
  ratio_between (suc n) m = next (ratio_between n (suc m))
    where
      q≤1 : x ⊗ part (suc m) ≼ whole 1
      q≤1 = part_most (suc m) x (≼_trans x≤2 (whole_order (omega arith)))

      next : {r : Fraction} → (whole 0 ≼ r) × (r ≼ whole 1) →
          (whole 0 ≼ exact_turn (suc m) x r) × (exact_turn (suc m) x r ≼ whole 1)
      next {r} (r≥0, r≤1) = (
        follows (x ∷ part (suc m) ∷ r ∷ [])
            (λ X Q R. (num 0 ⊑ R) ⊛ (X ⊠ Q ⊑ num 1) ∷ R ⊑ num 1 ∷ [] ⊢ num 0 ⊑ num 1 ⊟ X ⊠ Q ⊠ R) tt (r≥0, q≤1) r≤1,
        follows (x ∷ part (suc m) ∷ r ∷ [])
            (λ X Q R. (num 0 ⊑ X) ⊛ (num 0 ⊑ Q) ⊛ (num 0 ⊑ R) ∷ [] ⊢ num 1 ⊟ X ⊠ Q ⊠ R ⊑ num 1) tt
            ((x≥0, part_not_negative (suc m)), r≥0),
      )

  pub alternates : (m j : ℕ) → m ≤ j → Between (sum_to j x) (sum_to m x) (sum_to (suc m) x)
  alternates m j h =
      let (l≥0, l≤1) = ratio_between (j - m) m in
      rw sum_suc (on_the_way _ _ _ _ (sum_on (j - m) m j x (omega arith)) l≥0 l≤1)
