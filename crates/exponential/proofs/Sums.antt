-- The sums of the series by Horner's rule. `run k x s` is what the turns of k, k − 1, .. , 1 make of s without rounding, each turn making
-- 1 − (x / k) s of it; from s = 1 on they make the sum up to the power k. One identity joins the two, with s free, and goes by the number
-- of turns. Assumes nothing.
use mathlib.Core.Path.{◌≡◌, refl}
use mathlib.Core.List.{[], ◌∷◌}
use Prim.Native.Nat.{ℕ, zero, suc}
use native.Mathlib.Omega.{arith}
use Rattle.fraction.specs.Fraction.{Fraction, whole, ◌⊕◌, ◌⊖◌, ◌⊗◌, ◌÷◌, ◌≼◌}
use Rattle.fraction.specs.Equality.{◌≈◌}
use Rattle.fraction.proofs.Laws.{≈-sym, ≈-of-≼}
use Rattle.fraction.proofs.Quotients.{quotient_not_negative, quotient_times}
use Rattle.fraction.proofs.Certificate.{num, ◌⊞◌, ◌⊟◌, ◌⊠◌, ◌⊑◌, ◌≐◌, ◌⊢◌, follows}
use Rattle.exponential.specs.Series.{term, sum_to}

-- 1 / k for k = i + 1
abbrev pub part : ℕ → Fraction
part i = 1 ÷ suc i

pub part_not_negative : (i : ℕ) → whole 0 ≼ part i
part_not_negative i = quotient_not_negative 1 (suc i)

pub part_cancels : (i : ℕ) → whole (suc i) ⊗ part i ≈ whole 1
part_cancels i = quotient_times 1 (suc i) (omega arith)

-- ---- the recursions, for proofs that leave `term` and `sum_to` shut

pub term_zero : (x : Fraction) → term 0 x ≡ whole 1
unfolding term
term_zero x = refl

pub term_suc : (i : ℕ) (x : Fraction) → term (suc i) x ≡ term i x ⊗ x ⊗ part i
unfolding term
term_suc i x = refl

pub sum_suc : (m : ℕ) (x : Fraction) → sum_to (suc m) x ≡ sum_to m x ⊕ term (suc m) (whole 0 ⊖ x)
unfolding sum_to
sum_suc m x = refl

-- ---- Horner's rule

-- the turn of k = i + 1
abbrev pub exact_turn : ℕ → Fraction → Fraction → Fraction
exact_turn i x s = whole 1 ⊖ x ⊗ part i ⊗ s

unfoldable pub run : ℕ → Fraction → Fraction → Fraction
run zero x s = s
run (suc i) x s = run i x (exact_turn i x s)

-- what k turns make of s: the sum up to the power k, and (−x)^k / k! · (s − 1)
run_series : (k : ℕ) (x s : Fraction) → run k x s ⊕ term k (whole 0 ⊖ x) ≈ sum_to k x ⊕ term k (whole 0 ⊖ x) ⊗ s
unfolding run term sum_to
run_series zero x s = ≈-of-≼
    (follows (s ∷ []) (λ A. [] ⊢ A ⊞ num 1 ⊑ num 1 ⊞ num 1 ⊠ A) tt)
    (follows (s ∷ []) (λ A. [] ⊢ num 1 ⊞ num 1 ⊠ A ⊑ A ⊞ num 1) tt)
run_series (suc i) x s = one_more _ _ _ (run_series i x (exact_turn i x s))
  where
    one_more : (r v w : Fraction) → r ⊕ v ≈ w ⊕ v ⊗ exact_turn i x s →
        r ⊕ v ⊗ (whole 0 ⊖ x) ⊗ part i ≈ w ⊕ v ⊗ (whole 0 ⊖ x) ⊗ part i ⊕ v ⊗ (whole 0 ⊖ x) ⊗ part i ⊗ s
    one_more r v w e = ≈-of-≼
        (follows (r ∷ v ∷ w ∷ x ∷ part i ∷ s ∷ [])
        (λ R U W X Q A. R ⊞ U ≐ W ⊞ U ⊠ (num 1 ⊟ X ⊠ Q ⊠ A) ∷ []
        ⊢ R ⊞ U ⊠ (num 0 ⊟ X) ⊠ Q ⊑ W ⊞ U ⊠ (num 0 ⊟ X) ⊠ Q ⊞ U ⊠ (num 0 ⊟ X) ⊠ Q ⊠ A) tt e)
        (follows (r ∷ v ∷ w ∷ x ∷ part i ∷ s ∷ [])
        (λ R U W X Q A. W ⊞ U ⊠ (num 1 ⊟ X ⊠ Q ⊠ A) ≐ R ⊞ U ∷ []
        ⊢ W ⊞ U ⊠ (num 0 ⊟ X) ⊠ Q ⊞ U ⊠ (num 0 ⊟ X) ⊠ Q ⊠ A ⊑ R ⊞ U ⊠ (num 0 ⊟ X) ⊠ Q) tt (≈-sym e))

pub run_is_sum : (k : ℕ) (x : Fraction) → run k x (whole 1) ≈ sum_to k x
run_is_sum k x = from _ _ _ (run_series k x (whole 1))
  where
    from : (r v w : Fraction) → r ⊕ v ≈ w ⊕ v ⊗ whole 1 → r ≈ w
    from r v w e = ≈-of-≼
        (follows (r ∷ v ∷ w ∷ []) (λ R U W. R ⊞ U ≐ W ⊞ U ⊠ num 1 ∷ [] ⊢ R ⊑ W) tt e)
        (follows (r ∷ v ∷ w ∷ []) (λ R U W. W ⊞ U ⊠ num 1 ≐ R ⊞ U ∷ [] ⊢ W ⊑ R) tt (≈-sym e))
