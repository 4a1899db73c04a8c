-- Two lists of stresses, step beside step: the core's and the exact ones. `Chain step k` says that the two stresses after each step
-- are near, k being the steps counted before these; a list is read off it at any place. The path's stresses stand in front as `each`, so
-- each law has what follows the path as a parameter, and goes by the number of segments. Assumes nothing.
use mathlib.Core.Path.{◌≡◌, refl, ap, ◌∙◌}
use mathlib.Core.List.{List, [], ◌∷◌, ◌++◌, append_assoc}
use mathlib.Core.Logic.{⊎_elim}
use Prim.Native.Nat.{ℕ, zero, suc, ◌+◌, ◌*◌, ◌<◌}
use native.Mathlib.Nat.{mul-le-mul_right, add-zero, eq-or-lt_of_le, le_of_suc-le-suc}
use native.Mathlib.Omega.{arith}
use lib.ListN.{length, get_or, length-append}
use lib.Seq.{get_or-append-add}
use Rattle.fraction.specs.Fraction.{Fraction, whole, Within}
use Rattle.fraction.proofs.Floors.{whole_order}
use Rattle.fraction.proofs.Distances.{within_weaken}
use Rattle.tolerance.specs.Demand.{each}

pub data Chain (step : ℕ) : ℕ → List ℕ → List Fraction → Type 0 where
  no_step : {k : ℕ} → Chain step k [] []
  one_step : {k x : ℕ} {y : Fraction} {xs : List ℕ} {ys : List Fraction} → Within (whole (suc k * step)) (whole x) y
      → Chain step (suc k) xs ys → Chain step k (x ∷ xs) (y ∷ ys)

pub chain_at : {step k : ℕ} {xs : List ℕ} {ys : List Fraction} → Chain step k xs ys → (i : ℕ) → i < length xs
    → Within (whole ((k + suc i) * step)) (whole (get_or xs i 0)) (get_or ys i (whole 0))
chain_at no_step i h = absurd (omega arith)
chain_at {step} {k} (one_step near chain) zero h =
    within_weaken (whole_order (mul-le-mul_right step (omega arith))) near
chain_at {step} {k} (one_step near chain) (suc i) h =
    within_weaken (whole_order (mul-le-mul_right step (omega arith))) (chain_at chain i (omega arith))

pub chain_lengths : {step k : ℕ} {xs : List ℕ} {ys : List Fraction} → Chain step k xs ys → length ys ≡ length xs
chain_lengths no_step = refl
chain_lengths (one_step near chain) = ap suc (chain_lengths chain)

-- ---- f 1, .. , f count, and what follows

module _ {A : Type 0} (f : ℕ → A) where
  -- one more of them is one more that follows
  each_more : (count : ℕ) (rest : List A) → each (suc count) f ++ rest ≡ each count f ++ (f (suc count) ∷ rest)
  unfolding each
  each_more count rest = append_assoc (each count f) (f (suc count) ∷ []) rest

  each_length : (count : ℕ) → length (each count f) ≡ count
  unfolding each
  each_length zero = refl
  each_length (suc count) = omega (arith, length-append (each count f) (f (suc count) ∷ []), each_length count)

  pub each_length_then : (count : ℕ) (rest : List A) → length (each count f ++ rest) ≡ count + length rest
  each_length_then count rest = length-append (each count f) rest ∙ ap (λ n. n + length rest) (each_length count)

  -- one that follows, and one of them
  pub each_then : (count : ℕ) (rest : List A) (i : ℕ) (d : A) → get_or (each count f ++ rest) (count + i) d ≡ get_or rest i d
  each_then count rest i d = rw each_length at (get_or-append-add (each count f) rest i d)

  pub each_at : (count : ℕ) (rest : List A) (j : ℕ) (d : A) → j < count → get_or (each count f ++ rest) j d ≡ f (suc j)
  each_at zero rest j d h = absurd (omega arith)
  each_at (suc count) rest j d h =
      rw (each_more count rest)
      (⊎_elim (λ (same : j ≡ count). rw same (rw add-zero at (each_then count (f (suc count) ∷ rest) 0 d)))
      (λ (less : j < count). each_at count (f (suc count) ∷ rest) j d less)
      (eq-or-lt_of_le (le_of_suc-le-suc h)))
