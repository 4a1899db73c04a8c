-- Two lists of stresses, step beside step, in ticks or in fractions: each pair is near in some way, and a pair is read off at any place.
-- The stresses of each path stand in front as `each`. Assumes nothing.
use mathlib.Core.Path.{◌≡◌, refl, ap}
use mathlib.Core.List.{List, [], ◌∷◌, ◌++◌}
use Prim.Native.Nat.{ℕ, zero, suc, ◌≤◌, ◌<◌}
use native.Mathlib.Omega.{arith}
use lib.ListN.{length, get_or}
use Rattle.tolerance.specs.Demand.{each}

pub data Beside {A : Type 0} (Near : A → A → Type 0) : List A → List A → Type 0 where
  no_step : Beside Near [] []
  a_step : {x y : A} {xs ys : List A} → Near x y → Beside Near xs ys → Beside Near (x ∷ xs) (y ∷ ys)

module _ {A : Type 0} {Near : A → A → Type 0} where
  pub beside_at : {xs ys : List A} → Beside Near xs ys → (i : ℕ) (d : A) → i < length xs → Near (get_or xs i d) (get_or ys i d)
  beside_at no_step i d h = absurd (omega arith)
  beside_at (a_step near beside) zero d h = near
  beside_at (a_step near beside) (suc i) d h = beside_at beside i d (omega arith)

  pub beside_lengths : {xs ys : List A} → Beside Near xs ys → length ys ≡ length xs
  beside_lengths no_step = refl
  beside_lengths (a_step near beside) = ap suc (beside_lengths beside)

  pub beside_append : {xs ys zs ws : List A} → Beside Near xs ys → Beside Near zs ws → Beside Near (xs ++ zs) (ys ++ ws)
  beside_append no_step behind = behind
  beside_append (a_step near beside) behind = a_step near (beside_append beside behind)

  pub beside_each : (f g : ℕ → A) (count : ℕ) → ((j : ℕ) → j ≤ count → Near (f j) (g j)) → Beside Near (each count f) (each count g)
  unfolding each
  beside_each f g zero near = no_step
  beside_each f g (suc count) near =
      beside_append (beside_each f g count (λ j h. near j (omega arith))) (a_step (near (suc count) (omega arith)) no_step)
