-- Laws of ranges, of counts and of amounts, each by cases or along its list. Assumes nothing.
use mathlib.Core.Path.{◌≡◌, refl, ap}
use mathlib.Core.Bool.{Bool, true, false, cond, and-eq-true_iff}
use mathlib.Core.List.{List, [], ◌∷◌, ◌++◌}
use Prim.Native.Nat.{ℕ, ◌≤◌}
use native.Mathlib.Omega.{arith}
use lib.Dec.{leb}
use lib.ListN.{length}
use borrow.Author.Tests.{leb-true}
use Rattle.std.specs.Prelude.{Option, Some, None, Ok, Err}
use Rattle.fields.specs.declared.refusal.Refusal.TheVariants.{Ranges}
use Rattle.fields.specs.Limits.{Range, within, count_within}
use Rattle.fields.specs.Outcomes.{numbers_in}

pub in_range : (low high x : ℕ) → within low high x ≡ true → (low ≤ x) × (x ≤ high)
in_range low high x e = let b = (and-eq-true_iff (leb low x) (leb x high)).0 e in (leb-true low x b.0, leb-true x high b.1)

-- a count that is not refused
pub record CountedWithin (range : Range) (given count : ℕ) : Type 0 where
  pub is : given ≡ count
  pub least : range.low ≤ count
  pub most : count ≤ range.high

pub counted_within : (field : ℕ) (range : Range) (given : ℕ) {count : ℕ} → count_within field range given ≡ Ok count
    → CountedWithin range given count
counted_within field range given {count} = by (within range.low range.high given) refl
  where
    by : (lies : Bool) → within range.low range.high given ≡ lies → cond lies (Ok given) (Err (Ranges field)) ≡ Ok count
        → CountedWithin range given count
    by true lies e =
        let both = in_range range.low range.high given lies in
        let is : given ≡ count = cc in
        record { is = is; least = omega (arith, both.0); most = omega (arith, both.1) }
    by false lies e = cc

-- behind amounts that are all read stand the numbers of the later ones
pub numbers_append : (xs ys : List (Option ℕ)) → length (numbers_in xs) ≡ length xs
    → numbers_in (xs ++ ys) ≡ numbers_in xs ++ numbers_in ys
unfolding numbers_in
numbers_append [] ys h = refl
numbers_append (Some n ∷ xs) ys h = ap (λ (l : List ℕ). n ∷ l) (numbers_append xs ys (omega arith))
numbers_append (None ∷ xs) ys h = absurd (omega arith)
