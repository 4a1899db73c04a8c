-- What a row says of which no check fails: each check holds; and what a check that holds says. Assumes nothing.
use mathlib.Core.Path.{◌≡◌, refl}
use mathlib.Core.Bool.{Bool, true, false, not, ◌||◌, cond}
use mathlib.Core.List.{List, [], ◌∷◌, ◌++◌}
use Prim.Native.Nat.{ℕ}
use Rattle.std.specs.Prelude.{Result, Ok, Err}
use Rattle.checks.specs.Rows.{Check, checked}

abbrev pub Holds : List Check → Type 0
Holds [] = Unit
Holds (check ∷ checks) = (check.holds ≡ true) × Holds checks

-- a check that does not fail, and those behind it
one_holds : (holds : Bool) (place : ℕ) (later : Result (Unit {0}) ℕ) → cond holds later (Err place) ≡ Ok tt
    → (holds ≡ true) × (later ≡ Ok tt)
one_holds true place later e = (refl, e)
one_holds false place later e = cc

pub all_hold : (checks : List Check) → checked checks ≡ Ok tt → Holds checks
unfolding checked
all_hold [] e = tt
all_hold (check ∷ checks) e = let first = one_holds check.holds check.place (checked checks) e in (first.0, all_hold checks first.1)

-- the first part of a row holds, and none of the later part fails
pub part_holds : (one other : List Check) → checked (one ++ other) ≡ Ok tt → Holds one × (checked other ≡ Ok tt)
unfolding checked
part_holds [] other e = (tt, e)
part_holds (check ∷ checks) other e =
    let first = one_holds check.holds check.place (checked (checks ++ other)) e in
    let later = part_holds checks other first.1 in
    ((first.0, later.0), later.1)

pub other_true : (a b : Bool) → (a || b) ≡ true → a ≡ false → b ≡ true
other_true true b e f = cc
other_true false b e f = e

pub asked_true : (a b : Bool) → (not a || b) ≡ true → a ≡ true → b ≡ true
asked_true true b e f = e
asked_true false b e f = cc
