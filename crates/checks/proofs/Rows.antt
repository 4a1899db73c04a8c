-- A row of checks in parts, as the code makes them: behind a part that holds the later part decides, and a part that fails gives the
-- row's place. By cases on the first check. Assumes nothing.
use mathlib.Core.Path.{◌≡◌, refl}
use mathlib.Core.Bool.{Bool, true, false, cond}
use mathlib.Core.List.{List, [], ◌∷◌, ◌++◌}
use Prim.Native.Nat.{ℕ}
use Rattle.std.specs.Prelude.{Result, Ok, Err}
use Rattle.checks.specs.Rows.{Check, at, checked}

-- what the later part gives, where the earlier one holds
abbrev pub before : Result (Unit {0}) ℕ → Result (Unit {0}) ℕ → Result (Unit {0}) ℕ
before (Ok held) later = later
before (Err place) later = Err place

pub in_parts : (one other : List Check) → checked (one ++ other) ≡ before (checked one) (checked other)
unfolding checked
in_parts [] other = refl
in_parts (check ∷ checks) other = by check.holds (in_parts checks other)
  where
    by : (holds : Bool) → checked (checks ++ other) ≡ before (checked checks) (checked other)
        → cond holds (checked (checks ++ other)) (Err check.place)
        ≡ before (cond holds (checked checks) (Err check.place)) (checked other)
    by true e = e
    by false e = refl

pub first : (check : Check) (checks : List Check) → checked (check ∷ checks) ≡ before (checked (check ∷ [])) (checked checks)
first check checks = in_parts (check ∷ []) checks

-- a check that passes holds
pub held : (place : ℕ) (holds : Bool) → checked (at place holds ∷ []) ≡ Ok tt → holds ≡ true
unfolding checked
held place true e = refl
held place false e = cc

-- what a loop cites that adds up what its checks let pass
pub ruleset one_by_one = (first, held)
