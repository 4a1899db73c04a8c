-- Rows one after another, "top to bottom": the first row of some, in two parts, and what is known where all hold. Assumes nothing.
use mathlib.Core.Path.{◌≡◌, refl}
use mathlib.Core.Bool.{Bool, true, false, cond}
use mathlib.Core.List.{List, [], ◌∷◌, ◌++◌}
use Prim.Native.Nat.{ℕ, ◌≤◌, ◌<◌}
use borrow.Author.Tests.{le-leb, lt-leb}
use lib.Dec.{leb}
use Rattle.std.specs.Prelude.{Result, Ok, Err}
use Rattle.fields.specs.declared.refusal.Refusal.{Refusal}
use Rattle.fields.specs.Outcomes.{OrRefusal, onward}
use Rattle.checks.specs.Rows.{Check, at, CheckRow, row, checked, refused_at, checked_by}

-- ---- the first row

pub first_row : {A : Type 0} (refusal : ℕ → Refusal) (checks : List Check) (rows : List CheckRow) (value : A)
    → checked_by (row refusal checks ∷ rows) value ≡ onward (refused_at refusal (checked checks)) (λ held. checked_by rows value)
unfolding checked_by
first_row refusal checks rows value = refl

-- below the last row
pub no_row : {A : Type 0} (value : A) → checked_by [] value ≡ Ok value
unfolding checked_by
no_row value = refl

-- a row of one check, whether a number is at most its limit
pub over : (place limit x : ℕ) → limit < x → checked (at place (leb x limit) ∷ []) ≡ Err place
unfolding checked
over place limit x h = rw (lt-leb x limit h)

pub at_most : (place limit x : ℕ) → x ≤ limit → checked (at place (leb x limit) ∷ []) ≡ Ok tt
unfolding checked
at_most place limit x h = rw (le-leb x limit h)

-- a row of one check and no more: by whether it holds
pub one_row : (refusal : ℕ → Refusal) (place : ℕ) (holds : Bool)
    → ◌≡◌ {A = OrRefusal (Unit {0})} (checked_by (row refusal (at place holds ∷ []) ∷ []) tt) (cond holds (Ok tt) (Err (refusal place)))
unfolding checked_by checked
one_row refusal place true = refl
one_row refusal place false = refl

-- what a function cites that makes rows one by one
pub ruleset rows_made = (first_row, no_row, over, at_most)

-- where a value is given, no check of the row fails, and the rows below give the value
pub record Held {A : Type 0} (checks : List Check) (rows : List CheckRow) (value given : A) : Type 0 where
  pub holds : checked checks ≡ Ok tt
  pub below : checked_by rows value ≡ Ok given

pub row_held : {A : Type 0} (refusal : ℕ → Refusal) (checks : List Check) (rows : List CheckRow) (value : A) {given : A}
    → checked_by (row refusal checks ∷ rows) value ≡ Ok given → Held checks rows value given
unfolding checked_by
row_held refusal checks rows value {given} e = by (checked checks) refl e
  where
    by : (found : Result (Unit {0}) ℕ) → checked checks ≡ found
        → onward (refused_at refusal found) (λ held. checked_by rows value) ≡ Ok given → Held checks rows value given
    by (Ok held) is e = record { holds = is; below = e }
    by (Err place) is e = cc

-- what is given is the value
pub given_is : {A : Type 0} (rows : List CheckRow) (value : A) {given : A} → checked_by rows value ≡ Ok given → given ≡ value
unfolding checked_by
given_is [] value e = cc
given_is (first ∷ rows) value e = given_is rows value (row_held first.refusal first.checks rows value e).below

-- ---- two parts

passing : {A B : Type 0} (found : OrRefusal (Unit {0})) (whole : OrRefusal B) (one : OrRefusal A) (next : A → OrRefusal B)
    → whole ≡ onward one next → onward found (λ held. whole) ≡ onward (onward found (λ held. one)) next
passing (Ok held) whole one next e = e
passing (Err refusal) whole one next e = refl

-- the first part, with some value of its own, and then the second
pub in_parts : {A B : Type 0} (one other : List CheckRow) (early : A) (value : B)
    → checked_by (one ++ other) value ≡ onward (checked_by one early) (λ given. checked_by other value)
unfolding checked_by
in_parts [] other early value = refl
in_parts (first ∷ rows) other early value =
    passing (refused_at first.refusal (checked first.checks)) (checked_by (rows ++ other) value) (checked_by rows early)
    (λ given. checked_by other value) (in_parts rows other early value)

-- the first row by itself, and then those below it
pub row_by_row : {A : Type 0} (first : CheckRow) (rows : List CheckRow) (value : A)
    → checked_by (first ∷ rows) value ≡ onward (checked_by {A = Unit {0}} (first ∷ []) tt) (λ held. checked_by rows value)
row_by_row first rows value = in_parts {A = Unit {0}} (first ∷ []) rows tt value
