-- The promise rests on it. What a check, a step or a run gives, or its refusal; and what reading a card or a list gives.
use Rattle.std.specs.Prelude.{ℕ, Bool, List, [], ◌∷◌, ◌++◌, eqb, length, drop, Option, Some, None, Result, Ok, Err}
use Rattle.fields.specs.declared.refusal.Refusal.{Refusal}
use Rattle.fields.specs.declared.read.Counts.{Counts}

abbrev pub OrRefusal : Type 0 → Type 0
OrRefusal A = Result A Refusal

-- "top to bottom": a refusal ends what follows
abbrev pub onward : {A B : Type 0} → OrRefusal A → (A → OrRefusal B) → OrRefusal B
onward (Ok value) next = next value
onward (Err refusal) next = Err refusal

-- the numbers before the first field that is refused
unfoldable pub numbers_in : List (Option ℕ) → List ℕ
numbers_in [] = []
numbers_in (Some n ∷ amounts) = n ∷ numbers_in amounts
numbers_in (None ∷ amounts) = []

-- no field is refused
abbrev pub all_read : List (Option ℕ) → Bool
all_read amounts = eqb (length (numbers_in amounts)) (length amounts)

-- a lent buffer after some numbers were written at its front
abbrev pub over : List ℕ → List ℕ → List ℕ
over numbers old = numbers ++ drop (length numbers) old

-- what a reader answers, and the numbers that it then has written
pub record Outcome : Type 0 where
  pub reading : OrRefusal Counts
  pub numbers : List ℕ

abbrev pub refused : Refusal → List ℕ → Outcome
refused refusal numbers = record { reading = Err refusal; numbers = numbers }

abbrev pub accepted : Counts → List ℕ → Outcome
accepted counts numbers = record { reading = Ok counts; numbers = numbers }
