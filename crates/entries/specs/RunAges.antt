-- It serves the code alone. What the run makes of the ages: the last stress, and a row for each in the scratch.
use Rattle.std.specs.Prelude.{ℕ, ◌<◌, ◌≡◌, true, List, length, Ok, Err}
use Rattle.fields.specs.Outcomes.{OrRefusal, onward, over}
use Rattle.fields.specs.Refusals.{may_alter_scratch}
use Rattle.fields.specs.Limits.{scratch_room}
use Rattle.formulas.specs.Conditions.{stress_limit}
use Rattle.stages.specs.Run.{Aged}
use Rattle.entries.specs.Answers.{numbers_of_rows}

-- all of so many ages are passed: the last stress fits, and each age has its row
pub record AllPassed (aged : Aged) (ages : ℕ) (scratch scratch_was : List ℕ) : Type 0 where
  pub last_fits : aged.last < stress_limit
  pub rows_length : length (numbers_of_rows aged.rows) ≡ scratch_room ages
  pub scratch_is : scratch ≡ over (numbers_of_rows aged.rows) scratch_was

-- what is left of the scratch: where an age is refused, nothing is said of it
abbrev pub Leaves : OrRefusal Aged → ℕ → List ℕ → List ℕ → Type 0
Leaves (Ok aged) ages scratch scratch_was = AllPassed aged ages scratch scratch_was
Leaves (Err refusal) ages scratch scratch_was = may_alter_scratch refusal ≡ true

-- what running through so many ages gives, and leaves of the scratch
pub record RanAges (aged : OrRefusal Aged) (ages : ℕ) (result : OrRefusal ℕ) (scratch scratch_was : List ℕ) : Type 0 where
  pub result_is : result ≡ onward aged (λ passed. Ok passed.last)
  pub leaves : Leaves aged ages scratch scratch_was
  pub scratch_length : length scratch ≡ length scratch_was
