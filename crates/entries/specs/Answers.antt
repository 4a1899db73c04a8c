-- The promise rests on it. What an entry answers, and what it leaves of the lent buffers: document 01, "The card" and the last lines of
-- "Refusal by place of checking", and document 02, W1. "For an answer that is an enum, a definition gives this paper's number and values
-- for each case."
use Rattle.std.specs.Prelude.{◌≡◌, Bool, true, false, not, ℕ, negsuc, List, [], ◌∷◌, ◌++◌, Float, length, replicate, Ok, Err}
use Rattle.std.specs.Float.{fin, binary64}
use Rattle.std.specs.Float.Ieee.{to_bits}
use Rattle.std.specs.Float.Ieee.Exact.{HasValue}
use Rattle.ticks.specs.Ticks.{ticks_per_unit}
use Rattle.fields.specs.declared.refusal.Refusal.{Refusal}
use Rattle.fields.specs.Outcomes.{OrRefusal, over}
use Rattle.fields.specs.Refusals.{acceptance_number, number, place, may_alter_scratch}
use Rattle.stages.specs.declared.before.BeforeAges.{BeforeAges}
use Rattle.stages.specs.declared.intervals.Row.{Row}
use Rattle.stages.specs.Run.{Report}
use Rattle.entries.specs.declared.Reply.{Reply}

-- ---- "The last stress also goes out as the double whose value is exactly ticks/1024."

abbrev pub IsExactly : Float → ℕ → Type 0
IsExactly double ticks = HasValue double false ticks ticks_per_unit

-- one such double: so many times 2 ^ -10, `negsuc 9` being -10. All of them have the same bits (law `same_bits`).
abbrev pub double_of : ℕ → Float
double_of ticks = fin false ticks (negsuc 9)

-- ---- an entry's answer: a reply, or its refusal

abbrev pub Answer : Type 0
Answer = OrRefusal Reply

-- ---- the number: "The refusal number (0 if accepted)"

abbrev pub answer_number : Answer → ℕ
answer_number (Ok reply) = acceptance_number
answer_number (Err refusal) = number refusal

-- ---- the values

-- "the five losses before the ages and the stress after them"
abbrev pub numbers_before : BeforeAges → List ℕ
numbers_before before =
    before.friction ∷ before.slip ∷ before.deflector ∷ before.early_relaxation ∷ before.shortening ∷ before.stress ∷ []

-- "place (0 if accepted), five losses, stress before the ages and last stress as a double", "a double by its bits"
abbrev pub acceptance_values : BeforeAges → Float → List ℕ
acceptance_values before last = 0 ∷ numbers_before before ++ (to_bits binary64 last ∷ [])

-- "on a refusal the place and seven zeros"
abbrev pub refusal_values : Refusal → List ℕ
refusal_values refusal = place refusal ∷ replicate 7 0

abbrev pub answer_values : Answer → List ℕ
answer_values (Ok reply) = acceptance_values reply.before reply.last
answer_values (Err refusal) = refusal_values refusal

-- ---- an answer has the number and the values of the one that the run gives, which decide it (laws `refusal_number`, `one_refusal`)

abbrev pub answer_of : OrRefusal Report → Answer
answer_of (Ok report) = Ok (record { before = report.before; last = double_of report.last })
answer_of (Err refusal) = Err refusal

-- the double in an accepted run's reply
abbrev pub DoubleOut : OrRefusal Report → Answer → Type 0
DoubleOut (Ok report) (Ok reply) = IsExactly reply.last report.last
DoubleOut (Ok report) (Err refusal) = Unit {0}
DoubleOut (Err refusal) answer = Unit {0}

pub record Answered (result : OrRefusal Report) (answer : Answer) : Type 0 where
  pub number_is : answer_number answer ≡ answer_number (answer_of result)
  pub values_are : answer_values answer ≡ answer_values (answer_of result)
  pub double_is : DoubleOut result answer

-- ---- what an entry leaves of the lent buffers

-- "creep, shrinkage, relaxation, stress per age", and document 02, W1: the gain "as a fifth per age, after the stress"
abbrev pub numbers_of_row : Row → List ℕ
numbers_of_row row = row.creep ∷ row.shrinkage ∷ row.relaxation ∷ row.stress ∷ row.gain ∷ []

unfoldable pub numbers_of_rows : List Row → List ℕ
numbers_of_rows [] = []
numbers_of_rows (row ∷ rows) = numbers_of_row row ++ numbers_of_rows rows

-- "A refusal leaves the report unchanged"; an accepted run writes its rows
abbrev pub numbers_written : OrRefusal Report → List ℕ
numbers_written (Ok report) = numbers_of_rows report.rows
numbers_written (Err refusal) = []

-- "Scratch is free after acceptance."
abbrev pub keeps_scratch : OrRefusal Report → Bool
keeps_scratch (Ok report) = false
keeps_scratch (Err refusal) = not (may_alter_scratch refusal)

-- what an entry ensures of its answer and of the two lent buffers, as they are and as they were: the report with "numbers past" the
-- rows "unchanged", and of the scratch, where it is undecided, "that it keeps its length"
pub record Ran (result : OrRefusal Report) (answer : Answer) (report report_was scratch scratch_was : List ℕ) : Type 0 where
  pub answered : Answered result answer
  pub report_is : report ≡ over (numbers_written result) report_was
  pub scratch_kept : keeps_scratch result ≡ true → scratch ≡ scratch_was
  pub scratch_length : length scratch ≡ length scratch_was
