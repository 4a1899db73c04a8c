-- The promise rests on it; this is the promise, of an answer and of the lent buffers, for every input. An entry has no condition (demand
-- 1), answers what the definitions give (demand 2), and what they give is close (demand 3).
use Rattle.std.specs.Prelude.{ℕ, ◌≡◌, List, length, Ok}
use Rattle.fields.specs.Outcomes.{Outcome}
use Rattle.fields.specs.Quantities.{Quantities, quantities_read}
use Rattle.stages.specs.Run.{Report, result_of, result_read}
use Rattle.entries.specs.Answers.{Answer, Ran}
use Rattle.tolerance.specs.Demand.{Demand3}

-- demand 3 of whatever was read and is accepted, with room for so many numbers in report and scratch
abbrev pub CloseIfAccepted : Outcome → ℕ → ℕ → Type 0
CloseIfAccepted outcome report scratch =
    (q : Quantities) (given : Report) → quantities_read outcome ≡ Ok q → result_of q report scratch ≡ Ok given → Demand3 q given

-- demands 2 and 3 of an entry, report and scratch as they are and as they were
pub record Promise (outcome : Outcome) (answer : Answer) (report report_was scratch scratch_was : List ℕ) : Type 0 where
  pub exact : Ran (result_read outcome (length report_was) (length scratch_was)) answer report report_was scratch scratch_was
  pub close : CloseIfAccepted outcome (length report_was) (length scratch_was)
