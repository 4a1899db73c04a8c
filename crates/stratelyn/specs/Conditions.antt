-- It serves the code alone. What the inner functions ask for and give: a host's numbers on their way.
use Rattle.std.specs.Prelude.{ℕ, ◌≤◌, ◌≡◌, List, not, T, Float, length, take, Ok, Err}
use Rattle.std.specs.Float.Ieee.{is_nan}
use Rattle.fields.specs.Outcomes.{OrRefusal}
use Rattle.fields.specs.Limits.{report_room}
use Rattle.stages.specs.declared.intervals.Row.{Row}
use Rattle.stages.specs.Run.{Report}
use Rattle.entries.specs.Answers.{Answer, Answered, numbers_of_rows, numbers_written}
use Rattle.numbers.specs.Numbers.{written}
use Rattle.stratelyn.specs.Hosts.{reply_bytes}

-- of an accepted run's double, to be written by its bits: no entry asks for that
pub record Acceptable (last : Float) (reply : List ℕ) : Type 0 where
  pub reply_room : reply_bytes ≤ length reply
  pub not_nan : T (not (is_nan last))

-- the rows of an accepted run at the front of some numbers, and the report's room for them
pub record FrontRows (rows : List Row) (ages room : ℕ) (numbers : List ℕ) : Type 0 where
  pub rows_are : numbers_of_rows rows ≡ take (report_room ages) numbers
  pub report_room_fits : report_room ages ≤ room

abbrev pub Front : OrRefusal Report → ℕ → ℕ → List ℕ → Type 0
Front (Ok report) ages room numbers = FrontRows report.rows ages room numbers
Front (Err refusal) ages room numbers = Unit {0}

-- what a run gives that writes its rows there
pub record Rowed (result : OrRefusal Report) (ages room : ℕ) (answer : Answer) (numbers : List ℕ) : Type 0 where
  pub answered : Answered result answer
  pub front : Front result ages room numbers

-- what a run gives whose rows go to a host's report
pub record Reported (result : OrRefusal Report) (answer : Answer) (report report_was : List ℕ) : Type 0 where
  pub answered : Answered result answer
  pub report_is : report ≡ written (numbers_written result) report_was

-- a number is returned, and values stand at the front of the reply
pub record Replied (number : ℕ) (values : List ℕ) (returned : ℕ) (reply reply_was : List ℕ) : Type 0 where
  pub returned_is : returned ≡ number
  pub reply_is : reply ≡ written values reply_was
