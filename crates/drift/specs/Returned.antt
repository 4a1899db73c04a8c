-- The theorem `gauge_drift` rests on it: this is the theorem. What is carried is carried through what the entries return: document 02, W8,
-- "This is wanted for the code as it is".
use Rattle.std.specs.Prelude.{ℕ, ◌≡◌, List, Float, length, Ok}
use Rattle.fields.specs.Outcomes.{Outcome}
use Rattle.fields.specs.Refusals.{acceptance_number}
use Rattle.fields.specs.Quantities.{Quantities, quantities_read}
use Rattle.card.specs.Card.{card_outcome}
use Rattle.list.specs.Lists.{list_outcome}
use Rattle.numbers.specs.Numbers.{room, bytes_outcome}
use Rattle.stages.specs.Run.{Report, result_read}
use Rattle.entries.specs.Answers.{Answer, answer_number, Ran}
use Rattle.entries.specs.Promise.{Promise}
use Rattle.stratelyn.specs.Hosts.{Hosted, Served}
use Rattle.drift.specs.Drift.{TwoGauges, Drift}

-- a member comes as a card, as a list of doubles, or as a list in a host's bytes
pub data Input : Type 0 where
  card : List ℕ → Input
  list : List Float → Input
  bytes : List ℕ → Input

abbrev pub read : Input → Outcome
read (card lines) = card_outcome lines
read (list doubles) = list_outcome doubles
read (bytes doubles) = bytes_outcome doubles

-- two inputs that are read as two such members
pub record ReadAsTwoGauges (one other : Input) (q p : Quantities) : Type 0 where
  pub one_read : quantities_read (read one) ≡ Ok q
  pub other_read : quantities_read (read other) ≡ Ok p
  pub gauges : TwoGauges q p

-- what the run of an input gives, with room for so many numbers in report and scratch; and it is this that was returned
pub record Gave (input : Input) (report scratch : ℕ) (IsReturned : Report → Type 0) : Type 0 where
  pub given : Report
  pub given_is : result_read (read input) report scratch ≡ Ok given
  pub is_returned : IsReturned given

-- the drift is carried through what any two entries return: `entries` and `hosts` give the two runs, and `carried` the drift
pub record GaugeDrift : Type 0 where
  -- an answer and a report that keep the promise, with the number of what is accepted, are what a run gave
  pub entries : (input : Input) {answer : Answer} {report report_was scratch scratch_was : List ℕ}
      → Promise (read input) answer report report_was scratch scratch_was → answer_number answer ≡ acceptance_number
      → Gave input (length report_was) (length scratch_was) (λ given. Ran (Ok given) answer report report_was scratch scratch_was)
  -- and so is what a C host gets
  pub hosts : (input : Input) {number : ℕ} {report report_was scratch scratch_was reply reply_was : List ℕ}
      → Served (read input) number report report_was scratch scratch_was reply reply_was → number ≡ acceptance_number
      → Gave input (room (length report_was)) (room (length scratch_was))
      (λ given. Hosted (Ok given) number report report_was reply reply_was)
  -- through any two runs of two such members the drift is carried, whatever was lent to either and whoever was answered
  pub carried : (one other : Input) {q p : Quantities} → ReadAsTwoGauges one other q p
      → (report scratch report' scratch' : ℕ) {given given' : Report} → result_read (read one) report scratch ≡ Ok given
      → result_read (read other) report' scratch' ≡ Ok given' → Drift q p given given'
