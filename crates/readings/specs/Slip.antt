-- The theorem `slip_as_before` rests on it. A core that reads a blank slip as it was read before, and this one: which cards have the same
-- run by both, and what a yard writes where they have not: document 02, W2.
use Rattle.std.specs.Prelude.{ℕ, ◌≡◌, List}
use Rattle.fields.specs.Outcomes.{Outcome}
use Rattle.fields.specs.Quantities.{quantities_read}
use Rattle.card.specs.Card.{slip_may_be_blank, outcome_of, card_outcome}
use Rattle.card.specs.Slip.{SlipIsBlank, with_slip}
use Rattle.entries.specs.Answers.{Answer, answer_number, answer_values}
use Rattle.entries.specs.Promise.{Promise}
use Rattle.text.specs.Columns.{in_columns}
use Rattle.text.specs.declared.Program.{Program}
use Rattle.text.specs.Text.{read_text}
use Rattle.stratelyn.specs.Hosts.{Served}

-- what two cards give, or one card by two cores, is the same as it is read and over the whole run: whoever keeps the one promise and
-- whoever keeps the other, lent the same buffers, answer the same number and values and leave the same report; a C host gets the same
-- number, and the same bytes in every buffer; and each program prints the same text
pub record SameRun (one other : Outcome) : Type 0 where
  pub read : one ≡ other
  pub native : {answer answer' : Answer} {report report' report_was scratch scratch' scratch_was : List ℕ}
      → Promise one answer report report_was scratch scratch_was → Promise other answer' report' report_was scratch' scratch_was
      → (answer_number answer ≡ answer_number answer') × (answer_values answer ≡ answer_values answer') × (report ≡ report')
  pub hosts : {returned returned' : ℕ} {report report' report_was scratch scratch' scratch_was reply reply' reply_was : List ℕ}
      → Served one returned report report_was scratch scratch_was reply reply_was
      → Served other returned' report' report_was scratch' scratch_was reply' reply_was
      → (returned ≡ returned') × (report ≡ report') × (scratch ≡ scratch') × (reply ≡ reply')
  pub printed : (program : Program) → read_text program (quantities_read one) ≡ read_text program (quantities_read other)

-- "older wedges", for which a blank slip read 256 ticks
abbrev pub older_slip : ℕ
older_slip = 256

pub record SlipAsBefore : Type 0 where
  -- "All cards with a written slip give the same report as before", whatever a blank one read
  pub written : (before : ℕ) (card : List ℕ) → (SlipIsBlank card → ⊥)
      → SameRun (outcome_of (slip_may_be_blank before) card) (card_outcome card)
  -- "A blank slip field shall read 384 ticks."
  pub blank : (card : List ℕ) → SlipIsBlank card → SameRun (card_outcome (with_slip (in_columns 384) card)) (card_outcome card)
  -- "Yards that left it blank for older wedges .. must now write 256", and have the report that they had
  pub older : (card : List ℕ) → SlipIsBlank card
      → SameRun (outcome_of (slip_may_be_blank older_slip) card) (card_outcome (with_slip (in_columns older_slip) card))
