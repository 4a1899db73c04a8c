-- The promise rests on it. What a C host gets: document 01, "The card", from "Each entry is also offered to C hosts" on. The number, the
-- values and the rows are those of the native promise, in a host's bytes.
use Rattle.std.specs.Prelude.{ℕ, ◌≤◌, ◌<◌, ◌≡◌, List, length, Ok, Err}
use Rattle.std.specs.Float.{binary64}
use Rattle.std.specs.Float.Ieee.{to_bits, of_bits}
use Rattle.fields.specs.Outcomes.{Outcome, OrRefusal}
use Rattle.stages.specs.Run.{Report, result_read}
use Rattle.entries.specs.Answers.{IsExactly, double_of, answer_of, answer_number, answer_values, numbers_written}
use Rattle.entries.specs.Promise.{CloseIfAccepted}
use Rattle.numbers.specs.Numbers.{room, written}

-- the reply's last number, read as a double's bits, is the last stress's double
abbrev pub ReadsBack : OrRefusal Report → Type 0
ReadsBack (Ok report) = IsExactly (of_bits binary64 (to_bits binary64 (double_of report.last))) report.last
ReadsBack (Err refusal) = Unit {0}

-- "The refusal number (0 if accepted) is returned. A reply slice takes" the values, "bytes past 64 are unchanged"; the report takes the
-- rows, "odd bytes at a buffer's end are unchanged". The buffers as they are and as they were
pub record Hosted (result : OrRefusal Report) (returned : ℕ) (report report_was reply reply_was : List ℕ) : Type 0 where
  pub number_is : returned ≡ answer_number (answer_of result)
  pub values_are : reply ≡ written (answer_values (answer_of result)) reply_was
  pub double_is : ReadsBack result
  pub report_is : report ≡ written (numbers_written result) report_was

-- "A reply slice under 64 bytes"
abbrev pub reply_bytes : ℕ
reply_bytes = 64

-- "gives 10 before all other checks, with nothing written"
pub record Unserved (returned : ℕ) (report report_was reply reply_was : List ℕ) : Type 0 where
  pub number_is : returned ≡ 10
  pub reply_kept : reply ≡ reply_was
  pub report_kept : report ≡ report_was

-- what an entry for C hosts promises, for every input: demands 2 and 3, and that the scratch, which serves for its room, stays as it is
pub record Served (outcome : Outcome) (returned : ℕ) (report report_was scratch scratch_was reply reply_was : List ℕ) : Type 0 where
  pub short : length reply_was < reply_bytes → Unserved returned report report_was reply reply_was
  pub exact : reply_bytes ≤ length reply_was
      → Hosted (result_read outcome (room (length report_was)) (room (length scratch_was))) returned report report_was reply reply_was
  pub scratch_kept : scratch ≡ scratch_was
  pub close : CloseIfAccepted outcome (room (length report_was)) (room (length scratch_was))
