-- What a host gets of a result: the number and the values of the run's answer are the result's, a refusal writes no row, and an accepted
-- run's double has the bits that its value has. Assumes nothing.
use mathlib.Core.Path.{◌≡◌, refl}
use mathlib.Core.Bool.{not}
use mathlib.Core.List.{List}
use Prim.Native.Nat.{ℕ, ◌*◌, ◌≤◌}
use native.Mathlib.Omega.{arith}
use lib.Dec.{T}
use lib.Ieee.{is_nan, binary64, to_bits, of_bits}
use lib.ListN.{take}
use Rattle.std.specs.Prelude.{Ok, Err}
use Rattle.fields.specs.declared.refusal.Refusal.{Refusal}
use Rattle.fields.specs.Refusals.{acceptance_number}
use Rattle.fields.specs.Outcomes.{OrRefusal}
use Rattle.fields.specs.Limits.{report_room}
use Rattle.fields.proofs.Refusals.{refusal_number}
use Rattle.entries.specs.declared.Reply.{Reply}
use Rattle.stages.specs.Run.{Report}
use Rattle.entries.specs.Answers.{acceptance_values, numbers_written, Answered}
use Rattle.entries.proofs.Doubles.{same_bits, finite}
use Rattle.numbers.specs.Numbers.{bytes_per_number, room, bytes_of_numbers, written}
use Rattle.stratelyn.specs.Conditions.{Front, Rowed, Reported, Replied}
use Rattle.stratelyn.specs.Hosts.{Hosted}

-- ---- the report

-- a refusal writes no row
pub none_reported : (result : OrRefusal Report) {refusal : Refusal} → Answered result (Err refusal) → (report : List ℕ)
    → Reported result (Err refusal) report report
unfolding bytes_of_numbers
none_reported (Ok given) {refusal} a report = absurd (omega (arith, a.number_is, refusal_number refusal))
none_reported (Err given) a report = record { answered = a; report_is = refl }

module _ (result : OrRefusal Report) {ages : ℕ} (bytes : ℕ) {numbers : List ℕ} {reply : Reply} where
  -- an accepted run: the report has room for the rows
  pub run_room : Rowed result ages (room bytes) (Ok reply) numbers → bytes_per_number * (report_room ages) ≤ bytes
  run_room rowed = by result rowed.answered rowed.front
    where
      by : (result : OrRefusal Report) → Answered result (Ok reply) → Front result ages (room bytes) numbers
          → bytes_per_number * (report_room ages) ≤ bytes
      by (Ok given) a f = let fits = f.report_room_fits in omega arith
      by (Err refusal) a f = absurd (omega (arith, a.number_is, refusal_number refusal))

  pub rows_reported : Rowed result ages (room bytes) (Ok reply) numbers → {report report_was : List ℕ}
      → report ≡ written (take (report_room ages) numbers) report_was → Reported result (Ok reply) report report_was
  rows_reported rowed {report} {report_was} e = by result rowed.answered rowed.front
    where
      by : (result : OrRefusal Report) → Answered result (Ok reply) → Front result ages (room bytes) numbers
          → Reported result (Ok reply) report report_was
      by (Ok given) a f = record { answered = a; report_is = rw f.rows_are e }
      by (Err refusal) a f = absurd (omega (arith, a.number_is, refusal_number refusal))

-- ---- the reply

pub run_finite : (result : OrRefusal Report) {reply : Reply} → Answered result (Ok reply) → T (not (is_nan reply.last))
run_finite (Ok run) {reply} a = finite reply.last run.last a.double_is
run_finite (Err refusal) a = absurd (omega (arith, a.number_is, refusal_number refusal))

module _ (result : OrRefusal Report) {returned : ℕ} {report report_was given reply_was : List ℕ} where
  pub acceptance_hosted : {reply : Reply} → Reported result (Ok reply) report report_was
      → Replied acceptance_number (acceptance_values reply.before reply.last) returned given reply_was
      → of_bits binary64 (to_bits binary64 reply.last) ≡ reply.last → Hosted result returned report report_was given reply_was
  acceptance_hosted {reply} reported replied back = by result reported.answered reported.report_is
    where
      by : (result : OrRefusal Report) → Answered result (Ok reply) → report ≡ written (numbers_written result) report_was
          → Hosted result returned report report_was given reply_was
      by (Err refusal) a e = absurd (omega (arith, a.number_is, refusal_number refusal))
      by (Ok run) a e =
          record {
            number_is = replied.returned_is;
            values_are = rw a.values_are at replied.reply_is;
            double_is = rw (← same_bits reply.last run.last a.double_is, back) a.double_is;
            report_is = e;
          }
