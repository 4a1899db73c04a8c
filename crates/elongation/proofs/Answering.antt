-- What the sheet answers and leaves of the buffer: a refusal nothing, and what passes the checks its elongations. From what a reader gives
-- to the promise: zeros behind the fields that were read change nothing, and every sheet is close. Assumes nothing.
use mathlib.Core.Path.{◌≡◌, refl, ◌∙◌}
use mathlib.Core.List.{List, []}
use Prim.Native.Nat.{ℕ}
use lib.ListN.{length}
use Rattle.std.specs.Prelude.{Ok, Err}
use Rattle.fields.specs.declared.refusal.Refusal.{Refusal}
use Rattle.fields.specs.Outcomes.{OrRefusal, onward, Outcome}
use Rattle.fields.specs.Quantities.{Quantities}
use Rattle.fields.specs.Readable.{AcceptedIfRead}
use Rattle.fields.proofs.Counting.{path_counted}
use Rattle.fields.proofs.Reading.{of_read}
use Rattle.checks.specs.Rows.{checked_by}
use Rattle.checks.proofs.Cascade.{in_parts}
use Rattle.elongation.specs.Sheet.{SheetAnswer, sheet_of, total_of, sheet_rows, sheet_result, sheet_read}
use Rattle.elongation.specs.Close.{SheetClose}
use Rattle.elongation.specs.Conditions.{Stretched, Answered}
use Rattle.elongation.specs.Promise.{CloseIfAccepted, SheetPromise}
use Rattle.elongation.proofs.Closeness.{close}

-- ---- what the rows decide

module _ (q : Quantities) (room : ℕ) where
  by_rows : {rows : OrRefusal (Unit {0})} → rows ≡ checked_by (sheet_rows q room) tt
      → sheet_result q room ≡ onward rows (λ held. Ok (sheet_of q))
  unfolding sheet_result checked_by
  by_rows made = in_parts (sheet_rows q room) [] (tt {0}) (sheet_of q) ∙ rw made refl

  pub row_refuses : {refusal : Refusal} → Err refusal ≡ checked_by {A = Unit {0}} (sheet_rows q room) tt → (sheet : List ℕ)
      → Answered (sheet_result q room) (Err refusal) sheet sheet
  row_refuses made sheet = rw (by_rows made) (record { answer_is = refl; sheet_is = refl })

  pub rows_hold : Ok (tt {0}) ≡ checked_by (sheet_rows q room) tt → {sum : ℕ} {sheet old : List ℕ} → Stretched q sum sheet old
      → Answered (sheet_result q room) (Ok (total_of sum)) sheet old
  unfolding sheet_of
  rows_hold made stretched = rw (by_rows made) (record { answer_is = rw stretched.sum_is; sheet_is = stretched.sheet_is })

-- ---- from a reader to the promise

module _ (outcome : Outcome) (accepted : AcceptedIfRead outcome) where
  all_close : (room : ℕ) → CloseIfAccepted outcome room
  all_close room q given read =
      of_read outcome (λ q. sheet_result q room ≡ Ok given → SheetClose q given)
      (λ counts e. let few = (accepted counts e).few_segments in
      close _ (rw (path_counted counts outcome.numbers) few) room given) q read

  pub promised : {answer : SheetAnswer} {sheet sheet_was : List ℕ} → Answered (sheet_read outcome (length sheet_was)) answer sheet sheet_was
      → SheetPromise outcome answer sheet sheet_was
  promised answered =
      record {
        exact = record { number_is = rw answered.answer_is; values_are = rw answered.answer_is; sheet_is = answered.sheet_is };
        close = all_close _;
      }
