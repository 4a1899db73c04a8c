-- What a reader gives, with its fields lent: an exact run of the lent fields keeps the promise, as does the refusal of what is not read.
-- Assumes nothing.
use mathlib.Core.Path.{◌≡◌}
use mathlib.Core.List.{List}
use Prim.Native.Nat.{ℕ}
use lib.ListN.{length}
use Rattle.std.specs.Prelude.{Ok, Err}
use Rattle.fields.specs.declared.refusal.Refusal.{Refusal}
use Rattle.fields.specs.Outcomes.{Outcome}
use Rattle.fields.specs.Quantities.{Quantities, quantities_of, quantities_read}
use Rattle.fields.specs.Readable.{AcceptedIfRead}
use Rattle.fields.proofs.Counting.{few_counted}
use Rattle.fields.proofs.Reading.{of_read}
use Rattle.stages.specs.Run.{result_of, result_read}
use Rattle.tolerance.specs.Demand.{Demand3}
use Rattle.entries.specs.Answers.{Answer, Ran}
use Rattle.entries.specs.Promise.{CloseIfAccepted, Promise}
use Rattle.entries.proofs.Answering.{refused_early}
use Rattle.entries.proofs.Closeness.{close}

module _ (outcome : Outcome) (accepted : AcceptedIfRead outcome) where
  -- every result is close
  pub all_close : (report scratch : ℕ) → CloseIfAccepted outcome report scratch
  all_close report scratch q given read =
      of_read outcome (λ q. result_of q report scratch ≡ Ok given → Demand3 q given)
      (λ counts e.
      let good = accepted counts e in
      let few = few_counted counts outcome.numbers good.few_segments good.few_second good.few_ages in
      close (quantities_of counts outcome.numbers) few report scratch given)
      q read

  pub promised : {q : Quantities} → quantities_read outcome ≡ Ok q → {answer : Answer} {report report_was scratch scratch_was : List ℕ}
      → Ran (result_of q (length report_was) (length scratch_was)) answer report report_was scratch scratch_was
      → Promise outcome answer report report_was scratch scratch_was
  promised read ran = record { exact = rw read ran; close = all_close _ _ }

  pub not_read : (refusal : Refusal) (report scratch : List ℕ) → outcome.reading ≡ Err refusal
      → Promise outcome (Err refusal) report report scratch scratch
  not_read refusal report scratch e = record {
    exact = refused_early refusal (result_read outcome (length report) (length scratch)) report scratch (rw e);
    close = all_close _ _;
  }
