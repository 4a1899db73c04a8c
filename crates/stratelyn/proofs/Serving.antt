-- From what a reader gives to what an entry promises: zeros behind the fields that were read change nothing, and every result is
-- close, whether or not a host is told of it. Assumes nothing.
use mathlib.Core.Path.{◌≡◌, refl}
use mathlib.Core.List.{List}
use Prim.Native.Nat.{ℕ, ◌≤◌, ◌<◌}
use native.Mathlib.Omega.{arith}
use lib.ListN.{length}
use Rattle.std.specs.Prelude.{Ok, Err}
use Rattle.fields.specs.declared.refusal.Refusal.{Refusal}
use Rattle.fields.specs.Outcomes.{Outcome}
use Rattle.fields.specs.Quantities.{Quantities, quantities_read}
use Rattle.fields.specs.Readable.{AcceptedIfRead}
use Rattle.stages.specs.Run.{result_of, result_read}
use Rattle.entries.specs.Answers.{Answer}
use Rattle.entries.proofs.Readers.{all_close}
use Rattle.numbers.specs.Numbers.{room, bytes_of_numbers}
use Rattle.stratelyn.specs.Conditions.{Reported}
use Rattle.stratelyn.specs.Hosts.{reply_bytes, Hosted, Served}

-- ---- what a reader gives, with its fields lent or its refusal

module _ (outcome : Outcome) (room scratch : ℕ) {report report_was : List ℕ} where
  pub read_reported : {q : Quantities} → quantities_read outcome ≡ Ok q → {answer : Answer}
      → Reported (result_of q room scratch) answer report report_was → Reported (result_read outcome room scratch) answer report report_was
  read_reported read reported = rw read reported

pub not_read : (outcome : Outcome) (room scratch : ℕ) {refusal : Refusal} → Err refusal ≡ outcome.reading → (report : List ℕ)
    → Reported (result_read outcome room scratch) (Err refusal) report report
unfolding bytes_of_numbers
not_read outcome room scratch read report =
    rw (← read) (record { answered = record { number_is = refl; values_are = refl; double_is = tt }; report_is = refl })

-- ---- the promise

module _ (outcome : Outcome) (accepted : AcceptedIfRead outcome) where
  -- a reply slice that is too short
  pub unserved : (report scratch reply : List ℕ) → length reply < reply_bytes
      → Served outcome 10 report report scratch scratch reply reply
  unserved report scratch reply h = record {
    short = λ _. record { number_is = refl; reply_kept = refl; report_kept = refl };
    exact = λ enough. absurd (omega arith);
    scratch_kept = refl;
    close = all_close outcome accepted _ _;
  }

  pub served : {returned : ℕ} {report reply : List ℕ} (report_was scratch reply_was : List ℕ) → reply_bytes ≤ length reply_was
      → Hosted (result_read outcome (room (length report_was)) (room (length scratch))) returned report report_was reply reply_was
      → Served outcome returned report report_was scratch scratch reply reply_was
  served report_was scratch reply_was h hosted = record {
    short = λ few. absurd (omega arith);
    exact = λ _. hosted;
    scratch_kept = refl;
    close = all_close outcome accepted _ _;
  }
