-- The theorem `gauge_drift`. What keeps the promise and has the number of what is accepted is what a run gave, since a refusal has another
-- number; and the runs of two inputs that are read as two such members are the two runs of `TwoRuns`, as the readers range the counts.
-- Assumes nothing.
use mathlib.Core.Path.{◌≡◌, refl, sym, ◌∙◌}
use mathlib.Core.List.{List}
use Prim.Native.Nat.{ℕ, ◌≤◌, ◌<◌}
use native.Mathlib.Nat.{le_trans}
use native.Mathlib.Decide.{dec_lt}
use native.Mathlib.Omega.{arith}
use lib.Dec.{lit≤}
use lib.ListN.{length}
use Rattle.std.specs.Prelude.{Ok, Err}
use Rattle.fields.specs.Outcomes.{OrRefusal}
use Rattle.fields.specs.Quantities.{Quantities, quantities_read}
use Rattle.fields.specs.Refusals.{acceptance_number}
use Rattle.fields.specs.Readable.{AcceptedIfRead}
use Rattle.fields.proofs.Counting.{Few, few_counted}
use Rattle.fields.proofs.Refusals.{refusal_number}
use Rattle.card.specs.Laws.{card_accepted}
use Rattle.list.specs.Laws.{list_accepted}
use Rattle.numbers.specs.Numbers.{room}
use Rattle.numbers.specs.Laws.{bytes_accepted}
use Rattle.fields.proofs.Reading.{of_read}
use Rattle.stages.specs.Run.{Report, result_read}
use Rattle.entries.specs.Answers.{Answer, answer_of, answer_number, Ran}
use Rattle.entries.specs.Promise.{Promise}
use Rattle.stratelyn.specs.Hosts.{reply_bytes, Hosted, Served}
use Rattle.drift.specs.Drift.{TwoGauges, Drift}
use Rattle.drift.specs.Returned.{Input, card, list, bytes, read, Gave, GaugeDrift}
use Rattle.drift.proofs.Runs.{OverTheTendon, AcceptedRun, accepted_run, same_rule}
use Rattle.drift.proofs.TwoRuns.{drift}

-- ---- the runs of two inputs

-- the counts of what was read are in their ranges
read_accepted : (input : Input) → AcceptedIfRead (read input)
read_accepted (card lines) = card_accepted lines
read_accepted (list doubles) = list_accepted doubles
read_accepted (bytes doubles) = bytes_accepted doubles

few : (input : Input) (q : Quantities) → quantities_read (read input) ≡ Ok q → Few q
few input =
    of_read (read input) Few
    (λ counts e.
    let good = read_accepted input counts e in
    few_counted counts (read input).numbers good.few_segments good.few_second good.few_ages)

run_of : (input : Input) {q : Quantities} → quantities_read (read input) ≡ Ok q → (0 < q.jacking_stress → OverTheTendon q)
    → (report scratch : ℕ) {given : Report} → result_read (read input) report scratch ≡ Ok given → AcceptedRun q given
run_of input {q} is_read over report scratch ran = accepted_run q report scratch (few input q is_read) over (rw is_read at ran)

-- the other's slip goes over the tendon where the one's does
other_over : {q p : Quantities} → TwoGauges q p → 0 < q.jacking_stress → 0 < p.jacking_stress → OverTheTendon p
other_over {q} {p} gauges q>0 p>0 =
    let common = gauges.common in
    let over = rw gauges.one_is at gauges.over_the_tendon in
    rw gauges.other_is
    (record {
      first = sym (same_rule common common.path q.jacking_stress p.jacking_stress q>0 p>0) ∙ over.first;
      second = sym (same_rule common common.second_path q.jacking_stress p.jacking_stress q>0 p>0) ∙ over.second;
    })

drift_of : {q p : Quantities} {one other : Report} → TwoGauges q p → AcceptedRun q one → AcceptedRun p other → Drift q p one other
drift_of {q} {p} gauges run run' =
    rw (gauges.one_is, gauges.other_is)
    (drift gauges.common q.jacking_stress p.jacking_stress (rw gauges.one_is at run) (rw gauges.other_is at run'))

-- ---- what the entries return

-- what holds of a result that has the number of what is accepted
gave : (input : Input) (report scratch : ℕ) (Holds : OrRefusal Report → Type 0) → Holds (result_read (read input) report scratch)
    → answer_number (answer_of (result_read (read input) report scratch)) ≡ acceptance_number
    → Gave input report scratch (λ given. Holds (Ok given))
gave input report scratch Holds holds accepted = by (result_read (read input) report scratch) refl
  where
    by : (result : OrRefusal Report) → result_read (read input) report scratch ≡ result
        → Gave input report scratch (λ given. Holds (Ok given))
    by (Ok given) is = record { given = given; given_is = is; is_returned = rw is at holds }
    by (Err refusal) is = absurd (omega (arith, refusal_number refusal, rw is at accepted))

answered : (input : Input) {answer : Answer} {report report_was scratch scratch_was : List ℕ}
    → Promise (read input) answer report report_was scratch scratch_was → answer_number answer ≡ acceptance_number
    → Gave input (length report_was) (length scratch_was) (λ given. Ran (Ok given) answer report report_was scratch scratch_was)
answered input {answer} {report} {report_was} {scratch} {scratch_was} promise accepted =
    gave input (length report_was) (length scratch_was) (λ result. Ran result answer report report_was scratch scratch_was)
    promise.exact (sym promise.exact.answered.number_is ∙ accepted)

-- a reply without room gives another number
hosted : (input : Input) {number : ℕ} {report report_was scratch scratch_was reply reply_was : List ℕ}
    → Served (read input) number report report_was scratch scratch_was reply reply_was → number ≡ acceptance_number
    → Gave input (room (length report_was)) (room (length scratch_was))
    (λ given. Hosted (Ok given) number report report_was reply reply_was)
hosted input {number} {report} {report_was} {scratch} {scratch_was} {reply} {reply_was} served accepted =
    let enough = served.exact (by (dec_lt (length reply_was) reply_bytes)) in
    gave input (room (length report_was)) (room (length scratch_was)) (λ result. Hosted result number report report_was reply reply_was)
    enough (sym enough.number_is ∙ accepted)
  where
    by : Dec (length reply_was < reply_bytes) → reply_bytes ≤ length reply_was
    by (yes short) = absurd (omega (arith, (served.short short).number_is))
    by (no enough) = omega arith

pub gauge_drift : GaugeDrift
gauge_drift = record {
  entries = answered;
  hosts = hosted;
  carried = λ one other inputs report scratch report' scratch' ran ran'.
      let gauges = inputs.gauges in
      let run = run_of one inputs.one_read (λ some. gauges.over_the_tendon) report scratch ran in
      let some = le_trans (lit≤ tt) run.facts.head.jacking_least in
      drift_of gauges run (run_of other inputs.other_read (other_over gauges some) report' scratch' ran');
}
