-- An age that is passed keeps the invariant; the loop ends behind the last age, or where one is refused. Assumes nothing.
use Rattle.std.proofs.Common.{sym}
use Rattle.std.proofs.lemmas.Result.{err_from_is_err_and}
use Rattle.stages.proofs.Clocks.{end_bounded}
use Rattle.entries.proofs.Running.{moments_most, stops, turns, ends}
use Rattle.entries.proofs.ages.run_ages.Goals as goal

pub invariant_of-interval : goal.invariant_of-interval
invariant_of-interval c =
    let within = moments_most c.loop-passed.invariant _ _ c.in-Some.ensures.steps.0.1 in
    record { bounded = rw c.end_at-end.ensures (end_bounded c.args.m.member _ _ c.args.m.bounded within) }

pub returns-in_err-row : goal.returns-in_err-row
returns-in_err-row c =
    let step = c.in-Some.ensures.steps in
    let refused = err_from_is_err_and c.from_residual.result c.from_residual.ensures.1 in
    rw (refused.1, refused.2)
    (stops c.loop-passed.invariant _ _ step.0.1 _ c.end_at-end.ensures _ (rw step.1 at (sym c.in_err-row.ensures)))

pub loop-passed-preserved : goal.loop-passed-preserved
loop-passed-preserved c =
    let step = c.in-Some.ensures.steps in
    rw (c.write_row.ensures, c.numbers.ensures, step.1, step.2)
    (turns c.loop-passed.invariant _ _ step.0.1 _ c.end_at-end.ensures _ (rw step.1 at (sym c.in_ok-row.ensures)) c.args.m.bounded)

pub returns : goal.returns
returns c = ends c.loop-passed.invariant c.in-None.ensures.steps.0
