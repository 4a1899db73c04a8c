-- The sum of the three losses fits, since each does with room to spare. What is returned is answered, though the check finds it, so that
-- a core that looks at the two stresses otherwise is refused by the definition. Assumes nothing.
use native.Mathlib.Omega.{arith}
use Rattle.std.proofs.lemmas.Result.{err_from_is_err_and}
use Rattle.stages.proofs.Passing.{LossesFit, losses_fit, row_refused, row_is}
use Rattle.stages.proofs.intervals.pass.Goals as goal
use Rattle.stages.proofs.intervals.pass.Goals.{After-losses_between-losses}

pub returns-in_err-left : goal.returns-in_err-left
returns-in_err-left c =
    let args = c.args in
    let refused = err_from_is_err_and c.from_residual.result c.from_residual.ensures.1 in
    rw (refused.1, refused.2)
    (row_refused args.m.member args.number args.stress args.interval.start args.interval.end c.losses_between-losses.ensures
    c.in_err-left.ensures)

pub returns : goal.returns
returns c =
    let args = c.args in
    row_is args.m.member args.number args.stress args.interval.start args.interval.end c.losses_between-losses.ensures
    c.in_ok-left.ensures c.gain_between-gain.ensures c.in_ok-risen.ensures

fit : (c : After-losses_between-losses) → LossesFit c.losses_between-losses.result
fit c =
    let args = c.args in
    losses_fit args.interval.start args.m.bounded args.interval.bounded c.requires c.losses_between-losses.ensures

pub overflow_add-together : goal.overflow_add-together
overflow_add-together c = omega (arith, fit (goal.at.overflow_add-together c).After-losses_between-losses)

pub overflow_add-together-2 : goal.overflow_add-together-2
overflow_add-together-2 c = omega (arith, fit (goal.at.overflow_add-together-2 c).After-losses_between-losses)
