-- What a slip over the tendon's length takes is answered, though the check finds it, so that a core that takes another length is refused
-- by the definition. Assumes nothing.
use mathlib.Core.Path.{sym, ◌∙◌}
use Rattle.stages.proofs.Slipping.{over_the_tendon}
use Rattle.stages.proofs.path.slip_along.Goals as goal

pub returns-then-not-dies_out : goal.returns-then-not-dies_out
returns-then-not-dies_out c =
    let dies_not = sym c.dies_out.ensures ∙ c.if-not-dies_out.true in
    rw c.slip_loss.ensures (sym (over_the_tendon c.args.m.member c.args.path (rw c.requires.friction_is at dies_not)))
