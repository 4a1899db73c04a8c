-- The part begins with the numbers so far, and a turn lays the next one out behind them; then the line feed ends the line. Assumes nothing.
use Rattle.text.proofs.Laying.{none_begun, one_number_more, ended}
use Rattle.text.proofs.columns.put_line.Goals as goal

pub loop-done-init : goal.loop-done-init
loop-done-init c = none_begun _ _

pub loop-done-preserved : goal.loop-done-preserved
loop-done-preserved c = one_number_more c.loop-done.invariant c.loop-done-test.true _ c.put_number.ensures

pub returns : goal.returns
returns c = ended c.loop-done.invariant c.loop-done-test.false c.requires
