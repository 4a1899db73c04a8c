-- A turn lays the next segment's line out behind those that are there. Assumes nothing.
use Rattle.text.proofs.SheetTexts.{none_lined, next_lined, all_lined}
use Rattle.text.proofs.sheets.put_elongations.Goals as goal

pub loop-passed-init : goal.loop-passed-init
loop-passed-init c = none_lined _ _

pub loop-passed-preserved : goal.loop-passed-preserved
loop-passed-preserved c = next_lined c.loop-passed.invariant c.loop-passed-test.true c.put_line-at.ensures

pub returns : goal.returns
returns c = all_lined c.loop-passed.invariant c.loop-passed-test.false
