-- The part holds the lines of the segments so far. Assumes nothing.
use Rattle.text.proofs.SheetTexts.{Lined}
use Rattle.text.proofs.sheets.put_elongations.Given as goal

abbrev pub invariant-loop-passed : goal.invariant-loop-passed
invariant-loop-passed l = Lined l.elongations l.initial.part l.part l.at l.passed
