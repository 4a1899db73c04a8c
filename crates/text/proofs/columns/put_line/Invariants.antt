-- The part begins with the numbers so far. Assumes nothing.
use Rattle.text.proofs.Laying.{Begun}
use Rattle.text.proofs.columns.put_line.Given as goal

abbrev pub invariant-loop-done : goal.invariant-loop-done
invariant-loop-done l = Begun l.numbers l.initial.part l.part l.done
