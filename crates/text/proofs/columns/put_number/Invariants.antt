-- The columns from the loop's on are laid out, and what is left of the number belongs in those before it. Assumes nothing.
use Rattle.text.proofs.Laying.{Laid}
use Rattle.text.proofs.columns.put_number.Given as goal

abbrev pub invariant-loop-column : goal.invariant-loop-column
invariant-loop-column l = Laid l.number l.initial.part l.part l.column l.rest
