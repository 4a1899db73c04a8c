-- The doubles so far stand for the list's first numbers; a turn reads the next eight bytes. Assumes nothing.
use Rattle.numbers.proofs.Bytes.{Decoded}
use Rattle.numbers.proofs.read_doubles.Given as goal

abbrev pub invariant-loop-read : goal.invariant-loop-read
invariant-loop-read l = Decoded l.list l.initial.doubles l.doubles l.read
