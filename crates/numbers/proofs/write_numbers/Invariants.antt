-- The buffer begins with the bytes of the numbers so far, and a turn writes eight bytes more into the part behind
-- them. Assumes nothing.
use Rattle.numbers.proofs.Bytes.{Stored}
use Rattle.numbers.proofs.write_numbers.Given as goal

abbrev pub invariant-loop-done : goal.invariant-loop-done
invariant-loop-done l = Stored l.numbers l.initial.buffer l.buffer l.done
