-- `digits` meets its contract. The loop's invariant: the digits passed make `number`, which has at most as many digits as they are, and
-- the rest of the field is read behind it. Assumes nothing.
use Rattle.line.proofs.Fields.{Digits}
use Rattle.line.proofs.digits.Given as goal

abbrev pub invariant-loop-byte : goal.invariant-loop-byte
invariant-loop-byte l = Digits l.bytes l.byte-index l.number
