-- `read_lines` meets its contract. The loop's invariant is `LinesFront`: the lines passed are right, and their numbers stand at
-- the front of the buffer. Assumes nothing.
use Rattle.line.proofs.LineByLine.{LinesFront}
use Rattle.line.proofs.lines.Unread.read_lines.Given as goal

abbrev pub invariant-loop-count : goal.invariant-loop-count
invariant-loop-count l = LinesFront l.counts l.initial.self l.self l.initial.fields l.fields l.count-index l.read
