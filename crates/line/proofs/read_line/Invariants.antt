-- `read_line` meets its contract. The loop's invariant is `Front`: the fields passed are read, and their numbers stand at the front of
-- the buffer. Assumes nothing.
use Rattle.std.proofs.Common.{◌≡◌, ◌*◌, ◌++◌, drop}
use Rattle.fields.specs.Quantities.{columns}
use Rattle.line.proofs.Amounts.{Front}
use Rattle.line.proofs.read_line.Given as goal

abbrev pub invariant-loop-done : goal.invariant-loop-done
invariant-loop-done l = record {
  part_is : l.part ≡ drop (columns * l.done) l.bytes;
  front : Front l.blank l.bytes l.count l.field l.fn.fields (l.number-items ++ drop l.count l.fn.fields) l.done;
}
