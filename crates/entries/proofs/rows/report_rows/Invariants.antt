-- The invariant is `Reported`: the rows before the one at hand are in the report, and those from it on are left. Assumes nothing.
use mathlib.Core.Path.{◌≡◌}
use lib.ListN.{take}
use Rattle.fields.specs.Limits.{per_row, scratch_room}
use Rattle.entries.proofs.BufferRows.{Reported}
use Rattle.entries.proofs.rows.report_rows.Given as goal

abbrev pub invariant-loop-number : goal.invariant-loop-number
invariant-loop-number l =
    let items = l.number-iterator.iter in
    record {
      size : items.size ≡ per_row;
      reported :
          Reported l.ages (take (scratch_room l.ages) l.scratch) items.rest.now l.initial.report l.report l.number-iterator.count;
    }
