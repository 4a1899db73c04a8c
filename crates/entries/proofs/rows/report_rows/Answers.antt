-- Each row of the scratch goes to its place in the report, by way of the part that begins there. That a row fits there is answered, though
-- the check finds it, so that a row in a wrong place is refused by the report. Assumes nothing.
use mathlib.Core.Path.{◌≡◌, ◌∙◌}
use Rattle.std.proofs.Common.{length}
use Rattle.fields.specs.Limits.{per_row}
use Rattle.entries.proofs.BufferRows.{part_room, room_to_write, one_more}
use Rattle.entries.proofs.rows.report_rows.Goals as goal

pub write_row-requires : goal.write_row-requires
write_row-requires c =
    let step = c.in-Some.ensures.steps in
    let invariant = c.loop-number.invariant in
    let whole : length c.in-Some.row.now ≡ per_row = step.0.1.1 ∙ invariant.size in
    rw whole
    (part_room c.loop-number.report _
    (rw step.1 (room_to_write invariant.reported c.in-Some.row.now c.next.new.self.iter.rest.now step.0.1.0 whole)))

pub loop-number-preserved : goal.loop-number-preserved
loop-number-preserved c =
    let step = c.in-Some.ensures.steps in
    let invariant = c.loop-number.invariant in
    record {
      size = step.0.0 ∙ invariant.size;
      reported =
          rw (c.write_row.ensures, step.1, step.2)
          (one_more invariant.reported c.in-Some.row.now c.next.new.self.iter.rest.now step.0.1.0 (step.0.1.1 ∙ invariant.size));
    }
