-- The lent parts have the host's room, up to what the ages need. Assumes nothing.
use mathlib.Core.Path.{◌∙◌}
use native.Mathlib.Omega.{arith}
use lib.Seq.{length-take-le}
use Rattle.stratelyn.proofs.Rows.{room_within, rowed}
use Rattle.stratelyn.proofs.run.run_rows.Goals as goal

pub returns : goal.returns
returns c =
    let few = c.fields.invariant.ages_most in
    rowed _ _ c.fields.invariant c.fields.view_is _ _ _ _ _ _ _
    (length-take-le _ _ (room_within _ _ c.room_up_to-report_room.ensures (omega arith)) ∙ c.room_up_to-report_room.ensures)
    (length-take-le _ _ (room_within _ _ c.room_up_to-scratch_room.ensures (omega arith)) ∙ c.room_up_to-scratch_room.ensures)
    c.run_fields.ensures
