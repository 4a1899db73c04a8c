-- It serves the code alone. What the inner functions of the run ask for: no entry does, and every accepted member has it.
use Rattle.std.specs.Prelude.{ℕ, ◌≤◌, ◌<◌, ◌≡◌, List, length}
use Rattle.fields.specs.declared.segments.Age.{Age}
use Rattle.fields.specs.Limits.{report_room, scratch_room}
use Rattle.member.specs.declared.Member.{Member}
use Rattle.member.specs.Facts.{RisingFrom, MomentsWithin}
use Rattle.formulas.specs.Conditions.{stress_limit}
use Rattle.stages.specs.declared.ends.End.{End}
use Rattle.stages.specs.Run.{transfer_end}

-- of the two lent buffers, for the rows of so many ages
pub record RoomForRows (ages : ℕ) (report scratch : List ℕ) : Type 0 where
  pub report_room_fits : report_room ages ≤ length report
  pub scratch_room_fits : scratch_room ages ≤ length scratch

-- of a member's ages
pub record AgesFit (m : Member) (ages : List Age) : Type 0 where
  pub rise : RisingFrom m.hours.transfer ages
  pub moments_fit : MomentsWithin m.own_weight_moment ages

-- of their run, from the end at transfer and the stress that is left there on
pub record AgesRunnable (m : Member) (ages : List Age) (transfer : End) (stress : ℕ) (scratch : List ℕ) : Type 0 where
  pub ages_fit : AgesFit m ages
  pub transfer_is : transfer ≡ transfer_end m
  pub stress_fits : stress < stress_limit
  pub scratch_room_fits : scratch_room (length ages) ≤ length scratch
