-- The buffer begins with the bytes of the numbers so far, and a turn writes eight bytes more into the part behind
-- them. Assumes nothing.
use mathlib.Core.Path.{◌∙◌}
use Rattle.numbers.proofs.Bytes.{bytes_are, stored_none, stored_more}
use Rattle.numbers.proofs.write_numbers.Goals as goal

pub loop-done-init : goal.loop-done-init
loop-done-init c = stored_none _ _

pub loop-done-preserved : goal.loop-done-preserved
loop-done-preserved c =
    stored_more _ _ _ _ c.requires.room c.loop-done.invariant _ c.loop-done-test.true
    (c.copy_from_slice.ensures.after ∙ c.to_le_bytes.ensures ∙ bytes_are _)
