-- At the loop's head the row gives what the segments that are left give. Assumes nothing.
use mathlib.Core.Path.{◌≡◌}
use Rattle.fields.specs.Along.{segments_of}
use Rattle.checks.specs.Rows.{checked, segment_codes}
use Rattle.checks.proofs.codes.of_segments.Given as goal

abbrev pub invariant-loop-place : goal.invariant-loop-place
invariant-loop-place l =
    let left = l.place-iterator in
    checked (segment_codes l.segments.place (segments_of l.segments.fields.now))
    ≡ checked (segment_codes left.place (segments_of left.fields.now))
