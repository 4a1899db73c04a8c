-- X and the length so far and those of the segments that are left make the whole. Each turn adds at most 2·10^9 to X. Assumes nothing.
use mathlib.Core.Path.{◌≡◌}
use Prim.Native.Nat.{◌+◌, ◌*◌, ◌≤◌}
use lib.ListN.{length}
use Rattle.fields.specs.Along.{segments_of}
use Rattle.member.specs.Constants.{path_friction, path_length}
use Rattle.member.specs.Facts.{SegmentsFit, most_segment_friction}
use Rattle.member.proofs.path.path_of.Given as goal

abbrev pub invariant-loop-segment : goal.invariant-loop-segment
invariant-loop-segment l =
    let all = segments_of l.path.fields.now in
    let left = segments_of l.segment-iterator.fields.now in
    let x = path_friction l.wobble l.curvature in
    record {
      fit : SegmentsFit left;
      small : l.friction + most_segment_friction * length left ≤ most_segment_friction * length all;
      friction_same : l.friction + x left ≡ x all;
      length_same : l.length + path_length left ≡ path_length all;
    }
