-- X and the length of a path, segment by segment: what is known of the first segment that is left and of those behind it. Assumes nothing.
use mathlib.Core.Path.{◌≡◌}
use mathlib.Core.List.{List, ◌∷◌}
use Prim.Native.Nat.{◌*◌, ◌≤◌}
use native.Mathlib.Omega.{arith}
use Rattle.fields.specs.declared.segments.Segment.{Segment}
use Rattle.fields.specs.Limits.{most_length, most_segments}
use Rattle.member.specs.Constants.{path_length}
use Rattle.member.specs.Facts.{SegmentFits, SegmentsFit, segment_fits, PathFits}
use Rattle.member.proofs.Bounds.{path_most}

pub length_most : {path : List Segment} → PathFits path → path_length path ≤ most_length * most_segments
length_most fits = let few = fits.few in omega (arith, path_most fits.segments_fit)

first_of : {segment : Segment} {later : List Segment} → SegmentsFit (segment ∷ later) → SegmentFits segment
first_of (segment_fits first later) = first

later_of : {segment : Segment} {later : List Segment} → SegmentsFit (segment ∷ later) → SegmentsFit later
later_of (segment_fits first later) = later

pub first_fits : {left : List Segment} (segment : Segment) (later : List Segment) → left ≡ segment ∷ later → SegmentsFit left
    → SegmentFits segment
first_fits segment later next fit = first_of (rw next at fit)

pub later_fit : {left : List Segment} (segment : Segment) (later : List Segment) → left ≡ segment ∷ later → SegmentsFit left
    → SegmentsFit later
later_fit segment later next fit = later_of (rw next at fit)

-- what the loop cites
pub ruleset along = (length_most, first_fits, later_fit)
