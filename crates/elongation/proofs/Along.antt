-- X and the stress along a path, segment by segment: X of one segment more is X and what the segment adds, and before the first segment
-- the stress is the jacking stress. Each segment of a path that fits does. Assumes nothing.
use mathlib.Core.Path.{◌≡◌, refl}
use mathlib.Core.List.{List, [], ◌∷◌}
use Prim.Native.Nat.{ℕ, zero, suc, ◌+◌}
use native.Mathlib.Nat.{mul-div_cancel}
use native.Mathlib.Omega.{arith}
use lib.Dec.{lit<}
use lib.ListN.{take, drop}
use Rattle.ticks.specs.Ticks.{T}
use Rattle.exponential.specs.Factor.{turns, factor}
use Rattle.fields.specs.Quantities.{Quantities}
use Rattle.fields.specs.declared.segments.Segment.{Segment}
use Rattle.member.specs.Constants.{segment_friction, path_friction, jacked, stress_along}
use Rattle.member.specs.Facts.{SegmentFits, SegmentsFit, no_segment, segment_fits}

no_friction : factor 0 ≡ T
unfolding factor turns
no_friction = refl

pub jacked_first : (q : Quantities) (path : List Segment) → stress_along q path 0 ≡ jacked q
unfolding path_friction
jacked_first q path = rw no_friction (mul-div_cancel (jacked q) (lit< tt))

pub one_segment_more : (wobble curvature : ℕ) (path : List Segment) (k : ℕ) {segment : Segment} {rest : List Segment}
    → drop k path ≡ segment ∷ rest
    → path_friction wobble curvature (take (suc k) path)
    ≡ path_friction wobble curvature (take k path) + segment_friction wobble curvature segment
unfolding path_friction
one_segment_more wobble curvature [] zero e = cc
one_segment_more wobble curvature [] (suc k) e = cc
one_segment_more wobble curvature (first ∷ path) zero {segment} e = let same : first ≡ segment = cc in rw same (omega arith)
one_segment_more wobble curvature (first ∷ path) (suc k) e = omega (arith, one_segment_more wobble curvature path k e)

pub fits_at : (path : List Segment) (k : ℕ) {segment : Segment} {rest : List Segment} → SegmentsFit path → drop k path ≡ segment ∷ rest
    → SegmentFits segment
fits_at [] zero no_segment e = grind arith
fits_at [] (suc k) no_segment e = grind arith
fits_at (first ∷ path) zero {segment} (segment_fits fits later) e = let same : first ≡ segment = cc in rw same at fits
fits_at (first ∷ path) (suc k) (segment_fits fits later) e = fits_at path k later e
