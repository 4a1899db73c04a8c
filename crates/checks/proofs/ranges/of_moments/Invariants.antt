-- At the loop's head the row gives what the ages that are left give, from the sum of the moments before them. Assumes nothing.
use mathlib.Core.Path.{◌≡◌}
use Rattle.fields.specs.Along.{ages_of}
use Rattle.checks.specs.Rows.{checked, ranges_of_moments}
use Rattle.checks.proofs.ranges.of_moments.Given as goal

abbrev pub invariant-loop-place : goal.invariant-loop-place
invariant-loop-place l =
    let left = l.place-iterator in
    checked (ranges_of_moments l.ages.place l.before (ages_of l.ages.fields.now))
    ≡ checked (ranges_of_moments left.place l.moments (ages_of left.fields.now))
