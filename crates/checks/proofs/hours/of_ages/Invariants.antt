-- At the loop's head the row gives what the ages that are left give, from the hour before them. Assumes nothing.
use mathlib.Core.Path.{◌≡◌}
use Rattle.fields.specs.Along.{ages_of}
use Rattle.checks.specs.Rows.{checked, hours_of_ages}
use Rattle.checks.proofs.hours.of_ages.Given as goal

abbrev pub invariant-loop-place : goal.invariant-loop-place
invariant-loop-place l =
    let left = l.place-iterator in
    checked (hours_of_ages l.ages.place l.before (ages_of l.ages.fields.now))
    ≡ checked (hours_of_ages left.place l.earlier (ages_of left.fields.now))
