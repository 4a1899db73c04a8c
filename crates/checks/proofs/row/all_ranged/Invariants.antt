-- At the loop's head the row gives what the fields that are left give. Assumes nothing.
use mathlib.Core.Path.{◌≡◌}
use lib.ListN.{drop}
use Rattle.checks.specs.Rows.{checked}
use Rattle.checks.specs.Ranged.{Elements, ranges_held}
use Rattle.checks.proofs.row.all_ranged.Given as goal

abbrev pub invariant-loop-element : goal.invariant-loop-element
invariant-loop-element l =
    let left = drop l.element-index l.ranges in
    record {
      elements : Elements left;
      same : checked (ranges_held l.numbers l.ranges) ≡ checked (ranges_held l.numbers left);
    }
