-- The elongations of the segments before are in the sheet, and the others are left. Assumes nothing.
use mathlib.Core.Path.{◌≡◌}
use lib.ListN.{drop}
use Rattle.fields.specs.Along.{segments_of}
use Rattle.elongation.proofs.Walk.{Stretching}
use Rattle.elongation.proofs.stretching.stretch.Given as goal

abbrev pub invariant-loop-number : goal.invariant-loop-number
invariant-loop-number l =
    let iterator = l.number-iterator in
    record {
      left : segments_of iterator.iter.fields.now ≡ drop iterator.count l.fields.path;
      stretching : Stretching l.fields l.initial.sheet l.sheet l.friction l.before l.sum iterator.count;
    }
