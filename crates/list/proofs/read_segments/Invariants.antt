-- `list::read_segments` meets its contract. The loop's invariant: the segments so far are read, their numbers stand at the front, and the
-- rest is still to come. Assumes nothing.
use mathlib.Core.Path.{◌≡◌}
use Prim.Native.Nat.{◌*◌}
use Rattle.std.specs.Iterator.Adapters.{enumerate_source, enumerate_count}
use Rattle.std.specs.Slice.Iter.{chunks_exact_rest, chunks_exact_size}
use Rattle.fields.specs.Quantities.{per_segment}
use Rattle.list.proofs.Segments.{Passed}
use Rattle.list.proofs.read_segments.Given as goal

abbrev pub invariant-loop-passed : goal.invariant-loop-passed
invariant-loop-passed l =
    let chunks = enumerate_source l.passed-iterator in
    record {
      threes : chunks_exact_size chunks ≡ per_segment;
      passed : Passed l.part (chunks_exact_rest chunks) l.initial.fields l.fields (per_segment * enumerate_count l.passed-iterator);
    }
