-- The doubles so far stand for the list's first numbers; a turn reads the next eight bytes. Assumes nothing.
use mathlib.Core.Path.{◌∙◌}
use lib.Ieee.{of_bits}
use native.Mathlib.Omega.{arith}
use Rattle.numbers.proofs.Bytes.{decoded_none, number_at, decoded_more}
use Rattle.numbers.proofs.read_doubles.Goals as goal

pub loop-read-init : goal.loop-read-init
loop-read-init c = decoded_none _ _

pub loop-read-preserved : goal.loop-read-preserved
unfolding of_bits
loop-read-preserved c =
    decoded_more _ _ _ _ c.loop-read.invariant _ _ c.loop-read-test.true
    (c.from_le_bytes.ensures ∙ number_at c.args.list.now _ c.as_chunks.ensures.front (omega arith))
    (rw (c.unwrap_or.ensures, c.double_of.ensures))
