-- The first age stands behind the last segment. Assumes nothing.
use mathlib.Core.Path.{◌∙◌}
use native.Mathlib.Omega.{arith}
use Rattle.fields.proofs.Counting.{both_count}
use Rattle.fields.proofs.read.Fields.ages.Goals as goal

pub returns-clause-place : goal.returns-clause-place
returns-clause-place c =
    rw (both_count c.self.inside.counts c.self.inside.numbers.now c.self.view_is) (c.of.ensures.place ∙ (omega arith))
