-- Both paths, as they stand in the fields. Assumes nothing.
use mathlib.Core.Path.{◌∙◌}
use Rattle.fields.proofs.Counting.{both_are}
use Rattle.fields.proofs.read.Fields.both_paths.Goals as goal

pub returns-clause-paths : goal.returns-clause-paths
returns-clause-paths c =
    c.of.ensures.parts ∙ both_are c.self.inside.counts c.self.inside.numbers.now c.self.view_is
