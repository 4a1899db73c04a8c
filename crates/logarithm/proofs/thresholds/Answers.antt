-- The constant array is a table of thresholds: the test over all its entries computes. Assumes nothing.
use Rattle.logarithm.proofs.Rule.{is_table}
use Rattle.logarithm.proofs.thresholds.Goals as goal

pub returns : goal.returns
returns c = is_table _ tt tt
