-- Where the rows to "hours" hold, X can be computed. Assumes nothing.
use mathlib.Core.Path.{sym, ◌∙◌}
use Rattle.member.proofs.Laws.{below_hours}
use Rattle.member.proofs.check_to_duct.Goals as goal

pub invariant_of-check_duct : goal.invariant_of-check_duct
invariant_of-check_duct c = below_hours c.args.fields.now (sym c.check_to_hours.ensures ∙ c.in_ok-check_to_hours.was)
