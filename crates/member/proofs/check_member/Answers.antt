-- Where the rows to "duct" hold, so do those to "hours". Assumes nothing.
use mathlib.Core.Path.{sym, ◌∙◌}
use Rattle.member.proofs.Laws.{below_duct}
use Rattle.member.proofs.check_member.Goals as goal

pub invariant_of-check_below_duct : goal.invariant_of-check_below_duct
invariant_of-check_below_duct c = below_duct c.args.fields.now (sym c.check_to_duct.ensures ∙ c.in_ok-paths.was)
