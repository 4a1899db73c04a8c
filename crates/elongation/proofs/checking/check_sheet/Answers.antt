-- Where the rows to "hours" hold, the sheet's own can be made. Assumes nothing.
use mathlib.Core.Path.{sym, ◌∙◌}
use Rattle.member.proofs.Laws.{below_hours}
use Rattle.elongation.proofs.checking.check_sheet.Goals as goal

pub invariant_of-check_below_hours : goal.invariant_of-check_below_hours
invariant_of-check_below_hours c = below_hours c.args.fields.now (sym c.check_to_hours.ensures ∙ c.in_ok-check_to_hours.was)
