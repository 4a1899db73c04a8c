-- What the reader gives is run as it is lent. The refusal of what is not read is answered, though the check finds it, so that a core that
-- loses its place is refused by the definition. Assumes nothing.
use mathlib.Core.Path.{sym}
use Rattle.std.proofs.lemmas.Result.{err_from_is_err_and}
use Rattle.fields.proofs.Reading.{readable, same_read}
use Rattle.entries.proofs.Readers.{promised, not_read}
use Rattle.entries.proofs.run.run.Goals as goal

pub returns-in_err-counts : goal.returns-in_err-counts
returns-in_err-counts g c =
    let outcome = g.R.Reader.outcome c.args.input.now in
    let refused = err_from_is_err_and c.from_residual.result c.from_residual.ensures.1 in
    rw (refused.1, refused.2) (not_read outcome (g.met.R.Reader.accepted c.args.input.now) _ _ _ (sym c.in_err-counts.ensures.value))

pub new-requires : goal.new-requires
new-requires g c =
    let outcome = g.R.Reader.outcome c.args.input.now in
    let given = c.in_ok-counts.ensures in
    readable outcome (g.met.R.Reader.accepted c.args.input.now) _ _ given.value given.numbers_after

pub returns : goal.returns
returns g c =
    let outcome = g.R.Reader.outcome c.args.input.now in
    let accepted = g.met.R.Reader.accepted c.args.input.now in
    let read = c.in_ok-counts.ensures in
    promised outcome accepted (same_read outcome accepted _ _ read.value read.numbers_after) (rw c.new.ensures at c.run_fields.ensures)
