-- A reader's refusal or the run's leaves the report; an accepted run's rows are the first numbers of the array, a row for each age, and
-- the report has room for them. Assumes nothing.
use mathlib.Core.Path.{◌≡◌}
use native.Mathlib.Omega.{arith}
use borrow.Author.Rules.{rules}
use lib.Seq.{length-take-le}
use Rattle.std.specs.Prelude.{Ok, Err}
use Prim.Native.Nat.{◌*◌}
use Rattle.fields.specs.Limits.{per_row}
use Rattle.fields.specs.Quantities.{quantities_read}
use Rattle.fields.proofs.Reading.{readable, same_read}
use Rattle.fields.proofs.Counting.{age_count}
use Rattle.stratelyn.proofs.Hosting.{none_reported, run_room, rows_reported}
use Rattle.stratelyn.proofs.Serving.{read_reported, not_read}
use Rattle.stratelyn.proofs.run.run.Given.{Over}
use Rattle.stratelyn.proofs.run.run.Goals as goal
use Rattle.stratelyn.proofs.run.run.Goals.{After-new-fields}

read : (g : Over) (c : After-new-fields g) → quantities_read (g.R.Reader.outcome c.args.input.now) ≡ Ok c.new-fields.result
read g c = rw c.new-fields.ensures (same_read _ (g.met.R.Reader.accepted _) _ _ c.in_ok-counts.ensures.value c.in_ok-counts.ensures.numbers_after)

pub returns-in_err-counts : goal.returns-in_err-counts
returns-in_err-counts g c =
    let refusal : c.from_residual.result ≡ Err c.in_err-counts.field-0.0 = search rules in
    rw refusal (not_read _ _ _ c.in_err-counts.ensures.value _)

pub new-fields-requires : goal.new-fields-requires
new-fields-requires g c = readable _ (g.met.R.Reader.accepted _) _ _ c.in_ok-counts.ensures.value c.in_ok-counts.ensures.numbers_after

pub returns-in_err-given : goal.returns-in_err-given
returns-in_err-given g c =
    let refusal : c.from_residual-in_err-given.result ≡ Err c.in_err-given.field-0.0 = search rules in
    rw refusal (read_reported _ _ _ (read g (goal.at.returns-in_err-given g c).After-new-fields) (none_reported _ c.in_err-given.ensures.answered _))

pub write_numbers-requires : goal.write_numbers-requires
write_numbers-requires g c =
    let few = c.fields.invariant.ages_most in
    let taken = length-take-le (per_row * c.fields.inside.counts.ages) c.run_rows.new.rows (omega arith) in
    record { room = rw taken (rw (age_count _ _ c.fields.view_is) at (run_room _ _ c.in_ok-given.ensures)) }

pub returns : goal.returns
returns g c =
    read_reported _ _ _ (read g (goal.at.returns g c).After-new-fields)
    (rows_reported _ _ c.in_ok-given.ensures (rw (age_count _ _ c.fields.view_is) c.write_numbers.ensures))
