-- What the rows refuse leaves the buffer as it was; what they pass has its elongations written. Assumes nothing.
use mathlib.Core.Path.{◌≡◌, sym}
use borrow.Author.Rules.{rules}
use Rattle.std.specs.Prelude.{Err}
use Rattle.elongation.proofs.Passing.{passed}
use Rattle.elongation.proofs.Answering.{row_refuses, rows_hold}
use Rattle.elongation.proofs.sheet.of_fields.Goals as goal

pub returns-in_err-check_sheet : goal.returns-in_err-check_sheet
returns-in_err-check_sheet c =
    let refusal : c.from_residual.result ≡ Err c.in_err-check_sheet.field-0.0 = search rules in
    rw refusal (row_refuses _ _ c.in_err-check_sheet.ensures _)

pub stretch-sum-requires : goal.stretch-sum-requires
stretch-sum-requires c =
    let known = passed c.args.fields.now _ (tt {0}) (sym c.in_ok-check_sheet.ensures) in
    record { below_hours = known.below_hours; friction_most = known.friction_most; room = known.has_room }

pub returns : goal.returns
returns c = rows_hold _ _ c.in_ok-check_sheet.ensures c.stretch-sum.ensures
