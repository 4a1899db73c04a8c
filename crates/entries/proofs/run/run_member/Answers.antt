-- The three ways of a run: it is refused before the ages, or at an age, or the rows go to the report. Assumes nothing.
use mathlib.Core.Path.{sym}
use native.Mathlib.Omega.{arith}
use Rattle.std.proofs.lemmas.Result.{err_from_is_err_and}
use Rattle.fields.proofs.Counting.{age_count, few}
use Rattle.stages.proofs.Beginning.{begun_fits}
use Rattle.entries.proofs.Accepting.{bounded, ages_fit, room, answers}
use Rattle.entries.proofs.Answering.{none_begins, none_left, all_passed}
use Rattle.entries.proofs.run.run_member.Goals as goal

pub invariant_of-m : goal.invariant_of-m
invariant_of-m c = record { bounded = bounded c.args.fields.now _ _ c.requires (few _ _ c.fields.view_is c.fields.invariant) }

pub returns-in_err-before : goal.returns-in_err-before
returns-in_err-before c =
    let args = c.args in
    let refused = err_from_is_err_and c.from_residual.result c.from_residual.ensures.1 in
    rw (refused.1, refused.2)
    (answers args.fields.now args.report.now args.scratch.now args.member c.requires
    (none_begins args.member args.fields.now.ages args.report.now args.scratch.now _ (sym c.in_err-before.ensures)))

pub run_ages-requires : goal.run_ages-requires
run_ages-requires c =
    let args = c.args in
    let fields = args.fields.now in
    let small = few _ _ c.fields.view_is c.fields.invariant in
    rw c.ages.ensures.ages (record {
      ages_fit = ages_fit fields args.report.now args.scratch.now args.member c.requires;
      transfer_is = c.end_at-transfer.ensures;
      stress_fits = begun_fits _ _ (bounded fields _ _ c.requires small) (sym c.in_ok-before.ensures);
      scratch_room_fits = (room fields args.report.now args.scratch.now args.member c.requires).scratch_room_fits;
    })

pub returns-in_err-last : goal.returns-in_err-last
returns-in_err-last c =
    let args = c.args in
    let error = err_from_is_err_and c.from_residual-in_err-last.result c.from_residual-in_err-last.ensures.1 in
    rw (error.1, error.2)
    (answers args.fields.now args.report.now args.scratch.now args.member c.requires
    (none_left args.member args.fields.now.ages args.report.now args.scratch.now _ (sym c.in_ok-before.ensures) _ _
    (rw c.ages.ensures.ages at c.run_ages.ensures) _ c.in_err-last.was))

pub report_rows-requires : goal.report_rows-requires
report_rows-requires c =
    let args = c.args in
    let lent = room args.fields.now args.report.now args.scratch.now args.member c.requires in
    let report_room_fits = lent.report_room_fits in
    let scratch_room_fits = lent.scratch_room_fits in
    let count = age_count _ _ c.fields.view_is in
    let kept = c.run_ages.ensures.scratch_length in
    record { report_room_fits = omega arith; scratch_room_fits = omega arith }

pub returns : goal.returns
returns c =
    let args = c.args in
    answers args.fields.now args.report.now args.scratch.now args.member c.requires
    (all_passed args.member args.fields.now.ages args.report.now args.scratch.now _ (sym c.in_ok-before.ensures) _ _
    (rw c.ages.ensures.ages at c.run_ages.ensures) _ _ c.report_rows.new.report c.in_ok-last.was c.double_of_ticks.ensures
    (rw (age_count _ _ c.fields.view_is) c.report_rows.ensures))
