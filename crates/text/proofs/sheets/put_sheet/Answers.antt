-- What the answer prints is what the sheet does: a refusal's line, or the segments' lines and behind them that of the sum. Assumes nothing.
use native.Mathlib.Omega.{arith}
use Rattle.std.proofs.lemmas.List.{length-take-le}
use Rattle.fields.proofs.Counting.{path_count, few_segments}
use Rattle.text.proofs.Texts.{holds_then}
use Rattle.text.proofs.SheetTexts.{room_behind, sheet_printed}
use Rattle.text.proofs.sheets.put_sheet.Goals as goal

pub put_line-requires : goal.put_line-requires
put_line-requires c =
    let few = c.fields.invariant.segments_most in
    let room = c.requires in
    let count = length-take-le c.fields.inside.counts.segments c.of_fields.new.sheet (omega arith) in
    room_behind _ c.put_elongations-at.ensures (omega arith)

pub returns-in-Ok : goal.returns-in-Ok
returns-in-Ok c =
    sheet_printed c.args.fields.now (few_segments _ _ c.fields.view_is c.fields.invariant) c.in-Ok.ensures
    (rw (path_count _ _ c.fields.view_is) (holds_then c.put_elongations-at.ensures c.put_line.ensures))
