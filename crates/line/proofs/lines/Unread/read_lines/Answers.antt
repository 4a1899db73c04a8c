-- `read_lines` meets its contract. The loop's invariant is `LinesFront`: the lines passed are right, and their numbers stand at
-- the front of the buffer. Assumes nothing.
use native.Mathlib.Omega.{arith}
use lib.ListN.{length-drop}
use lib.Seq.{length-take-le}
use Rattle.std.proofs.lemmas.List.{take_rest}
use Rattle.std.proofs.lemmas.Result.{err_from_is_err_and}
use Rattle.line.proofs.LineByLine.{no_lines, fits, next_line, wrong_line}
use Rattle.line.proofs.lines.Unread.read_lines.Goals as goal

pub loop-count-init : goal.loop-count-init
loop-count-init c = no_lines c.args.counts.now c.args.self.now c.args.fields.now c.requires.room

pub read_line-requires : goal.read_line-requires
read_line-requires c =
    let front = c.loop-count.invariant in
    let fit = fits front c.loop-count-test.true in
    let line = front.there.line in
    let field = front.there.field in
    record {
      room = rw take_rest (simp length-drop (omega arith));
      numbered = omega arith;
      lines_numbered = omega (arith, length-take-le c.loop-count.count-index c.args.counts.now front.within);
    }

pub returns-in_err-read_line : goal.returns-in_err-read_line
returns-in_err-read_line c =
    let error = err_from_is_err_and c.from_residual.result c.from_residual.ensures.1 in
    let line = c.in_err-read_line.ensures in
    let both = wrong_line c.loop-count.invariant c.loop-count-test.true c.read_line.new.fields line.fields_after line.value in
    record { value = rw (error.1, error.2) both.0; fields_after = both.1 }

pub loop-count-preserved : goal.loop-count-preserved
loop-count-preserved c =
    let line = c.in_ok-read_line.ensures in
    next_line c.loop-count.invariant c.loop-count-test.true c.read_line.new.fields line.fields_after line.value

pub overflow_add-read : goal.overflow_add-read
overflow_add-read c = let front = loop-count-preserved c in let fit = front.read_fits in omega arith
