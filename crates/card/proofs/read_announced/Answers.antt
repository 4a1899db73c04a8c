-- `read_announced` meets its contract: the lines of segments, then those of ages behind them, then what is left. Assumes nothing.
use Rattle.std.proofs.lemmas.Result.{err_from_is_err_and}
use Rattle.card.proofs.Outcome.{segments_fit, segment_wrong, ages_fit, age_wrong, ends}
use Rattle.card.proofs.read_announced.Goals as goal

pub read_lines-requires : goal.read_lines-requires
read_lines-requires c = segments_fit c.requires

pub returns-in_err-read_lines : goal.returns-in_err-read_lines
returns-in_err-read_lines c =
    let error = err_from_is_err_and c.from_residual.result c.from_residual.ensures.1 in
    let lines = c.in_err-read_lines.ensures in
    let both = segment_wrong c.requires lines.fields_after lines.value in
    record { value = rw (error.1, error.2) both.value; fields_after = both.fields_after }

pub read_lines-requires-2 : goal.read_lines-requires-2
read_lines-requires-2 c = ages_fit c.requires c.in_ok-read_lines.ensures.fields_after c.in_ok-read_lines.ensures.value

pub returns-in_err-read_lines-2 : goal.returns-in_err-read_lines-2
returns-in_err-read_lines-2 c =
    let error = err_from_is_err_and c.from_residual-in_err-read_lines-2.result c.from_residual-in_err-read_lines-2.ensures.1 in
    let lines = c.in_err-read_lines-2.ensures in
    let both =
    age_wrong c.requires c.in_ok-read_lines.ensures.fields_after c.in_ok-read_lines.ensures.value lines.fields_after lines.value in
    record { value = rw (error.1, error.2) both.value; fields_after = both.fields_after }

pub returns : goal.returns
returns c =
    let lines = c.in_ok-read_lines-2.ensures in
    let both =
    ends c.requires c.in_ok-read_lines.ensures.fields_after c.in_ok-read_lines.ensures.value lines.fields_after lines.value c.end.ensures in
    record { value = both.value; fields_after = both.fields_after }
