-- `read_into` meets its contract: each answer is the outcome's that its tests lead to. Assumes nothing.
use mathlib.Core.Path.{refl}
use Rattle.std.proofs.lemmas.Result.{err_from_is_err_and}
use Rattle.card.proofs.Outcome.{HeadRead, AnnouncedRead, head_wrong, counts_refused, announced_wrong, all_read}
use Rattle.card.proofs.read_into.Goals as goal
use Rattle.card.proofs.read_into.Goals.{After-read_lines}

-- lines 1 to 4 were read, as the lemmas have it
head_read : (c : After-read_lines)
    → HeadRead c.args.blank c.args.card.now c.args.fields.now
    (record { bytes = c.args.card; line = 1; field = 1; blank = c.args.blank }) c.read_lines.new.self c.read_lines.new.fields
    c.read_lines.result
head_read c = record { value = c.read_lines.ensures.value; fields_after = c.read_lines.ensures.fields_after }

pub returns-in_err-shape : goal.returns-in_err-shape
returns-in_err-shape c =
    let error = err_from_is_err_and c.from_residual.result c.from_residual.ensures.1 in
    let first = head_read (goal.at.returns-in_err-shape c).After-read_lines in
    let both = head_wrong first c.in_err-shape.field-0.0 c.in_err-shape.ensures in
    record { value = rw (error.1, error.2) both.value; fields_after = both.fields_after }

pub returns-in_err-counts : goal.returns-in_err-counts
returns-in_err-counts c =
    let error = err_from_is_err_and c.from_residual-in_err-counts.result c.from_residual-in_err-counts.ensures.1 in
    let first = head_read (goal.at.returns-in_err-counts c).After-read_lines in
    let both = counts_refused first c.in_ok-shape.ensures c.in_err-counts.field-0.0 c.in_err-counts.ensures in
    record { value = rw (error.1, error.2) both.value; fields_after = both.fields_after }

pub returns-in_err-shape-2 : goal.returns-in_err-shape-2
returns-in_err-shape-2 c =
    let error = err_from_is_err_and c.from_residual-in_err-shape-2.result c.from_residual-in_err-shape-2.ensures.1 in
    let first = head_read (goal.at.returns-in_err-shape-2 c).After-read_lines in
    let second : AnnouncedRead _ c.read_lines.new.self _ c.read_announced.new.fields c.read_announced.result =
    record { value = c.read_announced.ensures.value; fields_after = c.read_announced.ensures.fields_after } in
    let both =
    announced_wrong first c.in_ok-shape.ensures refl c.in_ok-counts.ensures second c.in_err-shape-2.field-0.0 c.in_err-shape-2.ensures in
    record { value = rw (error.1, error.2) both.value; fields_after = both.fields_after }

pub returns : goal.returns
returns c =
    let first = head_read (goal.at.returns c).After-read_lines in
    let second : AnnouncedRead _ c.read_lines.new.self _ c.read_announced.new.fields c.read_announced.result =
    record { value = c.read_announced.ensures.value; fields_after = c.read_announced.ensures.fields_after } in
    let both = all_read first c.in_ok-shape.ensures refl c.in_ok-counts.ensures second c.in_ok-shape-2.ensures in
    record { value = both.value; fields_after = both.fields_after }
