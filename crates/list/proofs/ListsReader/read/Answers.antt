-- `list::Lists::read` meets its contract: the counts are refused, or as many fields are read as the list has, or fewer. Assumes nothing.
use mathlib.Core.Path.{◌≡◌, ◌∙◌}
use native.Mathlib.Omega.{arith}
use borrow.Author.Rules.{rules}
use Rattle.std.specs.Prelude.{Ok, Err}
use Rattle.fields.specs.Outcomes.{onward}
use Rattle.list.proofs.Outcome.{Gives, counts_refused, room, fields_read}
use Rattle.list.proofs.ListsReader.read.Goals as goal
use Rattle.list.proofs.ListsReader.read.Goals.{After-map_err}

pub returns-in_err-counts : goal.returns-in_err-counts
returns-in_err-counts c =
    let refusal : c.from_residual.result ≡ Err c.in_err-counts.field-0.0 = search rules in
    let refused = counts_refused c.args.list.now c.args.numbers.now c.in_err-counts.ensures in
    record { value = refusal ∙ refused.value; numbers_after = refused.numbers_after }

pub overflow_add-segments : goal.overflow_add-segments
overflow_add-segments c = let fits = room c.args.list.now c.in_ok-counts.ensures in search rules

pub read_fields-requires : goal.read_fields-requires
read_fields-requires c =
    let fits = room c.args.list.now c.in_ok-counts.ensures in
    record { room = omega arith; segments_listed = omega arith }

given : (c : After-map_err) → Gives c.args.list.now c.args.numbers.now (onward c.map_err.result (λ done. Ok c.in_ok-counts.counts))
    c.read_fields.new.fields
given c =
    fields_read c.args.list.now c.args.numbers.now _ c.in_ok-counts.ensures c.read_fields.ensures c.map_err.ensures.cases
    (λ read refusal post. search rules)

pub returns-in_err-map_err : goal.returns-in_err-map_err
returns-in_err-map_err c =
    let refusal : c.from_residual-in_err-map_err.result ≡ Err c.in_err-map_err.field-0.0 = search rules in
    let refused = rw c.in_err-map_err.was at (given (goal.at.returns-in_err-map_err c).After-map_err) in
    record { value = refusal ∙ refused.value; numbers_after = refused.numbers_after }

pub returns : goal.returns
returns c =
    let accepted = rw c.in_ok-map_err.was at (given (goal.at.returns c).After-map_err) in
    record { value = accepted.value; numbers_after = accepted.numbers_after }
