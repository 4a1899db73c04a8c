-- `list::read_fields` meets its contract: each part is read behind those before it, or a field of it is refused. Assumes nothing.
use mathlib.Core.Path.{sym}
use native.Mathlib.Omega.{arith}
use borrow.Author.Rules.{rules}
use Rattle.std.specs.Prelude.{◌≡◌, ◌-◌, length, Err}
use borrow.Rule.Slice.PartMut.{put_mid}
use Rattle.list.specs.Lists.{age_in_ticks}
use Rattle.list.specs.Laws.{part_length}
use Rattle.list.specs.Measures.{Written, head_amounts, ages_amounts}
use Rattle.fields.specs.Quantities.{head_fields}
use Rattle.list.proofs.Numbers.{behind_is}
use Rattle.list.proofs.Parts.{first_age, before_ages, head_in, ages_in, head_length, head_count}
use Rattle.list.proofs.Parts.{head_refused, before_ages_refused, segments_written, ages_written}
use Rattle.list.proofs.read_fields.Goals as goal
use Rattle.list.proofs.read_fields.Goals.{After-write, After-map_err}

pub slice_bounds-head-end : goal.slice_bounds-head-end
slice_bounds-head-end c = sym (head_length c.args.list.now c.args.segments c.requires.segments_listed)

pub of-section-requires : goal.of-section-requires
of-section-requires c = omega (arith, head_length c.args.list.now c.args.segments c.requires.segments_listed)

pub write-requires-clause-callable : goal.write-requires-clause-callable
write-requires-clause-callable c = λ at h κs p e r l u v w.
    let whole = head_length c.args.list.now c.args.segments c.requires.segments_listed in
    record { within = omega arith; whole_head = whole; section_is = c.of-section.ensures }

head_written : (c : After-write) → Written (head_amounts (head_in c.args.list.now)) c.args.fields.now c.write.new.fields c.write.result
head_written c =
    c.write.ensures.written (head_amounts (head_in c.args.list.now))
    (record {
      count_is = head_count c.args.list.now c.args.segments c.requires.segments_listed;
      each = λ at amount h post. search rules;
    })

pub returns-in_err-write : goal.returns-in_err-write
returns-in_err-write c =
    let answer : c.from_residual.result ≡ Err c.in_err-write.field-0.0 = search rules in
    rw answer
    (head_refused c.args.list.now c.args.segments c.requires.segments_listed c.args.fields.now
    (rw c.in_err-write.was at (head_written (goal.at.returns-in_err-write c).After-write)))

front_written : (c : After-map_err) → Written (before_ages c.args.segments c.args.list.now) c.args.fields.now
    (put_mid head_fields (length c.write.new.fields - head_fields) c.write.new.fields c.read_segments.new.fields) c.map_err.result
front_written c =
    rw (behind_is head_fields c.read_segments.result c.map_err.result c.map_err.ensures.cases (λ read place post. search rules))
    (segments_written c.args.list.now c.args.segments c.requires.segments_listed c.args.fields.now
    (rw c.in_ok-write.was at (head_written (goal.at.After-map_err c).After-write)) c.read_segments.ensures)

pub returns-in_err-map_err : goal.returns-in_err-map_err
returns-in_err-map_err c =
    let answer : c.from_residual-in_err-map_err.result ≡ Err c.in_err-map_err.field-0.0 = search rules in
    rw answer
    (before_ages_refused c.args.list.now c.args.segments c.requires.segments_listed c.args.fields.now
    (rw c.in_err-map_err.was at (front_written (goal.at.returns-in_err-map_err c).After-map_err)))

pub returns : goal.returns
returns c =
    rw
    (behind_is (first_age c.args.segments) c.write-2.result c.map_err-2.result c.map_err-2.ensures.cases
    (λ read place post. search rules))
    (ages_written c.args.list.now c.args.segments c.requires.segments_listed c.args.fields.now
    (rw c.in_ok-map_err.was at (front_written (goal.at.returns c).After-map_err))
    (c.write-2.ensures.written (ages_amounts (ages_in c.args.segments c.args.list.now)) (record {
      count_is = part_length age_in_ticks 0 (ages_in c.args.segments c.args.list.now);
      each = λ at amount h post. search rules;
    })))
