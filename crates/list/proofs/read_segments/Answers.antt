-- `list::read_segments` meets its contract. The loop's invariant: the segments so far are read, their numbers stand at the front, and the
-- rest is still to come. Assumes nothing.
use mathlib.Core.Path.{◌≡◌, refl, ap, ◌∙◌}
use Prim.Native.Nat.{◌+◌, ◌-◌, ◌*◌}
use native.Mathlib.Omega.{arith}
use lib.ListN.{length, get_or}
use borrow.Author.Rules.{rules}
use borrow.Rule.Slice.PartMut.{mid_of}
use Rattle.std.specs.Prelude.{None, Err}
use Rattle.std.specs.Iterator.Adapters.{enumerate_source, enumerate_count}
use Rattle.std.specs.Slice.Iter.{chunks_exact_rest}
use Rattle.fields.specs.Quantities.{per_segment}
use Rattle.list.specs.Measures.{Written, amounts_of_entry}
use Rattle.list.proofs.Numbers.{behind_those, behind_is}
use Rattle.list.proofs.Segments.{Passed, entry_in, entry_count, begins, stops, turns}
use Rattle.list.proofs.read_segments.Goals as goal
use Rattle.list.proofs.read_segments.Goals.{After-map_err}

pub loop-passed-init : goal.loop-passed-init
loop-passed-init c =
    let chunks = c.chunks_exact.ensures in
    let numbered = c.enumerate-passed-items.ensures in
    rw (c.into_iter-passed-iterator.ensures.into_iter_gives, numbered.source, numbered.count, chunks.size, chunks.rest)
    (record { threes = refl; passed = begins c.args.part.now c.args.fields.now c.requires.whole_segments c.requires.room })

-- the segment of this turn
module _ (c : After-map_err) where
  three : length c.in-Some.doubles.now ≡ per_segment
  three = c.in-Some.ensures.steps.0.1.1 ∙ c.loop-passed.invariant.threes

  passed : Passed c.args.part.now (chunks_exact_rest (enumerate_source c.loop-passed.passed-iterator)) c.args.fields.now
      c.loop-passed.fields (per_segment * c.in-Some.passed)
  passed = rw c.in-Some.ensures.steps.1 c.loop-passed.invariant.passed

  written : Written (amounts_of_entry (entry_in c.in-Some.doubles.now))
      (mid_of (per_segment * c.in-Some.passed) (length c.loop-passed.fields - per_segment * c.in-Some.passed) c.loop-passed.fields)
      c.write.new.fields c.write.result
  written =
      let amounts : c.amounts-amounts.result ≡ amounts_of_entry (entry_in c.in-Some.doubles.now) =
      c.amounts-amounts.ensures ∙ ap amounts_of_entry c.of.ensures in
      c.write.ensures.written (amounts_of_entry (entry_in c.in-Some.doubles.now))
      (record {
        count_is = entry_count c.in-Some.doubles.now;
        each = λ at amount h post.
            let read : get_or c.amounts-amounts.result at None ≡ amount = search rules in
            rw amounts at read;
      })

  answered : c.map_err.result ≡ behind_those (per_segment * c.in-Some.passed) c.write.result
  answered =
      behind_is (per_segment * c.in-Some.passed) c.write.result c.map_err.result c.map_err.ensures.cases
      (λ read place post. search rules)

pub returns-in_err-map_err : goal.returns-in_err-map_err
returns-in_err-map_err c =
    let turn = (goal.at.returns-in_err-map_err c).After-map_err in
    let refused : c.from_residual.result ≡ Err c.in_err-map_err.field-0.0 = search rules in
    rw refused (stops (passed turn) _ _ c.in-Some.ensures.steps.0.1.0 (three turn) (written turn) (answered turn) c.in_err-map_err.was)

pub loop-passed-preserved : goal.loop-passed-preserved
loop-passed-preserved c =
    let turn = (goal.at.loop-passed-preserved c).After-map_err in
    let one_more : per_segment * c.in-Some.passed + per_segment ≡ per_segment * enumerate_count c.next.new.self =
    let step = c.in-Some.ensures.steps.1 in
    let next = c.in-Some.ensures.steps.2 in
    omega arith in
    record {
      threes = c.in-Some.ensures.steps.0.0 ∙ c.loop-passed.invariant.threes;
      passed =
          rw one_more at
          (turns (passed turn) _ _ c.in-Some.ensures.steps.0.1.0 (three turn) (written turn) (answered turn) c.in_ok-map_err.was);
    }
