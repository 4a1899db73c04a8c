-- The rows of an accepted run: so many numbers for each age, for which the report has room; so that a room above what the ages need is
-- as good as that. Assumes nothing.
use mathlib.Core.Path.{◌≡◌, refl, sym, ap, ◌∙◌}
use mathlib.Core.Bool.{Bool, true, false}
use mathlib.Core.List.{List, ◌++◌, append_assoc}
use Prim.Native.Nat.{ℕ, ◌*◌, min, ◌≤◌}
use native.Mathlib.Nat.{le-min, min-le_left, min-le_right}
use native.Mathlib.Omega.{arith}
use borrow.Author.Tests.{le-leb, lt-leb, leb-true, leb-false}
use lib.Dec.{leb}
use lib.ListN.{length, take, drop}
use lib.Seq.{take_at}
use Rattle.std.specs.Prelude.{Ok, Err}
use Rattle.fields.specs.declared.read.Counts.{Counts}
use Rattle.fields.specs.Outcomes.{OrRefusal, over}
use Rattle.fields.specs.Quantities.{Quantities, quantities_of}
use Rattle.fields.specs.Limits.{per_row, report_room, scratch_room}
use Rattle.fields.specs.Readable.{Readable}
use Rattle.fields.proofs.Counting.{age_count}
use Rattle.fields.proofs.Onward.{through}
use Rattle.checks.specs.Rows.{checked, checked_by}
use Rattle.member.specs.Member.{checked_of}
use Rattle.member.proofs.Laws.{accepted}
use Rattle.stages.specs.Run.{Report, member_result, result_of}
use Rattle.entries.specs.Answers.{Answer, numbers_of_rows, numbers_written, Ran}
use Rattle.entries.proofs.Closeness.{row_count, rows_length}
use Rattle.stratelyn.specs.Conditions.{Front, Rowed}

-- as many numbers as there is room for, up to some, are part of as many or more
pub room_within : {count : ℕ} (room most : ℕ) {whole : ℕ} → count ≡ min room most → most ≤ whole → count ≤ whole
room_within room most e h = let least = min-le_right room most in omega arith

-- room for so many numbers, and no more, is enough for them where any room is
enough : (count room : ℕ) → leb count (min room count) ≡ leb count room
enough count room = by (leb count room) refl
  where
    by : (b : Bool) → leb count room ≡ b → leb count (min room count) ≡ b
    by true e = le-leb count (min room count) (le-min (leb-true count room e) (omega arith))
    by false e =
        let less = leb-false count room e in
        let least = min-le_left room count in
        lt-leb count (min room count) (omega arith)

module _ (counts : Counts) (numbers : List ℕ) (readable : Readable counts numbers) {q : Quantities} (is : quantities_of counts numbers ≡ q)
    (report scratch : ℕ) where
  count : length q.ages ≡ counts.ages
  count = age_count counts numbers is

  -- an accepted run has the numbers of its ages, and the report has room for them
  rows_fit : (given : Report) → result_of q report scratch ≡ Ok given
      → (length (numbers_of_rows given.rows) ≡ report_room counts.ages) × (report_room counts.ages ≤ report)
  rows_fit given e =
      let run = through (checked_of q report scratch) (λ m. member_result m q.ages) e in
      let room = (accepted q report scratch run.given_is).facts.report_room_fits in
      (omega (arith, rows_length given.rows, row_count counts numbers is readable report scratch given e, count), omega (arith, room, count))

  same_room : checked_of q (min report (per_row * counts.ages)) (min scratch (per_row * counts.ages)) ≡ checked_of q report scratch
  unfolding checked_of checked_by checked
  same_room = rw (← count, enough (report_room (length q.ages)) report, enough (scratch_room (length q.ages)) scratch) refl

  -- what a run gives whose buffers are as large as the host's, up to what the ages need, and which are parts of others
  pub rowed : {answer : Answer} (after part scratch_after scratch_part rest : List ℕ)
      → length part ≡ min report (per_row * counts.ages) → length scratch_part ≡ min scratch (per_row * counts.ages)
      → Ran (result_of q (length part) (length scratch_part)) answer after part scratch_after scratch_part
      → Rowed (result_of q report scratch) (length q.ages) report answer (after ++ rest)
  rowed {answer} after part scratch_after scratch_part rest report_is scratch_is ran =
      let result = result_of q report scratch in
      let same : result_of q (length part) (length scratch_part) ≡ result = rw (report_is, scratch_is, same_room) in
      let there : Ran result answer after part scratch_after scratch_part = rw same at ran in
      rw count (record { answered = there.answered; front = front result refl there.report_is })
    where
      front : (result : OrRefusal Report) → result_of q report scratch ≡ result → after ≡ over (numbers_written result) part
          → Front result counts.ages report (after ++ rest)
      front (Err refusal) e w = tt
      front (Ok given) e w =
          let fit = rows_fit given e in
          let numbers = numbers_of_rows given.rows in
          record {
            rows_are =
                sym (ap (λ (l : List ℕ). take (report_room counts.ages) (l ++ rest)) w
                ∙ ap (take (report_room counts.ages)) (append_assoc numbers (drop (length numbers) part) rest)
                ∙ take_at numbers (drop (length numbers) part ++ rest) (report_room counts.ages) fit.0);
            report_room_fits = fit.1;
          }
