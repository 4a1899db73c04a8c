-- Texts behind each other in a buffer; the lines of the ages, one behind the other; what a run's answer prints is what its result does;
-- and an input's text is that of its first bytes. Assumes nothing.
use mathlib.Core.Path.{◌≡◌, refl, sym, ap, ◌∙◌}
use mathlib.Core.Bool.{Bool, true, false}
use mathlib.Core.Logic.{◌⊎◌, inl, inr}
use mathlib.Core.List.{List, [], ◌∷◌, ◌++◌, append_assoc, append-nil}
use Prim.Native.Nat.{ℕ, suc, ◌+◌, ◌-◌, ◌*◌, ◌≤◌, ◌<◌}
use native.Mathlib.Numerals.{add-one}
use native.Mathlib.Omega.{arith}
use lib.Dec.{ltb}
use lib.ListN.{length, get_or, take, drop, length-append, length-take, length-drop}
use borrow.Author.Tests.{ltb-true, ltb-false}
use borrow.Rule.Slice.PartMut.{mid_of, put_mid}
use Rattle.std.proofs.lemmas.List.{nil_from_length, get_or_append_left, drop_at, take_at, take_all, length-take-le, take-append-drop}
use Rattle.std.specs.Prelude.{Ok, Err}
use Rattle.fields.specs.Outcomes.{over, OrRefusal}
use Rattle.fields.specs.declared.segments.Age.{Age}
use Rattle.fields.specs.Quantities.{Quantities}
use Rattle.fields.specs.Limits.{per_row, most_ages}
use Rattle.fields.specs.Sizes.{most_report, most_scratch}
use Rattle.fields.proofs.Buffers.{length_over, written_behind}
use Rattle.fields.proofs.Refusals.{refusal_number}
use Rattle.stages.specs.declared.before.BeforeAges.{BeforeAges}
use Rattle.stages.specs.declared.intervals.Row.{Row}
use Rattle.stages.specs.Run.{Report, result_of}
use Rattle.card.specs.Conditions.{most_bytes}
use Rattle.card.proofs.Behind.{behind}
use Rattle.entries.specs.declared.Reply.{Reply}
use Rattle.entries.specs.Answers.{numbers_before, numbers_of_rows, numbers_written, Answered}
use Rattle.entries.proofs.Closeness.{rows_length}
use Rattle.text.specs.declared.Program.{Program}
use Rattle.text.specs.Columns.{line_of, Holds}
use Rattle.text.specs.Conditions.{most_line_bytes, RoomForText, AgesFit, lines_of_ages}
use Rattle.text.specs.Text.{before_text, ages_text, result_text, run_text, text_of}
use Rattle.text.proofs.Laying.{line_length_is}

-- a text behind another, by way of `&mut buffer[at..]`
pub holds_then : {first second : List ℕ} {at more : ℕ} {buffer old part : List ℕ} → Holds first at buffer old
    → Holds second more part (mid_of at (length buffer - at) buffer)
    → Holds (first ++ second) (at + more) (put_mid at (length buffer - at) buffer part) old
holds_then {first} {second} {at} {more} {buffer} {old} {part} holds behind =
    let is = written_behind first second old buffer part at holds.bytes_are holds.buffer_is behind.buffer_is in
    let both = length-append first second in
    let bytes = holds.bytes_are in
    let more_bytes = behind.bytes_are in
    record { bytes_are = omega arith; buffer_is = is }

-- ---- the lines of the ages

-- the numbers of an age's line
abbrev age_numbers : ℕ → Age → List ℕ → List ℕ
age_numbers number age row =
    number ∷ age.hour ∷ get_or row 0 0 ∷ get_or row 1 0 ∷ get_or row 2 0 ∷ get_or row 3 0 ∷ get_or row 4 0 ∷ []

next_text : (passed : ℕ) (age : Age) (ages : List Age) (row later : List ℕ) → length row ≡ per_row
    → lines_of_ages passed (age ∷ ages) (row ++ later)
    ≡ line_of (age_numbers (suc passed) age row) ++ lines_of_ages (suc passed) ages later
unfolding lines_of_ages
next_text passed age ages row later whole =
    rw (
      get_or_append_left row later 0 0 (omega arith),
      get_or_append_left row later 0 1 (omega arith),
      get_or_append_left row later 0 2 (omega arith),
      get_or_append_left row later 0 3 (omega arith),
      get_or_append_left row later 0 4 (omega arith),
      drop_at row later per_row whole,
    )

-- a part that holds the lines of the ages that are passed, so many; the ages that are left; and the rows that are left, to be cut into
-- parts of this size
pub record Lined (ages : List Age) (report old part : List ℕ) (at : ℕ) (left : List Age) (rows : List ℕ) (row_size passed : ℕ)
    : Type 0 where
  pub done : List ℕ
  pub holds : Holds done at part old
  pub at_is : at ≡ most_line_bytes * passed
  pub text : done ++ lines_of_ages passed left rows ≡ lines_of_ages 0 ages report
  pub row_size_is : row_size ≡ per_row
  pub ages_left : passed + length left ≡ length ages
  pub rows_left : per_row * passed + length rows ≡ per_row * length ages

pub none_lined : (ages : List Age) {report old : List ℕ} → AgesFit ages report old → Lined ages report old old 0 ages report per_row 0
none_lined ages fit =
    let rows = fit.rows_whole in
    record {
      done = [];
      holds = record { bytes_are = refl; buffer_is = refl };
      at_is = refl;
      text = refl;
      row_size_is = refl;
      ages_left = omega arith;
      rows_left = omega arith;
    }

module _ {ages : List Age} {report old part : List ℕ} {at : ℕ} {left : List Age} {rows : List ℕ} {row_size passed : ℕ}
    (lined : Lined ages report old part at left rows row_size passed) where
  pub next_lined : (age : Age) (later : List Age) (row rows_later : List ℕ) → left ≡ age ∷ later → rows ≡ row ++ rows_later
      → length row ≡ row_size → {more : ℕ} {after : List ℕ}
      → Holds (line_of (age_numbers (passed + 1) age row)) more after (mid_of at (length part - at) part)
      → Lined ages report old (put_mid at (length part - at) part after) (at + more) later rows_later row_size (passed + 1)
  next_lined age later row rows_later ages_are rows_are row_whole {more} {after} written =
      let numbers = age_numbers (passed + 1) age row in
      let of_line = line_length_is numbers in
      let bytes = written.bytes_are in
      let at_is = lined.at_is in
      let row_size_is = lined.row_size_is in
      let ages_left = lined.ages_left in
      let rows_left = lined.rows_left in
      let left_length = ap length ages_are in
      let rows_length = ap length rows_are ∙ length-append row rows_later in
      let next : lines_of_ages passed left rows ≡ line_of numbers ++ lines_of_ages (passed + 1) later rows_later =
      rw (ages_are, rows_are, add-one passed) (next_text passed age later row rows_later (omega arith)) in
      record {
        done = lined.done ++ line_of numbers;
        holds = holds_then lined.holds written;
        at_is = omega arith;
        text = append_assoc lined.done (line_of numbers) (lines_of_ages (passed + 1) later rows_later)
            ∙ ap (λ (l : List ℕ). lined.done ++ l) (sym next) ∙ lined.text;
        row_size_is = row_size_is;
        ages_left = omega arith;
        rows_left = omega arith;
      }

  -- the ages and the rows end together
  pub all_lined : (left ≡ []) ⊎ (length rows < row_size) → Holds (lines_of_ages 0 ages report) at part old
  unfolding lines_of_ages
  all_lined end = rw (← lined.text, none_left end, append-nil) lined.holds
    where
      none_left : (left ≡ []) ⊎ (length rows < row_size) → left ≡ []
      none_left (inl none) = none
      none_left (inr short) =
          let row_size_is = lined.row_size_is in
          let ages_left = lined.ages_left in
          let rows_left = lined.rows_left in
          nil_from_length left (omega arith)

-- ---- an answer

-- what the report program runs
abbrev result : Quantities → OrRefusal Report
result q = result_of q most_report most_scratch

-- the lines that the numbers of some rows make, one row for each age
lines_are : (passed : ℕ) (ages : List Age) (rows : List Row) → length rows ≡ length ages
    → lines_of_ages passed ages (numbers_of_rows rows) ≡ ages_text passed ages rows
unfolding lines_of_ages ages_text numbers_of_rows
lines_are passed [] [] e = refl
lines_are passed [] (row ∷ rows) e = refl
lines_are passed (age ∷ ages) [] e = absurd (omega arith)
lines_are passed (age ∷ ages) (row ∷ rows) e = rw (lines_are (suc passed) ages rows (omega arith))

-- the part behind the line before the ages takes theirs
pub ages_fit : {ages : List Age} {rows : List ℕ} {at : ℕ} {buffer old : List ℕ} (before : BeforeAges)
    → length rows ≡ per_row * length ages → length ages ≤ most_ages → RoomForText old → Holds (before_text before) at buffer old
    → AgesFit ages rows (mid_of at (length buffer - at) buffer)
ages_fit {at = at} {buffer} {old} before whole few room holds =
    let line = line_length_is (numbers_before before) in
    let bytes = holds.bytes_are in
    let same = ap length holds.buffer_is ∙ length_over (before_text before) old (omega arith) in
    record { rows_whole = whole; room = simp (length-take, length-drop) (omega arith) }

module _ (q : Quantities) {bytes : ℕ} {buffer old : List ℕ} where
  pub run_printed : (reply : Reply) (report was : List ℕ) → ((given : Report) → result q ≡ Ok given → length given.rows ≡ length q.ages)
      → Answered (result q) (Ok reply) → report ≡ over (numbers_written (result q)) was
      → Holds (before_text reply.before ++ lines_of_ages 0 q.ages (take (per_row * length q.ages) report)) bytes buffer old
      → Holds (run_text q) bytes buffer old
  run_printed reply report was counted answered written holds = rw (by (result q) refl answered written) at holds
    where
      by : (run : OrRefusal Report) → result q ≡ run → Answered run (Ok reply) → report ≡ over (numbers_written run) was
          → before_text reply.before ++ lines_of_ages 0 q.ages (take (per_row * length q.ages) report) ≡ result_text q.ages run
      by (Err refusal) gives a is = absurd (omega (arith, a.number_is, refusal_number refusal))
      by (Ok given) gives a is =
          let values = a.values_are in
          let text : before_text reply.before ≡ before_text given.before = cc in
          let rows = numbers_of_rows given.rows in
          let front : take (per_row * length q.ages) report ≡ rows =
          rw is (take_at rows _ (per_row * length q.ages) (rw (← counted given gives) (rows_length given.rows))) in
          rw (front, lines_are 0 q.ages given.rows (counted given gives), text)

-- ---- a card

-- the first bytes of an input decide its text, where they are more than the longest good card has
pub input_text : (program : Program) (buffer bytes input : List ℕ) → most_bytes < length buffer → bytes ≡ take (length buffer) input
    → text_of program bytes ≡ text_of program input
unfolding text_of
input_text program buffer bytes input more is = by (ltb (length buffer) (length input)) refl
  where
    first : List ℕ
    first = take (length buffer) input

    by : (longer : Bool) → ltb (length buffer) (length input) ≡ longer → text_of program bytes ≡ text_of program input
    by true e =
        let long = ltb-true (length buffer) (length input) e in
        let whole : first ++ drop (length buffer) input ≡ input = take-append-drop (length buffer) input in
        let has = length-take-le (length buffer) input (omega arith) in
        let same = rw whole at (behind first (drop (length buffer) input) (omega arith)) in
        rw (is, same)
    by false e =
        let short = ltb-false (length buffer) (length input) e in
        rw (is, take_all (length buffer) input short)
