-- What the reader of a card leaves at each of its answers: of the lines of segments and ages, and of the card. Assumes nothing.
use mathlib.Core.Path.{◌≡◌, refl, sym, ap, ◌∙◌}
use mathlib.Core.List.{List, ◌++◌}
use Prim.Native.Nat.{ℕ, ◌-◌, ◌*◌, ◌≤◌, ◌<◌}
use native.Mathlib.Omega.{arith}
use lib.ListN.{length, get_or, take, drop, replicate, length-append, length-drop, length-replicate, get_or-append}
use borrow.Rule.Slice.PartMut.{mid_of, put_mid}
use Rattle.std.proofs.lemmas.List.{take_rest}
use Rattle.std.specs.Prelude.{Option, Result, Ok, Err}
use Rattle.fields.specs.declared.read.Counts.{Counts}
use Rattle.fields.specs.Quantities.{segments_field, ages_field, second_segments_field, per_segment, per_age, head_fields, all_segments}
use Rattle.fields.specs.Limits.{most_ages}
use Rattle.fields.specs.Sizes.{most_counts}
use Rattle.fields.specs.declared.refusal.Refusal.{Refusal}
use Rattle.fields.specs.Outcomes.{OrRefusal, Outcome, refused, accepted, over}
use Rattle.fields.proofs.Buffers.{length_over, written_behind}
use Rattle.line.specs.declared.Blank.{Blank}
use Rattle.line.specs.declared.lines.Unread.{Unread}
use Rattle.line.specs.Lines.{Lines, ended}
use Rattle.line.specs.Conditions.{LinesFit, lines_from, Behind, GoesOn}
use Rattle.line.proofs.LineByLine.{Right, lines_right, take_replicate, fields_replicate, stops_there, from_there, right_there, goes_on}
use Rattle.card.specs.Card.{head_lines, head, announced, line_behind, counts_in, shape, unless_refused, outcome_of}
use Rattle.card.specs.Conditions.{AnnouncedFit}
use Rattle.card.specs.Laws.{right}

-- ---- the lines of segments and of ages

-- what the reader of all these lines leaves
pub record AnnouncedRead (counts : Counts) (unread : Unread) (was now : List ℕ) (result : Result (Unit {0}) ℕ) : Type 0 where
  pub value : result ≡ ended (line_behind counts) (announced unread.blank counts unread.bytes.now).rest
  pub fields_after : now ≡ over (announced unread.blank counts unread.bytes.now).numbers was

-- the lines' fields, as the code has them
abbrev segment_lines : Counts → List ℕ
segment_lines counts = take (all_segments counts) (replicate (all_segments most_counts) per_segment)

abbrev age_lines : Counts → List ℕ
age_lines counts = take counts.ages (replicate most_ages per_age)

module _ {counts : Counts} {old : Unread} {was : List ℕ} (fit : AnnouncedFit counts old was) where
  abbrev segments : List ℕ
  segments = replicate (all_segments counts) per_segment

  abbrev ages : List ℕ
  ages = replicate counts.ages per_age

  few_segments : all_segments counts ≤ all_segments most_counts
  few_segments = let few = fit.segments_most in let few_second = fit.second_most in omega arith

  segments_are : segment_lines counts ≡ segments
  segments_are = take_replicate (all_segments counts) (all_segments most_counts) per_segment few_segments

  ages_are : age_lines counts ≡ ages
  ages_are = take_replicate counts.ages most_ages per_age fit.ages_most

  pub segments_fit : LinesFit (segment_lines counts) old was
  segments_fit =
      let fields = fields_replicate (all_segments counts) per_segment in
      let lines = length-replicate (all_segments counts) per_segment in
      let line = fit.line in
      let field = fit.field in
      let room = fit.room in
      let most = few_segments in
      rw segments_are (record { room = omega arith; numbered = omega arith; lines_numbered = omega arith })

  all_from : announced old.blank counts old.bytes.now ≡ lines_from old (segments ++ ages)
  all_from = rw (fit.line, fit.field) refl

  module _ {after : List ℕ} (read : after ≡ over (lines_from old (segment_lines counts)).numbers was) where
    pub segment_wrong : {line : ℕ} → (lines_from old (segment_lines counts)).rest ≡ Err line → AnnouncedRead counts old was after (Err line)
    segment_wrong e =
        let all = all_from ∙ stops_there segments ages old (rw segments_are at e) in
        record { value = rw all refl; fields_after = rw all (rw segments_are at read) }

    module _ {mid : Unread} (there : Behind (lines_from old (segment_lines counts)) (segment_lines counts) old mid) where
      there_is : Behind (lines_from old segments) segments old mid
      there_is = rw segments_are at there

      abbrev read_numbers : ℕ
      read_numbers = per_segment * all_segments counts

      numbers_long : read_numbers ≡ length (lines_from old segments).numbers
      numbers_long = sym ((right_there there_is).read ∙ fields_replicate (all_segments counts) per_segment)

      after_long : length after ≡ length was
      after_long =
          let n = numbers_long in
          let room = fit.room in
          ap length (rw segments_are at read) ∙ length_over (lines_from old segments).numbers was (omega arith)

      pub ages_fit : LinesFit (age_lines counts) mid (take (length after - read_numbers) (drop read_numbers after))
      ages_fit =
          let fields = fields_replicate counts.ages per_age in
          let lines = length-replicate counts.ages per_age in
          let field = there_is.field in
          let line = there_is.line in
          let before = fields_replicate (all_segments counts) per_segment in
          let lines_before = length-replicate (all_segments counts) per_segment in
          let first_line = fit.line in
          let first_field = fit.field in
          let room = fit.room in
          let same = after_long in
          let few = few_segments in
          let few_ages = fit.ages_most in
          rw (ages_are, take_rest after read_numbers)
          (record { room = simp length-drop (omega arith); numbered = omega arith; lines_numbered = omega arith })

      module _ {last : List ℕ}
          (written : last ≡ over (lines_from mid (age_lines counts)).numbers
          (mid_of read_numbers (length after - read_numbers) after)) where
        abbrev buffer : List ℕ
        buffer = put_mid read_numbers (length after - read_numbers) after last

        all_is : announced old.blank counts old.bytes.now
            ≡ record { numbers = (lines_from old segments).numbers ++ (lines_from mid ages).numbers; rest = (lines_from mid ages).rest }
        all_is = all_from ∙ from_there there_is ages

        buffer_is : buffer ≡ over (announced old.blank counts old.bytes.now).numbers was
        buffer_is =
            rw all_is
            (written_behind (lines_from old segments).numbers (lines_from mid ages).numbers was after last read_numbers numbers_long
            (rw segments_are at read) (rw ages_are at written))

        pub age_wrong : {line : ℕ} → (lines_from mid (age_lines counts)).rest ≡ Err line → AnnouncedRead counts old was buffer (Err line)
        age_wrong e = record {
          value = rw (all_is, rw ages_are at e) refl;
          fields_after = buffer_is;
        }

        pub ends : {new : Unread} {result : Result (Unit {0}) ℕ}
            → Behind (lines_from mid (age_lines counts)) (age_lines counts) mid new → result ≡ ended new.line (Ok new.bytes.now)
            → AnnouncedRead counts old was buffer result
        ends {new = new} then e =
            let behind = goes_on there_is (rw ages_are at then) in
            let lines = length-append segments ages in
            let of_segments = length-replicate (all_segments counts) per_segment in
            let of_ages = length-replicate counts.ages per_age in
            let line = behind.line in
            let first_line = fit.line in
            let place : new.line ≡ line_behind counts = omega arith in
            record {
              value = e ∙ ap (λ (l : ℕ). ended l (Ok new.bytes.now)) place
                  ∙ ap (ended (line_behind counts)) (sym (ap (λ (l : Lines). l.rest) all_from ∙ behind.rest));
              fields_after = buffer_is;
            }

-- ---- the card

-- what the reader of a card leaves
pub record CardRead (blank : Option Blank) (card was now : List ℕ) (reading : OrRefusal Counts) : Type 0 where
  pub value : reading ≡ (outcome_of blank card).reading
  pub fields_after : now ≡ over (outcome_of blank card).numbers was

by : (blank : Option Blank) (card was now : List ℕ) (outcome : Outcome) → outcome_of blank card ≡ outcome → now ≡ over outcome.numbers was
    → CardRead blank card was now outcome.reading
by blank card was now outcome e is = record {
  value = rw e refl;
  fields_after = rw e is;
}

-- which line is wrong or missing where a shape is refused
pub record Wrong (A : Type 0) (result : Result A ℕ) (refusal : Refusal) : Type 0 where
  pub line : ℕ
  pub is : result ≡ Err line
  pub refusal_is : refusal ≡ Refusal.Shape line

pub wrong : {A : Type 0} (result : Result A ℕ) (refusal : Refusal) → ◌≡◌ {A = OrRefusal A} (Err refusal) (shape result)
    → Wrong A result refusal
wrong (Ok value) refusal e = cc
wrong (Err line) refusal e = record { line = line; is = refl; refusal_is = cc }

-- lines 1 to 4 were read into a buffer
pub record HeadRead (blank : Option Blank) (card was : List ℕ) (start mid : Unread) (fields : List ℕ) (result : Result (Unit {0}) ℕ)
    : Type 0 where
  pub value : GoesOn (head blank card) head_lines start mid result
  pub fields_after : fields ≡ over (head blank card).numbers was

module _ {blank : Option Blank} {card was : List ℕ} {start mid : Unread} {fields : List ℕ} {result : Result (Unit {0}) ℕ}
    (first : HeadRead blank card was start mid fields result) where
  pub head_wrong : (refusal : Refusal) → Err refusal ≡ shape result → CardRead blank card was fields (Err refusal)
  unfolding outcome_of
  head_wrong refusal e =
      let here = wrong result refusal e in
      let is : (head blank card).rest ≡ Err here.line = rw here.is at first.value in
      rw here.refusal_is
      (by blank card was fields (refused (Refusal.Shape here.line) (head blank card).numbers) (rw is refl) first.fields_after)

  module _ (whole : Ok tt ≡ shape result) where
    there : Behind (head blank card) head_lines start mid
    there = rw (right result (sym whole)) at first.value

    head_right : Right head_lines card (head blank card) mid.bytes.now
    head_right = lines_right blank head_lines 1 1 card mid.bytes.now there.rest

    number_is : (k : ℕ) → k < head_fields → get_or fields k 0 ≡ get_or (head blank card).numbers k 0
    number_is k h =
        rw first.fields_after (get_or-append (head blank card).numbers _ 0 k (let n = head_right.read in omega arith))

    counts_are : counts_in fields ≡ counts_in (head blank card).numbers
    counts_are =
        rw (
          number_is (segments_field - 1) (omega arith),
          number_is (ages_field - 1) (omega arith),
          number_is (second_segments_field - 1) (omega arith),
        )
        refl

    pub counts_refused : (refusal : Refusal) → Err refusal ≡ counts_in fields → CardRead blank card was fields (Err refusal)
    unfolding outcome_of
    counts_refused refusal e =
        let counts = sym counts_are ∙ sym e in
        by blank card was fields (refused refusal (head blank card).numbers) (rw (there.rest, counts) refl) first.fields_after

    -- then the lines that the counts announce
    module _ {counts : Counts} {after : List ℕ} {ended_by : Result (Unit {0}) ℕ} (blank_is : start.blank ≡ blank)
        (counted : Ok counts ≡ counts_in fields)
        (second : AnnouncedRead counts mid (mid_of head_fields (length fields - head_fields) fields) after ended_by) where
      abbrev more : Lines
      more = announced blank counts mid.bytes.now

      abbrev all : List ℕ
      all = (head blank card).numbers ++ more.numbers

      abbrev buffer_whole : List ℕ
      buffer_whole = put_mid head_fields (length fields - head_fields) fields after

      same_blank : mid.blank ≡ blank
      same_blank = there.blank ∙ blank_is

      buffer_is_whole : buffer_whole ≡ over all was
      buffer_is_whole =
          written_behind (head blank card).numbers more.numbers was fields after head_fields (sym head_right.read) first.fields_after
          (rw same_blank at second.fields_after)

      ended_is : ended_by ≡ ended (line_behind counts) more.rest
      ended_is = rw same_blank at second.value

      outcome_is : outcome_of blank card ≡ unless_refused (shape ended_by) all (λ _. accepted counts all)
      unfolding outcome_of
      outcome_is = let counts_here = sym counts_are ∙ sym counted in rw (there.rest, counts_here, ended_is) refl

      pub announced_wrong : (refusal : Refusal) → Err refusal ≡ shape ended_by → CardRead blank card was buffer_whole (Err refusal)
      announced_wrong refusal e = by blank card was buffer_whole (refused refusal all) (outcome_is ∙ rw (sym e) refl) buffer_is_whole

      pub all_read : Ok tt ≡ shape ended_by → CardRead blank card was buffer_whole (Ok counts)
      all_read e = by blank card was buffer_whole (accepted counts all) (outcome_is ∙ rw (sym e) refl) buffer_is_whole
