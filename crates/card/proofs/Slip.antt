-- What a card gives depends on the slip's columns by what the slip reads, and on nothing else of them: line 1 is taken apart at the slip,
-- and no field of a later line is the slip. So a card whose slip is written gives the same whatever a blank one reads, and one whose slip
-- is blank gives what it gives with that number written there. Assumes nothing.
use mathlib.Core.Path.{◌≡◌, refl, sym, ap, ◌∙◌}
use mathlib.Core.Bool.{Bool, true, false}
use mathlib.Core.List.{List, ◌++◌}
use Prim.Native.Nat.{ℕ, suc, ◌+◌, ◌-◌, ◌≤◌}
use native.Mathlib.Omega.{arith}
use lib.ListN.{length, get_or, take, drop, replicate, length-take, length-drop, length-replicate}
use lib.Seq.{length-take-le}
use borrow.Rule.Slice.PartMut.{put_same}
use Rattle.std.specs.Prelude.{Option, Some, None, Result, Ok, Err}
use Rattle.fields.specs.declared.read.Counts.{Counts}
use Rattle.fields.specs.Quantities.{columns, field_number, first_segment_field}
use Rattle.fields.specs.Outcomes.{OrRefusal}
use Rattle.line.specs.declared.Blank.{Blank}
use Rattle.line.specs.Lines.{space, spaces_in, field_of, blank_reads, amounts_of, line_length, is_shaped, read_line}
use Rattle.line.proofs.Amounts.{shaped_long}
use Rattle.line.proofs.BlankField.{amounts_elsewhere, lines_elsewhere, same_lines, written_amount, number_written, amounts_parts}
use Rattle.line.proofs.BlankField.{rest_parts, shaped_parts}
use Rattle.card.specs.Card.{slip_may_be_blank, head_lines, head, first_segment_line, announced_lines, counts_in, shape, unless_refused}
use Rattle.card.specs.Card.{ending, outcome_of}
use Rattle.card.specs.Slip.{slip_column, slip_columns, SlipIsBlank, with_slip}

-- ---- line 1: fields before the slip, the slip, and fields behind it; and the lines up to the fourth

abbrev slip_field : ℕ
slip_field = field_number.slip

abbrev on_line1 : ℕ
on_line1 = get_or head_lines 0 0

abbrev fields_before : ℕ
fields_before = slip_field - 1

abbrev fields_behind : ℕ
fields_behind = on_line1 - slip_field

abbrev later_lines : List ℕ
later_lines = drop 1 head_lines

-- the slip as it may be blank
abbrev blank_of : ℕ → Blank
blank_of reads = record { field = slip_field; reads = reads }

-- ---- the same line 1 gives the same card

module _ (reads reads' : ℕ) where
  abbrev blank : Option Blank
  blank = slip_may_be_blank reads

  abbrev blank' : Option Blank
  blank' = slip_may_be_blank reads'

  same_ending : (numbers : List ℕ) (rest : List ℕ) (given : OrRefusal Counts)
      → unless_refused given numbers (ending blank numbers rest) ≡ unless_refused given numbers (ending blank' numbers rest)
  same_ending numbers rest (Err refusal) = refl
  same_ending numbers rest (Ok counts) =
      rw (lines_elsewhere (blank_of reads) (blank_of reads') refl (announced_lines counts) first_segment_line first_segment_field rest
      (omega arith)) refl

  same_rest : (numbers : List ℕ) (given : Result (List ℕ) ℕ)
      → unless_refused (shape given) numbers (λ rest. unless_refused (counts_in numbers) numbers (ending blank numbers rest))
      ≡ unless_refused (shape given) numbers (λ rest. unless_refused (counts_in numbers) numbers (ending blank' numbers rest))
  same_rest numbers (Err line) = refl
  same_rest numbers (Ok rest) = same_ending numbers rest (counts_in numbers)

  same_card : (card card' : List ℕ) → head blank card ≡ head blank' card' → outcome_of blank card ≡ outcome_of blank' card'
  unfolding outcome_of
  same_card card card' same = rw same (same_rest (head blank' card').numbers (head blank' card').rest)

  same_head : (card card' : List ℕ) → read_line blank on_line1 1 1 card ≡ read_line blank' on_line1 1 1 card'
      → outcome_of blank card ≡ outcome_of blank' card'
  same_head card card' same =
      same_card card card'
      (same_lines (blank_of reads) (blank_of reads') refl on_line1 later_lines 1 1 card card' (omega arith) same)

  -- two cards that differ in the slip's columns alone, and there not in what the slip reads
  module _ (front slip slip' back : List ℕ) (at_slip : length front ≡ slip_column) (filled : length slip ≡ columns)
      (filled' : length slip' ≡ columns)
      (same : field_of (blank_reads blank slip_field) slip ≡ field_of (blank_reads blank' slip_field) slip') where
    abbrev card : List ℕ
    card = front ++ (slip ++ back)

    abbrev card' : List ℕ
    card' = front ++ (slip' ++ back)

    same_shape : is_shaped on_line1 card ≡ is_shaped on_line1 card'
    same_shape =
        shaped_parts front slip back fields_before fields_behind at_slip filled
        ∙ sym (shaped_parts front slip' back fields_before fields_behind at_slip filled')

    same_amounts : amounts_of blank on_line1 1 card ≡ amounts_of blank' on_line1 1 card'
    same_amounts =
        amounts_parts front slip back fields_before fields_behind at_slip filled blank 1
        ∙ rw (
          amounts_elsewhere (blank_of reads) (blank_of reads') refl fields_before 1 front (λ k h e. omega arith),
          same,
          amounts_elsewhere (blank_of reads) (blank_of reads') refl fields_behind (suc slip_field) back (λ k h e. omega arith),
        )
        (sym (amounts_parts front slip' back fields_before fields_behind at_slip filled' blank' 1))

    same_behind : drop (line_length on_line1) card ≡ drop (line_length on_line1) card'
    same_behind =
        rest_parts front slip back fields_before fields_behind at_slip filled
        ∙ sym (rest_parts front slip' back fields_before fields_behind at_slip filled')

    slip_alone : outcome_of blank card ≡ outcome_of blank' card'
    slip_alone = same_head card card' (rw (same_shape, same_amounts, same_behind))

-- ---- a card that reaches behind its slip

module _ (card : List ℕ) (long : slip_column + columns ≤ length card) where
  front_length : length (take slip_column card) ≡ slip_column
  front_length = length-take-le slip_column card (omega arith)

  slip_length : length (slip_columns card) ≡ columns
  slip_length = length-take-le columns (drop slip_column card) (omega (arith, length-drop slip_column card))

  with_slip_is : (reads reads' : ℕ) (slip' : List ℕ) → length slip' ≡ columns
      → field_of (blank_reads (slip_may_be_blank reads) slip_field) (slip_columns card)
      ≡ field_of (blank_reads (slip_may_be_blank reads') slip_field) slip'
      → outcome_of (slip_may_be_blank reads) card ≡ outcome_of (slip_may_be_blank reads') (with_slip slip' card)
  with_slip_is reads reads' slip' filled' same =
      ap (outcome_of (slip_may_be_blank reads)) (sym (put_same slip_column columns card))
      ∙ slip_alone reads reads' (take slip_column card) (slip_columns card) slip' (drop columns (drop slip_column card)) front_length
      slip_length filled' same

-- ---- the laws

pub written_slip : (reads reads' : ℕ) (card : List ℕ) → (SlipIsBlank card → ⊥)
    → outcome_of (slip_may_be_blank reads) card ≡ outcome_of (slip_may_be_blank reads') card
written_slip reads reads' card written = by_shape (is_shaped on_line1 card) refl
  where
    by_shape : (shaped : Bool) → is_shaped on_line1 card ≡ shaped
        → outcome_of (slip_may_be_blank reads) card ≡ outcome_of (slip_may_be_blank reads') card
    by_shape true e =
        let all = shaped_long on_line1 card e in
        let long : slip_column + columns ≤ length card = omega arith in
        let filled = slip_length card long in
        with_slip_is card long reads reads' (slip_columns card) filled
        (written_amount _ _ (slip_columns card) (λ spaces. written (spaces ∙ ap (λ (n : ℕ). replicate n space) filled)))
        ∙ ap (outcome_of (slip_may_be_blank reads')) (put_same slip_column columns card)
    by_shape false e = same_head reads reads' card card (rw e)

blank_field : (reads : Option ℕ) → field_of reads (replicate columns space) ≡ reads
unfolding spaces_in
blank_field reads = refl

-- a slip that reads a number, though no blank one does, has it written
pub blank_slip_is : (reads reads' : ℕ) (slip' card : List ℕ) → SlipIsBlank card → length slip' ≡ columns → field_of None slip' ≡ Some reads
    → outcome_of (slip_may_be_blank reads) card ≡ outcome_of (slip_may_be_blank reads') (with_slip slip' card)
blank_slip_is reads reads' slip' card blank filled' is =
    let taken = sym (length-take columns (drop slip_column card)) ∙ ap length blank ∙ length-replicate columns space in
    let left = length-drop slip_column card in
    with_slip_is card (omega arith) reads reads' slip' filled'
    (rw (blank, blank_field) (sym (number_written (Some reads') reads slip' is)))
