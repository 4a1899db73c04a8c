-- The promise rests on it. A card: document 01, "The card", and the rows "card or list" and "ranges" of the refusals, with the second path
-- of document 02, W9.
use Rattle.std.specs.Prelude.{ℕ, ◌+◌, ◌-◌, List, [], ◌∷◌, ◌++◌, get_or, replicate, Option, Some, Result, Ok, Err}
use Rattle.fields.specs.declared.read.Counts.{Counts}
use Rattle.fields.specs.declared.refusal.Refusal.{Refusal}
use Rattle.fields.specs.Quantities.{segments_field, ages_field, second_segments_field, per_segment, per_age, first_segment_field}
use Rattle.fields.specs.Quantities.{all_segments, field_number}
use Rattle.fields.specs.Limits.{blank_slip, Range, segment_counts, age_counts, count_within}
use Rattle.fields.specs.Outcomes.{OrRefusal, onward, Outcome, refused, accepted}
use Rattle.line.specs.declared.Blank.{Blank}
use Rattle.line.specs.Lines.{Lines, read_lines, ended}

-- "A blank slip field" reads so many ticks; "no other field may be blank."
abbrev pub slip_may_be_blank : ℕ → Option Blank
slip_may_be_blank reads = Some (record { field = field_number.slip; reads = reads })

-- "Line 1" to "Line 4"; document 02, W9: "Line 4 gains field 25"
abbrev pub head_lines : List ℕ
head_lines = 7 ∷ 6 ∷ 5 ∷ 7 ∷ []

-- lines 1 to 4
abbrev pub head : Option Blank → List ℕ → Lines
head blank card = read_lines blank head_lines 1 1 card

-- "s lines", the second path's among them: "Its lines follow those of the first path"; and "n lines"
abbrev pub announced_lines : Counts → List ℕ
announced_lines counts = replicate (all_segments counts) per_segment ++ replicate counts.ages per_age

abbrev pub first_segment_line : ℕ
first_segment_line = 5

-- the line behind the last due one
abbrev pub line_behind : Counts → ℕ
line_behind counts = first_segment_line + all_segments counts + counts.ages

-- these lines at the front of some bytes
abbrev pub announced : Option Blank → Counts → List ℕ → Lines
announced blank counts bytes = read_lines blank (announced_lines counts) first_segment_line first_segment_field bytes

-- the count in a field
abbrev pub count_in : ℕ → Range → List ℕ → OrRefusal ℕ
count_in field range numbers = count_within field range (get_or numbers (field - 1) 0)

-- "the counts in fields 23 and 24 are ranged while the shape is read, giving 2 .., field 23 wholly before 24", and field 25 "with fields 23
-- and 24, after them"
abbrev pub counts_in : List ℕ → OrRefusal Counts
counts_in numbers =
    onward (count_in segments_field segment_counts numbers) (λ segments.
    onward (count_in ages_field age_counts numbers) (λ ages.
    onward (count_in second_segments_field segment_counts numbers) (λ second.
    Ok (record { segments = segments; ages = ages; second_segments = second }))))

-- "first wrong or missing line"
abbrev pub shape : {A : Type 0} → Result A ℕ → OrRefusal A
shape (Ok value) = Ok value
shape (Err line) = Err (Refusal.Shape line)

-- a refusal ends what is read, and leaves the numbers that were read
abbrev pub unless_refused : {A : Type 0} → OrRefusal A → List ℕ → (A → Outcome) → Outcome
unless_refused (Ok value) numbers next = next value
unless_refused (Err refusal) numbers next = refused refusal numbers

-- what a card gives whose lines 1 to 4 have these numbers and counts, and the lines behind them these bytes
abbrev pub ending : Option Blank → List ℕ → List ℕ → Counts → Outcome
ending blank numbers rest counts =
    let more = announced blank counts rest in
    let all = numbers ++ more.numbers in
    unless_refused (shape (ended (line_behind counts) more.rest)) all (λ _. accepted counts all)

-- What a card gives, by which of its fields may be blank.
unfoldable pub outcome_of : Option Blank → List ℕ → Outcome
unfolding read_lines
outcome_of blank card =
    let first = head blank card in
    unless_refused (shape first.rest) first.numbers (λ rest.
    unless_refused (counts_in first.numbers) first.numbers (ending blank first.numbers rest))

-- What a card gives.
unfoldable pub card_outcome : List ℕ → Outcome
unfolding outcome_of
card_outcome card = outcome_of (slip_may_be_blank blank_slip) card
