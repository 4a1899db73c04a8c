-- The programs' text rests on it. What they print: document 01, "Sample beam", and document 02, W1 and W7.
use Rattle.std.specs.Prelude.{ℕ, suc, ◌≡◌, List, [], ◌∷◌, ◌++◌, length, take, Ok, Err}
use Rattle.fields.specs.declared.refusal.Refusal.{Refusal}
use Rattle.fields.specs.Outcomes.{OrRefusal}
use Rattle.fields.specs.Quantities.{Quantities, quantities_read}
use Rattle.fields.specs.declared.segments.Age.{Age}
use Rattle.fields.specs.Refusals.{number, place}
use Rattle.fields.specs.Limits.{most_segments}
use Rattle.fields.specs.Sizes.{most_report, most_scratch}
use Rattle.card.specs.Card.{card_outcome}
use Rattle.stages.specs.declared.before.BeforeAges.{BeforeAges}
use Rattle.stages.specs.declared.intervals.Row.{Row}
use Rattle.stages.specs.Run.{Report, result_of}
use Rattle.entries.specs.Answers.{numbers_before, numbers_of_row}
use Rattle.elongation.specs.declared.Total.{Total}
use Rattle.elongation.specs.Sheet.{Sheet, sheet_result}
use Rattle.text.specs.declared.Program.{Program}
use Rattle.text.specs.Columns.{line_of, Holds}

-- "A refused card prints number and place, one line of two such columns."
abbrev pub refusal_text : Refusal → List ℕ
refusal_text refusal = line_of (number refusal ∷ place refusal ∷ [])

-- "It prints friction, slip, deflector, early relaxation, shortening, stress"
abbrev pub before_text : BeforeAges → List ℕ
before_text before = line_of (numbers_before before)

-- "then age number, hour, creep, shrinkage, relaxation, stress", and the gain: a line for each age that follows `passed` others, with
-- its row
unfoldable pub ages_text : ℕ → List Age → List Row → List ℕ
ages_text passed [] rows = []
ages_text passed (age ∷ ages) [] = []
ages_text passed (age ∷ ages) (row ∷ rows) =
    line_of (suc passed ∷ age.hour ∷ numbers_of_row row) ++ ages_text (suc passed) ages rows

-- a run's text, the ages those of the card
abbrev pub result_text : List Age → OrRefusal Report → List ℕ
result_text ages (Ok report) = before_text report.before ++ ages_text 0 ages report.rows
result_text ages (Err refusal) = refusal_text refusal

-- the report program lends room for every member's rows
abbrev pub run_text : Quantities → List ℕ
run_text q = result_text q.ages (result_of q most_report most_scratch)

-- the sheet program prints a line for each segment that follows `passed` others, with its elongation; document 02, W7: "then the sum, and
-- the measurable part"
unfoldable pub elongations_text : ℕ → List ℕ → List ℕ
elongations_text passed [] = []
elongations_text passed (elongation ∷ elongations) =
    line_of (suc passed ∷ elongation ∷ []) ++ elongations_text (suc passed) elongations

abbrev pub total_text : Total → List ℕ
total_text total = line_of (total.sum ∷ total.measurable ∷ [])

abbrev pub sheet_text : OrRefusal Sheet → List ℕ
sheet_text (Ok sheet) = elongations_text 0 sheet.elongations ++ total_text sheet.total
sheet_text (Err refusal) = refusal_text refusal

-- the sheet program lends room for every path
abbrev pub sheet_text_of : Quantities → List ℕ
sheet_text_of q = sheet_text (sheet_result q most_segments)

-- the text of what was read
abbrev pub read_text : Program → OrRefusal Quantities → List ℕ
read_text program (Err refusal) = refusal_text refusal
read_text Program.Report (Ok q) = run_text q
read_text Program.Sheet (Ok q) = sheet_text_of q

-- "The report program reads a card from standard input.", and so does the sheet's: what a program prints for a card
unfoldable pub text_of : Program → List ℕ → List ℕ
text_of program card = read_text program (quantities_read (card_outcome card))

-- a buffer into which an input was read, so many bytes of it: all of them, or as many as the buffer holds
abbrev pub Read : List ℕ → ℕ → List ℕ → Type 0
Read buffer bytes input = take bytes buffer ≡ take (length buffer) input

-- what is printed is the text of the bytes that were read, and so of the whole input, of which they may be only the first
pub record PrintsAll (program : Program) (buffer : List ℕ) (read bytes : ℕ) (text was : List ℕ) : Type 0 where
  pub exact : Holds (text_of program (take read buffer)) bytes text was
  pub whole : (input : List ℕ) → Read buffer read input → text_of program (take read buffer) ≡ text_of program input
