-- The promise rests on it. The elongation sheet: document 02, W7, and document 002, example 1; of the first path, by W9. What it answers,
-- and what it leaves of the lent buffer.
use Rattle.std.specs.Prelude.{ℕ, suc, ◌+◌, ◌*◌, ◌/◌, ◌≡◌, not, List, [], ◌∷◌, ◌++◌, leb, length, Ok, Err}
use Rattle.ticks.specs.Ticks.{ticks_per_unit}
use Rattle.fields.specs.declared.refusal.Refusal.{Refusal}
use Rattle.fields.specs.Outcomes.{OrRefusal, onward, over, Outcome}
use Rattle.fields.specs.Quantities.{Quantities, is_pretensioned, quantities_read}
use Rattle.fields.specs.declared.segments.Segment.{Segment}
use Rattle.fields.specs.Refusals.{acceptance_number, number, place}
use Rattle.checks.specs.Rows.{CheckRow, row, at, checked_by, kind_row, friction_row}
use Rattle.member.specs.Constants.{friction_of, stress_along}
use Rattle.member.specs.Member.{codes_to_hours}
use Rattle.elongation.specs.declared.Total.{Total}

-- "the mean of the stresses at its ends before slip, times its length over Es, in ticks of inch, rounded down only once": both stresses and
-- Es are in ticks of psi here, and a foot has 12 inches
abbrev pub elongation : (es before after length : ℕ) → ℕ
elongation es before after length = (before + after) * (12 * length) / (2 * (es * ticks_per_unit))

-- "For each segment": of those that follow j others, by the stress after each count of segments. "Bends add nothing": a bend has no length.
unfoldable pub elongations_from : (es : ℕ) (stress : ℕ → ℕ) (j : ℕ) → List Segment → List ℕ
elongations_from es stress j [] = []
elongations_from es stress j (segment ∷ segments) =
    elongation es (stress j) (stress (suc j)) segment.length ∷ elongations_from es stress (suc j) segments

-- document 02, W9: "The elongation sheet keeps to the first path"
abbrev pub elongations_of : Quantities → List ℕ
elongations_of q = elongations_from q.Es (stress_along q q.path) 0 q.path

-- "then the sum"
unfoldable pub sum_of : List ℕ → ℕ
sum_of [] = 0
sum_of (elongation ∷ elongations) = elongation + sum_of elongations

-- "and the measurable part, which is 80 of 100", rounded down too
abbrev pub measurable_part : ℕ → ℕ
measurable_part sum = 80 * sum / 100

abbrev pub total_of : ℕ → Total
total_of sum = record { sum = sum; measurable = measurable_part sum }

-- what an accepted sheet has: the elongation of each segment, their sum and its measurable part
pub record Sheet : Type 0 where
  pub elongations : List ℕ
  pub total : Total

unfoldable pub sheet_of : Quantities → Sheet
unfolding sum_of
sheet_of q = record { elongations = elongations_of q; total = total_of (sum_of (elongations_of q)) }

-- ---- the checks

-- "13 when the card is pretensioned, checked just before number 4, place 1"
abbrev pub pretensioned_row : Quantities → CheckRow
pretensioned_row q = row (λ p. Refusal.Pretensioned) (at 1 (not (is_pretensioned q)) ∷ [])

-- "then 10, place 1, for a buffer under s numbers"
abbrev pub room_row : Quantities → ℕ → CheckRow
room_row q room = row Refusal.Buffers (at 1 (leb (length q.path) room) ∷ [])

-- what is checked below the row "hours", in its order; document 02, W9: "The elongation sheet keeps to the first path, for its check 4 too,
-- and never gives 15"
abbrev pub below_hours : Quantities → ℕ → List CheckRow
below_hours q room =
    pretensioned_row q ∷ kind_row (is_pretensioned q) (length q.path) ∷ friction_row (friction_of q q.path) ∷ room_row q room ∷ []

-- "the sheet makes the card's checks down to the duct, then" that of the room
abbrev pub sheet_rows : Quantities → ℕ → List CheckRow
sheet_rows q room = codes_to_hours q ++ below_hours q room

-- what quantities give, with room for so many numbers
unfoldable pub sheet_result : Quantities → ℕ → OrRefusal Sheet
unfolding checked_by sheet_of
sheet_result q room = checked_by (sheet_rows q room) (sheet_of q)

-- what a card gives that reads so
abbrev pub sheet_read : Outcome → ℕ → OrRefusal Sheet
sheet_read outcome room = onward (quantities_read outcome) (λ q. sheet_result q room)

-- ---- the answer: "a definition gives this paper's number and values for each case"

abbrev pub SheetAnswer : Type 0
SheetAnswer = OrRefusal Total

abbrev pub sheet_number : SheetAnswer → ℕ
sheet_number (Ok total) = acceptance_number
sheet_number (Err refusal) = number refusal

abbrev pub sheet_values : SheetAnswer → List ℕ
sheet_values (Ok total) = total.sum ∷ total.measurable ∷ []
sheet_values (Err refusal) = place refusal ∷ []

abbrev pub sheet_answer : OrRefusal Sheet → SheetAnswer
sheet_answer (Ok sheet) = Ok sheet.total
sheet_answer (Err refusal) = Err refusal

-- "a refusal leaves the lent buffer unchanged"
abbrev pub elongations_written : OrRefusal Sheet → List ℕ
elongations_written (Ok sheet) = sheet.elongations
elongations_written (Err refusal) = []

-- what the entry ensures of its answer, whose number and values decide it, and of the lent buffer, as it is and as it was: "numbers past
-- those written stay"
pub record Written (result : OrRefusal Sheet) (answer : SheetAnswer) (sheet sheet_was : List ℕ) : Type 0 where
  pub number_is : sheet_number answer ≡ sheet_number (sheet_answer result)
  pub values_are : sheet_values answer ≡ sheet_values (sheet_answer result)
  pub sheet_is : sheet ≡ over (elongations_written result) sheet_was
