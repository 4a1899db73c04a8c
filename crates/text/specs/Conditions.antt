-- It serves the code alone. What the inner functions ask for: room for what they lay out; and what whoever takes a text from its buffer
-- asks. The public functions ask for nothing.
use Rattle.std.specs.Prelude.{ℕ, suc, ◌+◌, ◌*◌, ◌≤◌, List, [], ◌∷◌, ◌++◌, ◌≡◌, length, get_or, take, drop}
use Rattle.fields.specs.declared.segments.Age.{Age}
use Rattle.fields.specs.Limits.{most_ages, per_row}
use Rattle.line.specs.Lines.{line_length}
use Rattle.text.specs.Columns.{line_of, most_per_line}

-- the bytes of the longest line
abbrev pub most_line_bytes : ℕ
most_line_bytes = line_length most_per_line

-- the bytes of the longest text: a line before the ages and one for each
abbrev pub most_text_bytes : ℕ
most_text_bytes = most_line_bytes * (1 + most_ages)

-- of a part that takes a line, or a whole text
abbrev pub RoomForLine : List ℕ → Type 0
RoomForLine part = most_line_bytes ≤ length part

abbrev pub RoomForText : List ℕ → Type 0
RoomForText part = most_text_bytes ≤ length part

-- of the ages, of their rows' numbers, and of a part that takes their lines
pub record AgesFit (ages : List Age) (rows part : List ℕ) : Type 0 where
  pub rows_whole : length rows ≡ per_row * length ages
  pub room : most_line_bytes * length ages ≤ length part

-- the bytes of a line of two numbers, as a segment's is
abbrev pub segment_line_bytes : ℕ
segment_line_bytes = line_length 2

-- so many bytes lie within a buffer. The second part follows from the first; both are stated so that what takes these bytes finds them.
abbrev pub Counted : ℕ → List ℕ → Type 0
Counted bytes buffer = (bytes ≤ length buffer) × (bytes ≡ length (take bytes buffer))

-- ---- the lines of the ages, as the code lays them out from the numbers of the report

unfoldable pub lines_of_ages : ℕ → List Age → List ℕ → List ℕ
lines_of_ages passed [] numbers = []
lines_of_ages passed (age ∷ ages) numbers =
    line_of
    (suc passed ∷ age.hour ∷ get_or numbers 0 0 ∷ get_or numbers 1 0 ∷ get_or numbers 2 0 ∷ get_or numbers 3 0 ∷ get_or numbers 4 0 ∷ [])
    ++ lines_of_ages (suc passed) ages (drop per_row numbers)
