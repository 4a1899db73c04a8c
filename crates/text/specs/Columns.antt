-- The programs' text rests on it. Numbers in columns: document 01, "Sample beam", "all in ticks of psi, 14 columns".
use Rattle.std.specs.Prelude.{ℕ, zero, suc, ◌+◌, ◌-◌, ◌/◌, ◌%◌, ◌≡◌, ◌&&◌, cond, List, [], ◌∷◌, ◌++◌, eqb, ltb, length}
use Rattle.fields.specs.Quantities.{columns}
use Rattle.fields.specs.Limits.{per_row}
use Rattle.fields.specs.Outcomes.{over}
use Rattle.line.specs.Lines.{space, line_feed, zero_digit}

-- a number's last digit
abbrev pub digit : ℕ → ℕ
digit number = zero_digit + number % 10

-- what stands in a column, where `rest` is left of the number: its last digit, or a space where no digit is left. The last column has
-- a digit even of 0.
abbrev pub digit_or_space : ℕ → ℕ → ℕ
digit_or_space rest column = cond (eqb rest 0 && ltb column (columns - 1)) space (digit rest)

-- the first so many columns, where `rest` is left of the number
unfoldable pub first_columns : ℕ → ℕ → List ℕ
first_columns zero rest = []
first_columns (suc column) rest = first_columns column (rest / 10) ++ (digit_or_space rest column ∷ [])

-- a number: "decimal digits right-justified behind spaces"
abbrev pub in_columns : ℕ → List ℕ
in_columns number = first_columns columns number

-- numbers beside each other
unfoldable pub all_in_columns : List ℕ → List ℕ
all_in_columns [] = []
all_in_columns (number ∷ numbers) = in_columns number ++ all_in_columns numbers

-- a line of numbers
abbrev pub line_of : List ℕ → List ℕ
line_of numbers = all_in_columns numbers ++ (line_feed ∷ [])

-- the most that a line has: an age's number, its hour and its row
abbrev pub most_per_line : ℕ
most_per_line = 2 + per_row

-- a buffer with a text at its front, as it is and as it was, and how many bytes the text has
pub record Holds (text : List ℕ) (bytes : ℕ) (buffer was : List ℕ) : Type 0 where
  pub bytes_are : bytes ≡ length text
  pub buffer_is : buffer ≡ over text was
