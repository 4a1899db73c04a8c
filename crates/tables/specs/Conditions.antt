-- It serves the code alone. The row at a place, what a reading between two rows asks of its unit and of where x lies, and what the search
-- among a share's rows asks of them.
use Rattle.std.specs.Prelude.{List, [], ◌∷◌, ℕ, ◌+◌, ◌≤◌, ◌<◌, ◌≡◌, Bool, true, false, ◌&&◌, leb, T as Holds, length, get_or}
use Rattle.ticks.specs.Ticks.{T}
use Rattle.tables.specs.declared.Row.{Row}
use Rattle.tables.specs.Tables.{row, at}

-- the row at a place; past the last one a row that no contract speaks of
abbrev pub row_at : List Row → ℕ → Row
row_at rows place = get_or rows place (row 0 0)

-- of a unit, and of an x that lies between two rows
pub record Between (unit x : ℕ) (low high : Row) : Type 0 where
  pub unit_fits : unit ≤ T
  pub from_low : at low ≤ x
  pub before_high : x < at high

-- the test passes at each two neighbouring rows, from `low` on
abbrev pub joined_from : (Row → Row → Bool) → Row → List Row → Bool
joined_from test low [] = true
joined_from test low (high ∷ rows) = test low high && joined_from test high rows

abbrev pub no_later : Row → Row → Bool
no_later low high = leb (at low) (at high)

-- there are rows, and none stands behind the next one
abbrev pub ordered : List Row → Bool
ordered [] = false
ordered (first ∷ rows) = joined_from no_later first rows

-- Each share has so many rows at days.
abbrev pub day_row_count : ℕ
day_row_count = 12

-- of a share's rows at days
pub record DayRows (rows : List Row) : Type 0 where
  pub count : length rows ≡ day_row_count
  pub from_zero : at (row_at rows 0) ≡ 0
  pub in_order : Holds (ordered rows)

-- of an x that lies within so many lines of such rows, from the row at a place on
pub record Within (lines : ℕ) (rows : List Row) (place x : ℕ) : Type 0 where
  pub day_rows : DayRows rows
  pub at_days : place + lines < day_row_count
  pub from_low : at (row_at rows place) ≤ x
  pub before_high : x < at (row_at rows (place + lines))
