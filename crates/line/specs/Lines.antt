-- The promise rests on it. Lines of fields: document 01, "The card". Which field may be blank comes in with the card.
use Rattle.std.specs.Prelude.{ℕ, zero, suc, ◌+◌, ◌-◌, ◌*◌, Bool, ◌&&◌, cond, List, [], ◌∷◌, ◌++◌, leb, eqb, length, get_or, take, drop, Option, Some, None, Result, Ok, Err}
use Rattle.line.specs.declared.Blank.{Blank}
use Rattle.fields.specs.Quantities.{columns}
use Rattle.fields.specs.Outcomes.{numbers_in, all_read}

-- ---- a field: "14-column fields, decimal digits right-justified behind spaces"

abbrev pub space : ℕ
space = 32

-- the bytes of 0 and of 9
abbrev pub zero_digit : ℕ
zero_digit = 48

abbrev pub nine_digit : ℕ
nine_digit = 57

abbrev pub is_digit : ℕ → Bool
is_digit byte = leb zero_digit byte && leb byte nine_digit

-- the digits that are left, behind those that make `number`
unfoldable pub digits_of : ℕ → List ℕ → Option ℕ
digits_of number [] = Some number
digits_of number (byte ∷ bytes) = cond (is_digit byte) (digits_of (number * 10 + (byte - zero_digit)) bytes) None

-- how many spaces some bytes begin with
unfoldable pub spaces_in : List ℕ → ℕ
spaces_in [] = 0
spaces_in (byte ∷ bytes) = cond (eqb byte space) (suc (spaces_in bytes)) 0

-- a field's bytes: spaces alone, which read `blank`, or digits behind spaces
abbrev pub field_of : Option ℕ → List ℕ → Option ℕ
field_of blank bytes = cond (eqb (spaces_in bytes) (length bytes)) blank (digits_of 0 (drop (spaces_in bytes) bytes))

-- ".. may be blank": what field number `field` reads where it is blank
abbrev pub blank_reads : Option Blank → ℕ → Option ℕ
blank_reads None field = None
blank_reads (Some blank) field = cond (eqb field blank.field) (Some blank.reads) None

-- ---- a line: some fields, "each line ended by a line feed"

abbrev pub line_feed : ℕ
line_feed = 10

abbrev pub line_length : ℕ → ℕ
line_length count = columns * count + 1

-- `count` fields at the front of some bytes, the first of them numbered `field`
unfoldable pub amounts_of : Option Blank → ℕ → ℕ → List ℕ → List (Option ℕ)
amounts_of blank zero field bytes = []
amounts_of blank (suc count) field bytes =
    field_of (blank_reads blank field) (take columns bytes) ∷ amounts_of blank count (suc field) (drop columns bytes)

-- the line is all there and ends where it should; in one that does not no field is read
abbrev pub is_shaped : ℕ → List ℕ → Bool
is_shaped count bytes = leb (line_length count) (length bytes) && eqb (get_or bytes (columns * count) 0) line_feed

abbrev pub is_right : Option Blank → ℕ → ℕ → List ℕ → Bool
is_right blank count field bytes = is_shaped count bytes && all_read (amounts_of blank count field bytes)

abbrev pub line_numbers : Option Blank → ℕ → ℕ → List ℕ → List ℕ
line_numbers blank count field bytes = cond (is_shaped count bytes) (numbers_in (amounts_of blank count field bytes)) []

-- what reading some lines gives: the numbers before the first wrong field, and the bytes behind the lines, or the first wrong or
-- missing line
pub record Lines : Type 0 where
  pub numbers : List ℕ
  pub rest : Result (List ℕ) ℕ

-- line `line`, which begins with field `field`
abbrev pub read_line : Option Blank → ℕ → ℕ → ℕ → List ℕ → Lines
read_line blank count line field bytes = record {
  numbers = line_numbers blank count field bytes;
  rest = cond (is_right blank count field bytes) (Ok (drop (line_length count) bytes)) (Err line);
}

-- some lines, and later ones behind them if none is wrong or missing
abbrev pub behind : List ℕ → Result (List ℕ) ℕ → (List ℕ → Lines) → Lines
behind numbers (Ok rest) later = record { numbers = numbers ++ (later rest).numbers; rest = (later rest).rest }
behind numbers (Err line) later = record { numbers = numbers; rest = Err line }

abbrev pub and_then : Lines → (List ℕ → Lines) → Lines
and_then lines later = behind lines.numbers lines.rest later

-- lines of so many fields each; the first is line `line` and begins with field `field`
unfoldable pub read_lines : Option Blank → List ℕ → ℕ → ℕ → List ℕ → Lines
unfolding amounts_of
read_lines blank [] line field bytes = record { numbers = []; rest = Ok bytes }
read_lines blank (count ∷ counts) line field bytes =
    and_then (read_line blank count line field bytes) (read_lines blank counts (suc line) (field + count))

-- "first wrong or missing line", where lines end what is read. "Bytes after the last due line are one line more, a wrong one."
abbrev pub ended : ℕ → Result (List ℕ) ℕ → Result (Unit {0}) ℕ
ended behind (Ok []) = Ok tt
ended behind (Ok (byte ∷ bytes)) = Err behind
ended behind (Err line) = Err line
