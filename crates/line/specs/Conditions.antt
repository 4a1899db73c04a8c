-- It serves the code alone. What the code that reads lines asks of its buffer and its numbering, and where it then stands.
use Rattle.std.specs.Prelude.{ℕ, ◌+◌, ◌^◌, ◌≡◌, ◌≤◌, ◌<◌, List, [], ◌∷◌, length, Result, Ok, Err}
use Rattle.line.specs.declared.lines.Unread.{Unread}
use Rattle.line.specs.Lines.{line_length, Lines, read_line, read_lines}

-- room for the numbers of a line of `count` fields, and numbers of fields, from `field` on, of 64 bits
pub record LineFits (count field : ℕ) (fields : List ℕ) : Type 0 where
  pub room : count ≤ length fields
  pub numbered : field + count < 2 ^ 64

-- how many fields some lines have
abbrev pub fields_on : List ℕ → ℕ
fields_on [] = 0
fields_on (count ∷ counts) = count + fields_on counts

-- how many bytes they have
abbrev pub bytes_on : List ℕ → ℕ
bytes_on [] = 0
bytes_on (count ∷ counts) = line_length count + bytes_on counts

-- the same of lines of `counts` fields each, and numbers of lines of 64 bits
pub record LinesFit (counts : List ℕ) (unread : Unread) (fields : List ℕ) : Type 0 where
  pub room : fields_on counts ≤ length fields
  pub numbered : unread.field + fields_on counts < 2 ^ 64
  pub lines_numbered : unread.line + length counts < 2 ^ 64

-- what reading the next line gives, and the next lines
abbrev pub line_from : Unread → ℕ → Lines
line_from unread count = read_line unread.blank count unread.line unread.field unread.bytes.now

abbrev pub lines_from : Unread → List ℕ → Lines
lines_from unread counts = read_lines unread.blank counts unread.line unread.field unread.bytes.now

-- what is not read yet behind such lines
pub record Behind (lines : Lines) (counts : List ℕ) (old new : Unread) : Type 0 where
  pub rest : lines.rest ≡ Ok new.bytes.now
  pub line : new.line ≡ old.line + length counts
  pub field : new.field ≡ old.field + fields_on counts
  pub blank : new.blank ≡ old.blank

-- reading goes on behind the lines, or gives the first that is wrong or missing
abbrev pub GoesOn : Lines → List ℕ → Unread → Unread → Result (Unit {0}) ℕ → Type 0
GoesOn lines counts old new (Ok done) = Behind lines counts old new
GoesOn lines counts old new (Err line) = lines.rest ≡ Err line
