-- What a blank field reads counts in that field alone, and there only where it is blank: the amounts of other fields, and lines of them,
-- are the same whatever it reads, and so is that of a field in which something stands. And a line taken apart: the fields before one of
-- them, that field, and those behind it. Assumes nothing.
use mathlib.Core.Path.{◌≡◌, refl, sym, ap, ◌∙◌}
use mathlib.Core.Bool.{Bool, true, false, cond}
use mathlib.Core.List.{List, [], ◌∷◌, ◌++◌}
use Prim.Native.Nat.{ℕ, zero, suc, ◌+◌, ◌*◌, ◌<◌}
use native.Mathlib.Omega.{arith}
use lib.Dec.{leb, eqb}
use lib.ListN.{length, drop, replicate, length-append}
use lib.Seq.{take-append_seam, drop-append_seam, drop-append-add, get_or-append-add}
use borrow.Author.Tests.{eqb-true, ne_eqb, leb-true, leb-false, le-leb, lt-leb}
use Rattle.std.specs.Prelude.{Option, Some, None, Result, Ok, Err}
use Rattle.line.specs.declared.Blank.{Blank}
use Rattle.fields.specs.Quantities.{columns}
use Rattle.line.specs.Lines.{space, spaces_in, field_of, blank_reads, amounts_of, line_length}
use Rattle.line.specs.Lines.{is_shaped, Lines, behind, and_then, read_line, read_lines}
use Rattle.line.proofs.Amounts.{amounts_append, amounts_front}

-- ---- other fields

module _ (one other : Blank) (same : one.field ≡ other.field) where
  elsewhere : (field : ℕ) → (field ≡ one.field → ⊥) → blank_reads (Some one) field ≡ blank_reads (Some other) field
  elsewhere field away = rw (← same, ne_eqb field one.field away)

  pub amounts_elsewhere : (count field : ℕ) (bytes : List ℕ) → ((k : ℕ) → k < count → field + k ≡ one.field → ⊥)
      → amounts_of (Some one) count field bytes ≡ amounts_of (Some other) count field bytes
  unfolding amounts_of
  amounts_elsewhere zero field bytes away = refl
  amounts_elsewhere (suc count) field bytes away =
      rw (
        elsewhere field (λ e. away 0 (omega arith) (omega arith)),
        amounts_elsewhere count (suc field) (drop columns bytes) (λ k h e. away (suc k) (omega arith) (omega arith)),
      )

  later_elsewhere : (numbers : List ℕ) (rest : Result (List ℕ) ℕ) (later later' : List ℕ → Lines)
      → ((bytes : List ℕ) → later bytes ≡ later' bytes) → behind numbers rest later ≡ behind numbers rest later'
  later_elsewhere numbers (Ok bytes) later later' same_later = rw (same_later bytes)
  later_elsewhere numbers (Err line) later later' same_later = refl

  pub lines_elsewhere : (counts : List ℕ) (line field : ℕ) (bytes : List ℕ) → one.field < field
      → read_lines (Some one) counts line field bytes ≡ read_lines (Some other) counts line field bytes
  unfolding read_lines
  lines_elsewhere [] line field bytes past = refl
  lines_elsewhere (count ∷ counts) line field bytes past =
      rw (amounts_elsewhere count field bytes (λ k h e. omega arith))
      (later_elsewhere (read_line (Some other) count line field bytes).numbers (read_line (Some other) count line field bytes).rest
      (read_lines (Some one) counts (suc line) (field + count)) (read_lines (Some other) counts (suc line) (field + count))
      (λ rest. lines_elsewhere counts (suc line) (field + count) rest (omega arith)))

  -- where the first line gives the same, and the field that may be blank is on it
  pub same_lines : (count : ℕ) (counts : List ℕ) (line field : ℕ) (bytes bytes' : List ℕ) → one.field < field + count
      → read_line (Some one) count line field bytes ≡ read_line (Some other) count line field bytes'
      → read_lines (Some one) (count ∷ counts) line field bytes ≡ read_lines (Some other) (count ∷ counts) line field bytes'
  unfolding read_lines
  same_lines count counts line field bytes bytes' on_line same_line =
      ap (λ (l : Lines). and_then l (read_lines (Some one) counts (suc line) (field + count))) same_line
      ∙ later_elsewhere (read_line (Some other) count line field bytes').numbers (read_line (Some other) count line field bytes').rest
      (read_lines (Some one) counts (suc line) (field + count)) (read_lines (Some other) counts (suc line) (field + count))
      (λ rest. lines_elsewhere counts (suc line) (field + count) rest on_line)

-- ---- a field in which something stands

-- what begins with as many spaces as it has bytes is spaces alone
spaces_alone : (bytes : List ℕ) → spaces_in bytes ≡ length bytes → bytes ≡ replicate (length bytes) space
unfolding spaces_in
spaces_alone [] e = refl
spaces_alone (byte ∷ bytes) e = by_byte (eqb byte space) refl e (spaces_alone bytes)
  where
    by_byte : (b : Bool) → eqb byte space ≡ b → cond b (suc (spaces_in bytes)) 0 ≡ suc (length bytes)
        → (spaces_in bytes ≡ length bytes → bytes ≡ replicate (length bytes) space)
        → byte ∷ bytes ≡ replicate (suc (length bytes)) space
    by_byte true q h rest =
        ap (λ (first : ℕ). first ∷ bytes) (eqb-true byte space q) ∙ ap (λ (l : List ℕ). space ∷ l) (rest (omega arith))
    by_byte false q h rest = absurd (omega arith)

pub written_amount : (one other : Option ℕ) (bytes : List ℕ) → (bytes ≡ replicate (length bytes) space → ⊥)
    → field_of one bytes ≡ field_of other bytes
written_amount one other bytes written = by_spaces (eqb (spaces_in bytes) (length bytes)) refl
  where
    by_spaces : (b : Bool) → eqb (spaces_in bytes) (length bytes) ≡ b → field_of one bytes ≡ field_of other bytes
    by_spaces true q = absurd (written (spaces_alone bytes (eqb-true (spaces_in bytes) (length bytes) q)))
    by_spaces false q = rw q

-- what reads a number where a blank field reads none has that number written
pub number_written : (blank : Option ℕ) (number : ℕ) (bytes : List ℕ) → field_of None bytes ≡ Some number
    → field_of blank bytes ≡ Some number
number_written blank number bytes e = by_spaces (eqb (spaces_in bytes) (length bytes)) refl
  where
    by_spaces : (b : Bool) → eqb (spaces_in bytes) (length bytes) ≡ b → field_of blank bytes ≡ Some number
    by_spaces true q = let no : None ≡ Some number = rw q at e in absurd (let z : ⊥ = cc in z)
    by_spaces false q = rw q (rw q at e)

-- ---- a line taken apart: `count` fields, one more, and `more` behind it

-- two numbers compare as two others that are as far apart
leb_shifted : (a b c d : ℕ) → a + d ≡ b + c → leb a b ≡ leb c d
leb_shifted a b c d apart = by_test (leb c d) refl
  where
    by_test : (test : Bool) → leb c d ≡ test → leb a b ≡ test
    by_test true e = let h = leb-true c d e in le-leb a b (omega arith)
    by_test false e = let h = leb-false c d e in lt-leb a b (omega arith)

module _ (front mid back : List ℕ) (count more : ℕ) (before : length front ≡ columns * count) (filled : length mid ≡ columns) where
  abbrev line : List ℕ
  line = front ++ (mid ++ back)

  pub amounts_parts : (blank : Option Blank) (field : ℕ) → amounts_of blank (count + suc more) field line
      ≡ amounts_of blank count field front
      ++ (field_of (blank_reads blank (field + count)) mid ∷ amounts_of blank more (suc (field + count)) back)
  unfolding amounts_of
  amounts_parts blank field =
      amounts_append blank count (suc more) field line
      ∙ rw (
        amounts_front blank (mid ++ back) count field front (omega arith),
        sym before,
        drop-append_seam front (mid ++ back),
        sym filled,
        take-append_seam mid back,
        drop-append_seam mid back,
      )

  pub rest_parts : drop (line_length (count + suc more)) line ≡ drop (line_length more) back
  rest_parts =
      let at : line_length (count + suc more) ≡ length front + (length mid + line_length more) = omega arith in
      rw (at, drop-append-add front (mid ++ back) (length mid + line_length more), drop-append-add mid back (line_length more))

  pub shaped_parts : is_shaped (count + suc more) line ≡ is_shaped more back
  shaped_parts =
      let whole = length-append front (mid ++ back) in
      let rest = length-append mid back in
      let at : columns * (count + suc more) ≡ length front + (length mid + columns * more) = omega arith in
      rw (
        at,
        get_or-append-add front (mid ++ back) (length mid + columns * more) 0,
        get_or-append-add mid back (columns * more) 0,
        leb_shifted (length front + (length mid + columns * more) + 1) (length line) (line_length more) (length back) (omega arith),
      )
