-- More bytes behind those that lines have change nothing but what is left over. Assumes nothing.
use mathlib.Core.Path.{◌≡◌, refl}
use mathlib.Core.Bool.{Bool, true, false, cond}
use mathlib.Core.List.{List, [], ◌∷◌, ◌++◌}
use Prim.Native.Nat.{ℕ, suc, ◌+◌, ◌*◌, ◌≤◌, ◌<◌}
use native.Mathlib.Omega.{arith}
use lib.ListN.{length, drop, length-append, length-drop, get_or-append}
use lib.Seq.{drop-append-le}
use borrow.Author.Tests.{le-leb}
use Rattle.std.specs.Prelude.{Option, Result, Ok, Err}
use Rattle.fields.specs.Quantities.{columns}
use Rattle.line.specs.declared.Blank.{Blank}
use Rattle.line.specs.Lines.{line_length, is_shaped, is_right, line_numbers, Lines, behind, read_lines, ended}
use Rattle.line.specs.Conditions.{bytes_on}
use Rattle.line.proofs.Amounts.{amounts_front}

shaped_front : (back : List ℕ) (count : ℕ) (front : List ℕ) → line_length count ≤ length front
    → is_shaped count (front ++ back) ≡ is_shaped count front
shaped_front back count front h =
    let both = length-append front back in
    rw (
      le-leb (line_length count) (length (front ++ back)) (omega arith),
      le-leb (line_length count) (length front),
      get_or-append front back 0 (columns * count) (omega arith),
    )

-- lines with more behind them
abbrev pub left_over : List ℕ → Result (List ℕ) ℕ → Result (List ℕ) ℕ
left_over back (Ok rest) = Ok (rest ++ back)
left_over back (Err line) = Err line

abbrev pub extended : List ℕ → Lines → Lines
extended back lines = record { numbers = lines.numbers; rest = left_over back lines.rest }

line_front : (back numbers bytes : List ℕ) (line : ℕ) (later : List ℕ → Lines) (right : Bool)
    → later (bytes ++ back) ≡ extended back (later bytes)
    → behind numbers (cond right (Ok (bytes ++ back)) (Err line)) later
    ≡ extended back (behind numbers (cond right (Ok bytes) (Err line)) later)
line_front back numbers bytes line later true same = rw same
line_front back numbers bytes line later false same = refl

pub lines_front : (blank : Option Blank) (back : List ℕ) (counts : List ℕ) (line field : ℕ) (front : List ℕ)
    → bytes_on counts ≤ length front
    → read_lines blank counts line field (front ++ back) ≡ extended back (read_lines blank counts line field front)
unfolding read_lines
lines_front blank back [] line field front h = refl
lines_front blank back (count ∷ counts) line field front h =
    rw (
      shaped_front back count front (omega arith),
      amounts_front blank back count field front (omega arith),
      drop-append-le (line_length count) front back (omega arith),
    )
    (line_front back (line_numbers blank count field front) (drop (line_length count) front) line
    (read_lines blank counts (suc line) (field + count)) (is_right blank count field front)
    (lines_front blank back counts (suc line) (field + count) (drop (line_length count) front)
    (omega (arith, length-drop (line_length count) front))))

-- where the lines end, they end the same if bytes are left over either way
pub ended_front : (back : List ℕ) (behind : ℕ) (rest : Result (List ℕ) ℕ) → ((left : List ℕ) → rest ≡ Ok left → 0 < length left)
    → ended behind (left_over back rest) ≡ ended behind rest
ended_front back behind (Ok []) some = let none = some [] refl in absurd (omega arith)
ended_front back behind (Ok (byte ∷ bytes)) some = refl
ended_front back behind (Err line) some = refl
