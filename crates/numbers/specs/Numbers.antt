-- The promise rests on it. Numbers in a host's bytes: document 01, "The card", from "There a number of a list" on.
use Rattle.std.specs.Prelude.{ℕ, zero, suc, ◌+◌, ◌*◌, ◌/◌, ◌%◌, cond, List, [], ◌∷◌, ◌++◌, map, eqb, Float, length, take, drop}
use Rattle.std.specs.Float.{binary64}
use Rattle.std.specs.Float.Ieee.{of_bits}
use Rattle.fields.specs.declared.refusal.Refusal.{Refusal}
use Rattle.fields.specs.Outcomes.{Outcome, over, refused}
use Rattle.list.specs.Lists.{list_outcome}

-- ---- a number: "eight bytes, lowest first"

abbrev pub bytes_per_number : ℕ
bytes_per_number = 8

abbrev pub byte_values : ℕ
byte_values = 256

-- the number that some bytes make
unfoldable pub number_of : List ℕ → ℕ
number_of [] = 0
number_of (byte ∷ bytes) = byte + byte_values * number_of bytes

-- the `count` lowest bytes of a number
unfoldable pub bytes_of : ℕ → ℕ → List ℕ
bytes_of zero number = []
bytes_of (suc count) number = number % byte_values ∷ bytes_of count (number / byte_values)

-- ---- the numbers of a buffer, a list or a reply

-- how many numbers some bytes hold: "odd bytes at a buffer's end" hold none
abbrev pub room : ℕ → ℕ
room bytes = bytes / bytes_per_number

-- the bytes of some numbers
unfoldable pub bytes_of_numbers : List ℕ → List ℕ
bytes_of_numbers [] = []
bytes_of_numbers (number ∷ numbers) = bytes_of bytes_per_number number ++ bytes_of_numbers numbers

-- a host's buffer after some numbers were written at its front
abbrev pub written : List ℕ → List ℕ → List ℕ
written numbers old = over (bytes_of_numbers numbers) old

-- so many numbers, from the first byte on
unfoldable pub numbers_from : ℕ → List ℕ → List ℕ
numbers_from zero bytes = []
numbers_from (suc count) bytes = number_of (take bytes_per_number bytes) ∷ numbers_from count (drop bytes_per_number bytes)

-- "a double by its bits"
abbrev pub doubles_of : List ℕ → List Float
doubles_of bytes = map (of_bits binary64) (numbers_from (room (length bytes)) bytes)

-- What a list's bytes give. "A list whose byte length is no multiple of 8 gives 8, place 0"
unfoldable pub bytes_outcome : List ℕ → Outcome
bytes_outcome bytes =
    cond (eqb (length bytes % bytes_per_number) 0) (list_outcome (doubles_of bytes)) (refused (Refusal.Shape 0) [])
