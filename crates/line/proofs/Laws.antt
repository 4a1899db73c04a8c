-- The numbers of some lines have at most 14 digits, where what a blank field reads has: by induction over digits, fields and lines.
-- Assumes nothing.
use mathlib.Core.Path.{◌≡◌, refl, sym, ap, ◌∙◌}
use mathlib.Core.Bool.{Bool, true, false, cond, and-eq-true_iff}
use mathlib.Core.List.{List, [], ◌∷◌, ◌++◌}
use Prim.Native.Nat.{ℕ, zero, suc, ◌+◌, ◌-◌, ◌*◌, ◌^◌, ◌≤◌, ◌<◌}
use native.Mathlib.Nat.{mul-le-mul_right, lt_of_lt_of_le, mul_assoc, mul_comm, one-mul, mul-one, pow-suc, pow-le-pow_right}
use native.Mathlib.Omega.{arith}
use lib.Dec.{leb, eqb, lit<}
use lib.ListN.{length, take, drop, length-take, length-drop}
use borrow.Author.Tests.{leb-true}
use Rattle.std.specs.Prelude.{Option, Some, None, Result, Ok, Err}
use Rattle.line.specs.declared.Blank.{Blank}
use Rattle.fields.specs.Quantities.{columns}
use Rattle.fields.specs.Outcomes.{numbers_in}
use Rattle.fields.specs.Readable.{Small}
use Rattle.line.specs.Lines.{zero_digit, nine_digit, is_digit, digits_of, spaces_in, field_of, blank_reads, amounts_of}
use Rattle.line.specs.Lines.{is_shaped, line_numbers, behind, read_line, read_lines}

none_small : Small []
none_small k = lit< tt

cons_small : (x : ℕ) (xs : List ℕ) → x < 10 ^ columns → Small xs → Small (x ∷ xs)
cons_small x xs h hs zero = h
cons_small x xs h hs (suc k) = hs k

pub append_small : (xs ys : List ℕ) → Small xs → Small ys → Small (xs ++ ys)
append_small [] ys h hs = hs
append_small (x ∷ xs) ys h hs = cons_small x (xs ++ ys) (h 0) (append_small xs ys (λ k. h (suc k)) hs)

digits_below : (number : ℕ) (bytes : List ℕ) (n : ℕ) → digits_of number bytes ≡ Some n → n < (number + 1) * 10 ^ length bytes
unfolding digits_of
digits_below number [] n e = let same : number ≡ n = cc in rw (mul-one) (omega arith)
digits_below number (byte ∷ bytes) n e = by_byte (is_digit byte) refl (digits_below (number * 10 + (byte - zero_digit)) bytes n)
  where
    by_byte : (b : Bool) → is_digit byte ≡ b
        → (digits_of (number * 10 + (byte - zero_digit)) bytes ≡ Some n → n < (number * 10 + (byte - zero_digit) + 1) * 10 ^ length bytes)
        → n < (number + 1) * 10 ^ suc (length bytes)
    by_byte true q rest =
        let digit = (and-eq-true_iff (leb zero_digit byte) (leb byte nine_digit)).0 q in
        let low = leb-true zero_digit byte digit.0 in
        let high = leb-true byte nine_digit digit.1 in
        let more : number * 10 + (byte - zero_digit) + 1 ≤ (number + 1) * 10 = omega arith in
        let ten : (number + 1) * 10 * 10 ^ length bytes ≡ (number + 1) * 10 ^ suc (length bytes) =
        mul_assoc (number + 1) 10 (10 ^ length bytes)
        ∙ ap (λ (m : ℕ). (number + 1) * m) (mul_comm 10 (10 ^ length bytes) ∙ sym (pow-suc 10 (length bytes))) in
        rw (sym ten) (lt_of_lt_of_le (rest (rw q at e)) (mul-le-mul_right (10 ^ length bytes) more))
    by_byte false q rest = let no : None ≡ Some n = rw q at e in absurd (let z : ⊥ = cc in z)

-- what may stand for a blank field has at most 14 digits too
abbrev pub BlankSmall : Option Blank → Type 0
BlankSmall blank = (field n : ℕ) → blank_reads blank field ≡ Some n → n < 10 ^ columns

pub blank_small : (blank : Blank) → blank.reads < 10 ^ columns → BlankSmall (Some blank)
blank_small blank h field n = by_field (eqb field blank.field)
  where
    by_field : (b : Bool) → cond b (Some blank.reads) None ≡ Some n → n < 10 ^ columns
    by_field true e = let is : blank.reads ≡ n = cc in omega arith
    by_field false e = absurd (let z : ⊥ = cc in z)

module _ (blank : Option Blank) (few : BlankSmall blank) where
  field_below : (field : ℕ) (bytes : List ℕ) (n : ℕ) → length bytes ≤ columns → field_of (blank_reads blank field) bytes ≡ Some n
      → n < 10 ^ columns
  field_below field bytes n short e = by_spaces (eqb (spaces_in bytes) (length bytes)) refl
    where
      by_spaces : (b : Bool) → eqb (spaces_in bytes) (length bytes) ≡ b → n < 10 ^ columns
      by_spaces true q = few field n (rw q at e)
      by_spaces false q =
          let rest = drop (spaces_in bytes) bytes in
          let l = length-drop (spaces_in bytes) bytes in
          let below : n < 10 ^ length rest = rw one-mul at (digits_below 0 rest n (rw q at e)) in
          lt_of_lt_of_le below (pow-le-pow_right {n = 10} (lit< tt) {i = length rest} {j = columns} (omega arith))

  numbers_small : (count field : ℕ) (bytes : List ℕ) → Small (numbers_in (amounts_of blank count field bytes))
  unfolding amounts_of numbers_in
  numbers_small zero field bytes = none_small
  numbers_small (suc count) field bytes =
      by_amount (field_of (blank_reads blank field) (take columns bytes)) refl (numbers_small count (suc field) (drop columns bytes))
    where
      by_amount : (a : Option ℕ) → field_of (blank_reads blank field) (take columns bytes) ≡ a
          → Small (numbers_in (amounts_of blank count (suc field) (drop columns bytes)))
          → Small (numbers_in (a ∷ amounts_of blank count (suc field) (drop columns bytes)))
      by_amount (Some n) q rest =
          let l = length-take columns bytes in
          cons_small n (numbers_in (amounts_of blank count (suc field) (drop columns bytes)))
          (field_below field (take columns bytes) n (omega arith) q) rest
      by_amount None q rest = none_small

  line_small : (count field : ℕ) (bytes : List ℕ) → Small (line_numbers blank count field bytes)
  line_small count field bytes = by_shape (is_shaped count bytes)
    where
      by_shape : (b : Bool) → Small (cond b (numbers_in (amounts_of blank count field bytes)) [])
      by_shape true = numbers_small count field bytes
      by_shape false = none_small

  pub lines_small : (counts : List ℕ) (line field : ℕ) (bytes : List ℕ) → Small (read_lines blank counts line field bytes).numbers
  unfolding read_lines
  lines_small [] line field bytes = none_small
  lines_small (count ∷ counts) line field bytes =
      by_rest (read_line blank count line field bytes).rest (lines_small counts (suc line) (field + count))
    where
      by_rest : (rest : Result (List ℕ) ℕ) → ((bytes' : List ℕ) → Small (read_lines blank counts (suc line) (field + count) bytes').numbers)
          → Small (behind (line_numbers blank count field bytes) rest (read_lines blank counts (suc line) (field + count))).numbers
      by_rest (Ok later) h = append_small (line_numbers blank count field bytes) _ (line_small count field bytes) (h later)
      by_rest (Err wrong) h = line_small count field bytes
