-- A field's columns: where what is written in it begins, and a turn of the loop over its digits. Assumes nothing.
use mathlib.Core.Path.{◌≡◌, refl, sym, ◌∙◌}
use mathlib.Core.Bool.{Bool, true, false, not, and-eq-true_iff}
use mathlib.Core.List.{List, ◌∷◌}
use Prim.Native.Nat.{ℕ, ◌+◌, ◌-◌, ◌*◌, ◌^◌, ◌≤◌, ◌<◌}
use native.Mathlib.Nat.{pow-suc, pow-le-pow_right, lt_of_lt_of_le}
use native.Mathlib.Numerals.{add-one}
use native.Mathlib.Omega.{arith}
use lib.Dec.{leb, eqb, lit<}
use lib.ListN.{length, get_or, drop, drop_of_length-le}
use lib.Seq.{drop-cons}
use borrow.Author.Tests.{leb-true}
use Rattle.std.specs.Prelude.{Option, Some, None}
use Rattle.std.specs.List.{position, position_or_len}
use Rattle.std.proofs.lemmas.Grind.{common_steps}
use Rattle.std.proofs.lemmas.List.Recursion.{is_position_or_len}
use Rattle.std.proofs.lemmas.List.Sums.{prefix_len-le-length}
use Rattle.fields.specs.Quantities.{columns}
use Rattle.line.specs.Lines.{space, zero_digit, nine_digit, is_digit, digits_of, spaces_in, field_of}

-- ---- the spaces in front

abbrev pub no_space : ℕ → Bool
no_space byte = not (eqb byte space)

spaces_are : (bytes : List ℕ) → spaces_in bytes ≡ position_or_len no_space bytes
unfolding spaces_in
spaces_are bytes = is_position_or_len spaces_in no_space refl (λ byte bytes. grind (arith, common_steps)) bytes

-- what stands behind the spaces, and a field of spaces alone
pub written_from : (blank : Option ℕ) (bytes : List ℕ) (first : ℕ) → Some first ≡ position no_space bytes
    → digits_of 0 (drop first bytes) ≡ field_of blank bytes
written_from blank bytes first e = grind (arith, common_steps, spaces_are bytes)

pub nothing_written : (blank : Option ℕ) (bytes : List ℕ) → None ≡ position no_space bytes → blank ≡ field_of blank bytes
nothing_written blank bytes e = grind (arith, common_steps, spaces_are bytes, prefix_len-le-length)

-- ---- the digits behind them

-- the digits passed make `number`, which has at most as many digits as they are
pub record Digits (bytes : List ℕ) (passed number : ℕ) : Type 0 where
  pub few : length bytes ≤ columns
  pub small : number < 10 ^ passed
  pub is : digits_of 0 bytes ≡ digits_of number (drop passed bytes)

module _ {bytes : List ℕ} {i number : ℕ} (p : Digits bytes i number) where
  module _ (h : i < length bytes) where
    next : drop i bytes ≡ get_or bytes i 0 ∷ drop (i + 1) bytes
    next = drop-cons bytes i 0 h ∙ sym (rw add-one)

    pub a_digit : (digit : ℕ) → is_digit (get_or bytes i 0) ≡ true → digit ≡ get_or bytes i 0 - zero_digit
        → Digits bytes (i + 1) (number * 10 + digit)
    unfolding digits_of
    a_digit digit good e =
        let small = p.small in
        let ten : 10 ^ (i + 1) ≡ 10 ^ i * 10 = rw (add-one, pow-suc) in
        let high = leb-true (get_or bytes i 0) nine_digit
        ((and-eq-true_iff (leb zero_digit (get_or bytes i 0)) (leb (get_or bytes i 0) nine_digit)).0 good).1 in
        record {
          few = p.few;
          small = omega arith;
          is = p.is ∙ rw (next, good, e);
        }

    pub no_digit : is_digit (get_or bytes i 0) ≡ false → digits_of 0 bytes ≡ None
    unfolding digits_of
    no_digit bad = p.is ∙ rw (next, bad)

  pub fits : i ≤ length bytes → number < 10 ^ columns
  fits within =
      let few = p.few in
      lt_of_lt_of_le p.small (pow-le-pow_right {n = 10} (lit< tt) {i = i} {j = columns} (omega arith))

  pub all_digits : length bytes ≤ i → digits_of 0 bytes ≡ Some number
  unfolding digits_of
  all_digits h = p.is ∙ rw (drop_of_length-le bytes {i = i} h)

pub ruleset digits_along = (a_digit, no_digit, fits, all_digits)
