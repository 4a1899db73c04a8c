-- What callers use of the readings in place of their definitions: what a double of a given value reads, which doubles are refused,
-- and how large an amount can be. The bits of a double and its value are equal fractions, which settles the readings. Assumes nothing.
use mathlib.Core.Path.{◌≡◌, refl, sym, ap, ◌∙◌}
use mathlib.Core.Bool.{Bool, true, false, not, ◌&&◌, ◌||◌, and-false, and-eq-true_iff, cond}
use mathlib.Core.Logic.{◌⊎◌, inl, inr}
use Prim.Native.Nat.{ℕ, ◌*◌, ◌/◌, ◌%◌, ◌^◌, ◌≤◌, ◌<◌}
use native.Mathlib.Nat.{mul_comm, mul_assoc, mul_right_comm, mul-lt-mul_of_pos_right, div-lt_iff_lt-mul}
use native.Mathlib.Omega.{arith}
use lib.IntN.{ℤ}
use lib.Dec.{T, ltb, eqb, lit<}
use lib.Ieee.{Float, nan, inf, fin, binary64, up, down, fits, is_nan, to_bits}
use lib.Ieee.Fits.{down_pos, nan-fits}
use lib.Ieee.Nearest.{div_same}
use borrow.Author.Tests.{lt-ltb, le-ltb, ltb-true, ne_eqb}
use Rattle.std.specs.Prelude.{Some, None}
use Rattle.std.proofs.lemmas.Option.{cond_some}
use Rattle.ticks.specs.Doubles.{sign, exponent, magnitude, one, not_finite, too_large, accepted, ticks_of, whole_of}
use Rattle.ticks.specs.Ticks.{ticks_per_unit}
use Rattle.ticks.proofs.Values.{stands, accepted_value, same_whole, one_some}

-- ---- what a double of a given value reads

in_range : (m : ℕ) (e : ℤ) → T (fits binary64 (fin false m e)) → m * up e < too_large * down e
    → accepted (to_bits binary64 (fin false m e)) ≡ true
in_range m e f l = accepted_value _ false m e (stands false m e f) ∙ lt-ltb (m * up e) (too_large * down e) l

-- A double m * 2 ^ e from 0 to below 2 ^ 31 reads the largest whole number of ticks not above it.
pub ticks_of_value : (m : ℕ) (e : ℤ) → T (fits binary64 (fin false m e)) → m * up e < too_large * down e
    → ticks_of (to_bits binary64 (fin false m e)) ≡ Some (ticks_per_unit * (m * up e) / down e)
unfolding ticks_of
ticks_of_value m e f l =
    let n = magnitude (to_bits binary64 (fin false m e)) in
    let value = (stands false m e f).value in
    let scaled : n * ticks_per_unit * down e ≡ ticks_per_unit * (m * up e) * one =
    mul_right_comm n ticks_per_unit (down e) ∙ ap (λ (k : ℕ). k * ticks_per_unit) value
    ∙ mul_comm (m * up e * one) ticks_per_unit ∙ sym (mul_assoc ticks_per_unit (m * up e) one) in
    rw (in_range m e f l)
    (ap Some (div_same (n * ticks_per_unit) one (ticks_per_unit * (m * up e)) (down e) one_some (down_pos e) scaled))

-- The same double reads itself where it is a whole number, and is refused otherwise.
pub whole_of_value : (m : ℕ) (e : ℤ) → T (fits binary64 (fin false m e)) → m * up e < too_large * down e
    → whole_of (to_bits binary64 (fin false m e)) ≡ cond (eqb (m * up e % down e) 0) (Some (m * up e / down e)) None
unfolding whole_of
whole_of_value m e f l =
    let n = magnitude (to_bits binary64 (fin false m e)) in
    let value = (stands false m e f).value in
    rw (
      in_range m e f l,
      same_whole n one (m * up e) (down e) one_some (down_pos e) value,
      div_same n one (m * up e) (down e) one_some (down_pos e) value,
    )

-- ---- what is refused

-- a NaN, an infinity, a double below zero, and one of 2 ^ 31 or more
abbrev pub Unreadable : Float → Type 0
Unreadable nan = Unit
Unreadable (inf s) = Unit
Unreadable (fin s m e) = ((s ≡ true) × (0 < m)) ⊎ (too_large * down e ≤ m * up e)

not_accepted : (bits : ℕ) → accepted bits ≡ false → (ticks_of bits ≡ None) × (whole_of bits ≡ None)
unfolding ticks_of whole_of
not_accepted bits a = (rw a, rw a)

out_of_range : (s : Bool) (m : ℕ) (e : ℤ) → Unreadable (fin s m e) → ((not s || eqb m 0) && ltb (m * up e) (too_large * down e)) ≡ false
out_of_range s m e (inl h) = rw (h.0, ne_eqb m 0 (λ z. let some = h.1 in omega arith))
out_of_range s m e (inr h) = rw (le-ltb (m * up e) (too_large * down e) h) (and-false (not s || eqb m 0))

-- Such a double is refused by both readings.
pub refused : (x : Float) → T (fits binary64 x) → Unreadable x
    → (ticks_of (to_bits binary64 x) ≡ None) × (whole_of (to_bits binary64 x) ≡ None)
unfolding ticks_of whole_of magnitude to_bits
refused nan f u = (refl, refl)
refused (inf true) f u = (refl, refl)
refused (inf false) f u = (refl, refl)
refused (fin s m e) f u =
    let bits = to_bits binary64 (fin s m e) in
    not_accepted bits (accepted_value bits s m e (stands s m e f) ∙ out_of_range s m e u)

-- so is a NaN, as the code tests for it
is_the_nan : (x : Float) → is_nan x ≡ true → x ≡ nan
unfolding is_nan
is_the_nan nan e = refl
is_the_nan (inf s) e = cc
is_the_nan (fin s m d) e = cc

pub nan_ticks : (x : Float) → is_nan x ≡ true → ticks_of (to_bits binary64 x) ≡ None
nan_ticks x e = rw (is_the_nan x e) (refused nan (nan-fits binary64) tt).0

pub nan_whole : (x : Float) → is_nan x ≡ true → whole_of (to_bits binary64 x) ≡ None
nan_whole x e = rw (is_the_nan x e) (refused nan (nan-fits binary64) tt).1

-- ---- how large an amount can be

small : (bits : ℕ) → accepted bits ≡ true → magnitude bits < too_large * one
small bits a =
    let rest = ltb (exponent bits) not_finite && (not (sign bits) || eqb (magnitude bits) 0) in
    ltb-true (magnitude bits) (too_large * one) ((and-eq-true_iff rest (ltb (magnitude bits) (too_large * one))).0 a).1

-- An amount in ticks is below 2 ^ 41.
pub ticks_below : (bits n : ℕ) → ticks_of bits ≡ Some n → n < 2 ^ 41
unfolding ticks_of
ticks_below bits n e =
    let taken = cond_some (accepted bits) (magnitude bits * ticks_per_unit / one) n e in
    let m = small bits taken.0 in
    rw (← taken.1) ((div-lt_iff_lt-mul one_some).1 (mul-lt-mul_of_pos_right m (lit< tt)))

-- A whole amount is below 2 ^ 31.
pub whole_below : (bits n : ℕ) → whole_of bits ≡ Some n → n < 2 ^ 31
unfolding whole_of
whole_below bits n e =
    let taken = cond_some (accepted bits && eqb (magnitude bits % one) 0) (magnitude bits / one) n e in
    let a = ((and-eq-true_iff (accepted bits) (eqb (magnitude bits % one) 0)).0 taken.0).0 in
    rw (← taken.1) ((div-lt_iff_lt-mul one_some).1 (small bits a))
