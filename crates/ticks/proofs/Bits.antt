-- The decoder's arithmetic, over plain numbers. For bits below 2 ^ 63 with an exponent above 0 the magnitude is the significand times
-- 2 ^ (exponent - 1), and 2 ^ 1074 is 2 ^ cut times the same power after the doublings: quotient and remainder by 2 ^ 1074 are those
-- of the significand by 2 ^ cut. Where more digits are cut than a fraction has, the double after the doublings is below 1, so that
-- the quotient is 0 and the remainder the whole of it. From the exponent of 2 ^ 31 on a double is too large. Assumes nothing.
use mathlib.Core.Path.{◌≡◌, refl, sym, ap, ◌∙◌, subst}
use mathlib.Core.Bool.{Bool, true, false, not, ◌&&◌, ◌||◌, and-false, cond}
use Prim.Native.Nat.{ℕ, zero, suc, ◌+◌, ◌-◌, ◌*◌, ◌/◌, ◌%◌, ◌^◌, ◌≤◌, ◌<◌}
use native.Mathlib.Nat.{suc-ne-zero, zero-lt-suc, lt_of_lt_of_le, add-zero, zero-mul, one-mul, mul_assoc, mul-pos, mul-le-mul}
use native.Mathlib.Nat.{mul-div_cancel, mul-div-mul_right, mul-mod_left, mod-eq_of_lt, div-eq_of_lt}
use native.Mathlib.Omega.{arith}
use lib.Dec.{ltb, eqb, lit<, eqb-suc-zero}
use lib.Arith.{mod-mul}
use lib.Pow.{pow-add, pow_pos, pow_mono, shl_lt, shl_exact}
use borrow.Author.Tests.{lt-ltb, le-ltb, lt-leb, le-leb, ne_eqb, ltb-true, ltb-false}
use Rattle.std.specs.Prelude.{Some, None}
use Rattle.ticks.specs.Doubles.{sign, exponent, fraction, magnitude, one, not_finite, too_large, accepted}
use Rattle.ticks.specs.Decoder.{tick_doublings, cut, decoded_of}

-- the exponent of 2 ^ 31
abbrev large_exponent : ℕ
large_exponent = 1054

-- the digits that are cut off: a double of exponent x is its significand times 2 ^ (x - 1075)
abbrev cut_of : ℕ → ℕ → ℕ
cut_of doublings x = 1075 - doublings - x

-- the digits of a fraction
abbrev fraction_digits : ℕ
fraction_digits = 52

-- ---- remainders and products

-- two numbers that are 0 together
pub zero_together : (a b : ℕ) → (b ≡ 0 → a ≡ 0) → (a ≡ 0 → b ≡ 0) → eqb a 0 ≡ eqb b 0
zero_together zero b to from = sym (ap (λ (n : ℕ). eqb n 0) (from refl))
zero_together (suc a) b to from = eqb-suc-zero a ∙ sym (ne_eqb b 0 (λ z. suc-ne-zero a (to z)))

-- a product by a number above 0 is 0 where the other factor is
zero_scaled : (r p : ℕ) → 0 < p → eqb (r * p) 0 ≡ eqb r 0
zero_scaled zero p h = ap (λ (n : ℕ). eqb n 0) (zero-mul p)
zero_scaled (suc r) p h =
    let some = mul-pos (zero-lt-suc r) h in
    ne_eqb (suc r * p) 0 (λ e. omega arith) ∙ sym (eqb-suc-zero r)

-- where dividend and divisor have a factor in common, so has the remainder
remainder_scaled : (n m p : ℕ) → 0 < m → 0 < p → n * p % (m * p) ≡ n % m * p
remainder_scaled n m p hm hp = mod-mul (n * p) hm hp ∙ rw (mul-div_cancel n hp, mul-mod_left n p, add-zero (n % m * p))

-- ---- the magnitude of an exponent x and a fraction t

abbrev pub magnitude_at : ℕ → ℕ → ℕ
magnitude_at x t = cond (eqb x 0) t ((2 ^ 52 + t) * 2 ^ (x - 1))

pub magnitude_at_is : (bits : ℕ) → magnitude bits ≡ magnitude_at (exponent bits) (fraction bits)
unfolding magnitude
magnitude_at_is bits = refl

pub normal : (x t : ℕ) → 0 < x → magnitude_at x t ≡ (2 ^ 52 + t) * 2 ^ (x - 1)
normal x t h = rw (ne_eqb x 0 (λ e. omega arith))

magnitude_below : (x t : ℕ) → t < 2 ^ 52 → magnitude_at x t < 2 ^ (x + 52)
magnitude_below zero t h = h
magnitude_below (suc x) t h =
    let e : 53 + (suc x - 1) ≡ suc x + 52 = omega arith in
    subst (λ (n : ℕ). magnitude_at (suc x) t < 2 ^ n) e
    (rw (normal (suc x) t (zero-lt-suc x)) (shl_lt 53 (suc x - 1) (omega arith)))

magnitude_large : (x t : ℕ) → large_exponent ≤ x → too_large * one ≤ magnitude_at x t
magnitude_large x t h =
    rw (normal x t (omega arith)) (mul-le-mul {n₁ = 2 ^ 52} {m₁ = 2 ^ 1053} (omega arith) (pow_mono {i = 1053} (omega arith)))

magnitude_zero : (x t : ℕ) → magnitude_at x t ≡ 0 → (x ≡ 0) × (t ≡ 0)
magnitude_zero zero t e = (refl, e)
magnitude_zero (suc x) t e =
    let some : 0 < (2 ^ 52 + t) * 2 ^ (suc x - 1) = mul-pos (omega arith) (pow_pos (suc x - 1)) in
    let none = sym (normal (suc x) t (zero-lt-suc x)) ∙ e in
    absurd (omega arith)

-- bits below 2 ^ 63 have a clear sign, and are exponent and fraction alone
magnitude_of : (bits : ℕ) → bits < 2 ^ 63 → magnitude bits ≡ magnitude_at (bits / 2 ^ 52) (bits % 2 ^ 52)
magnitude_of bits h = magnitude_at_is bits ∙ ap (λ (n : ℕ). magnitude_at (n / 2 ^ 52) (bits % 2 ^ 52)) (mod-eq_of_lt h)

-- ---- which bits are accepted

accepts_by : (a b c d : Bool) → a ≡ true → b ≡ false → d ≡ true → (a && (not b || c) && d) ≡ true
accepts_by a b c d p q r = rw (p, q, r)

accepts : (bits : ℕ) → bits < 2 ^ 63 → bits / 2 ^ 52 < large_exponent → accepted bits ≡ true
accepts bits h l =
    let x = bits / 2 ^ 52 in
    let t = bits % 2 ^ 52 in
    let m : magnitude bits < too_large * one =
    rw (magnitude_of bits h)
    (lt_of_lt_of_le (magnitude_below x t (omega arith)) (pow_mono {i = x + 52} {j = 1105} (omega arith))) in
    accepts_by (ltb (exponent bits) not_finite) (sign bits) (eqb (magnitude bits) 0) (ltb (magnitude bits) (too_large * one))
    (lt-ltb (exponent bits) not_finite (omega arith))
    (lt-leb (2 ^ 63) bits h)
    (lt-ltb (magnitude bits) (too_large * one) m)

refuses_large : (bits : ℕ) → bits < 2 ^ 63 → large_exponent ≤ bits / 2 ^ 52 → accepted bits ≡ false
refuses_large bits h l =
    let m : too_large * one ≤ magnitude bits = rw (magnitude_of bits h) (magnitude_large (bits / 2 ^ 52) (bits % 2 ^ 52) l) in
    rw (le-ltb (magnitude bits) (too_large * one) m)
    (and-false (ltb (exponent bits) not_finite && (not (sign bits) || eqb (magnitude bits) 0)))

refuses_by : (a b c d : Bool) → b ≡ true → c ≡ false → (a && (not b || c) && d) ≡ false
refuses_by a b c d p q = rw (p, q, and-false a)

refuses_negative : (bits : ℕ) → 2 ^ 63 < bits → bits < 2 ^ 64 → accepted bits ≡ false
refuses_negative bits h l =
    refuses_by (ltb (exponent bits) not_finite) (sign bits) (eqb (magnitude bits) 0) (ltb (magnitude bits) (too_large * one))
    (le-leb (2 ^ 63) bits (omega arith))
    (ne_eqb (magnitude bits) 0 (λ e.
    let none = magnitude_zero (exponent bits) (fraction bits) (sym (magnitude_at_is bits) ∙ e) in
    let x = none.0 in
    let t = none.1 in
    omega arith))

-- a set sign stands above the exponent
refuses_above : (bits : ℕ) → bits < 2 ^ 64 → (bits ≡ 2 ^ 63 → ⊥) → large_exponent ≤ bits / 2 ^ 52 → accepted bits ≡ false
refuses_above bits l n h = decide (ltb bits (2 ^ 63)) refl
  where
    decide : (b : Bool) → ltb bits (2 ^ 63) ≡ b → accepted bits ≡ false
    decide true e = refuses_large bits (ltb-true bits (2 ^ 63) e) h
    decide false e = let above = ltb-false bits (2 ^ 63) e in refuses_negative bits (omega arith) l

-- ---- what the decoder gives, way by way

decodes : (bits doublings quotient : ℕ) (exact : Bool) → accepted bits ≡ true
    → quotient ≡ magnitude bits * 2 ^ doublings / one → exact ≡ eqb (magnitude bits * 2 ^ doublings % one) 0
    → Some (cut quotient exact) ≡ decoded_of bits doublings
unfolding decoded_of
decodes bits doublings quotient exact a q e = rw (a, q, e)

pub refuses : (bits doublings : ℕ) → bits < 2 ^ 64 → (bits ≡ 2 ^ 63 → ⊥) → large_exponent ≤ bits / 2 ^ 52 → None ≡ decoded_of bits doublings
unfolding decoded_of
refuses bits doublings l n h = rw (refuses_above bits l n h)

pub minus_zero : (bits doublings : ℕ) → bits ≡ 2 ^ 63 → Some (cut 0 true) ≡ decoded_of bits doublings
unfolding decoded_of magnitude
minus_zero bits doublings e = rw (e, zero-mul (2 ^ doublings))

-- more digits are cut off than a fraction has: the double after the doublings is below 1
pub below_one : (bits doublings : ℕ) → bits < 2 ^ 63 → doublings ≤ tick_doublings → bits / 2 ^ 52 < large_exponent
    → fraction_digits < cut_of doublings (bits / 2 ^ 52) → Some (cut 0 (eqb bits 0)) ≡ decoded_of bits doublings
below_one bits doublings h d l c =
    let x = bits / 2 ^ 52 in
    let t = bits % 2 ^ 52 in
    let m = magnitude_at x t in
    let p = 2 ^ doublings in
    let e : magnitude bits * p ≡ m * p = ap (λ (n : ℕ). n * p) (magnitude_of bits h) in
    let small : magnitude bits * p < one =
    rw e
    (lt_of_lt_of_le (shl_lt (x + 52) doublings (magnitude_below x t (omega arith)))
    (pow_mono {i = x + 52 + doublings} {j = 1074} (omega arith))) in
    decodes bits doublings 0 (eqb bits 0) (accepts bits h l) (sym (div-eq_of_lt small))
    (zero_together bits m (λ z. let none = magnitude_zero x t z in omega (arith, none.0, none.1)) (λ z. rw z)
    ∙ sym (zero_scaled m p (pow_pos doublings))
    ∙ ap (λ (n : ℕ). eqb n 0) (sym e ∙ sym (mod-eq_of_lt small)))

-- the unit of the cut, as the machine shifts
unit_is : (digits : ℕ) → digits ≤ fraction_digits → 1 * 2 ^ digits % 2 ^ 64 ≡ 2 ^ digits
unit_is digits h = shl_exact {a = 1} 1 digits 64 (lit< tt) (omega arith) ∙ one-mul (2 ^ digits)

-- the significand by the unit of the cut
pub cut_off : (bits doublings : ℕ) → bits < 2 ^ 63 → doublings ≤ tick_doublings → bits / 2 ^ 52 < large_exponent
    → cut_of doublings (bits / 2 ^ 52) ≤ fraction_digits
    → Some (cut ((2 ^ 52 + bits % 2 ^ 52) / (1 * 2 ^ cut_of doublings (bits / 2 ^ 52) % 2 ^ 64))
    (eqb ((2 ^ 52 + bits % 2 ^ 52) % (1 * 2 ^ cut_of doublings (bits / 2 ^ 52) % 2 ^ 64)) 0))
    ≡ decoded_of bits doublings
cut_off bits doublings h d l c =
    let x = bits / 2 ^ 52 in
    let digits = cut_of doublings x in
    let unit = 2 ^ digits in
    let significand = 2 ^ 52 + bits % 2 ^ 52 in
    let p = 2 ^ (x - 1 + doublings) in
    let some = pow_pos (x - 1 + doublings) in
    let e : magnitude bits * 2 ^ doublings ≡ significand * p =
    ap (λ (n : ℕ). n * 2 ^ doublings) (magnitude_of bits h ∙ normal x (bits % 2 ^ 52) (omega arith))
    ∙ mul_assoc significand (2 ^ (x - 1)) (2 ^ doublings)
    ∙ ap (λ (n : ℕ). significand * n) (sym (pow-add 2 (x - 1) doublings)) in
    let s : 1074 ≡ digits + (x - 1 + doublings) = omega arith in
    let o : one ≡ unit * p = ap (λ (n : ℕ). 2 ^ n) s ∙ pow-add 2 digits (x - 1 + doublings) in
    let q : magnitude bits * 2 ^ doublings / one ≡ significand / unit = rw (e, o) (mul-div-mul_right significand unit some) in
    let r : magnitude bits * 2 ^ doublings % one ≡ significand % unit * p =
    rw (e, o) (remainder_scaled significand unit p (pow_pos digits) some) in
    decodes bits doublings _ _ (accepts bits h l)
    (ap (λ (n : ℕ). significand / n) (unit_is digits c) ∙ sym q)
    (ap (λ (n : ℕ). eqb (significand % n) 0) (unit_is digits c)
    ∙ sym (ap (λ (n : ℕ). eqb n 0) r ∙ zero_scaled (significand % unit) p some))

pub ruleset ways_out = (minus_zero, refuses, below_one, cut_off)
