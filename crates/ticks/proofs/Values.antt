-- The bits of a finite double and its value m * 2 ^ e agree: same sign, and as fractions m * 2 ^ e is the magnitude over
-- 2 ^ 1074. The model of doubles reads the fields of the bits as the significand times a power of two over 2 ^ 1074, and gives back the
-- double whose bits were taken. Equal fractions are 0 together, are whole together, and lie below the same numbers, so that what is
-- tested of the magnitude is a test of the value. Assumes nothing.
use mathlib.Core.Path.{◌≡◌, refl, sym, ap, ◌∙◌, subst}
use mathlib.Core.Bool.{Bool, true, false, not, ◌&&◌, ◌||◌, cond, false≢true}
use Prim.Native.Nat.{ℕ, zero, suc, ◌+◌, ◌-◌, ◌*◌, ◌/◌, ◌%◌, ◌^◌, ◌≤◌, ◌<◌}
use native.Mathlib.Nat.{zero-mul, mul-one, mul_right_comm, mul-lt-mul_of_pos_right, lt_of_mul-lt-mul_right, eq_of_mul-eq-mul_right}
use native.Mathlib.Nat.{mul-mod_left, div-add-mod'}
use native.Mathlib.Omega.{arith}
use lib.IntN.{ℤ}
use lib.Dec.{T, ltb, eqb, lit<}
use lib.Pow.{pow_pos}
use borrow.Author.Tests.{lt-ltb, ltb-true, eqb-false}
use lib.Ieee.{Float, nan, inf, fin, binary64, prec, low, up, down, odd, fits, of_fields, of_bits, to_bits}
use lib.Ieee.Fits.{up_pos, down_pos}
use lib.Ieee.Bits.{of_bits-to_bits}
use lib.Ieee.Exact.{HasValue, odd_sign}
use lib.Ieee.Scale.{finite}
use Rattle.ticks.specs.Doubles.{sign, exponent, fraction, magnitude, one, not_finite, too_large, accepted}
use Rattle.ticks.proofs.Bits.{magnitude_at, magnitude_at_is, normal, zero_together}

-- ---- equal fractions, a / b and c / d

cross_zero : (a b c d : ℕ) → 0 < d → a * d ≡ c * b → c ≡ 0 → a ≡ 0
cross_zero a b c d h e z = eq_of_mul-eq-mul_right d h a 0 (e ∙ rw (z, zero-mul b, zero-mul d))

cross_below : (a b c d k : ℕ) → 0 < b → 0 < d → a * d ≡ c * b → a < k * b → c < k * d
cross_below a b c d k hb hd e l =
    lt_of_mul-lt-mul_right b
    (subst (λ (n : ℕ). n < k * d * b) e
    (subst (λ (n : ℕ). a * d < n) (mul_right_comm k b d) (mul-lt-mul_of_pos_right l hd)))

cross_whole : (a b c d : ℕ) → 0 < d → a * d ≡ c * b → c % d ≡ 0 → a % b ≡ 0
cross_whole a b c d h e z =
    let q = c / d in
    let s : q * d + c % d ≡ c = div-add-mod' c d in
    let w : c ≡ q * d = omega arith in
    let is : a ≡ q * b = eq_of_mul-eq-mul_right d h a (q * b) (e ∙ ap (λ (n : ℕ). n * b) w ∙ mul_right_comm q d b) in
    ap (λ (n : ℕ). n % b) is ∙ mul-mod_left q b

same_test : (p q : Bool) → (p ≡ true → q ≡ true) → (q ≡ true → p ≡ true) → p ≡ q
same_test true q to from = sym (to refl)
same_test false true to from = from refl
same_test false false to from = refl

same_below : (a b c d k : ℕ) → 0 < b → 0 < d → a * d ≡ c * b → ltb a (k * b) ≡ ltb c (k * d)
same_below a b c d k hb hd e =
    same_test (ltb a (k * b)) (ltb c (k * d))
    (λ h. lt-ltb c (k * d) (cross_below a b c d k hb hd e (ltb-true a (k * b) h)))
    (λ h. lt-ltb a (k * b) (cross_below c d a b k hd hb (sym e) (ltb-true c (k * d) h)))

pub same_whole : (a b c d : ℕ) → 0 < b → 0 < d → a * d ≡ c * b → eqb (a % b) 0 ≡ eqb (c % d) 0
same_whole a b c d hb hd e = zero_together (a % b) (c % d) (cross_whole a b c d hd e) (cross_whole c d a b hb (sym e))

-- ---- a finite double's fields

-- the digits of a significand, and the exponent of the smallest double above zero, below 0
abbrev digits : ℕ
digits = prec binary64

abbrev lowest : ℕ
lowest = low binary64

pub one_some : 0 < one
one_some = pow_pos lowest

pub record Stands (bits : ℕ) (negative : Bool) (m : ℕ) (e : ℤ) : Type 0 where
  pub below : exponent bits < not_finite
  pub signed : sign bits ≡ negative
  pub value : magnitude bits * down e ≡ m * up e * one

not_finite_then : (b s : Bool) → finite (cond b (inf s) nan) ≡ false
not_finite_then true s = refl
not_finite_then false s = refl

fields : (x : Float) (s : Bool) (k t : ℕ) → k ≤ not_finite → of_fields binary64 s k t ≡ x → finite x ≡ true
    → (k < not_finite) × HasValue x s (magnitude_at k t) one
unfolding of_fields
fields x s zero t l e f = (
  lit< tt,
  subst (λ (y : Float). HasValue y s t one) e
      (subst (λ (n : ℕ). HasValue (odd digits s t 0 lowest) s n one) (mul-one t) (odd_sign digits s t 0 lowest)),
)
fields x s (suc k) t l e f = decide (eqb (suc k) not_finite) refl e
  where
    decide : (b : Bool) → eqb (suc k) not_finite ≡ b → cond b (cond (eqb t 0) (inf s) nan) (odd digits s (2 ^ 52 + t) k lowest) ≡ x
        → (suc k < not_finite) × HasValue x s (magnitude_at (suc k) t) one
    decide true h d = absurd (false≢true (sym (not_finite_then (eqb t 0) s) ∙ ap finite d ∙ f))
    decide false h d =
        let differs = eqb-false (suc k) not_finite h in
        let i : suc k - 1 ≡ k = omega arith in (
          omega arith,
          subst (λ (y : Float). HasValue y s (magnitude_at (suc k) t) one) d
              (subst (λ (n : ℕ). HasValue (odd digits s (2 ^ 52 + t) k lowest) s n one)
              (sym (normal (suc k) t (omega arith) ∙ ap (λ (n : ℕ). (2 ^ 52 + t) * 2 ^ n) i)) (odd_sign digits s (2 ^ 52 + t) k lowest)),
        )

pub stands : (s : Bool) (m : ℕ) (e : ℤ) → T (fits binary64 (fin s m e)) → Stands (to_bits binary64 (fin s m e)) s m e
unfolding of_bits
stands s m e f =
    let bits = to_bits binary64 (fin s m e) in
    let back = of_bits-to_bits binary64 (fin s m e) f in
    let parts = fields (fin s m e) (sign bits) (exponent bits) (fraction bits) (omega arith) back refl in
    record { below = parts.0; signed = sym parts.1.0; value = ap (λ (n : ℕ). n * down e) (magnitude_at_is bits) ∙ sym parts.1.1 }

-- ---- the double is accepted by its value

accepted_by : (a b c b' c' d' d : Bool) → a ≡ true → b ≡ b' → c ≡ c' → d ≡ d' → (a && (not b || c) && d) ≡ ((not b' || c') && d')
accepted_by a b c b' c' d' d p q r s = rw (p, q, r, s)

pub accepted_value : (bits : ℕ) (s : Bool) (m : ℕ) (e : ℤ) → Stands bits s m e
    → accepted bits ≡ ((not s || eqb m 0) && ltb (m * up e) (too_large * down e))
accepted_value bits s m e v =
    let value = v.value in
    accepted_by (ltb (exponent bits) not_finite) (sign bits) (eqb (magnitude bits) 0) s (eqb m 0) (ltb (m * up e) (too_large * down e))
    (ltb (magnitude bits) (too_large * one))
    (lt-ltb (exponent bits) not_finite v.below)
    v.signed
    (zero_together (magnitude bits) m
    (λ z. cross_zero (magnitude bits) one (m * up e) (down e) (down_pos e) value (rw (z, zero-mul (up e))))
    (λ z. eq_of_mul-eq-mul_right (up e) (up_pos e) m 0
    (cross_zero (m * up e) (down e) (magnitude bits) one one_some (sym value) z ∙ sym (zero-mul (up e)))))
    (same_below (magnitude bits) one (m * up e) (down e) too_large one_some (down_pos e) value)
