-- The promise rests on it. What a double, given by its 64 bits, says in whole numbers: document 01, "The card".
use Rattle.std.specs.Prelude.{ℕ, ◌+◌, ◌-◌, ◌*◌, ◌/◌, ◌%◌, ◌^◌, Bool, not, ◌&&◌, ◌||◌, cond, leb, ltb, eqb, Option, Some, None}
use Rattle.ticks.specs.Ticks.{ticks_per_unit}

-- ---- the three parts of the bits, and the number that they stand for

-- the highest bit: whether the double is below zero
abbrev pub sign : ℕ → Bool
sign bits = leb (2 ^ 63) bits

-- the eleven bits below it
abbrev pub exponent : ℕ → ℕ
exponent bits = bits % 2 ^ 63 / 2 ^ 52

-- the 52 lowest bits
abbrev pub fraction : ℕ → ℕ
fraction bits = bits % 2 ^ 52

-- the exponent of the infinities and of every NaN
abbrev pub not_finite : ℕ
not_finite = 2047

-- how often a finite double holds the smallest one above zero, 1 / 2 ^ 1074. An exponent of 0 has no leading digit (a subnormal)
-- and counts as 1.
unfoldable pub magnitude : ℕ → ℕ
magnitude bits =
    cond (eqb (exponent bits) 0) (fraction bits) ((2 ^ 52 + fraction bits) * 2 ^ (exponent bits - 1))

-- how often the double 1 holds it
abbrev pub one : ℕ
one = 2 ^ 1074

-- ---- document 01's two readings of a double

-- the first double that is too large: row "doubles" of the refusals
abbrev pub too_large : ℕ
too_large = 2 ^ 31

-- finite, not negative and below 2 ^ 31: row "doubles" of the refusals. -0.0 is 0.
abbrev pub accepted : ℕ → Bool
accepted bits =
    ltb (exponent bits) not_finite
    && (not (sign bits) || eqb (magnitude bits) 0)
    && ltb (magnitude bits) (too_large * one)

-- "the largest whole number of ticks not above it"
unfoldable pub ticks_of : ℕ → Option ℕ
ticks_of bits = cond (accepted bits) (Some (magnitude bits * ticks_per_unit / one)) None

-- "any other must be whole"
unfoldable pub whole_of : ℕ → Option ℕ
whole_of bits = cond (accepted bits && eqb (magnitude bits % one) 0) (Some (magnitude bits / one)) None
