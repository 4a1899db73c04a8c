-- It serves the code alone. What both readings of a double share: its bits, and what the decoder gives.
use Rattle.std.specs.Prelude.{cond, ℕ, ◌*◌, ◌/◌, ◌%◌, ◌^◌, Bool, eqb, Float, Option, Some, None}
use Rattle.std.specs.Float.{binary64}
use Rattle.std.specs.Float.Ieee.{is_nan, to_bits}
use Rattle.ticks.specs.declared.Cut.{Cut}
use Rattle.ticks.specs.Doubles.{magnitude, one, accepted}

-- the bits of a double, and none of a NaN
abbrev pub bits_of : Float → Option ℕ
bits_of x = cond (is_nan x) None (Some (to_bits binary64 x))

-- 1024 is 2 ^ 10
abbrev pub tick_doublings : ℕ
tick_doublings = 10

abbrev pub cut : ℕ → Bool → Cut
cut quotient exact = record { quotient = quotient; exact = exact }

-- the double after some doublings, cut to a whole number, and whether nothing was cut off
unfoldable pub decoded_of : ℕ → ℕ → Option Cut
decoded_of bits doublings =
    cond (accepted bits)
    (Some (cut (magnitude bits * 2 ^ doublings / one) (eqb (magnitude bits * 2 ^ doublings % one) 0)))
    None
