-- The bits of doubles: a NaN's are above infinity's, but for the sign. Assumes nothing.
use mathlib.Core.Path.{◌≡◌, ◌∙◌}
use mathlib.Core.Bool.{true, false}
use Prim.Native.Nat.{ℕ, ◌%◌, ◌^◌, ◌≤◌, ◌<◌}
use lib.Ieee.{binary64, nan_bits}
use lib.Ieee.Bits.{nan_bits_above}
use borrow.Author.Tests.{lt-ltb, le-ltb}

-- 2047 times 2 ^ 52: the bits of infinity
abbrev infinity : ℕ
infinity = 0x7FF0_0000_0000_0000

pub above : (bits : ℕ) → infinity < bits % 2 ^ 63 → nan_bits binary64 bits ≡ true
above bits h = nan_bits_above binary64 bits ∙ lt-ltb infinity (bits % 2 ^ 63) h

pub below : (bits : ℕ) → bits % 2 ^ 63 ≤ infinity → nan_bits binary64 bits ≡ false
below bits h = nan_bits_above binary64 bits ∙ le-ltb infinity (bits % 2 ^ 63) h
