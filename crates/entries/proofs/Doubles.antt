-- The bits of a double are those of its value, and one that has a value is no NaN. Assumes nothing.
use mathlib.Core.Path.{◌≡◌, sym, ap, ◌∙◌}
use mathlib.Core.Bool.{not}
use Prim.Native.Nat.{ℕ, ◌*◌, ◌^◌}
use native.Mathlib.Nat.{mul-one, mul_right_comm}
use lib.Dec.{T, lit<}
use lib.Ieee.{Float, nan, inf, fin, binary64, up, down, is_nan, to_bits}
use lib.Ieee.Fits.{down_pos}
use lib.Ieee.Nearest.{div_same}
use Rattle.entries.specs.Answers.{IsExactly, double_of}

scaled : (m u d ticks k : ℕ) → m * u * 1024 ≡ ticks * d → m * u * k * 1024 ≡ ticks * 1 * k * d
scaled m u d ticks k e =
    mul_right_comm (m * u) k 1024 ∙ ap (λ (n : ℕ). n * k) e ∙ mul_right_comm ticks d k
    ∙ ap (λ (n : ℕ). n * k * d) (sym (mul-one ticks))

pub same_bits : (x : Float) (ticks : ℕ) → IsExactly x ticks → to_bits binary64 x ≡ to_bits binary64 (double_of ticks)
unfolding to_bits
same_bits nan ticks v = absurd v
same_bits (inf s) ticks v = absurd v
same_bits (fin s m e) ticks v =
    rw (
      v.0,
      div_same (m * up e * 2 ^ 1074) (down e) (ticks * 1 * 2 ^ 1074) 1024 (down_pos e) (lit< tt)
          (scaled m (up e) (down e) ticks (2 ^ 1074) v.1),
    )

-- a double that has a value is no NaN
pub finite : (x : Float) (ticks : ℕ) → IsExactly x ticks → T (not (is_nan x))
unfolding is_nan
finite nan ticks v = absurd v
finite (inf s) ticks v = tt
finite (fin s m e) ticks v = tt
