-- `ticks::double_of_ticks` meets its contract. A u32 has fewer digits than a double keeps, so it becomes a double unrounded; its product by
-- 2 ^ -10 has the same digits, and lies 1,064 doublings above the smallest double, so that it is not rounded either. Assumes nothing.
use mathlib.Core.Path.{◌≡◌, refl, sym, ap, ◌∙◌, subst}
use mathlib.Core.Bool.{false}
use Prim.Native.Nat.{ℕ, zero, suc, ◌*◌, ◌^◌, ◌<◌}
use native.Mathlib.Nat.{mul-one, mul_assoc, mul-lt-mul_of_pos_right, lt_of_lt_of_le}
use native.Mathlib.Omega.{arith}
use borrow.Author.Rules.{rules}
use lib.Dec.{lit<, lit≤}
use lib.IntN.{pos, negsuc}
use lib.Pow.{pow_pos}
use lib.Ieee.{Float, fin, binary64, mul, round, of_int, of_bits}
use lib.Ieee.Back.{round_whole}
use lib.Ieee.Exact.{HasValue, round_exact}
use lib.Ieee.Positive.{positive_of_value, mul_at}
use Rattle.ticks.specs.Ticks.{ticks_per_unit}
use Rattle.ticks.proofs.double_of_ticks.Goals as goal

-- 2 ^ -10
abbrev tick : Float
tick = fin false 1 (negsuc 9)

exact : (ticks : ℕ) → ticks < 2 ^ 32 → HasValue (mul binary64 (of_int binary64 (pos ticks)) tick) false ticks ticks_per_unit
unfolding mul of_int
exact zero h = (refl, refl)
exact (suc t) h =
    let ticks = suc t in
    let whole = round binary64 false ticks 1 in
    let value : HasValue whole false ticks 1 = round_whole binary64 false ticks (omega arith) in
    let product : mul binary64 whole tick ≡ round binary64 false ticks 1024 =
    mul_at binary64 whole tick ticks 1 1 1024 (positive_of_value whole ticks 1 value (omega arith)) tt (lit< tt) (lit< tt)
    value (refl, refl)
    ∙ ap (λ (n : ℕ). round binary64 false n 1024) (mul-one ticks) in
    let finite : ticks * 2 ^ 1064 < 2 ^ 2098 = lt_of_lt_of_le (mul-lt-mul_of_pos_right h (pow_pos 1064)) (lit≤ tt) in
    subst (λ (x : Float). HasValue x false ticks 1024) (sym product)
    (round_exact binary64 false ticks 1024 ticks 1064 (lit< tt) (omega arith) finite (sym (mul_assoc ticks (2 ^ 1064) 1024)))

pub returns : goal.returns
unfolding of_bits
returns c = rw c.from.ensures (exact c.args.ticks (search rules))
