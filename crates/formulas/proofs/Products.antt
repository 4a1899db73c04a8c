-- A product of two bounded numbers is bounded: what every product of the steps fits by. Assumes nothing.
use Prim.Native.Nat.{ℕ, ◌+◌, ◌*◌, ◌^◌, ◌≤◌}
use native.Mathlib.Nat.{mul-le-mul}
use lib.Pow.{pow-add}

-- a number of j digits by one of k has at most j + k
pub product : (j k : ℕ) {a b : ℕ} → a ≤ 2 ^ j → b ≤ 2 ^ k → a * b ≤ 2 ^ (j + k)
product j k h l = rw (pow-add 2 j k) (mul-le-mul h l)
