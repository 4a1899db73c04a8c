-- The weighed sum of two rows' values, at an x between the rows: over the distance of the rows it is a mean of the two values, so
-- it lies between them, and does not fall with x where the second is not the smaller. Assumes nothing.
use mathlib.Core.Path.{◌≡◌}
use Prim.Native.Nat.{ℕ, ◌+◌, ◌-◌, ◌*◌, ◌≤◌}
use native.Mathlib.Nat.{mul-add, mul-le-mul_right}
use native.Mathlib.Omega.{arith}
use Rattle.tables.specs.declared.Row.{Row}
use Rattle.tables.specs.Tables.{at, hundredths, weighed}

-- the way from a to b goes by way of x
pub by_way : (value a x b : ℕ) → a ≤ x → x ≤ b → value * (b - a) ≡ value * (b - x) + value * (x - a)
by_way value a x b from to =
    let parts : b - a ≡ (b - x) + (x - a) = omega arith in
    rw parts (mul-add value (b - x) (x - a))

module _ (x : ℕ) (low high : Row) (from : at low ≤ x) where
  module _ (to : x ≤ at high) where
    pub weighed_most : (most : ℕ) → hundredths low ≤ most → hundredths high ≤ most
        → weighed x low high ≤ most * (at high - at low)
    weighed_most most p q =
        omega
        (arith, by_way most (at low) x (at high) from to, mul-le-mul_right (at high - x) p, mul-le-mul_right (x - at low) q)

    pub weighed_least : (least : ℕ) → least ≤ hundredths low → least ≤ hundredths high
        → least * (at high - at low) ≤ weighed x low high
    weighed_least least p q =
        omega
        (arith, by_way least (at low) x (at high) from to, mul-le-mul_right (at high - x) p, mul-le-mul_right (x - at low) q)

  pub weighed_rises : (y : ℕ) → x ≤ y → y ≤ at high → hundredths low ≤ hundredths high → weighed x low high ≤ weighed y low high
  weighed_rises y on to h =
      omega (
        arith,
        by_way (hundredths low) x y (at high) on to,
        by_way (hundredths high) (at low) x y from on,
        mul-le-mul_right (y - x) h,
      )
