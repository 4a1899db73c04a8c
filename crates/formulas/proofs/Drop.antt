-- Where slip dies out along the path there is friction, and a length. The drop at the jack is one by its two squares, and the only one:
-- squares rise, so that none lies between. Assumes nothing.
use mathlib.Core.Path.{◌≡◌, sym}
use mathlib.Core.Bool.{true, and-eq-true_iff}
use mathlib.Core.Logic.{⊎_elim}
use Prim.Native.Nat.{ℕ, zero, suc, ◌*◌, ◌≤◌}
use native.Mathlib.Nat.{lt_of_not-le, mul-le-mul, mul-le-mul_left}
use native.Mathlib.Omega.{arith}
use lib.Dec.{ltb}
use borrow.Author.Tests.{le-leb, lt-leb, leb-true, leb-false, ltb-true}
use Rattle.ticks.specs.Ticks.{ticks_per_unit}
use Rattle.logarithm.proofs.Largest.{is_reached, no_less, is_largest}
use Rattle.formulas.specs.Steps.{dies_out, slip_covers, IsDropAtJack, drop_at_jack}

pub both_above : (d path_length : ℕ) → dies_out d path_length ≡ true → (1 ≤ d) × (1 ≤ path_length)
both_above d path_length so =
    let both = (and-eq-true_iff (ltb 0 d) (ltb 0 path_length)).0 so in
    (ltb-true 0 d both.0, ltb-true 0 path_length both.1)

squared : (z : ℕ) → z ≤ z * z
squared zero = omega arith
squared (suc k) = omega arith

module _ (d es slip path_length : ℕ) (some_path : 1 ≤ path_length) where
  -- 4·d·Es·slip
  abbrev most : ℕ
  most = 4 * d * (es * ticks_per_unit) * slip

  -- Z²·P
  abbrev taken : ℕ → ℕ
  taken z = z * z * (12 * path_length)

  up_to_most : (z : ℕ) → taken z ≤ most → z ≤ most
  up_to_most z h = omega (arith, h, squared z, mul-le-mul_left (z * z) some_path)

  pub one_drop : (z : ℕ) → IsDropAtJack d es slip path_length z → z ≡ drop_at_jack d es slip path_length
  unfolding drop_at_jack
  one_drop z drop =
      let so = leb-true (taken z) most drop.covered in
      let next = leb-false (taken (suc z)) most drop.next_not_covered in
      sym
      (is_largest (slip_covers d es slip path_length) most z (up_to_most z so) drop.covered
      (λ j more. lt-leb (taken j) most (omega (arith, next, mul-le-mul_left (12 * path_length) (mul-le-mul more more)))))

  pub is_drop : IsDropAtJack d es slip path_length (drop_at_jack d es slip path_length)
  unfolding drop_at_jack
  is_drop =
      let z = drop_at_jack d es slip path_length in
      record {
        covered =
            ⊎_elim (λ none. rw none (le-leb (taken 0) most (omega arith))) (λ so. so)
            (is_reached (slip_covers d es slip path_length) most);
        next_not_covered =
            lt-leb (taken (suc z)) most
            (lt_of_not-le
            (λ (more : taken (suc z) ≤ most).
            omega (
              arith,
              no_less (slip_covers d es slip path_length) most (suc z) (up_to_most (suc z) more) (le-leb (taken (suc z)) most more),
            )));
      }
