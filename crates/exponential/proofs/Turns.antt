-- The turns of h take off no more than there is, where X is at most 1.5 T. At k ≥ 2 that is plain, for X / (k T) is at most 3/4. At k = 1
-- it is not: before the turn of 2 h is at least T / 2, so that this turn takes off X / 4 but for the rounding; and (1 − x/4) x is at most
-- 15/16 for x ≤ 1.5, which leaves room for it. And the loop of the code is the turns of the definition, k by k. Assumes nothing.
use mathlib.Core.Path.{◌≡◌, refl, ap}
use Prim.Native.Nat.{ℕ, zero, suc, ◌+◌, ◌*◌, ◌-◌, ◌/◌, ◌≤◌, ◌<◌}
use native.Mathlib.Nat.{div-le_of_le-mul, mul-le-mul, mul-le-mul_right, mul-div-le, lt-mul-div-succ}
use native.Mathlib.Omega.{arith}
use lib.Dec.{lit<, lit≤}
use Rattle.ticks.specs.Ticks.{T}
use Rattle.fields.specs.Limits.{most_friction}
use Rattle.exponential.specs.Factor.{powers, turn, turns, factor}

-- what the turn of k takes off
abbrev pub taken : ℕ → ℕ → ℕ → ℕ
taken X k h = h * X / (k * T)

pub turn_most : (X k h : ℕ) → turn X k h ≤ T
turn_most X k h = omega arith

-- what is taken off and what is left are T
turn_leaves : (X k h : ℕ) → taken X k h ≤ T → turn X k h + taken X k h ≡ T
turn_leaves X k h fits = omega arith

turns_most : (X k h : ℕ) → h ≤ T → turns X k h ≤ T
unfolding turns
turns_most X zero h low = low
turns_most X (suc i) h low = turns_most X i (turn X (suc i) h) (turn_most X (suc i) h)

pub factor_most : (X : ℕ) → factor X ≤ T
unfolding factor
factor_most X = turns_most X powers T (lit≤ tt)

-- each turn of k, k − 1, .. , 1 from h on takes off at most T
unfoldable pub Fits : ℕ → ℕ → ℕ → Type 0
Fits X zero h = Unit {0}
Fits X (suc i) h = (taken X (suc i) h ≤ T) × Fits X i (turn X (suc i) h)

-- ---- no turn takes off more than there is

-- X² ≥ 2 c X − c² with c = 1.5 T
square : (X d : ℕ) → X + d ≡ most_friction → 2 * most_friction * X ≤ X * X + most_friction * most_friction
square X d e = omega (arith, ap (λ n. n * X) e, ap (λ n. n * d) e)

-- d = T − q with q ≥ X / 4 − 1
last_bound : (X q d : ℕ) → X ≤ most_friction → d + q ≡ T → X ≤ 4 * (q + 1) → d * X ≤ 1 * T * T
last_bound X q d most e r =
    omega (arith, ap (λ n. n * X) e, mul-le-mul_right X r, square X (most_friction - X) (omega arith))

module _ (X : ℕ) (most : X ≤ most_friction) where
  -- at k ≥ 2
  pub early_fits : (i h : ℕ) → 1 ≤ i → h ≤ T → taken X (suc i) h ≤ T
  early_fits i h early low = div-le_of_le-mul (suc i * T) (omega (arith, mul-le-mul low most, early))

  -- after the turn of 3 there is half of T at least
  pub third_half : (h : ℕ) → h ≤ T → T ≤ 2 * turn X 3 h
  third_half h low =
      omega (arith, turn_leaves X 3 h (early_fits 2 h (lit≤ tt) low), mul-div-le (h * X) (3 * T), mul-le-mul low most)

  -- at k = 1, after the turn of 2 from an h that is half of T at least
  pub last_fits : (h : ℕ) → T ≤ 2 * h → h ≤ T → taken X 1 (turn X 2 h) ≤ T
  last_fits h half low = div-le_of_le-mul (1 * T)
      (last_bound X (taken X 2 h) (turn X 2 h) most (turn_leaves X 2 h (early_fits 1 h (lit≤ tt) low))
      (omega (arith, mul-le-mul_right X half, lt-mul-div-succ (h * X) {b = 2 * T} (lit< tt))))

  -- from the turn of j + 3 on
  fits_from : (j h : ℕ) → h ≤ T → Fits X (suc (suc (suc j))) h
  unfolding Fits
  fits_from zero h low = (
    early_fits 2 h (lit≤ tt) low,
    (
      early_fits 1 _ (lit≤ tt) (turn_most X 3 h),
      (last_fits _ (third_half h low) (turn_most X 3 h), tt),
    ),
  )
  fits_from (suc j) h low =
      (early_fits (suc (suc (suc j))) h (omega arith) low, fits_from j _ (turn_most X (suc (suc (suc (suc j)))) h))

-- ---- the loop

-- h before the turn of k
pub record Going (X h k : ℕ) : Type 0 where
  pub low : h ≤ T
  pub fits : Fits X k h
  pub same : turns X k h ≡ factor X

pub begins : (X : ℕ) → X ≤ most_friction → Going X T powers
unfolding factor
begins X most = record { low = lit≤ tt; fits = fits_from X most 12 T (lit≤ tt); same = refl }

pub goes : (X h k : ℕ) → 0 < k → Going X h k → (taken X k h ≤ T) × Going X (turn X k h) (k - 1)
unfolding Fits turns
goes X h zero some going = absurd (omega arith)
goes X h (suc i) some going =
    let back : suc i - 1 ≡ i = omega arith in
    rw back (going.fits.0, record { low = turn_most X (suc i) h; fits = going.fits.1; same = going.same })

pub ends : (X h k : ℕ) → k ≤ 0 → Going X h k → h ≡ factor X
unfolding turns
ends X h zero none going = going.same
ends X h (suc i) none going = absurd (omega arith)
