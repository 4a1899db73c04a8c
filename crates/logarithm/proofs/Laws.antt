-- What callers use of the logarithm in place of its definition: its test as an inequality of powers; that it is the largest k of all for
-- every hour up to the service life, since none of these reaches the table's last; that it never falls; and its two ends. Assumes nothing.
use mathlib.Core.Path.{◌≡◌}
use mathlib.Core.Logic.{⊎_elim}
use Prim.Native.Nat.{ℕ, suc, ◌^◌, ◌≤◌, ◌<◌}
use native.Mathlib.Nat.{pow-le-pow_left, pow-le-pow_right, lt_of_le_of_lt, lt_of_lt_of_le, le_trans, one-le-pow, lt_of_not-le}
use native.Mathlib.Nat.{not-le_of_lt}
use native.Mathlib.Omega.{arith}
use mathlib.Core.Bool.{true, false}
use lib.Dec.{lit<, lit≤}
use borrow.Author.Tests.{le-leb, lt-leb, leb-true}
use Rattle.logarithm.specs.Logarithm.{power, last_threshold, service_life, reaches, logarithm}
use Rattle.logarithm.specs.Table.{IsLargest}
use Rattle.logarithm.proofs.Largest.{no_more, is_reached, no_less, is_largest}

-- the test passes at what is reached, and not beyond
pub hour_reaches : (hour k : ℕ) → 10 ^ k ≤ hour ^ power → reaches hour k ≡ true
hour_reaches hour k h = le-leb (10 ^ k) (hour ^ power) h

beyond : (hour k : ℕ) → hour ^ power < 10 ^ suc k → (j : ℕ) → k < j → reaches hour j ≡ false
beyond hour k h j more = lt-leb (10 ^ j) (hour ^ power) (lt_of_lt_of_le h (pow-le-pow_right {n = 10} (lit< tt) more))

pub never_falls : (earlier hour : ℕ) → earlier ≤ hour → logarithm earlier ≤ logarithm hour
unfolding logarithm
never_falls earlier hour h =
    ⊎_elim
    (λ none. omega arith)
    (λ (passes : reaches earlier (logarithm earlier) ≡ true).
    no_less (reaches hour) last_threshold (logarithm earlier) (no_more (reaches earlier) last_threshold)
    (hour_reaches hour (logarithm earlier) (le_trans (leb-true _ _ passes) (pow-le-pow_left h power))))
    (is_reached (reaches earlier) last_threshold)

-- the two powers of ten between which an hour's power lies decide its logarithm
pub decided : (hour k : ℕ) → k ≤ last_threshold → 10 ^ k ≤ hour ^ power → hour ^ power < 10 ^ suc k → logarithm hour ≡ k
unfolding logarithm
decided hour k le at next = is_largest (reaches hour) last_threshold k le (hour_reaches hour k at) (beyond hour k next)

pub at_first_hour : logarithm 1 ≡ 0
at_first_hour = decided 1 0 (lit≤ tt) (lit≤ tt) (lit< tt)

pub at_service_life : logarithm service_life ≡ 1444
at_service_life = decided service_life 1444 (lit≤ tt) (lit≤ tt) (lit< tt)

-- no k from the table's last on is reached within the service life
within : (hour j : ℕ) → hour ≤ service_life → 10 ^ j ≤ hour ^ power → j < last_threshold
within hour j h r =
    let top : hour ^ power < 10 ^ last_threshold = lt_of_le_of_lt (pow-le-pow_left h power) (lit< tt) in
    lt_of_not-le (λ (more : last_threshold ≤ j). not-le_of_lt (lt_of_lt_of_le top (pow-le-pow_right {n = 10} (lit< tt) more)) r)

-- the logarithm is what document 01 says, for every hour of a member
pub largest : (hour : ℕ) → 1 ≤ hour → hour ≤ service_life → IsLargest hour (logarithm hour)
unfolding logarithm
largest hour some h = record {
  reached =
      ⊎_elim (λ none. rw none (one-le-pow power hour some)) (λ passes. leb-true _ _ passes) (is_reached (reaches hour) last_threshold);
  largest = λ j r. let less = within hour j h r in no_less (reaches hour) last_threshold j (omega arith) (hour_reaches hour j r);
}
