-- The thresholds rise, so that an hour parts them into those that it reaches and those that it doesn't: the last that it reaches stands
-- at its logarithm. Assumes nothing.
use mathlib.Core.Path.{◌≡◌}
use mathlib.Core.Bool.{true}
use mathlib.Core.List.{List}
use mathlib.Core.Logic.{⊎_elim}
use Prim.Native.Nat.{ℕ, zero, suc, ◌-◌, ◌^◌, ◌≤◌, ◌<◌}
use native.Mathlib.Nat.{le_trans, pow-le-pow_left, pow-le-pow_right}
use native.Mathlib.Omega.{arith}
use lib.Dec.{lit<, leb}
use lib.ListN.{length, get_or}
use borrow.Author.Rules.{rules}
use borrow.Author.Tests.{leb-true, leb-false}
use Rattle.std.proofs.lemmas.Bool.{cases_lt}
use Rattle.std.specs.List.Sorted.{IsNonDecreasingBy}
use Rattle.std.proofs.lemmas.List.Sorted.{IsNonDecreasingBy-from_default, IsPartitionedBy-leb, IsPartitionPoint-from_clause}
use Rattle.logarithm.specs.Logarithm.{power, last_threshold, reaches, logarithm}
use Rattle.logarithm.specs.Table.{IsTable}
use Rattle.logarithm.proofs.Largest.{at_most, no_less}
use Rattle.logarithm.proofs.Laws.{hour_reaches}
use Rattle.logarithm.proofs.reading.Goals as goal

module _ (thresholds : List ℕ) (t : IsTable thresholds) where
  rises : IsNonDecreasingBy (λ (hour : ℕ). hour) thresholds
  rises = IsNonDecreasingBy-from_default (λ (hour : ℕ). hour) thresholds 0 rise
    where
      rise : (i j : ℕ) → i ≤ j → j < length thresholds → get_or thresholds i 0 ≤ get_or thresholds j 0
      rise i j h l =
          let entries = t.entries in
          let smallest = (t.threshold i (omega arith)).smallest (get_or thresholds j 0) in
          grind (arith, (t.threshold j (omega arith)).reached, pow-le-pow_right {n = 10} (lit< tt) h)

  module _ (hour : ℕ) where
    below : (k : ℕ) → k ≤ last_threshold → reaches hour k ≡ true → get_or thresholds k 0 ≤ hour
    below k within passes =
        let smallest = (t.threshold k within).smallest hour in grind (arith, leb-true (10 ^ k) (hour ^ power) passes)

    least : (beyond : ℕ) → beyond ≤ length thresholds → ((k : ℕ) → k < beyond → get_or thresholds k 0 ≤ hour)
        → beyond - 1 ≤ logarithm hour
    unfolding logarithm
    least zero within reached = omega arith
    least (suc k) within reached =
        let entries = t.entries in
        let low = le_trans (t.threshold k (omega arith)).reached (pow-le-pow_left (reached k (omega arith)) power) in
        let same : suc k - 1 ≡ k = omega arith in
        rw same (no_less (reaches hour) last_threshold k (omega arith) (hour_reaches hour k low))

    most : (beyond : ℕ) → ((k : ℕ) → beyond ≤ k → k < length thresholds → hour < get_or thresholds k 0)
        → logarithm hour ≤ beyond - 1
    unfolding logarithm
    most beyond not_reached =
        let entries = t.entries in
        at_most (reaches hour) last_threshold (beyond - 1)
        (λ k within passes.
        ⊎_elim (λ (before : k < beyond). omega arith)
        (λ more. omega (arith, not_reached k more (omega arith), below k within passes)) (cases_lt k beyond))

pub returns : goal.returns
returns c =
    let hour = c.args.hour in
    let thresholds = c.thresholds.result.now in
    let table = c.thresholds.ensures in
    let point = c.partition_point-beyond.ensures in
    let parts = IsPartitionPoint-from_clause (λ threshold. leb threshold hour) thresholds _ point.partitioned
    (IsPartitionedBy-leb (λ threshold. threshold) thresholds hour (rises thresholds table)) (λ a r f' ran. search rules) in
    let most = most thresholds table hour _ (λ k from to. leb-false _ _ (parts.1 k 0 from to)) in
    omega (arith, least thresholds table hour _ point.bound (λ k to. leb-true _ _ (parts.0 k 0 (omega arith) to)))
