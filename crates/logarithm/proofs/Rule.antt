-- The rule of the table of thresholds: one test over all 1,537 entries, carried to each of them by one lemma.
-- The test looks at an entry's power and at that of the hour before it; every earlier hour has a smaller power still. Assumes nothing.
use mathlib.Core.Bool.{Bool, ◌&&◌}
use mathlib.Core.List.{List}
use Prim.Native.Nat.{ℕ, suc, ◌-◌, ◌^◌}
use native.Mathlib.Nat.{pow-le-pow_left, lt_of_le_of_lt}
use native.Mathlib.Omega.{arith}
use lib.Dec.{T, leb, ltb, eqb, leb→le, ltb→lt, eqb→eq}
use lib.Ieee.Fits.{and_l, and_r}
use lib.ListN.{length, get_or}
use Rattle.logarithm.specs.Logarithm.{power, last_threshold}
use Rattle.logarithm.specs.Table.{IsThreshold, IsTable}
use Rattle.logarithm.proofs.Entries.{every, entry}

abbrev pub turns : ℕ → ℕ → Bool
turns k hour = leb (10 ^ k) (hour ^ power) && ltb ((hour - 1) ^ power) (10 ^ k)

is_threshold : (k hour : ℕ) → T (turns k hour) → IsThreshold k hour
is_threshold k hour t = record {
  reached = leb→le (10 ^ k) (hour ^ power) (and_l (leb (10 ^ k) (hour ^ power)) (ltb ((hour - 1) ^ power) (10 ^ k)) t);
  smallest = λ earlier h.
      lt_of_le_of_lt (pow-le-pow_left {n = earlier} {m = hour - 1} (omega arith) power)
      (ltb→lt ((hour - 1) ^ power) (10 ^ k) (and_r (leb (10 ^ k) (hour ^ power)) (ltb ((hour - 1) ^ power) (10 ^ k)) t));
}

pub is_table : (thresholds : List ℕ) → T (eqb (length thresholds) (suc last_threshold)) → T (every turns 0 thresholds)
    → IsTable thresholds
is_table thresholds l t =
    let e = eqb→eq (length thresholds) (suc last_threshold) l in
    record { entries = e; threshold = λ k h. is_threshold k (get_or thresholds k 0) (entry turns thresholds t k (omega arith)) }
