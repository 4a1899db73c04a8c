-- It serves the code and the proofs alone. The logarithm's rule and its table's, as the code and the proofs use them.
use Rattle.std.specs.Prelude.{ℕ, suc, ◌^◌, ◌≤◌, ◌<◌, List, ◌≡◌, length, get_or}
use Rattle.logarithm.specs.Logarithm.{power, last_threshold}

-- L(h) in a reader's words: k is reached, and no larger one is
pub record IsLargest (hour k : ℕ) : Type 0 where
  pub reached : 10 ^ k ≤ hour ^ power
  pub largest : (j : ℕ) → 10 ^ j ≤ hour ^ power → j ≤ k

-- "the smallest hour that reaches each k"
pub record IsThreshold (k hour : ℕ) : Type 0 where
  pub reached : 10 ^ k ≤ hour ^ power
  pub smallest : (earlier : ℕ) → earlier < hour → earlier ^ power < 10 ^ k

-- "A table of 1,537 thresholds gives the smallest hour that reaches each k from 0 to 1,536."
pub record IsTable (thresholds : List ℕ) : Type 0 where
  pub entries : length thresholds ≡ suc last_threshold
  pub threshold : (k : ℕ) → k ≤ last_threshold → IsThreshold k (get_or thresholds k 0)
