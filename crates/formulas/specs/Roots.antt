-- It serves the code alone. What the code's search for a root finds, and what it asks.
use Rattle.std.specs.Prelude.{ℕ, ◌+◌, ◌*◌, ◌^◌, ◌≤◌, ◌<◌}

-- above every number of the code, and above the root of each
abbrev pub word_limit : ℕ
word_limit = 2 ^ 64

abbrev pub root_limit : ℕ
root_limit = 2 ^ 32

-- z is the root of n, rounded down
pub record Root (n z : ℕ) : Type 0 where
  pub reached : z * z ≤ n
  pub passed : n < (z + 1) * (z + 1)

-- root + further is the root of root² + rest
pub record Further (root rest above further : ℕ) : Type 0 where
  pub below : further < above
  pub reached : further * (2 * root + further) ≤ rest
  pub passed : rest < (further + 1) * (2 * root + (further + 1))

-- `above` is too much, and no product up to it wraps
pub record FurtherFits (root rest above : ℕ) : Type 0 where
  pub some : 1 ≤ above
  pub above_fits : above ≤ root_limit
  pub product_fits : above * (2 * root + above) ≤ word_limit
  pub rest_passed : rest < above * (2 * root + above)
