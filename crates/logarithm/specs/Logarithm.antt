-- The promise rests on it. The logarithm of an hour: document 01, "Hours and logarithms".
use Rattle.std.specs.Prelude.{ℕ, ◌^◌, Bool, leb}
use Rattle.logarithm.specs.Largest.{largest_up_to}

-- the power to which an hour is raised
abbrev pub power : ℕ
power = 256

-- the last k that the table has
abbrev pub last_threshold : ℕ
last_threshold = 1536

-- the service life, 50 years: no member has a later hour
abbrev pub service_life : ℕ
service_life = 438000

-- 10^k ≤ h^256
abbrev pub reaches : ℕ → ℕ → Bool
reaches hour k = leb (10 ^ k) (hour ^ power)

-- "L(h) is the largest k with 10^k ≤ h^256." No hour of a member reaches 1,536, where the table ends: the law `largest` says so.
unfoldable pub logarithm : ℕ → ℕ
unfolding largest_up_to
logarithm hour = largest_up_to last_threshold (reaches hour)
