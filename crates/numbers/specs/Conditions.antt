-- It serves the code alone. What the code that copies numbers asks of its buffers.
use Rattle.std.specs.Prelude.{ℕ, ◌*◌, ◌≤◌}
use Rattle.numbers.specs.Numbers.{bytes_per_number}

-- so many bytes hold so many numbers
pub record NumbersFit (bytes numbers : ℕ) : Type 0 where
  pub room : bytes_per_number * numbers ≤ bytes
