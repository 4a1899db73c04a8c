-- The promise rests on it. Document 01, "Ticks".
use Rattle.std.specs.Prelude.{ℕ, ◌^◌}

-- "A tick is 1/1024 of psi, inch, foot, square inch, in⁴, inch-pound or radian."
abbrev pub ticks_per_unit : ℕ
ticks_per_unit = 1024

-- "T = 2^24"
abbrev pub T : ℕ
T = 2 ^ 24
