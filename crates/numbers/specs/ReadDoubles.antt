-- It serves the code alone: what a list gives does not depend on it. The double of some bits, and the doubles that a list's bytes are read
-- as on their way.
use Rattle.std.specs.Prelude.{ℕ, ◌+◌, false, cond, Float, Option, Some, None}
use Rattle.std.specs.Option.{unwrap_or}
use Rattle.std.specs.Float.{inf, binary64}
use Rattle.std.specs.Float.Ieee.{nan_bits, of_bits}
use Rattle.fields.specs.Sizes.{most_fields}

-- the double with these bits, and none for a NaN
abbrev pub double_with : ℕ → Option Float
double_with bits = cond (nan_bits binary64 bits) None (Some (of_bits binary64 bits))

-- the same, with infinity for a NaN
abbrev pub stands_for : ℕ → Float
stands_for bits = unwrap_or (double_with bits) (inf false)

-- one more than the most fields
abbrev pub most_doubles : ℕ
most_doubles = most_fields + 1
