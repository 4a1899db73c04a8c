-- It serves the code alone. Fields by their elements, each with the range that it is held to, and their checks.
use Rattle.std.specs.Prelude.{ℕ, ◌+◌, ◌<◌, List, [], ◌∷◌, get_or}
use Rattle.fields.specs.Sizes.{most_fields}
use Rattle.fields.specs.Limits.{within}
use Rattle.checks.specs.Rows.{Check, at}

-- each is an element of all fields
abbrev pub Elements : List (ℕ × ℕ × ℕ) → Type 0
Elements [] = Unit {0}
Elements (range ∷ ranges) = (range.0 < most_fields) × Elements ranges

unfoldable pub ranges_held : List ℕ → List (ℕ × ℕ × ℕ) → List Check
ranges_held numbers [] = []
ranges_held numbers (range ∷ ranges) =
    at (range.0 + 1) (within range.1 range.2 (get_or numbers range.0 0)) ∷ ranges_held numbers ranges
