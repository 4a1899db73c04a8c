-- It serves the code and the proofs alone. Where a table is read without rounding.
use Rattle.std.specs.Prelude.{ℕ, ◌-◌, ◌*◌, ◌%◌, cond, List, [], ◌∷◌, ◌≡◌, ltb}
use Rattle.tables.specs.declared.Row.{Row}
use Rattle.tables.specs.Tables.{hundred, at, hundredths, weighed}

-- what the division leaves over where `along` divides
unfoldable pub left_along : ℕ → ℕ → Row → List Row → ℕ
left_along unit x low [] = unit * hundredths low % hundred
left_along unit x low (high ∷ rows) =
    cond (ltb x (at high)) (unit * weighed x low high % (hundred * (at high - at low))) (left_along unit x high rows)

-- what the division leaves over where `reading` divides
unfoldable pub left_over : ℕ → List Row → ℕ → ℕ
unfolding left_along
left_over unit [] x = 0
left_over unit (first ∷ rows) x = cond (ltb x (at first)) (unit * hundredths first % hundred) (left_along unit x first rows)

-- "exact": at x nothing is rounded
abbrev pub Exact : ℕ → List Row → ℕ → Type 0
Exact unit rows x = left_over unit rows x ≡ 0
