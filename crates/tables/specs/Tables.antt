-- The promise rests on it. The rows of document 01, "Coefficients", as they stand there, and a table read between them.
use Rattle.std.specs.Prelude.{ℕ, ◌+◌, ◌-◌, ◌*◌, ◌/◌, cond, List, [], ◌∷◌, ◌++◌, ltb}
use Rattle.tables.specs.declared.Row.{Row}
use Rattle.ticks.specs.Ticks.{ticks_per_unit}

-- The papers print a coefficient with two decimals.
abbrev pub hundred : ℕ
hundred = 100

abbrev pub row : ℕ → ℕ → Row
row place value = record { 0 = place; 1 = value }

-- where a row stands
abbrev pub at : Row → ℕ
at r = r.0

abbrev pub hundredths : Row → ℕ
hundredths r = r.1

-- A table is read in whole parts of a unit, rounded down: here at a row, and past the last one.
abbrev pub at_row : ℕ → Row → ℕ
at_row unit r = unit * hundredths r / hundred

-- "Straight lines join neighbouring rows": a value is the mean of two rows', each weighed by how near x is to it.
abbrev pub weighed : ℕ → Row → Row → ℕ
weighed x low high = hundredths low * (at high - x) + hundredths high * (x - at low)

abbrev pub on_line : ℕ → ℕ → Row → Row → ℕ
on_line unit x low high = unit * weighed x low high / (hundred * (at high - at low))

-- from the row `low` on, at an x that is not before it
unfoldable pub along : ℕ → ℕ → Row → List Row → ℕ
along unit x low [] = at_row unit low
along unit x low (high ∷ rows) = cond (ltb x (at high)) (on_line unit x low high) (along unit x high rows)

-- a whole table. No x that a member has lies before its first row; there that row is read.
unfoldable pub reading : ℕ → List Row → ℕ → ℕ
unfolding along
reading unit [] x = 0
reading unit (first ∷ rows) x = cond (ltb x (at first)) (at_row unit first) (along unit x first rows)

-- volume/surface is in ticks
abbrev pub inches : ℕ → ℕ → Row
inches n hundredths = row (ticks_per_unit * n) hundredths

-- clocks are in hours
abbrev pub days : ℕ → ℕ → Row
days n hundredths = row (24 * n) hundredths

-- "SCF at 1, 2, 3, 4, 5 in: 1.05 .96 .87 .77 .68, then .68"
abbrev pub scf_rows : List Row
scf_rows = inches 1 105 ∷ inches 2 96 ∷ inches 3 87 ∷ inches 4 77 ∷ inches 5 68 ∷ []

-- "SSF at 1..6 in: 1.04 .96 .86 .77 .69 .60, then .60"
abbrev pub ssf_rows : List Row
ssf_rows = inches 1 104 ∷ inches 2 96 ∷ inches 3 86 ∷ inches 4 77 ∷ inches 5 69 ∷ inches 6 60 ∷ []

-- "MCF .. by age at transfer, 3 5 7 10 20 30 40 days: 1.14 1.07 1.00 .96 .84 .72 .60"
abbrev pub mcf_rows : List Row
mcf_rows = days 3 114 ∷ days 5 107 ∷ days 7 100 ∷ days 10 96 ∷ days 20 84 ∷ days 30 72 ∷ days 40 60 ∷ []

-- "Whole 102,400ths, exact.", of SCF and SSF, which volume/surface decides
abbrev pub size_unit : ℕ
size_unit = 102400

-- "Whole 72,000ths, exact.", of MCF
abbrev pub mcf_unit : ℕ
mcf_unit = 72000

-- "Creep share, days 0 1 2 5 7 10 20 30 60 90 180 365: 0 .08 .15 .18 .23 .24 .30 .35 .45 .51 .61 .74"
abbrev pub creep_day_rows : List Row
creep_day_rows =
    days 0 0 ∷ days 1 8 ∷ days 2 15 ∷ days 5 18 ∷ days 7 23 ∷ days 10 24 ∷ days 20 30 ∷ days 30 35 ∷ days 60 45
    ∷ days 90 51 ∷ days 180 61 ∷ days 365 74 ∷ []

-- "Shrinkage share, days 0 1 3 5 7 10 20 30 60 90 180 365: 0 .08 .15 .20 .22 .27 .36 .42 .55 .62 .68 .86"
abbrev pub shrinkage_day_rows : List Row
shrinkage_day_rows =
    days 0 0 ∷ days 1 8 ∷ days 3 15 ∷ days 5 20 ∷ days 7 22 ∷ days 10 27 ∷ days 20 36 ∷ days 30 42 ∷ days 60 55
    ∷ days 90 62 ∷ days 180 68 ∷ days 365 86 ∷ []

-- "Both reach 1.00 at hour 438,000 of the member", where the clock reads `life`.
abbrev pub to_one : List Row → ℕ → List Row
to_one day_rows life = day_rows ++ (row life 100 ∷ [])

abbrev pub creep_rows : ℕ → List Row
creep_rows life = to_one creep_day_rows life

abbrev pub shrinkage_rows : ℕ → List Row
shrinkage_rows life = to_one shrinkage_day_rows life
