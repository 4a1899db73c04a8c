-- What a reading keeps of its rows, for any rows, by recursion along them: it is exact where the unit is a multiple of a hundred
-- times each line's width, it lies between the least and the most of the rows, it never falls where they never fall, and past the
-- last row it is that row's. What the rows must have is a test that computes. Assumes nothing.
use mathlib.Core.Path.{◌≡◌, refl}
use mathlib.Core.Bool.{Bool, true, false, ◌&&◌, cond}
use mathlib.Core.List.{List, [], ◌∷◌}
use Prim.Native.Nat.{ℕ, zero, suc, ◌-◌, ◌*◌, ◌/◌, ◌%◌, ◌≤◌, ◌<◌}
use native.Mathlib.Nat.{le_refl, le_trans, mul-le-mul_left, mul_assoc, mul-zero}
use native.Mathlib.Nat.{mul-div-mul_right, div-mul-le_self, le-div_iff_mul-le}
use native.Mathlib.Nat.{dvd_of_mod-eq-zero, dvd-mul_right_of_dvd, mod-eq-zero_of_dvd}
use native.Mathlib.Omega.{arith}
use lib.Dec.{T, leb, ltb, eqb, leb→le, eqb→eq, lit<}
use lib.ListN.{length}
use lib.Ieee.Fits.{and_l, and_r}
use borrow.Author.Tests.{ltb-true, ltb-false, le-ltb}
use Rattle.std.specs.List.{list_all}
use Rattle.std.proofs.lemmas.Bool.{cond_both}
use Rattle.tables.specs.declared.Row.{Row}
use Rattle.tables.specs.Tables.{hundred, row, at, hundredths, at_row, weighed, on_line, along, reading}
use Rattle.tables.specs.Conditions.{row_at, joined_from}
use Rattle.tables.specs.Exact.{left_along, left_over, Exact}
use Rattle.tables.proofs.Weights.{weighed_most, weighed_least, weighed_rises}

-- the test passes at each two neighbouring rows
abbrev pub joined : (Row → Row → Bool) → List Row → Bool
joined test [] = true
joined test (first ∷ rows) = joined_from test first rows

module _ (test : Row → Row → Bool) (low high : Row) (rows : List Row) (t : T (joined_from test low (high ∷ rows))) where
  pub here : T (test low high)
  here = and_l (test low high) (joined_from test high rows) t

  pub after : T (joined_from test high rows)
  after = and_r (test low high) (joined_from test high rows) t

-- what holds of either choice by whether x lies before a place, in its own case, holds of the choice
pub placed : (P : ℕ → Type 0) (x place v w : ℕ) → (x < place → P v) → (place ≤ x → P w) → P (cond (ltb x place) v w)
placed P x place v w p q = cond_both (ltb x place) v w P (λ t. p (ltb-true x place t)) (λ f. q (ltb-false x place f))

-- Exact readings.

-- the unit is a multiple of a hundred times the width of the line
abbrev pub even : ℕ → Row → Row → Bool
even unit low high = eqb (unit % (hundred * (at high - at low))) 0

multiple : (unit part value : ℕ) → T (eqb (unit % part) 0) → unit * value % part ≡ 0
multiple unit part value t =
    mod-eq-zero_of_dvd part (dvd-mul_right_of_dvd part (dvd_of_mod-eq-zero part (eqb→eq (unit % part) 0 t)) value)

module _ (unit x : ℕ) (u : T (eqb (unit % hundred) 0)) where
  exact_along : (low : Row) (rows : List Row) → T (joined_from (even unit) low rows) → left_along unit x low rows ≡ 0
  unfolding left_along
  exact_along low [] t = multiple unit hundred (hundredths low) u
  exact_along low (high ∷ rows) t =
      let line = hundred * (at high - at low) in
      placed (λ left. left ≡ 0) x (at high) (unit * weighed x low high % line) (left_along unit x high rows)
      (λ _. multiple unit line (weighed x low high) (here (even unit) low high rows t))
      (λ _. exact_along high rows (after (even unit) low high rows t))

  pub exact : (rows : List Row) → T (joined (even unit) rows) → Exact unit rows x
  unfolding left_over
  exact [] t = refl
  exact (first ∷ rows) t =
      placed (λ left. left ≡ 0) x (at first) (unit * hundredths first % hundred) (left_along unit x first rows)
      (λ _. multiple unit hundred (hundredths first) u)
      (λ _. exact_along first rows t)

-- A row and a line keep the order of what they divide.

scaled : (unit part : ℕ) {v w : ℕ} → v ≤ w → 0 < part → unit * v / part ≤ unit * w / part
scaled unit part {v} {w} h p =
    (le-div_iff_mul-le {k = part} {x = unit * v / part} {y = unit * w} p).1
    (le_trans (div-mul-le_self (unit * v) part) (mul-le-mul_left unit h))

at_row_rises : (unit : ℕ) {value more : ℕ} → value ≤ more → unit * value / hundred ≤ unit * more / hundred
at_row_rises unit h = scaled unit hundred h (lit< tt)

-- a row's value, as a line of some width has it
widened : (unit value width : ℕ) → 0 < width → unit * (value * width) / (hundred * width) ≡ unit * value / hundred
widened unit value width p = rw (← mul_assoc unit value width) (mul-div-mul_right (unit * value) hundred p)

module _ (unit x : ℕ) (low high : Row) (from : at low ≤ x) where
  on_line_rises : (y : ℕ) → x ≤ y → y < at high → hundredths low ≤ hundredths high
      → on_line unit x low high ≤ on_line unit y low high
  on_line_rises y on to h =
      scaled unit (hundred * (at high - at low)) (weighed_rises x low high from y on (omega arith) h) (omega arith)

  module _ (to : x < at high) where
    on_line_most : (most : ℕ) → hundredths low ≤ most → hundredths high ≤ most → on_line unit x low high ≤ unit * most / hundred
    on_line_most most p q =
        rw (← widened unit most (at high - at low) (omega arith))
        (scaled unit (hundred * (at high - at low)) (weighed_most x low high from (omega arith) most p q) (omega arith))

    on_line_least : (least : ℕ) → least ≤ hundredths low → least ≤ hundredths high
        → unit * least / hundred ≤ on_line unit x low high
    on_line_least least p q =
        rw (← widened unit least (at high - at low) (omega arith))
        (scaled unit (hundred * (at high - at low)) (weighed_least x low high from (omega arith) least p q) (omega arith))

-- Readings lie between the least and the most of the rows.

abbrev pub between : ℕ → ℕ → Row → Bool
between least most r = leb least (hundredths r) && leb (hundredths r) most

-- there are rows, and each lies between the two
abbrev pub bounded : ℕ → ℕ → List Row → Bool
bounded least most [] = false
bounded least most (first ∷ rows) = list_all (between least most) (first ∷ rows)

module _ (unit least most x : ℕ) where
  abbrev Within : ℕ → Type 0
  Within value = (unit * least / hundred ≤ value) × (value ≤ unit * most / hundred)

  above : (r : Row) → T (between least most r) → least ≤ hundredths r
  above r t = leb→le least (hundredths r) (and_l (leb least (hundredths r)) (leb (hundredths r) most) t)

  below : (r : Row) → T (between least most r) → hundredths r ≤ most
  below r t = leb→le (hundredths r) most (and_r (leb least (hundredths r)) (leb (hundredths r) most) t)

  at_row_within : (r : Row) → T (between least most r) → Within (at_row unit r)
  at_row_within r t = (at_row_rises unit (above r t), at_row_rises unit (below r t))

  along_within : (low : Row) (rows : List Row) → T (list_all (between least most) (low ∷ rows)) → at low ≤ x
      → Within (along unit x low rows)
  unfolding along
  along_within low [] t from = at_row_within low (and_l (between least most low) true t)
  along_within low (high ∷ rows) t from =
      let l = and_l (between least most low) (list_all (between least most) (high ∷ rows)) t in
      let others = and_r (between least most low) (list_all (between least most) (high ∷ rows)) t in
      let h = and_l (between least most high) (list_all (between least most) rows) others in
      placed Within x (at high) (on_line unit x low high) (along unit x high rows)
      (λ to. (
        on_line_least unit x low high from to least (above low l) (above high h),
        on_line_most unit x low high from to most (below low l) (below high h),
      ))
      (λ past. along_within high rows others past)

  pub within : (rows : List Row) → T (bounded least most rows) → Within (reading unit rows x)
  unfolding reading
  within [] t = absurd t
  within (first ∷ rows) t =
      placed Within x (at first) (at_row unit first) (along unit x first rows)
      (λ _. at_row_within first (and_l (between least most first) (list_all (between least most) rows) t))
      (λ from. along_within first rows t from)

-- Where the rows never fall, the readings never fall. Nothing is asked of the rows' places.

abbrev pub no_fall : Row → Row → Bool
no_fall low high = leb (hundredths low) (hundredths high)

module _ (unit : ℕ) where
  -- from a row on, no reading is less than the row's
  no_less : (x : ℕ) (low : Row) (rows : List Row) → T (joined_from no_fall low rows) → at low ≤ x
      → at_row unit low ≤ along unit x low rows
  unfolding along
  no_less x low [] t from = le_refl (at_row unit low)
  no_less x low (high ∷ rows) t from =
      let h = leb→le (hundredths low) (hundredths high) (here no_fall low high rows t) in
      placed (λ value. at_row unit low ≤ value) x (at high) (on_line unit x low high) (along unit x high rows)
      (λ to. on_line_least unit x low high from to (hundredths low) (le_refl (hundredths low)) h)
      (λ past. le_trans (at_row_rises unit h) (no_less x high rows (after no_fall low high rows t) past))

  module _ (x y : ℕ) (on : x ≤ y) where
    along_rises : (low : Row) (rows : List Row) → T (joined_from no_fall low rows) → at low ≤ x
        → along unit x low rows ≤ along unit y low rows
    unfolding along
    along_rises low [] t from = le_refl (at_row unit low)
    along_rises low (high ∷ rows) t from =
        let h = leb→le (hundredths low) (hundredths high) (here no_fall low high rows t) in
        let rest = after no_fall low high rows t in
        placed (λ value. value ≤ cond (ltb y (at high)) (on_line unit y low high) (along unit y high rows))
        x (at high) (on_line unit x low high) (along unit x high rows)
        (λ to.
        placed (λ value. on_line unit x low high ≤ value) y (at high) (on_line unit y low high) (along unit y high rows)
        (λ later. on_line_rises unit x low high from y on later h)
        (λ past.
        le_trans (on_line_most unit x low high from to (hundredths high) h (le_refl (hundredths high)))
        (no_less y high rows rest past)))
        (λ past. rw (le-ltb y (at high) (le_trans past on)) (along_rises high rows rest past))

    pub never_falls : (rows : List Row) → T (joined no_fall rows) → reading unit rows x ≤ reading unit rows y
    unfolding reading
    never_falls [] t = le_refl 0
    never_falls (first ∷ rows) t =
        placed (λ value. value ≤ cond (ltb y (at first)) (at_row unit first) (along unit y first rows))
        x (at first) (at_row unit first) (along unit x first rows)
        (λ _.
        placed (λ value. at_row unit first ≤ value) y (at first) (at_row unit first) (along unit y first rows)
        (λ _. le_refl (at_row unit first))
        (λ past. no_less y first rows t past))
        (λ past. rw (le-ltb y (at first) (le_trans past on)) (along_rises first rows t past))

-- Past the last row that row is read.

abbrev pub Passed : ℕ → List Row → Type 0
Passed x [] = Unit
Passed x (r ∷ rows) = (at r ≤ x) × Passed x rows

abbrev pub last_from : Row → List Row → Row
last_from low [] = low
last_from low (high ∷ rows) = last_from high rows

abbrev pub last_of : List Row → Row
last_of [] = row 0 0
last_of (first ∷ rows) = last_from first rows

last_from_at : (low : Row) (rows : List Row) (place : ℕ) → suc place ≡ length (low ∷ rows) → row_at (low ∷ rows) place ≡ last_from low rows
last_from_at low [] zero e = refl
last_from_at low [] (suc place) e = absurd (omega arith)
last_from_at low (high ∷ rows) zero e = absurd (omega arith)
last_from_at low (high ∷ rows) (suc place) e = last_from_at high rows place (omega arith)

pub last_at : (rows : List Row) (place : ℕ) → suc place ≡ length rows → row_at rows place ≡ last_of rows
last_at [] place e = absurd (omega arith)
last_at (first ∷ rows) place e = last_from_at first rows place e

along_past : (unit x : ℕ) (low : Row) (rows : List Row) → Passed x rows → along unit x low rows ≡ at_row unit (last_from low rows)
unfolding along
along_past unit x low [] p = refl
along_past unit x low (high ∷ rows) p = rw (le-ltb x (at high) p.0) (along_past unit x high rows p.1)

pub past_last : (unit x : ℕ) (rows : List Row) → Passed x rows → reading unit rows x ≡ at_row unit (last_of rows)
unfolding reading
past_last unit x [] p = rw mul-zero
past_last unit x (first ∷ rows) p = rw (le-ltb x (at first) p.0) (along_past unit x first rows p.1)
