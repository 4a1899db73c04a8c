-- The shares of creep and shrinkage: the share in ticks beside the share without rounding, and the part of a constant by a share.
-- Both shares are read on the same line between two rows, and the core divides once, so that it is short by less than 1. Without
-- rounding a line does not fall where its second row is not below its first, and stays between the two; so no later share is
-- smaller where the rows never fall, and that they do not is a test that computes, for either table. An interval's share is a
-- difference of two that are each short by less than 1, so that it is off by less than 1. Assumes nothing.
use mathlib.Core.Path.{◌≡◌, refl}
use mathlib.Core.Bool.{Bool, true, false, cond, ◌&&◌}
use mathlib.Core.List.{List, [], ◌∷◌}
use Prim.Native.Nat.{ℕ, ◌+◌, ◌-◌, ◌*◌, ◌/◌, ◌≤◌, ◌<◌}
use native.Mathlib.Nat.{le_refl, le_trans, mul-le-mul_left, mul-le-mul_right, sub-le}
use native.Mathlib.Omega.{arith}
use lib.Dec.{leb, ltb, eqb, leb→le, eqb→eq, lit<, T as Holds}
use lib.Ieee.Fits.{and_l, and_r}
use borrow.Author.Tests.{ltb-true, ltb-false, le-ltb}
use Rattle.fraction.specs.Fraction.{Fraction, whole, ◌⊕◌, ◌⊖◌, ◌⊗◌, ◌÷◌, ◌≼◌, Within}
use Rattle.fraction.proofs.Laws.{≈-refl, ≼_refl, ≼_trans, ≼-resp-≈, whole-⊕}
use Rattle.fraction.proofs.Laws.{larger_is_left}
use Rattle.fraction.proofs.Floors.{whole_order, order_of_whole, whole_not_negative}
use Rattle.fraction.proofs.Quotients.{quotient_order, quotient_most}
use Rattle.fraction.proofs.Certificate.{num, ◌⊟◌, ◌⊑◌, ◌⊢◌, follows}
use Rattle.fraction.proofs.Distances.{within_weaken, within_resp_≈}
use Rattle.tables.specs.declared.Row.{Row}
use Rattle.coefficient.specs.declared.clocks.HoursSinceTransfer.{HoursSinceTransfer}
use Rattle.coefficient.specs.declared.clocks.HoursSinceCuring.{HoursSinceCuring}
use Rattle.tables.specs.Tables.{hundred, at, hundredths, weighed, reading, along as ticks_along, creep_rows, shrinkage_rows}
use Rattle.ticks.specs.Ticks.{T}
use Rattle.tables.proofs.Weights.{by_way}
use Rattle.coefficient.specs.Coefficients.{creep_share, shrinkage_share}
use Rattle.tolerance.specs.Formulas.{along, share_of}
use Rattle.tolerance.proofs.Rounded.{Rounded, floor_rounded, product_near, rounded_within, rounded_not_negative}
use Rattle.tolerance.proofs.Rounded.{rounded_difference}

-- ---- lines

-- what holds of each answer in its own case holds of the test whether x lies before a place
by_place : (P : Bool → Type 0) (x place : ℕ) → (x < place → P true) → (place ≤ x → P false) → P (ltb x place)
by_place P x place p q = by_test (ltb x place) (λ t. p (ltb-true x place t)) (λ f. q (ltb-false x place f))
  where
    by_test : (b : Bool) → (b ≡ true → P true) → (b ≡ false → P false) → P b
    by_test true p q = p refl
    by_test false p q = q refl

-- the line through two rows, the second not less: from the first value to the second, and never falling
module _ (low high : Row) (h : hundredths low ≤ hundredths high) where
  weighed_rises : (x y : ℕ) → at low ≤ x → x ≤ y → y ≤ at high → weighed x low high ≤ weighed y low high
  weighed_rises x y from on to =
      omega (
        arith,
        by_way (hundredths low) x y (at high) on to,
        by_way (hundredths high) (at low) x y from on,
        mul-le-mul_right (y - x) h,
      )

  weighed_least : (x : ℕ) → at low ≤ x → x ≤ at high → hundredths low * (at high - at low) ≤ weighed x low high
  weighed_least x from to =
      omega (arith, by_way (hundredths low) (at low) x (at high) from to, mul-le-mul_right (x - at low) h)

  weighed_most : (x : ℕ) → at low ≤ x → x ≤ at high → weighed x low high ≤ hundredths high * (at high - at low)
  weighed_most x from to =
      omega (arith, by_way (hundredths high) (at low) x (at high) from to, mul-le-mul_right (at high - x) h)

-- ---- shares

-- from a row on no row has less than the one before it, and the last has at most 1.00
abbrev pub never_fall : Row → List Row → Bool
never_fall low [] = leb (hundredths low) hundred
never_fall low (high ∷ rows) = leb (hundredths low) (hundredths high) && never_fall high rows

-- a table of shares begins at hour 0 and never falls
abbrev pub share_table : List Row → Bool
share_table [] = false
share_table (first ∷ rows) = eqb (at first) 0 && never_fall first rows

abbrev at_row : ℕ → Row → Fraction
at_row unit r = (unit * hundredths r) ÷ hundred

abbrev on_line : ℕ → ℕ → Row → Row → Fraction
on_line unit x low high = (unit * weighed x low high) ÷ (hundred * (at high - at low))

module _ (unit : ℕ) where
  -- one division, rounded down
  along_rounded : (x : ℕ) (low : Row) (rows : List Row) → at low ≤ x
      → Rounded (whole 1) (ticks_along unit x low rows) (along unit x low rows)
  unfolding ticks_along along
  along_rounded x low [] from = floor_rounded (unit * hundredths low) hundred (lit< tt)
  along_rounded x low (high ∷ rows) from =
      by_place
      (λ b. Rounded (whole 1) (cond b (unit * weighed x low high / (hundred * (at high - at low))) (ticks_along unit x high rows))
      (cond b (on_line unit x low high) (along unit x high rows)))
      x (at high)
      (λ to. floor_rounded (unit * weighed x low high) (hundred * (at high - at low)) (omega arith))
      (λ past. along_rounded x high rows past)

  -- a line never falls, from the value of its first row to that of its second
  module _ (low high : Row) (h : hundredths low ≤ hundredths high) (x : ℕ) (from : at low ≤ x) (to : x < at high) where
    width : 0 < hundred * (at high - at low)
    width = omega arith

    line_rises : (y : ℕ) → x ≤ y → y < at high → on_line unit x low high ≼ on_line unit y low high
    line_rises y on later =
        quotient_order (unit * weighed x low high) (hundred * (at high - at low))
        (unit * weighed y low high) (hundred * (at high - at low)) width width
        (mul-le-mul_right (hundred * (at high - at low))
        (mul-le-mul_left unit (weighed_rises low high h x y from on (omega arith))))

    line_least : at_row unit low ≼ on_line unit x low high
    line_least =
        quotient_order (unit * hundredths low) hundred
        (unit * weighed x low high) (hundred * (at high - at low)) (lit< tt) width
        (omega (arith, mul-le-mul_left unit (weighed_least low high h x from (omega arith))))

    line_most : on_line unit x low high ≼ at_row unit high
    line_most =
        quotient_order (unit * weighed x low high) (hundred * (at high - at low))
        (unit * hundredths high) hundred width (lit< tt)
        (omega (arith, mul-le-mul_left unit (weighed_most low high h x from (omega arith))))

  module _ (low high : Row) (rows : List Row) (t : Holds (never_fall low (high ∷ rows))) where
    here : hundredths low ≤ hundredths high
    here = leb→le (hundredths low) (hundredths high) (and_l (leb (hundredths low) (hundredths high)) (never_fall high rows) t)

    after : Holds (never_fall high rows)
    after = and_r (leb (hundredths low) (hundredths high)) (never_fall high rows) t

  row_rises : (value more : ℕ) → value ≤ more → (unit * value) ÷ hundred ≼ (unit * more) ÷ hundred
  row_rises value more h =
      quotient_order (unit * value) hundred (unit * more) hundred (lit< tt) (lit< tt)
      (mul-le-mul_right hundred (mul-le-mul_left unit h))

  -- from a row on no share is less than the row's
  along_least : (x : ℕ) (low : Row) (rows : List Row) → Holds (never_fall low rows) → at low ≤ x
      → at_row unit low ≼ along unit x low rows
  unfolding along
  along_least x low [] t from = ≼_refl
  along_least x low (high ∷ rows) t from =
      let h = here low high rows t in
      by_place (λ b. at_row unit low ≼ cond b (on_line unit x low high) (along unit x high rows)) x (at high)
      (λ to. line_least low high h x from to)
      (λ past. ≼_trans (row_rises (hundredths low) (hundredths high) h) (along_least x high rows (after low high rows t) past))

  -- none is more than 1
  along_most : (x : ℕ) (low : Row) (rows : List Row) → Holds (never_fall low rows) → at low ≤ x
      → along unit x low rows ≼ whole unit
  unfolding along
  along_most x low [] t from =
      quotient_most (unit * hundredths low) hundred unit (lit< tt) (mul-le-mul_left unit (leb→le (hundredths low) hundred t))
  along_most x low (high ∷ rows) t from =
      let rest = after low high rows t in
      let start = le_refl (at high) in
      by_place (λ b. cond b (on_line unit x low high) (along unit x high rows) ≼ whole unit) x (at high)
      (λ to. ≼_trans (line_most low high (here low high rows t) x from to)
      (≼_trans (along_least (at high) high rows rest start) (along_most (at high) high rows rest start)))
      (λ past. along_most x high rows rest past)

  -- and a later one is not less
  along_rises : (x y : ℕ) → x ≤ y → (low : Row) (rows : List Row) → Holds (never_fall low rows) → at low ≤ x
      → along unit x low rows ≼ along unit y low rows
  unfolding along
  along_rises x y on low [] t from = ≼_refl
  along_rises x y on low (high ∷ rows) t from =
      let h = here low high rows t in
      let rest = after low high rows t in
      by_place
      (λ b. cond b (on_line unit x low high) (along unit x high rows)
      ≼ cond (ltb y (at high)) (on_line unit y low high) (along unit y high rows))
      x (at high)
      (λ to.
      by_place (λ b. on_line unit x low high ≼ cond b (on_line unit y low high) (along unit y high rows)) y (at high)
      (λ later. line_rises low high h x from to y on later)
      (λ past. ≼_trans (line_most low high h x from to) (along_least y high rows rest past)))
      (λ past. rw (le-ltb y (at high) (le_trans past on)) (along_rises x y on high rows rest past))

-- ---- a table

first_at : (first : Row) (rows : List Row) (x : ℕ) → Holds (share_table (first ∷ rows)) → at first ≤ x
first_at first rows x t = omega (arith, eqb→eq (at first) 0 (and_l (eqb (at first) 0) (never_fall first rows) t))

falls_never : (first : Row) (rows : List Row) → Holds (share_table (first ∷ rows)) → Holds (never_fall first rows)
falls_never first rows t = and_r (eqb (at first) 0) (never_fall first rows) t

-- the share in ticks is the share without rounding, rounded down
pub share_floor : (rows : List Row) → Holds (share_table rows) → (x : ℕ) → Rounded (whole 1) (reading T rows x) (share_of rows x)
unfolding reading
share_floor [] t x = absurd t
share_floor (first ∷ rows) t x =
    let from = first_at first rows x t in
    rw (le-ltb x (at first) from) (along_rounded T x first rows from)

pub share_not_negative : (rows : List Row) → Holds (share_table rows) → (x : ℕ) → whole 0 ≼ share_of rows x
share_not_negative rows t x = rounded_not_negative (share_floor rows t x)

pub share_most : (rows : List Row) → Holds (share_table rows) → (x : ℕ) → share_of rows x ≼ whole T
share_most [] t x = absurd t
share_most (first ∷ rows) t x = along_most T x first rows (falls_never first rows t) (first_at first rows x t)

pub share_rises : (rows : List Row) → Holds (share_table rows) → (x y : ℕ) → x ≤ y → share_of rows x ≼ share_of rows y
share_rises [] t x y on = absurd t
share_rises (first ∷ rows) t x y on = along_rises T x y on first rows (falls_never first rows t) (first_at first rows x t)

-- ---- the share of an interval

-- an interval's share, d in ticks and D without rounding: from 0 to T both, and 1 apart at most
pub record Share (d : ℕ) (D : Fraction) : Type 0 where
  pub near : Within (whole 1) (whole d) D
  pub ticks : d ≤ T
  pub not_negative : whole 0 ≼ D
  pub most : D ≼ whole T

-- a difference of two that are each short by at most 1 is off by at most 1, to either side; the core's is 0 at the least, and so is
-- the one without rounding
difference_near : {a b : ℕ} {A B : Fraction} → Rounded (whole 1) a A → Rounded (whole 1) b B → B ≼ A
    → Within (whole 1) (whole (a - b)) (A ⊖ B)
difference_near {A = A} {B} r s h =
    within_resp_≈ ≈-refl
    (larger_is_left (follows (A ∷ B ∷ []) (λ A B. B ⊑ A ∷ [] ⊢ num 0 ⊑ A ⊟ B) tt h))
    (rounded_difference ≼_refl r s)

pub interval_share : (rows : List Row) → Holds (share_table rows) → (x y : ℕ) → x ≤ y
    → Share (reading T rows y - reading T rows x) (share_of rows y ⊖ share_of rows x)
interval_share rows t x y on =
    let start = share_floor rows t x in
    let end = share_floor rows t y in
    let rises = share_rises rows t x y on in
    let most = share_most rows t y in
    record {
      near = difference_near end start rises;
      ticks = le_trans (sub-le (reading T rows y) (reading T rows x)) (order_of_whole (≼_trans end.least most));
      not_negative = follows (share_of rows x ∷ share_of rows y ∷ []) (λ X Y. X ⊑ Y ∷ [] ⊢ num 0 ⊑ Y ⊟ X) tt rises;
      most = follows (share_of rows x ∷ share_of rows y ∷ whole T ∷ []) (λ X Y W. Y ⊑ W ∷ num 0 ⊑ X ∷ [] ⊢ Y ⊟ X ⊑ W) tt
          most (share_not_negative rows t x);
    }

-- creep's table and shrinkage's, as the clocks read them
pub creep_share_between : (life start end : HoursSinceTransfer) → start.0 ≤ end.0
    → Share (creep_share life end - creep_share life start)
    (share_of (creep_rows life.0) end.0 ⊖ share_of (creep_rows life.0) start.0)
unfolding creep_share
creep_share_between life start end on = interval_share (creep_rows life.0) tt start.0 end.0 on

pub shrinkage_share_between : (life start end : HoursSinceCuring) → start.0 ≤ end.0
    → Share (shrinkage_share life end - shrinkage_share life start)
    (share_of (shrinkage_rows life.0) end.0 ⊖ share_of (shrinkage_rows life.0) start.0)
unfolding shrinkage_share
shrinkage_share_between life start end on = interval_share (shrinkage_rows life.0) tt start.0 end.0 on

-- ---- a constant's part by a share: U·share/T, and shrinkage, S·share/T

-- of a constant up to `most`: 1 that the share is off by, at the constant; 1 that the constant is off by, at a share up to T; and a
-- division. The first is `most`/T, rounded up.
abbrev pub part_error : ℕ → ℕ
part_error most = most / T + 1 + 1 + 1

part_room : (most : ℕ) → whole 1 ⊕ (1 ÷ T) ⊗ (whole 1 ⊗ whole T ⊕ whole (most + 1) ⊗ whole 1) ≼ whole (part_error most)
unfolding ◌÷◌ whole ◌⊕◌ ◌⊗◌
part_room most = record { at_most = omega arith }

-- what is not above a constant, rounded, is not above the constant by more than 1
pub constant_top : {constant most : ℕ} {C : Fraction} → Rounded (whole 1) constant C → constant ≤ most → C ≼ whole (most + 1)
constant_top {constant} r small =
    ≼_trans r.greatest (≼-resp-≈ (whole-⊕ constant 1) ≈-refl (whole_order (omega arith)))

pub part_near : {constant most d : ℕ} {C D : Fraction} → Rounded (whole 1) constant C → constant ≤ most → Share d D
    → Within (whole (part_error most)) (whole (constant * d / T)) (C ⊗ D ⊗ (1 ÷ T))
part_near {constant} {most} {d} r small share =
    within_weaken (part_room most)
    (product_near constant d T T (most + 1) (lit< tt) share.ticks (rounded_not_negative r) (constant_top r small)
    (rounded_within (whole_not_negative 1) r) share.near)
