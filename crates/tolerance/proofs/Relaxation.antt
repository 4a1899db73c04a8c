-- Relaxation, (f·ΔL/D)·q/T, in ticks lies near relaxation in fractions from the same whole stress; further where the logarithms lie
-- up to δ above the table's. Steels differ only in Y and D, so the lemmas speak of D and of P = 100·Y in ticks, which is whole.
-- q: Y rounded down is still above T, so f·T/Y, rounded twice, stays within 1 of its fraction, and q within 2; and q is below
-- 0.3912 T, for f is at most 0.80/0.85 of Y. The inner part f·ΔL/D is at most 96,000·ΔL, and off by that for δ and by a division. So
-- the product is off by that times q, by the inner part times 2, and by a division. Assumes nothing.
use mathlib.Core.List.{[], ◌∷◌}
use Prim.Native.Nat.{ℕ, ◌+◌, ◌-◌, ◌*◌, ◌/◌, ◌≤◌, ◌<◌, max}
use native.Mathlib.Nat.{le_refl, mul-le-mul_left, mul-div-le, lt-mul-div-succ, div-le_of_le-mul}
use native.Mathlib.Omega.{arith}
use lib.Dec.{lit<, lit≤}
use Rattle.fraction.specs.Fraction.{Fraction, whole, ◌⊕◌, ◌⊖◌, ◌⊗◌, ◌÷◌, inverse, opposite, ◌≼◌, larger, Within}
use Rattle.fraction.specs.Equality.{over, ◌≈◌}
use Rattle.fraction.proofs.Laws.{≈-refl, ≈-sym, ◌⨾◌, ≼-of-≈, ≼-resp-≈, ⊗-cong, ⊗-not-negative, whole-⊕, whole-⊗, larger_cases}
use Rattle.fraction.proofs.Floors.{whole_order, whole_not_negative, over_times}
use Rattle.fraction.proofs.Quotients.{quotient, quotient_not_negative, inverse_quotient}
use Rattle.fraction.proofs.Distances.{within_refl, within_resp_≈, within_weaken, within_difference, within_larger}
use Rattle.fraction.proofs.Certificate.{num, ◌⊞◌, ◌⊠◌, ◌⊑◌, ◌⊛◌, ◌⊢◌, follows}
use Rattle.ticks.specs.Ticks.{ticks_per_unit, T}
use Rattle.coefficient.specs.declared.codes.Steel.{Steel}
use Rattle.coefficient.specs.declared.codes.Steel.TheVariants.{StressRelieved, LowRelaxation}
use Rattle.fields.specs.Limits.{range, most_of_strength, hundredths}
use Rattle.formulas.specs.Steps.{relaxation_divisor, relaxation_factor as ticks_factor, relaxation_loss as ticks_relaxation_loss}
use Rattle.tolerance.specs.Formulas.{relaxation_factor, relaxation_loss}
use Rattle.tolerance.proofs.Rounded.{rounded_within, floor_rounded, product_near}
use Rattle.tolerance.proofs.Concrete.{highest_stress}
use Rattle.tolerance.proofs.Logarithms.{most_rise, Interval, rise_not_negative, rise_top, rise_near}

-- Y in hundredths of F
abbrev pub yield_part : Steel → ℕ
yield_part StressRelieved = 85
yield_part LowRelaxation = 90

-- steel 1 has the lower Y and the smaller D
abbrev pub lowest_yield : ℕ
lowest_yield = yield_part StressRelieved

abbrev pub least_divisor : ℕ
least_divisor = relaxation_divisor StressRelieved

-- f·T/Y for an f up to 0.80 F, rounded up, and 1 for the rounded Y; and q by it
abbrev pub most_ratio : ℕ
most_ratio = most_of_strength * T / lowest_yield + 2

abbrev pub most_factor : ℕ
most_factor = most_ratio - 55 * T / 100

-- q: f·T/Y and 0.55 T, each rounded
abbrev factor_error : ℕ
factor_error = 2

-- f/D at the highest stress, and the inner part at the largest rise of the logarithms
abbrev most_per_logarithm : ℕ
most_per_logarithm = highest_stress / least_divisor

abbrev pub most_inner : ℕ
most_inner = most_per_logarithm * most_rise

-- in the inner part: a division, and what logarithms up to δ above the table's cost
abbrev inner_error_by : ℕ → Fraction
inner_error_by δ = whole 1 ⊕ whole most_per_logarithm ⊗ whole δ

-- the inner part's division, times q, 0.4; the inner part, times what q is off by, 16.6; and a division; rounded up
abbrev relaxation_error : ℕ
relaxation_error = 20

-- a unit of the logarithm: f·q/(D·T) at the highest, 37,553; rounded up
abbrev logarithm_error : ℕ
logarithm_error = 37600

-- by logarithms up to δ above the table's
abbrev pub relaxation_error_by : ℕ → ℕ
relaxation_error_by δ = relaxation_error + logarithm_error * δ

-- the loss in fractions and in ticks, with P and D in place of the steel
abbrev pub exact_loss : ℕ → ℕ → Fraction → Fraction → Fraction
exact_loss P D stress logarithms = stress ⊗ logarithms ⊗ (1 ÷ D) ⊗ relaxation_factor stress (P ÷ 100) ⊗ (1 ÷ T)

abbrev ticks_loss : ℕ → ℕ → ℕ → ℕ → ℕ
ticks_loss P D stress logarithms = stress * logarithms / D * ticks_factor stress (P / 100) / T

-- ---- q

-- The roundings of f·T/Y over plain numbers: Y is P/100 rounded down, and k is n·T/Y rounded down.
module _ (P Y n k : ℕ) (Y_below : 100 * Y ≤ P) (Y_above : P ≤ 100 * Y + 99) where
  rounded_up : k ≤ Y → Y * k ≤ n * T → k * P ≤ n * T * 100 + P
  rounded_up small low = omega (arith, mul-le-mul_left k Y_above)

  rounded_down : n * T < Y * (k + 1) → n * T * 100 ≤ (k + 1) * P
  rounded_down high = omega (arith, mul-le-mul_left (k + 1) Y_below)

-- a difference of naturals, and c at the least
whole_hinge : (a b c : ℕ) → whole (max (a - b) c) ≈ larger (whole a ⊖ whole b) (whole c)
unfolding whole ◌⊖◌ ◌⊕◌ opposite
whole_hinge a b c = larger_cases (whole a ⊖ whole b) (whole c) (λ m. whole (max (a - b) c) ≈ m)
    (λ h. record { equal = omega (arith, h.at_most) })
    (λ h. record { equal = omega (arith, h.at_most) })

-- The stress n is at most 0.80/0.85 of Y, and Y at least 0.85 of the least strength.
module _ (P n : ℕ) (ratio : lowest_yield * (hundredths * n) ≤ most_of_strength * P)
    (least : lowest_yield * range.ultimate_strength.low * ticks_per_unit ≤ P) where
  abbrev Y : ℕ
  Y = P / 100

  abbrev k : ℕ
  k = n * T / Y

  P>0 : 0 < P
  P>0 = omega arith

  Y_below : 100 * Y ≤ P
  Y_below = mul-div-le P 100

  Y_above : P ≤ 100 * Y + 99
  Y_above = omega arith

  Y>0 : 0 < Y
  Y>0 = omega (arith, Y_above)

  k_top : k ≤ most_ratio
  k_top = div-le_of_le-mul Y (omega (arith, Y_above))

  exact_ratio : over (n * T * 100) P P>0 ≈ whole n ⊗ whole T ⊗ inverse (P ÷ 100)
  exact_ratio =
      over_times (n * T) 100 P P>0
      ⨾ ⊗-cong (whole-⊗ n T) (≈-sym (inverse_quotient P 100 P>0 ⨾ quotient 100 P P>0))

  k_near : Within (whole 1) (whole k) (over (n * T * 100) P P>0)
  unfolding whole over ◌⊕◌
  k_near =
      let up = rounded_up P Y n k Y_below Y_above (omega (arith, k_top, Y_above)) (mul-div-le (n * T) Y) in
      let down = rounded_down P Y n k Y_below Y_above (lt-mul-div-succ (n * T) Y>0) in
      record { above = record { at_most = omega (arith, up) }; below = record { at_most = omega (arith, down) } }

  factor_near : Within (whole factor_error) (whole (ticks_factor n Y)) (relaxation_factor (whole n) (P ÷ 100))
  factor_near =
      within_weaken (≼-of-≈ (≈-sym (whole-⊕ 1 1)))
      (within_resp_≈ (≈-sym (whole_hinge k (55 * T / 100) (5 * T / 100))) ≈-refl
      (within_larger
      (within_difference (within_resp_≈ ≈-refl exact_ratio k_near)
      (rounded_within (whole_not_negative 1) (floor_rounded (55 * T) 100 (lit< tt))))
      (within_weaken (≼-resp-≈ ≈-refl (whole-⊕ 1 1) (whole_order (lit≤ tt)))
      (rounded_within (whole_not_negative 1) (floor_rounded (5 * T) 100 (lit< tt))))))

  factor_top : ticks_factor n Y ≤ most_factor
  factor_top = omega (arith, k_top)

-- ---- the inner part, and its product with q

error_top : (δ : ℕ) →
    whole 1 ⊕ (1 ÷ T) ⊗ (inner_error_by δ ⊗ whole most_factor ⊕ whole most_inner ⊗ whole factor_error) ≼ whole (relaxation_error_by δ)
unfolding whole ◌÷◌ ◌⊕◌ ◌⊗◌
error_top δ = record { at_most = omega arith }

module _ (D n : ℕ) (D-least : least_divisor ≤ D) (n_top : n ≤ highest_stress) {δ l₁ l₂ : ℕ} {a₁ a₂ : Fraction}
    (i : Interval δ l₁ l₂ a₁ a₂) where
  abbrev inner : ℕ
  inner = n * (l₂ - l₁) / D

  abbrev exact_inner : Fraction
  exact_inner = whole n ⊗ (a₂ ⊖ a₁) ⊗ (1 ÷ D)

  part_top : whole n ⊗ (1 ÷ D) ≼ whole most_per_logarithm
  unfolding ◌÷◌ whole ◌⊗◌
  part_top = record { at_most = omega arith }

  inner_room : whole 1 ⊕ (1 ÷ D) ⊗ (whole 0 ⊗ whole most_rise ⊕ whole n ⊗ whole δ) ≼ inner_error_by δ
  inner_room = follows (1 ÷ D ∷ whole n ∷ whole δ ∷ [])
      (λ E N Z. (num 0 ⊑ Z) ⊛ (N ⊠ E ⊑ num most_per_logarithm) ∷ []
      ⊢ num 1 ⊞ E ⊠ (num 0 ⊠ num most_rise ⊞ N ⊠ Z) ⊑ num 1 ⊞ num most_per_logarithm ⊠ Z) tt
      (whole_not_negative δ, part_top)

  inner_near : Within (inner_error_by δ) (whole inner) exact_inner
  inner_near =
      within_weaken inner_room
      (product_near n (l₂ - l₁) D most_rise n (omega arith) (let top = i.table_top in omega arith) (whole_not_negative n)
      (whole_order (le_refl n)) (within_refl (whole n)) (rise_near i))

  inner_not_negative : whole 0 ≼ exact_inner
  inner_not_negative =
      ⊗-not-negative (⊗-not-negative (whole_not_negative n) (rise_not_negative i)) (quotient_not_negative 1 D)

  inner_top : exact_inner ≼ whole most_inner
  inner_top = follows (a₂ ⊖ a₁ ∷ 1 ÷ D ∷ whole n ∷ [])
      (λ R E N. (num 0 ⊑ R) ⊛ (N ⊠ E ⊑ num most_per_logarithm) ∷ (num 0 ⊑ num most_per_logarithm) ⊛ (R ⊑ num most_rise) ∷ []
      ⊢ N ⊠ R ⊠ E ⊑ num most_inner) tt
      (rise_not_negative i, part_top) (whole_not_negative most_per_logarithm, rise_top i)

  loss_by_factor : (q : ℕ) {exact_q : Fraction} → q ≤ most_factor → Within (whole factor_error) (whole q) exact_q
      → Within (whole (relaxation_error_by δ)) (whole (inner * q / T)) (exact_inner ⊗ exact_q ⊗ (1 ÷ T))
  loss_by_factor q q_top q_near =
      within_weaken (error_top δ)
      (product_near inner q T most_factor most_inner (lit< tt) q_top inner_not_negative inner_top inner_near q_near)

-- ---- for a steel of F psi, and a stress of at most 0.80 F

module _ (F n : ℕ) (F-least : range.ultimate_strength.low ≤ F) (F-most : F ≤ range.ultimate_strength.high)
    (n_most : hundredths * n ≤ most_of_strength * F * ticks_per_unit) where
  loss_near : (P D : ℕ) → lowest_yield * F * ticks_per_unit ≤ P → least_divisor ≤ D
      → {δ l₁ l₂ : ℕ} {a₁ a₂ : Fraction} → Interval δ l₁ l₂ a₁ a₂
      → Within (whole (relaxation_error_by δ)) (whole (ticks_loss P D n (l₂ - l₁))) (exact_loss P D (whole n) (a₂ ⊖ a₁))
  loss_near P D Y_least D-least i = loss_by_factor D n D-least (omega arith) i (ticks_factor n (P / 100))
      (factor_top P n (omega arith) (omega arith)) (factor_near P n (omega arith) (omega arith))

pub relaxation_near : (steel : Steel) (F n : ℕ) → range.ultimate_strength.low ≤ F → F ≤ range.ultimate_strength.high
    → hundredths * n ≤ most_of_strength * F * ticks_per_unit → {δ l₁ l₂ : ℕ} {a₁ a₂ : Fraction} → Interval δ l₁ l₂ a₁ a₂
    → Within (whole (relaxation_error_by δ)) (whole (ticks_relaxation_loss steel F n (l₂ - l₁)))
    (relaxation_loss steel F (whole n) (a₂ ⊖ a₁))
relaxation_near StressRelieved F n F-least F-most n_most =
    loss_near F n F-least F-most n_most (yield_part StressRelieved * F * ticks_per_unit) (relaxation_divisor StressRelieved)
    (omega arith) (lit≤ tt)
relaxation_near LowRelaxation F n F-least F-most n_most =
    loss_near F n F-least F-most n_most (yield_part LowRelaxation * F * ticks_per_unit) (relaxation_divisor LowRelaxation)
    (omega arith) (lit≤ tt)
