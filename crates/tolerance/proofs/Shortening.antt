-- The loss to elastic shortening, in ticks and in fractions. The loss times its divisor is Es·c. In ticks c is off by 9/8 at most,
-- a division costs 1, and the divisor is short by 65/64 at most, which costs that much of the loss over the divisor: the loss is at
-- most the stress, for Es·κ/2^32 is a part of the divisor. For the same reason the loss has slope 1. Assumes nothing.
use mathlib.Core.List.{[], ◌∷◌}
use Prim.Native.Nat.{ℕ, ◌+◌, ◌*◌, ◌/◌, ◌≤◌, ◌<◌}
use native.Mathlib.Omega.{arith}
use lib.Dec.{lit<, lit≤}
use Rattle.fraction.specs.Fraction.{Fraction, whole, ◌⊕◌, ◌⊗◌, ◌÷◌, inverse, ◌≼◌, Within}
use Rattle.fraction.specs.Equality.{◌≈◌}
use Rattle.fraction.proofs.Laws.{≈-refl, ≈-sym, ◌⨾◌, ⊗-cong, ⊗-not-negative}
use Rattle.fraction.proofs.Certificate.{num, ◌⊞◌, ◌⊠◌, ◌⊑◌, ◌≐◌, ◌⊛◌, ◌⊢◌, follows, identity}
use Rattle.fraction.proofs.Floors.{whole_order, whole_not_negative, whole_cancel}
use Rattle.fraction.proofs.Quotients.{quotient_not_negative, inverse_cancels, inverse_not_negative, above_zero}
use Rattle.fraction.proofs.Slopes.{SlowTo, hinge, slow_resp_≈, scaled_hinge_slow_to}
use Rattle.fields.specs.Limits.{range}
use Rattle.formulas.specs.Steps.{shortening_loss as ticks_shortening_loss, concrete_stress as ticks_concrete_stress, kappa_unit}
use Rattle.tolerance.specs.Formulas.{concrete_stress, shortening_loss}
use Rattle.tolerance.proofs.Rounded.{Rounded, rounded_exact, rounded_sum, rounded_part, rounded_weaken, rounded_not_negative}
use Rattle.tolerance.proofs.Rounded.{floor_product_below, floor_product_above}
use Rattle.tolerance.proofs.Concrete.{highest_stress, kappa_error, concrete_error, per_kappa_unit, kappa_unit_not_negative}
use Rattle.tolerance.proofs.Concrete.{concrete_is_hinge, concrete_not_negative, concrete_below, concrete_near}

-- what the divisor is short by: a division, and what κ is off by, of the highest Es: 1 and 0.0149
abbrev divisor_error : Fraction
divisor_error = 65 ÷ 64

-- what c, off by 9/8, costs at the highest Es, and the divisor at the highest stress, over the lowest Eci: 36 and 249.6;
-- rounded up
abbrev divided_error : ℕ
divided_error = 289

-- and a division
abbrev pub shortening_error : ℕ
shortening_error = divided_error + 1

-- Es·κ/2^32, and Eci with it
abbrev stiffness : ℕ → Fraction → Fraction
stiffness es κ = whole es ⊗ κ ⊗ per_kappa_unit

abbrev divisor : ℕ → ℕ → Fraction → Fraction
divisor es eci κ = whole eci ⊕ stiffness es κ

-- ---- the loss in fractions

module _ (es eci : ℕ) (κ : Fraction) (eci≥1 : 0 < eci) (κ≥0 : whole 0 ≼ κ) where
  stiffness_not_negative : whole 0 ≼ stiffness es κ
  stiffness_not_negative = ⊗-not-negative (⊗-not-negative (whole_not_negative es) κ≥0) kappa_unit_not_negative

  divisor_cancels : divisor es eci κ ⊗ inverse (divisor es eci κ) ≈ whole 1
  divisor_cancels = inverse_cancels (divisor es eci κ) (above_zero (divisor es eci κ)
      (follows (whole eci ∷ stiffness es κ ∷ []) (λ C S. num 1 ⊑ C ∷ num 0 ⊑ S ∷ [] ⊢ num 1 ⊑ C ⊞ S) tt
      (whole_order eci≥1) stiffness_not_negative))

  -- Es·κ/2^32 is a part of the divisor
  stiffness_share : stiffness es κ ⊗ inverse (divisor es eci κ) ≼ whole 1
  stiffness_share = follows (whole eci ∷ stiffness es κ ∷ inverse (divisor es eci κ) ∷ [])
      (λ C S I. (C ⊞ S) ⊠ I ≐ num 1 ∷ (num 0 ⊑ C) ⊛ (num 0 ⊑ I) ∷ [] ⊢ S ⊠ I ⊑ num 1) tt
      divisor_cancels (whole_not_negative eci, inverse_not_negative (divisor es eci κ))

  pub shortening_not_negative : (c : Fraction) → whole 0 ≼ c → whole 0 ≼ shortening_loss es eci κ c
  shortening_not_negative c c≥0 =
      ⊗-not-negative (⊗-not-negative (whole_not_negative es) c≥0) (inverse_not_negative (divisor es eci κ))

  -- the divisor times the loss
  shortening_divided : (c : Fraction) → whole es ⊗ c ≈ divisor es eci κ ⊗ shortening_loss es eci κ c
  shortening_divided c =
      identity (whole es ∷ c ∷ []) (λ E C. E ⊠ C ≐ E ⊠ C ⊠ num 1) tt
      ⨾ ⊗-cong ≈-refl (≈-sym divisor_cancels)
      ⨾ identity (whole es ∷ c ∷ divisor es eci κ ∷ inverse (divisor es eci κ) ∷ [])
      (λ E C D I. E ⊠ C ⊠ (D ⊠ I) ≐ D ⊠ (E ⊠ C ⊠ I)) tt

  -- the loss is at most the stress
  pub shortening_below : (x g : Fraction) → whole 0 ≼ x → whole 0 ≼ g → shortening_loss es eci κ (concrete_stress x κ g) ≼ x
  shortening_below x g x≥0 g≥0 =
      follows (x ∷ κ ∷ per_kappa_unit ∷ whole es ∷ concrete_stress x κ g ∷ inverse (divisor es eci κ) ∷ [])
      (λ X K Q E C I.
      (num 0 ⊑ E) ⊛ (num 0 ⊑ I) ⊛ (C ⊑ X ⊠ K ⊠ Q) ∷ (num 0 ⊑ X) ⊛ (E ⊠ K ⊠ Q ⊠ I ⊑ num 1) ∷ [] ⊢ E ⊠ C ⊠ I ⊑ X) tt
      ((whole_not_negative es, inverse_not_negative (divisor es eci κ)), concrete_below x κ g x≥0 κ≥0 g≥0)
      (x≥0, stiffness_share)

  -- ---- its slope

  pub shortening_slow : (g most : Fraction) → SlowTo most (whole 1) (λ y. shortening_loss es eci κ (concrete_stress y κ g))
  shortening_slow g most x y y≤x x≤most = slow_resp_≈ (loss_is_hinge x) (loss_is_hinge y)
      (scaled_hinge_slow_to most (whole es ⊗ inverse (divisor es eci κ)) (κ ⊗ per_kappa_unit) g (whole 0) (whole 1)
      (⊗-not-negative (whole_not_negative es) (inverse_not_negative (divisor es eci κ)))
      (⊗-not-negative κ≥0 kappa_unit_not_negative)
      (follows (κ ∷ per_kappa_unit ∷ whole es ∷ inverse (divisor es eci κ) ∷ [])
      (λ K Q E I. E ⊠ K ⊠ Q ⊠ I ⊑ num 1 ∷ [] ⊢ E ⊠ I ⊠ (K ⊠ Q) ⊑ num 1) tt stiffness_share)
      x y y≤x x≤most)
    where
      loss_is_hinge : (z : Fraction) →
          whole es ⊗ inverse (divisor es eci κ) ⊗ hinge (κ ⊗ per_kappa_unit) g (whole 0) z
          ≈ shortening_loss es eci κ (concrete_stress z κ g)
      loss_is_hinge z =
          ⊗-cong ≈-refl (concrete_is_hinge z κ g)
          ⨾ identity (whole es ∷ inverse (divisor es eci κ) ∷ concrete_stress z κ g ∷ []) (λ E I C. E ⊠ I ⊠ C ≐ E ⊠ C ⊠ I) tt

-- ---- ticks and fractions

divisor_room : (es : ℕ) → es ≤ range.Es.high → whole 1 ⊕ whole es ⊗ whole kappa_error ⊗ per_kappa_unit ≼ divisor_error
unfolding ◌÷◌ whole ◌⊕◌ ◌⊗◌
divisor_room es h = record { at_most = omega arith }

divisor_close : (es eci κ₀ : ℕ) (κ : Fraction) → es ≤ range.Es.high → Rounded (whole kappa_error) κ₀ κ →
    Rounded divisor_error (eci + es * κ₀ / kappa_unit) (divisor es eci κ)
divisor_close es eci κ₀ κ h κ_close = rounded_weaken
    (follows (divisor_error ∷ []) (λ F. [] ⊢ num 0 ⊞ F ⊑ F) tt)
    (rounded_sum (rounded_exact (whole_order (lit≤ tt)) eci)
    (rounded_part es kappa_unit divisor_error (lit< tt) κ_close (divisor_room es h)))

-- what c and the divisor cost before the division
shortening_room : (es n d₀ : ℕ) → es ≤ range.Es.high → n ≤ highest_stress → range.Ec.low ≤ d₀ →
    whole es ⊗ concrete_error ⊕ divisor_error ⊗ whole n ≼ whole divided_error ⊗ whole d₀
unfolding ◌÷◌ whole ◌⊕◌ ◌⊗◌
shortening_room es n d₀ h k l = record { at_most = omega arith }

-- The exact loss L and the whole one L₀, before the division: D L = E C, and D₀ L₀ is E C₀ or less by at most D₀.
-- D₀ (L₀ − L) is D₀ L₀ − E C and (D − D₀) L together, and L is at most the stress.
module _ (es n d₀ c₀ l₀ : ℕ) (d l c : Fraction) (es≤ : es ≤ range.Es.high) (n≤ : n ≤ highest_stress) (d₀≥ : range.Ec.low ≤ d₀)
    (c_near : Within concrete_error (whole c₀) c) (d_close : Rounded divisor_error d₀ d) (l≥0 : whole 0 ≼ l) (l≤n : l ≼ whole n)
    (exact : whole es ⊗ c ≈ d ⊗ l) where
  divided_above : whole d₀ ⊗ whole l₀ ≼ whole es ⊗ whole c₀ → whole d₀ ⊗ whole l₀ ≼ whole d₀ ⊗ (l ⊕ whole shortening_error)
  divided_above floor =
      follows (d ∷ l ∷ c ∷ concrete_error ∷ divisor_error ∷ whole es ∷ whole n ∷ whole d₀ ∷ whole c₀ ∷ whole l₀ ∷ [])
      (λ D L C P F E N D₀ C₀ L₀.
      D₀ ⊠ L₀ ⊑ E ⊠ C₀ ∷ (num 0 ⊑ E) ⊛ (C₀ ⊑ C ⊞ P) ∷ E ⊠ C ≐ D ⊠ L ∷ (num 0 ⊑ L) ⊛ (D ⊑ D₀ ⊞ F)
      ∷ (num 0 ⊑ F) ⊛ (L ⊑ N) ∷ E ⊠ P ⊞ F ⊠ N ⊑ num divided_error ⊠ D₀ ∷ num 0 ⊑ D₀ ∷ []
      ⊢ D₀ ⊠ L₀ ⊑ D₀ ⊠ (L ⊞ num shortening_error)) tt
      floor (whole_not_negative es, c_near.above) exact (l≥0, d_close.greatest)
      (quotient_not_negative 65 64, l≤n) (shortening_room es n d₀ es≤ n≤ d₀≥) (whole_not_negative d₀)

  divided_below : whole es ⊗ whole c₀ ≼ whole d₀ ⊗ (whole l₀ ⊕ whole 1)
      → whole d₀ ⊗ l ≼ whole d₀ ⊗ (whole l₀ ⊕ whole shortening_error)
  divided_below floor =
      follows (d ∷ l ∷ c ∷ concrete_error ∷ divisor_error ∷ whole es ∷ whole n ∷ whole d₀ ∷ whole c₀ ∷ whole l₀ ∷ [])
      (λ D L C P F E N D₀ C₀ L₀.
      E ⊠ C₀ ⊑ D₀ ⊠ (L₀ ⊞ num 1) ∷ (num 0 ⊑ E) ⊛ (C ⊑ C₀ ⊞ P) ∷ D ⊠ L ≐ E ⊠ C ∷ (num 0 ⊑ L) ⊛ (D₀ ⊑ D)
      ∷ (num 0 ⊑ F) ⊛ (num 0 ⊑ N) ∷ E ⊠ P ⊞ F ⊠ N ⊑ num divided_error ⊠ D₀ ∷ []
      ⊢ D₀ ⊠ L ⊑ D₀ ⊠ (L₀ ⊞ num shortening_error)) tt
      floor (whole_not_negative es, c_near.below) (≈-sym exact) (l≥0, d_close.least)
      (quotient_not_negative 65 64, whole_not_negative n) (shortening_room es n d₀ es≤ n≤ d₀≥)

module _ (es eci n κ₀ g₀ : ℕ) (κ g : Fraction) (es≤ : es ≤ range.Es.high) (eci≥ : range.Ec.low ≤ eci) (n≤ : n ≤ highest_stress)
    (κ_close : Rounded (whole kappa_error) κ₀ κ) (g_close : Rounded (whole 1) g₀ g) where
  pub shortening_near : Within (whole shortening_error) (whole (ticks_shortening_loss es eci κ₀ (ticks_concrete_stress n κ₀ g₀)))
      (shortening_loss es eci κ (concrete_stress (whole n) κ g))
  shortening_near =
      let c₀ = ticks_concrete_stress n κ₀ g₀ in
      let d₀ = eci + es * κ₀ / kappa_unit in
      let c = concrete_stress (whole n) κ g in
      let l = shortening_loss es eci κ c in
      let eci≥1 : 0 < eci = omega arith in
      let d₀≥ : range.Ec.low ≤ d₀ = omega arith in
      let d₀≥1 : 0 < d₀ = omega arith in
      let κ≥0 = rounded_not_negative κ_close in
      let c_near = concrete_near n κ₀ g₀ κ g n≤ κ_close g_close in
      let d_close = divisor_close es eci κ₀ κ es≤ κ_close in
      let l≥0 = shortening_not_negative es eci κ eci≥1 κ≥0 c (concrete_not_negative (whole n) κ g) in
      let l≤n = shortening_below es eci κ eci≥1 κ≥0 (whole n) g (whole_not_negative n) (rounded_not_negative g_close) in
      let exact = shortening_divided es eci κ eci≥1 κ≥0 c in
      record {
        above = whole_cancel d₀ d₀≥1
            (divided_above es n d₀ c₀ (es * c₀ / d₀) (divisor es eci κ) l c es≤ n≤ d₀≥ c_near d_close l≥0 l≤n exact
            (floor_product_below es c₀ d₀));
        below = whole_cancel d₀ d₀≥1
            (divided_below es n d₀ c₀ (es * c₀ / d₀) (divisor es eci κ) l c es≤ n≤ d₀≥ c_near d_close l≥0 l≤n exact
            (floor_product_above es c₀ d₀ d₀≥1));
      }
