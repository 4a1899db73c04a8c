-- The loss to creep, W·c/T with W = U·share/T, in ticks and in fractions. It is off by what W is off by, times c/T, by what c is off
-- by, times W/T, and by its own division. Its slope is U·share/T·κ/2^56, which the member's check U·κ ≤ 2^56 bounds by 1 in rounded
-- numbers, and so by a little more in fractions. Assumes nothing.
use mathlib.Core.Path.{refl}
use mathlib.Core.List.{[], ◌∷◌}
use Prim.Native.Nat.{ℕ, ◌+◌, ◌*◌, ◌/◌, ◌≤◌}
use lib.Dec.{lit<, lit≤}
use Rattle.fraction.specs.Fraction.{Fraction, whole, ◌⊕◌, ◌⊗◌, ◌÷◌, ◌≼◌, Within}
use Rattle.fraction.specs.Equality.{◌≈◌}
use Rattle.fraction.proofs.Laws.{≈-refl, ≈-sym, ◌⨾◌, ≼_trans, ⊗-cong, ⊗-not-negative, whole-⊗}
use Rattle.fraction.proofs.Certificate.{num, ◌⊞◌, ◌⊠◌, ◌⊑◌, ◌≐◌, ◌⊛◌, ◌⊢◌, follows, identity}
use Rattle.fraction.proofs.Floors.{whole_order, whole_not_negative}
use Rattle.fraction.proofs.Quotients.{quotient_not_negative}
use Rattle.fraction.proofs.Distances.{within_weaken}
use Rattle.fraction.proofs.Slopes.{SlowTo, hinge, slow_resp_≈, scaled_hinge_slow_to}
use Rattle.ticks.specs.Ticks.{T}
use Rattle.fields.specs.Limits.{most_kappa, most_creep_of_kappa}
use Rattle.member.specs.Facts.{most_creep}
use Rattle.formulas.specs.Steps.{creep_loss as ticks_creep_loss, concrete_stress as ticks_concrete_stress}
use Rattle.tolerance.specs.Formulas.{concrete_stress, creep_loss}
use Rattle.tolerance.proofs.Rounded.{Rounded, product_near, rounded_not_negative}
use Rattle.tolerance.proofs.Shares.{Share, part_error, constant_top, part_near}
use Rattle.tolerance.proofs.Concrete.{highest_stress, highest_concrete, kappa_error, concrete_error, per_kappa_unit}
use Rattle.tolerance.proofs.Concrete.{kappa_unit_not_negative, concrete_is_hinge, concrete_top, concrete_near}

-- what W costs at the highest c, 447, what c costs at the highest W, 135, and a division; rounded up
abbrev pub creep_error : ℕ
creep_error = 700

-- one, and as much as the roundings in U·κ can be over it
abbrev pub creep_slope : Fraction
creep_slope = 17 ÷ 16

-- 1 / T
abbrev share_unit : Fraction
share_unit = 1 ÷ T

share_unit_not_negative : whole 0 ≼ share_unit
share_unit_not_negative = quotient_not_negative 1 T

unit_of_shares : whole T ⊗ share_unit ≈ whole 1
unfolding ◌÷◌ whole ◌⊗◌
unit_of_shares = record { equal = refl }

-- ---- the creep up to a share: W = U·share/T

abbrev creep_to : Fraction → Fraction → Fraction
creep_to u share = u ⊗ share ⊗ share_unit

module _ (u share : Fraction) (u≥0 : whole 0 ≼ u) (share≥0 : whole 0 ≼ share) where
  creep_to_not_negative : whole 0 ≼ creep_to u share
  creep_to_not_negative = ⊗-not-negative (⊗-not-negative u≥0 share≥0) share_unit_not_negative

  -- a share is T at most
  creep_to_below : share ≼ whole T → creep_to u share ≼ u
  creep_to_below share≤T = follows (u ∷ share ∷ share_unit ∷ whole T ∷ [])
      (λ U S Q Ts. (num 0 ⊑ U) ⊛ (num 0 ⊑ Q) ⊛ (S ⊑ Ts) ∷ (num 0 ⊑ U) ⊛ (Ts ⊠ Q ≐ num 1) ∷ [] ⊢ U ⊠ S ⊠ Q ⊑ U) tt
      ((u≥0, share_unit_not_negative), share≤T) (u≥0, unit_of_shares)

-- ---- ticks and fractions

creep_room : whole 1 ⊕ share_unit ⊗ (whole (part_error most_creep) ⊗ whole highest_concrete ⊕ whole (most_creep + 1) ⊗ concrete_error)
    ≼ whole creep_error
unfolding ◌÷◌ whole ◌⊕◌ ◌⊗◌
creep_room = record { at_most = lit≤ tt }

pub creep_near : {u₀ d n κ₀ g₀ : ℕ} {u share κ g : Fraction} → Rounded (whole 1) u₀ u → u₀ ≤ most_creep → Share d share
    → n ≤ highest_stress → κ₀ ≤ most_kappa → Rounded (whole kappa_error) κ₀ κ → Rounded (whole 1) g₀ g
    → Within (whole creep_error) (whole (ticks_creep_loss u₀ d (ticks_concrete_stress n κ₀ g₀)))
    (creep_loss u share (concrete_stress (whole n) κ g))
creep_near {u₀} {d} {n} {κ₀} {g₀} {u} {share} {κ} {g} u_close u₀≤ done n≤ κ₀≤ κ_close g_close =
    let u≥0 = rounded_not_negative u_close in
    within_weaken creep_room
    (product_near (u₀ * d / T) (ticks_concrete_stress n κ₀ g₀) T highest_concrete (most_creep + 1) (lit< tt)
    (concrete_top n κ₀ g₀ n≤ κ₀≤)
    (creep_to_not_negative u share u≥0 done.not_negative)
    (≼_trans (creep_to_below u share u≥0 done.not_negative done.most) (constant_top u_close u₀≤))
    (part_near u_close u₀≤ done) (concrete_near n κ₀ g₀ κ g n≤ κ_close g_close))

-- ---- its slope

-- (U₀ + 1) (κ₀ + 2) of rounded U₀ and κ₀
abbrev highest_product : ℕ
highest_product = most_creep_of_kappa + kappa_error * most_creep + most_kappa + kappa_error

-- that over 2^56
slope_room : whole highest_product ⊗ (share_unit ⊗ per_kappa_unit) ≼ creep_slope
unfolding ◌÷◌ whole ◌⊗◌
slope_room = record { at_most = lit≤ tt }

module _ (u₀ κ₀ : ℕ) (u κ share g : Fraction) (u_close : Rounded (whole 1) u₀ u) (κ_close : Rounded (whole kappa_error) κ₀ κ)
    (u₀≤ : u₀ ≤ most_creep) (κ₀≤ : κ₀ ≤ most_kappa) (u₀κ₀≤ : u₀ * κ₀ ≤ most_creep_of_kappa)
    (share≥0 : whole 0 ≼ share) (share≤T : share ≼ whole T) where
  product_top : u ⊗ κ ≼ whole highest_product
  product_top = follows (u ∷ κ ∷ whole u₀ ∷ whole κ₀ ∷ whole (u₀ * κ₀) ∷ [])
      (λ U K U₀ K₀ P.
      (num 0 ⊑ K) ⊛ (U ⊑ U₀ ⊞ num 1) ∷ (num 0 ⊑ U₀) ⊛ (K ⊑ K₀ ⊞ num kappa_error) ∷ K ⊑ K₀ ⊞ num kappa_error
      ∷ U₀ ⊠ K₀ ≐ P ∷ P ⊑ num most_creep_of_kappa ∷ (num 0 ⊑ num kappa_error) ⊛ (U₀ ⊑ num most_creep) ∷ K₀ ⊑ num most_kappa ∷ []
      ⊢ U ⊠ K ⊑ num highest_product) tt
      (rounded_not_negative κ_close, u_close.greatest) (whole_not_negative u₀, κ_close.greatest) κ_close.greatest
      (≈-sym (whole-⊗ u₀ κ₀)) (whole_order u₀κ₀≤) (whole_not_negative kappa_error, whole_order u₀≤) (whole_order κ₀≤)

  -- W/T times κ/2^32
  slope_top : creep_to u share ⊗ share_unit ⊗ (κ ⊗ per_kappa_unit) ≼ creep_slope
  slope_top = ≼_trans
      (follows (u ∷ κ ∷ creep_to u share ∷ share_unit ∷ per_kappa_unit ∷ whole highest_product ∷ [])
      (λ U K W Q R Z.
      (num 0 ⊑ Q) ⊛ (num 0 ⊑ R) ⊛ (num 0 ⊑ K) ⊛ (W ⊑ U) ∷ (num 0 ⊑ Q) ⊛ (num 0 ⊑ R) ⊛ (U ⊠ K ⊑ Z) ∷ []
      ⊢ W ⊠ Q ⊠ (K ⊠ R) ⊑ Z ⊠ (Q ⊠ R)) tt
      ((units≥0, rounded_not_negative κ_close), w≤u) (units≥0, product_top))
      slope_room
    where
      units≥0 : (whole 0 ≼ share_unit) × (whole 0 ≼ per_kappa_unit)
      units≥0 = (share_unit_not_negative, kappa_unit_not_negative)

      w≤u : creep_to u share ≼ u
      w≤u = creep_to_below u share (rounded_not_negative u_close) share≥0 share≤T

  pub creep_slow : (most : Fraction) → SlowTo most creep_slope (λ y. creep_loss u share (concrete_stress y κ g))
  creep_slow most x y y≤x x≤most = slow_resp_≈ (loss_is_hinge x) (loss_is_hinge y)
      (scaled_hinge_slow_to most (creep_to u share ⊗ share_unit) (κ ⊗ per_kappa_unit) g (whole 0) creep_slope
      (⊗-not-negative (creep_to_not_negative u share (rounded_not_negative u_close) share≥0) share_unit_not_negative)
      (⊗-not-negative (rounded_not_negative κ_close) kappa_unit_not_negative)
      slope_top x y y≤x x≤most)
    where
      loss_is_hinge : (z : Fraction) →
          creep_to u share ⊗ share_unit ⊗ hinge (κ ⊗ per_kappa_unit) g (whole 0) z ≈ creep_loss u share (concrete_stress z κ g)
      loss_is_hinge z =
          ⊗-cong ≈-refl (concrete_is_hinge z κ g)
          ⨾ identity (creep_to u share ∷ share_unit ∷ concrete_stress z κ g ∷ []) (λ W Q C. W ⊠ Q ⊠ C ≐ W ⊠ C ⊠ Q) tt
