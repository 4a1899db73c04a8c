-- How relaxation in fractions depends on the stress: up to 1.1·Y it has slope 15/16. The loss is a multiple l = ΔL/(D·T) of the
-- stress times a hinge, q, whose line rises by T/Y. So its slope up to 1.1·Y is at most l·(2·1.1 T − 0.55 T), and l is at most
-- 1445/(2560·T): 0.9314. Assumes nothing.
use mathlib.Core.List.{[], ◌∷◌}
use Prim.Native.Nat.{ℕ, ◌*◌, ◌≤◌, ◌<◌}
use native.Mathlib.Omega.{arith}
use lib.Dec.{lit<, lit≤}
use Rattle.fraction.specs.Fraction.{Fraction, whole, ◌⊕◌, ◌⊗◌, ◌÷◌, inverse, ◌≼◌}
use Rattle.fraction.specs.Equality.{◌≈◌}
use Rattle.fraction.proofs.Laws.{≈-refl, ≈-sym, ◌⨾◌, ≼-of-≈, ⊖-cong, ⊗-cong, ⊗-assoc, ⊗-mono, ⊗-mono-left}
use Rattle.fraction.proofs.Laws.{one-⊗, ⊗-not-negative, larger_cong}
use Rattle.fraction.proofs.Floors.{whole_not_negative}
use Rattle.fraction.proofs.Quotients.{quotient_not_negative, quotient_order, inverse_cancels, inverse_not_negative}
use Rattle.fraction.proofs.Certificate.{◌⊞◌, ◌⊠◌, ◌⊑◌, ◌≐◌, ◌⊛◌, ◌⊢◌, follows, identity}
use Rattle.fraction.proofs.Slopes.{SlowTo, hinge, slow_resp_≈, relaxation_slow_to}
use Rattle.ticks.specs.Ticks.{ticks_per_unit, T}
use Rattle.coefficient.specs.declared.codes.Steel.{Steel}
use Rattle.coefficient.specs.declared.codes.Steel.TheVariants.{StressRelieved, LowRelaxation}
use Rattle.fields.specs.Limits.{range}
use Rattle.formulas.specs.Steps.{relaxation_divisor}
use Rattle.tolerance.specs.Formulas.{yield, relaxation_loss}
use Rattle.tolerance.proofs.Logarithms.{most_rise}
use Rattle.tolerance.proofs.Relaxation.{yield_part, least_divisor, exact_loss}

-- 1.1·Y: the slope holds up to here
abbrev pub above_yield : Fraction
above_yield = 11 ÷ 10

abbrev pub most_stress : Steel → ℕ → Fraction
most_stress steel ultimate_strength = yield steel ultimate_strength ⊗ above_yield

-- the line of q is z·T/Y − 0.55 T, its least is 0.05 T
abbrev line_takes : Fraction
line_takes = (55 * T) ÷ 100

abbrev least : Fraction
least = (5 * T) ÷ 100

-- what the line adds up to at 1.1·Y
abbrev line_top : Fraction
line_top = whole T ⊗ above_yield

-- the largest multiple
abbrev multiple_top : Fraction
multiple_top = whole most_rise ⊗ (1 ÷ least_divisor) ⊗ (1 ÷ T)

-- 0.9314, rounded up so that creep's and this sum to 2
abbrev pub relaxation_slope : Fraction
relaxation_slope = 15 ÷ 16

least_on_the_line : least ⊕ line_takes ≼ line_top
unfolding whole ◌÷◌ ◌⊕◌ ◌⊗◌
least_on_the_line = record { at_most = lit≤ tt }

line_not_negative : line_takes ≼ line_top ⊕ line_top
unfolding whole ◌÷◌ ◌⊕◌ ◌⊗◌
line_not_negative = record { at_most = lit≤ tt }

steepest : multiple_top ⊗ (line_top ⊕ line_top) ≼ relaxation_slope ⊕ multiple_top ⊗ line_takes
unfolding whole ◌÷◌ ◌⊕◌ ◌⊗◌
steepest = record { at_most = lit≤ tt }

module _ (P D : ℕ) (Δ : Fraction) (P>0 : 0 < P) (D-least : least_divisor ≤ D) (Δ≥0 : whole 0 ≼ Δ) (Δ≤ : Δ ≼ whole most_rise) where
  abbrev l : Fraction
  l = Δ ⊗ (1 ÷ D) ⊗ (1 ÷ T)

  abbrev rise : Fraction
  rise = whole T ⊗ inverse (P ÷ 100)

  -- the loss as l times the stress times a hinge
  as_hinge : (y : Fraction) → l ⊗ (y ⊗ hinge rise line_takes least y) ≈ exact_loss P D y Δ
  as_hinge y =
      identity (y ∷ Δ ∷ 1 ÷ D ∷ hinge rise line_takes least y ∷ 1 ÷ T ∷ [])
      (λ Y L E Q U. L ⊠ E ⊠ U ⊠ (Y ⊠ Q) ≐ Y ⊠ L ⊠ E ⊠ Q ⊠ U) tt
      ⨾ ⊗-cong (⊗-cong ≈-refl (larger_cong (⊖-cong (≈-sym (⊗-assoc y (whole T) (inverse (P ÷ 100)))) ≈-refl) ≈-refl)) ≈-refl

  l≥0 : whole 0 ≼ l
  l≥0 = ⊗-not-negative (⊗-not-negative Δ≥0 (quotient_not_negative 1 D)) (quotient_not_negative 1 T)

  l_top : l ≼ multiple_top
  l_top = ⊗-mono-left (1 ÷ T) (quotient_not_negative 1 T)
      (⊗-mono (quotient_not_negative 1 D) (whole_not_negative most_rise) Δ≤
      (quotient_order 1 D 1 least_divisor (omega arith) (lit< tt) (omega arith)))

  l_steep : l ⊗ (line_top ⊕ line_top) ≼ relaxation_slope ⊕ l ⊗ line_takes
  l_steep = follows (l ∷ multiple_top ∷ line_top ∷ line_takes ∷ relaxation_slope ∷ [])
      (λ L M U G S. (L ⊑ M) ⊛ (G ⊑ U ⊞ U) ∷ M ⊠ (U ⊞ U) ⊑ S ⊞ M ⊠ G ∷ [] ⊢ L ⊠ (U ⊞ U) ⊑ S ⊞ L ⊠ G) tt
      (l_top, line_not_negative) steepest

  -- at 1.1·Y the line adds up to 1.1 T
  line_at_most : P ÷ 100 ⊗ above_yield ⊗ rise ≼ line_top
  unfolding ◌÷◌
  line_at_most = ≼-of-≈
      (identity (P ÷ 100 ∷ above_yield ∷ whole T ∷ inverse (P ÷ 100) ∷ []) (λ Y U W I. Y ⊠ U ⊠ (W ⊠ I) ≐ Y ⊠ I ⊠ (W ⊠ U)) tt
      ⨾ ⊗-cong (inverse_cancels (P ÷ 100) P>0) ≈-refl ⨾ one-⊗ line_top)

  exact_slow : SlowTo (P ÷ 100 ⊗ above_yield) relaxation_slope (λ y. exact_loss P D y Δ)
  exact_slow x y y≤x x≤most = slow_resp_≈ (as_hinge x) (as_hinge y)
      (relaxation_slow_to (P ÷ 100 ⊗ above_yield) l rise line_takes least line_top relaxation_slope l≥0
      (⊗-not-negative (whole_not_negative T) (inverse_not_negative (P ÷ 100)))
      (quotient_not_negative (55 * T) 100) (quotient_not_negative (5 * T) 100) least_on_the_line l_steep line_at_most
      x y y≤x x≤most)

-- ---- for a steel

pub relaxation_slow : (steel : Steel) (F : ℕ) (Δ : Fraction) → range.ultimate_strength.low ≤ F → whole 0 ≼ Δ → Δ ≼ whole most_rise
    → SlowTo (most_stress steel F) relaxation_slope (λ y. relaxation_loss steel F y Δ)
relaxation_slow StressRelieved F Δ strong =
    exact_slow (yield_part StressRelieved * F * ticks_per_unit) (relaxation_divisor StressRelieved) Δ (omega arith) (lit≤ tt)
relaxation_slow LowRelaxation F Δ strong =
    exact_slow (yield_part LowRelaxation * F * ticks_per_unit) (relaxation_divisor LowRelaxation) Δ (omega arith) (lit≤ tt)
