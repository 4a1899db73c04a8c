-- No step of the method in fractions brings two stresses further apart, whatever two fractions they are, up to 1.1·Y. Slip and the
-- deflector loss take the same off any stress. What the other steps take off has a slope: shortening 1, early relaxation 15/16, an
-- age's creep 17/16 and its relaxation 15/16, while its shrinkage and its gain do not depend on the stress; no step's slopes sum to more
-- than 2. Assumes nothing.
use mathlib.Core.List.{List, [], ◌∷◌}
use Prim.Native.Nat.{ℕ, ◌+◌, ◌*◌}
use native.Mathlib.Nat.{le_trans}
use native.Mathlib.Omega.{arith}
use lib.Dec.{lit≤}
use Rattle.fraction.specs.Fraction.{Fraction, whole, ◌⊕◌, ◌⊖◌, ◌÷◌, ◌≼◌}
use Rattle.fraction.proofs.Certificate.{num, ◌⊟◌, ◌⊑◌, ◌⊢◌, follows}
use Rattle.fraction.proofs.Floors.{whole_order, whole_not_negative}
use Rattle.fraction.proofs.Slopes.{KeepsDistance, constant_keeps_distance, raised_keeps_distance, part_keeps_distance}
use Rattle.fraction.proofs.Slopes.{parts_keep_distance}
use Rattle.ticks.specs.Ticks.{ticks_per_unit, T}
use Rattle.coefficient.specs.declared.codes.Kind.{Kind}
use Rattle.coefficient.specs.declared.codes.Kind.TheVariants.{Pretensioned, PostTensioned}
use Rattle.fields.specs.declared.segments.Age.{Age}
use Rattle.fields.specs.Quantities.{Quantities}
use Rattle.member.specs.Member.{kind_of, steel_of, kappa_of, creep_of}
use Rattle.member.specs.Facts.{RisingFrom, no_age, rises, Facts}
use Rattle.tolerance.specs.Formulas.{kappa, whole_creep, whole_shrinkage, slip_loss, relaxation_loss, concrete_stress}
use Rattle.tolerance.specs.Formulas.{shortening_loss, creep_loss, shrinkage_loss}
use Rattle.tolerance.specs.Method.{Choice, End, end_at, transfer_end, early_relaxation, after_tendon_slip, after_deflector, after_early}
use Rattle.tolerance.specs.Method.{after_shortening, after_age, age_steps, steps_after_slip}
use Rattle.tolerance.proofs.Rounded.{rounded_not_negative}
use Rattle.tolerance.proofs.Logarithms.{most_rise, Logs, rise_not_negative, rise_top}
use Rattle.tolerance.proofs.RelaxationSlope.{most_stress, relaxation_slope, relaxation_slow}
use Rattle.tolerance.proofs.Shortening.{shortening_slow}
use Rattle.tolerance.proofs.Creep.{creep_slope, creep_slow}
use Rattle.tolerance.proofs.Bounds.{kappa_rounded, creep_rounded, creep_top}
use Rattle.tolerance.proofs.Ends.{between, before_transfer}

-- 1.1·Y of the member's steel
abbrev pub most_stress_of : Quantities → Fraction
most_stress_of q = most_stress (steel_of q.steel) q.ultimate_strength

relaxation_slope_small : relaxation_slope ≼ whole 2
unfolding ◌÷◌ whole
relaxation_slope_small = record { at_most = lit≤ tt }

age_slopes : creep_slope ⊕ relaxation_slope ≼ whole 2
unfolding ◌÷◌ whole ◌⊕◌
age_slopes = record { at_most = lit≤ tt }

-- what an age's slopes need of its two ends
pub record Later (start end : End) : Type 0 where
  pub creep_least : whole 0 ≼ end.creep ⊖ start.creep
  pub creep_most : end.creep ⊖ start.creep ≼ whole T
  pub logarithm_least : whole 0 ≼ end.logarithm ⊖ start.logarithm
  pub logarithm_most : end.logarithm ⊖ start.logarithm ≼ whole most_rise

pub slip_keeps_distance : (choice : Choice) (q : Quantities) (most : Fraction) → KeepsDistance most (after_tendon_slip choice q)
slip_keeps_distance choice q most = constant_keeps_distance most (slip_loss q.Es q.slip q.tendon_length)

pub deflector_keeps_distance : (choice : Choice) (q : Quantities) (most : Fraction) → KeepsDistance most (after_deflector choice q)
deflector_keeps_distance choice q most = constant_keeps_distance most (whole (q.deflector_loss * ticks_per_unit))

module _ {q : Quantities} {report scratch : ℕ} (facts : Facts q report scratch) (choice : Choice) where
  pub shortening_keeps_distance : (most : Fraction) → KeepsDistance most (after_shortening choice q)
  shortening_keeps_distance most =
      part_keeps_distance most (whole 1)
      (λ z. shortening_loss q.Es q.Eci (kappa q) (concrete_stress z (kappa q) (transfer_end choice q).g))
      (shortening_slow q.Es q.Eci (kappa q) (le_trans (lit≤ tt) facts.head.eci_least)
      (rounded_not_negative (kappa_rounded facts)) (transfer_end choice q).g most) (whole_order (lit≤ tt))

  pub age_keeps_distance : (start end : End) → Later start end → KeepsDistance (most_stress_of q) (after_age choice q start end)
  age_keeps_distance start end later =
      raised_keeps_distance (most_stress_of q) _ _
      (parts_keep_distance (most_stress_of q) creep_slope relaxation_slope
      (shrinkage_loss (whole_shrinkage q) (end.shrinkage ⊖ start.shrinkage))
      (λ z. creep_loss (whole_creep q) (end.creep ⊖ start.creep) (concrete_stress z (kappa q) start.g))
      (λ z. relaxation_loss (steel_of q.steel) q.ultimate_strength z (end.logarithm ⊖ start.logarithm))
      (creep_slow (creep_of q) (kappa_of q) (whole_creep q) (kappa q) _ start.g (creep_rounded q) (kappa_rounded facts)
      (creep_top q) facts.kappa_most facts.creep_most later.creep_least later.creep_most (most_stress_of q))
      (relaxation_slow (steel_of q.steel) q.ultimate_strength _ facts.head.ultimate_least later.logarithm_least
      later.logarithm_most)
      age_slopes)

  module _ {δ : ℕ} (logs : Logs δ choice) where
    early_keeps_distance_of : (kind : Kind) → KeepsDistance (most_stress_of q) (λ z. z ⊖ early_relaxation choice q kind z)
    early_keeps_distance_of Pretensioned =
        let rise = before_transfer facts logs in
        part_keeps_distance (most_stress_of q) relaxation_slope (early_relaxation choice q Pretensioned)
        (relaxation_slow (steel_of q.steel) q.ultimate_strength _ facts.head.ultimate_least (rise_not_negative rise)
        (rise_top rise))
        relaxation_slope_small
    early_keeps_distance_of PostTensioned = constant_keeps_distance (most_stress_of q) (whole 0)

    pub early_keeps_distance : KeepsDistance (most_stress_of q) (after_early choice q)
    early_keeps_distance = early_keeps_distance_of (kind_of q.kind)

-- ---- the steps of a run

pub data EachKeepsDistance (most : Fraction) : List (Fraction → Fraction) → Type 0 where
  no_step : EachKeepsDistance most []
  a_step : {step : Fraction → Fraction} {steps : List (Fraction → Fraction)} → KeepsDistance most step
      → EachKeepsDistance most steps → EachKeepsDistance most (step ∷ steps)

module _ {q : Quantities} {report scratch : ℕ} (facts : Facts q report scratch) {δ : ℕ} {choice : Choice}
    (logs : Logs δ choice) where
  ages_keep_distance : (moments hour : ℕ) {ages : List Age} → RisingFrom hour ages
      → EachKeepsDistance (most_stress_of q) (age_steps choice q moments hour ages)
  unfolding age_steps
  ages_keep_distance moments hour no_age = no_step
  ages_keep_distance moments hour (rises {age = age} on life rising) =
      let added = moments + age.moment in
      let ends = between facts logs moments added hour age.hour (omega arith) (omega arith) life in
      a_step
      (age_keeps_distance facts choice (end_at choice q moments hour) (end_at choice q added age.hour) (record {
        creep_least = ends.creep.not_negative;
        creep_most = ends.creep.most;
        logarithm_least = rise_not_negative ends.logarithm;
        logarithm_most = rise_top ends.logarithm;
      }))
      (ages_keep_distance added age.hour rising)

  -- early relaxation keeps the distance that the deflector loss keeps, and that lowers both
  after_slip_keeps_distance : KeepsDistance (most_stress_of q) (λ z. after_early choice q (after_deflector choice q z))
  after_slip_keeps_distance e x y x≤ y≤ near =
      early_keeps_distance facts choice logs e (after_deflector choice q x) (after_deflector choice q y) (lower x x≤) (lower y y≤)
      (deflector_keeps_distance choice q (most_stress_of q) e x y x≤ y≤ near)
    where
      lower : (z : Fraction) → z ≼ most_stress_of q → after_deflector choice q z ≼ most_stress_of q
      lower z h = follows (z ∷ whole (q.deflector_loss * ticks_per_unit) ∷ most_stress_of q ∷ [])
          (λ Z D M. Z ⊑ M ∷ num 0 ⊑ D ∷ [] ⊢ Z ⊟ D ⊑ M) tt h (whole_not_negative (q.deflector_loss * ticks_per_unit))

  pub steps_keep_distance : EachKeepsDistance (most_stress_of q) (steps_after_slip choice q)
  steps_keep_distance =
      a_step after_slip_keeps_distance
      (a_step (shortening_keeps_distance facts choice (most_stress_of q))
      (ages_keep_distance q.own_weight_moment q.transfer facts.ages_rise))
