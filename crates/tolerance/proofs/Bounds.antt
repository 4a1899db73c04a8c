-- The constants of an accepted member, κ, U and S, in ticks and in fractions, and what they and its stresses do not exceed: each is a
-- quotient, rounded once for each of its divisions, and the member has the bounds. Assumes nothing.
use Prim.Native.Nat.{ℕ, ◌*◌, ◌≤◌}
use native.Mathlib.Nat.{le_trans, mul-le-mul_right}
use native.Mathlib.Omega.{arith}
use lib.Dec.{lit<, lit≤}
use lib.Ieee.Nearest.{div_mono}
use Rattle.fraction.specs.Fraction.{whole}
use Rattle.coefficient.specs.Coefficients.{scf, ssf, mcf, ucr, ush}
use Rattle.ticks.specs.Ticks.{ticks_per_unit}
use Rattle.fields.specs.Quantities.{Quantities}
use Rattle.fields.specs.Limits.{most_of_strength, hundredths}
use Rattle.member.specs.Constants.{kappa_of_squares, creep_divisor, shrinkage_divisor, jacked}
use Rattle.member.specs.Member.{cure_of, concrete_of, kappa_of, creep_of, shrinkage_of}
use Rattle.member.specs.Facts.{most_creep, most_shrinkage, Facts}
use Rattle.member.proofs.Bounds.{creep_most, shrinkage_most}
use Rattle.formulas.specs.Steps.{moment_stress as ticks_moment_stress, kappa_unit}
use Rattle.tolerance.specs.Formulas.{kappa, whole_creep, whole_shrinkage, moment_stress}
use Rattle.tolerance.proofs.Rounded.{Rounded, floor_rounded, rounded_whole_sum}
use Rattle.tolerance.proofs.Concrete.{highest_stress, kappa_error}
use Rattle.tolerance.proofs.Shares.{part_error}

-- ---- U and S

-- shrinkage is the part of S by the share
abbrev pub shrinkage_error : ℕ
shrinkage_error = part_error most_shrinkage

pub creep_rounded : (q : Quantities) → Rounded (whole 1) (creep_of q) (whole_creep q)
creep_rounded q =
    floor_rounded
    (ucr (cure_of q.cure) (concrete_of q.concrete) q.Ec * scf q.volume_to_surface * mcf (cure_of q.cure) q.transfer)
    creep_divisor
    (lit< tt)

pub shrinkage_rounded : (q : Quantities) → Rounded (whole 1) (shrinkage_of q) (whole_shrinkage q)
shrinkage_rounded q = floor_rounded (ush (concrete_of q.concrete) q.Ec * ssf q.volume_to_surface) shrinkage_divisor (lit< tt)

pub creep_top : (q : Quantities) → creep_of q ≤ most_creep
creep_top q = creep_most (cure_of q.cure) (concrete_of q.concrete) q.Ec q.volume_to_surface q.transfer

pub shrinkage_top : (q : Quantities) → shrinkage_of q ≤ most_shrinkage
shrinkage_top q = shrinkage_most (concrete_of q.concrete) q.Ec q.volume_to_surface

-- ---- κ, g and stresses

-- a stress that is at most 0.80 F
abbrev pub Low : Quantities → ℕ → Type 0
Low q stress = hundredths * stress ≤ most_of_strength * q.ultimate_strength * ticks_per_unit

module _ {q : Quantities} {report scratch : ℕ} (facts : Facts q report scratch) where
  pub kappa_rounded : Rounded (whole kappa_error) (kappa_of q) (kappa q)
  kappa_rounded =
      let section = facts.head.section in
      rounded_whole_sum 1 1
      (floor_rounded (q.steel_area * kappa_unit) q.area (le_trans (lit≤ tt) section.area_least))
      (floor_rounded (kappa_of_squares * q.steel_area * (q.eccentricity * q.eccentricity)) q.inertia
      (le_trans (lit≤ tt) section.inertia_least))

  -- g, for any moments
  pub moment_rounded : (moments : ℕ)
      → Rounded (whole 1) (ticks_moment_stress moments q.eccentricity q.inertia)
      (moment_stress moments q.eccentricity q.inertia)
  moment_rounded moments =
      floor_rounded (moments * q.eccentricity) q.inertia (le_trans (lit≤ tt) facts.head.section.inertia_least)

  -- g does not fall where moments are added
  pub moment_rises : (moments added : ℕ) → moments ≤ added
      → ticks_moment_stress moments q.eccentricity q.inertia ≤ ticks_moment_stress added q.eccentricity q.inertia
  moment_rises moments added h =
      let some = le_trans (lit≤ tt) facts.head.section.inertia_least in
      div_mono (moments * q.eccentricity) q.inertia (added * q.eccentricity) q.inertia some some
      (mul-le-mul_right q.inertia (mul-le-mul_right q.eccentricity h))

  -- none before the ages is above the jacking stress
  pub low : (stress : ℕ) → stress ≤ jacked q → Low q stress
  low stress h = let most = facts.head.jacking_most in omega arith

  pub low_top : (stress : ℕ) → Low q stress → stress ≤ highest_stress
  low_top stress h = let most = facts.head.ultimate_most in omega arith
