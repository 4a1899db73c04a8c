-- How large U and S can be: the most of their coefficients, one times another; and how long a path: the most of its segments' lengths.
-- Assumes nothing.
use mathlib.Core.List.{List}
use Prim.Native.Nat.{ℕ, ◌*◌, ◌≤◌}
use native.Mathlib.Nat.{mul-le-mul, div-le_of_le-mul}
use native.Mathlib.Omega.{arith}
use lib.ListN.{length}
use Rattle.fields.specs.declared.segments.Segment.{Segment}
use Rattle.fields.specs.Limits.{most_length}
use Rattle.coefficient.specs.declared.codes.Cure.{Cure}
use Rattle.coefficient.specs.declared.codes.Concrete.{Concrete}
use Rattle.coefficient.specs.Coefficients.{scf, ssf, mcf, ucr, ush}
use Rattle.coefficient.proofs.Laws.{ucr_range, scf_range, mcf_range, ush_range, ssf_range}
use Rattle.member.specs.Constants.{creep_divisor, shrinkage_divisor, whole_creep, whole_shrinkage, path_length}
use Rattle.member.specs.Facts.{SegmentsFit, no_segment, segment_fits, most_creep, most_shrinkage}

pub ucr_scf_product : (cure : Cure) (concrete : Concrete) (ec volume_to_surface : ℕ)
    → ucr cure concrete ec * scf volume_to_surface ≤ most_creep * creep_divisor
ucr_scf_product cure concrete ec volume_to_surface =
    let most = mul-le-mul (ucr_range cure concrete ec).1 (scf_range volume_to_surface).1 in
    omega arith

pub creep_product : (cure : Cure) (concrete : Concrete) (ec volume_to_surface transfer : ℕ)
    → ucr cure concrete ec * scf volume_to_surface * mcf cure transfer ≤ most_creep * creep_divisor
creep_product cure concrete ec volume_to_surface transfer =
    let most =
    mul-le-mul (mul-le-mul (ucr_range cure concrete ec).1 (scf_range volume_to_surface).1) (mcf_range cure transfer).1 in
    omega arith

pub creep_most : (cure : Cure) (concrete : Concrete) (ec volume_to_surface transfer : ℕ)
    → whole_creep cure concrete ec volume_to_surface transfer ≤ most_creep
creep_most cure concrete ec volume_to_surface transfer =
    div-le_of_le-mul creep_divisor (creep_product cure concrete ec volume_to_surface transfer)

pub shrinkage_product : (concrete : Concrete) (ec volume_to_surface : ℕ)
    → ush concrete ec * ssf volume_to_surface ≤ most_shrinkage * shrinkage_divisor
shrinkage_product concrete ec volume_to_surface =
    let most = mul-le-mul (ush_range concrete ec).1 (ssf_range volume_to_surface).1 in
    omega arith

pub shrinkage_most : (concrete : Concrete) (ec volume_to_surface : ℕ) → whole_shrinkage concrete ec volume_to_surface ≤ most_shrinkage
shrinkage_most concrete ec volume_to_surface = div-le_of_le-mul shrinkage_divisor (shrinkage_product concrete ec volume_to_surface)

-- what the function that computes U cites
pub ruleset creep_bounds = (ucr_scf_product, creep_product, creep_most)

pub path_most : {segments : List Segment} → SegmentsFit segments → path_length segments ≤ most_length * length segments
unfolding path_length
path_most no_segment = omega arith
path_most (segment_fits first later) = omega (arith, first.length_most, path_most later)
