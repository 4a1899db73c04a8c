-- What stands at an end of an interval is bounded: a share is at most 1, a logarithm at most the table's last, and g what all moments
-- give at the most eccentricity and the least inertia. Assumes nothing.
use Prim.Native.Nat.{ℕ, ◌≤◌}
use native.Mathlib.Omega.{arith}
use Rattle.logarithm.specs.Logarithm.{reaches, logarithm, last_threshold}
use Rattle.logarithm.proofs.Largest.{no_more}
use Rattle.coefficient.proofs.Laws.{creep_most, shrinkage_most}
use Rattle.fields.specs.Limits.{most_moment}
use Rattle.member.specs.declared.Member.{Member}
use Rattle.formulas.proofs.Laws.{moment_stress_most}
use Rattle.stages.specs.Conditions.{Bounded, EndBounded}
use Rattle.stages.specs.Run.{end_at}

pub logarithm_most : (hour : ℕ) → logarithm hour ≤ last_threshold
unfolding logarithm
logarithm_most hour = no_more (reaches hour) last_threshold

pub end_bounded : (m : Member) (moments hour : ℕ) → Bounded m → moments ≤ most_moment → EndBounded (end_at m moments hour)
end_bounded m moments hour bounds most = record {
  g_most =
      moment_stress_most (record { moments_fit = omega arith; eccentricity_fits = omega arith; some_inertia = omega arith })
      bounds.inertia;
  creep_fits = creep_most _ _;
  shrinkage_fits = shrinkage_most _ _;
  logarithm_fits = logarithm_most _;
}
