-- The loop keeps `Going`: h is what the turns so far make of T, and the turns that are left make the factor of it. Assumes nothing.
use native.Mathlib.Nat.{mul-le-mul}
use native.Mathlib.Omega.{arith}
use Rattle.exponential.proofs.Turns.{begins, goes, ends}
use Rattle.exponential.proofs.factor.Goals as goal

pub loop-k-init : goal.loop-k-init
loop-k-init c = begins _ c.requires

pub overflow_mul-h : goal.overflow_mul-h
overflow_mul-h c = omega (arith, mul-le-mul c.loop-k.invariant.low c.requires)

pub overflow_sub-h : goal.overflow_sub-h
overflow_sub-h c = (goes _ _ _ (omega arith) c.loop-k.invariant).0

pub loop-k-preserved : goal.loop-k-preserved
loop-k-preserved c = (goes _ _ _ (omega arith) c.loop-k.invariant).1

pub returns : goal.returns
returns c = ends _ _ _ (omega arith) c.loop-k.invariant
