-- The loop keeps `Going`: h is what the turns so far make of T, and the turns that are left make the factor of it. Assumes nothing.
use Rattle.exponential.proofs.Turns.{Going}
use Rattle.exponential.proofs.factor.Given as goal

abbrev pub invariant-loop-k : goal.invariant-loop-k
invariant-loop-k l = Going l.x l.h l.k
