-- The invariant: `reached` is in, and what lies `left` above it is not. The measure is `left`. Assumes nothing.
use Prim.Native.Nat.{ℕ, ◌+◌, ◌*◌, ◌≤◌, ◌<◌}
use Rattle.formulas.proofs.anchor.further.Given as goal

pub record Between (root rest above reached left : ℕ) : Type 0 where
  pub reaches : reached * (2 * root + reached) ≤ rest
  pub passes : rest < (reached + left) * (2 * root + (reached + left))
  pub some : 1 ≤ left
  pub within : reached + left ≤ above

abbrev pub invariant-loop-left : goal.invariant-loop-left
invariant-loop-left l = Between l.root l.rest l.above l.reached l.left

abbrev pub decreases-loop-left : goal.decreases-loop-left
decreases-loop-left l = l.left
