-- The invariant: `reached` is in, and what lies `left` above it is not. The measure is `left`. Assumes nothing.
use Prim.Native.Nat.{ℕ, ◌+◌, ◌*◌, ◌/◌, ◌≤◌}
use native.Mathlib.Nat.{mul-le-mul}
use native.Mathlib.Omega.{arith}
use Rattle.formulas.proofs.anchor.further.Goals as goal
use Rattle.formulas.proofs.anchor.further.Goals.{then-middle-root, else-middle-root}

-- the product rises with n
grows : (root m n : ℕ) → m ≤ n → m * (2 * root + m) ≤ n * (2 * root + n)
grows root m n h = mul-le-mul h (omega arith)

pub overflow_mul-middle : goal.overflow_mul-middle
overflow_mul-middle c =
    let args = c.args in
    let at = c.loop-left in
    omega (arith, grows args.root (at.reached + at.left / 2 + 1) args.above (omega arith))

pub returns : goal.returns
returns c =
    let at = c.loop-left in
    record {
      below = omega arith;
      reached = omega arith;
      passed = omega (arith, grows c.args.root (at.reached + at.left) (at.reached + 1) (omega arith));
    }

pub loop-left-preserved : goal.loop-left-preserved
loop-left-preserved c =
    let root = c.args.root in
    let at = c.loop-left in
    let middle = at.reached + at.left / 2 in
    let reached = c.if-middle-root.reached in
    let left = (at.left + 1) / 2 in
    elim c.if-middle-root.branch [
      | then-middle-root w ↦
          record {
            reaches = omega (arith, grows root reached middle (omega arith));
            passes = omega (arith, grows root (at.reached + at.left) (reached + left) (omega arith));
            some = omega arith;
            within = omega arith;
          }
      | else-middle-root w ↦
          record {
            reaches = omega (arith, grows root reached at.reached (omega arith));
            passes = omega (arith, grows root middle (reached + left) (omega arith));
            some = omega arith;
            within = omega arith;
          }
    ]
