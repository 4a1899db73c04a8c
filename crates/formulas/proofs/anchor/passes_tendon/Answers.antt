-- A quotient is below a number just where what is divided is below the number times the divisor. Assumes nothing.
use mathlib.Core.Path.{◌≡◌}
use mathlib.Core.Logic.{◌↔◌}
use Prim.Native.Nat.{ℕ, ◌*◌, ◌/◌, ◌≤◌, ◌<◌}
use native.Mathlib.Nat.{div-lt_iff_lt-mul}
use lib.Dec.{ltb}
use borrow.Author.Tests.{lt-ltb, ltb-true}
use Rattle.std.proofs.lemmas.Bool.{ltb_from_iff}
use Rattle.formulas.proofs.anchor.passes_tendon.Goals as goal

quotient_below : (x divisor n : ℕ) → 1 ≤ divisor → ltb (x / divisor) n ≡ ltb x (n * divisor)
quotient_below x divisor n h =
    let below : (x / divisor < n) ↔ (x < n * divisor) = div-lt_iff_lt-mul h in
    ltb_from_iff ((λ so. below.0 (ltb-true _ _ so)), (λ so. lt-ltb _ _ (below.1 so)))

pub returns : goal.returns
returns c =
    let args = c.args in
    quotient_below (2 * args.friction * args.length) args.path_length args.drop c.requires.some_path
