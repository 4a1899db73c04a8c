-- Z² times 3·path is at most 1024·d·Es·slip just where Z² is at most the quotient, which is taken in whole 1,024s and 1,024th parts.
-- Assumes nothing.
use mathlib.Core.Path.{◌≡◌}
use Prim.Native.Nat.{ℕ, suc, ◌+◌, ◌*◌, ◌/◌, ◌%◌, ◌≤◌}
use native.Mathlib.Nat.{div-add-mod', mul-div-le, lt-mul-div-succ, mul-le-mul_left}
use native.Mathlib.Omega.{arith}
use borrow.Author.Tests.{le-leb, lt-leb}
use Rattle.ticks.specs.Ticks.{ticks_per_unit}
use Rattle.formulas.specs.Steps.{IsDropAtJack, drop_at_jack}
use Rattle.formulas.specs.Conditions.{DropFits}
use Rattle.formulas.specs.Roots.{Root}
use Rattle.formulas.proofs.Drop.{one_drop}
use Rattle.formulas.proofs.anchor.drop_at_jack.Goals as goal

module _ {d es slip path_length : ℕ} (fits : DropFits d es slip path_length) where
  -- 3·path
  abbrev divisor : ℕ
  divisor = 3 * path_length

  some_divisor : 1 ≤ divisor
  some_divisor = omega (arith, fits.some_path)

  -- 1,024 times it over the divisor is Z² at the most
  abbrev product : ℕ
  product = d * es * slip

  module _ (z : ℕ) (root : Root (ticks_per_unit * (product / divisor) + ticks_per_unit * (product % divisor) / divisor) z) where
    is_drop : IsDropAtJack d es slip path_length z
    is_drop = record {
      covered =
          le-leb (z * z * (12 * path_length)) (4 * d * (es * ticks_per_unit) * slip)
          (omega (
            arith,
            mul-le-mul_left divisor root.reached,
            mul-div-le (ticks_per_unit * (product % divisor)) divisor,
            div-add-mod' product divisor,
          ));
      next_not_covered =
          lt-leb (suc z * suc z * (12 * path_length)) (4 * d * (es * ticks_per_unit) * slip)
          (omega (
            arith,
            mul-le-mul_left divisor root.passed,
            lt-mul-div-succ (ticks_per_unit * (product % divisor)) some_divisor,
            div-add-mod' product divisor,
          ));
    }

    found : z ≡ drop_at_jack d es slip path_length
    found = one_drop d es slip path_length fits.some_path z is_drop

pub returns : goal.returns
returns c = found c.requires c.root_of_ticks.result c.root_of_ticks.ensures
