-- The whole Ec in a rise divide exactly, so that only what is left of the rise is rounded. Assumes nothing.
use mathlib.Core.Path.{◌≡◌, ap}
use Prim.Native.Nat.{ℕ, ◌+◌, ◌*◌, ◌/◌, ◌%◌, ◌<◌}
use native.Mathlib.Nat.{div-add-mod', add-mul-div_right}
use native.Mathlib.Omega.{arith}
use Rattle.formulas.specs.Steps.{moment_gain}
use Rattle.formulas.specs.Conditions.{GainFits}
use Rattle.formulas.proofs.moment_gain.Goals as goal

module _ {es ec rise : ℕ} (fits : GainFits es ec rise) where
  some_ec : 0 < ec
  some_ec = omega (arith, fits.ec_least)

  in_parts : es * (rise / ec) + es * (rise % ec) / ec ≡ moment_gain es ec rise
  in_parts =
      let whole : es * (rise % ec) + es * (rise / ec) * ec ≡ es * rise
      = omega (arith, ap (λ (n : ℕ). es * n) (div-add-mod' rise ec)) in
      omega (arith, ap (λ (n : ℕ). n / ec) whole, add-mul-div_right (es * (rise % ec)) (es * (rise / ec)) some_ec)

pub returns : goal.returns
returns c = in_parts c.requires
