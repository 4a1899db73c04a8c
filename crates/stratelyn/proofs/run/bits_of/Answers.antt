-- The bits of a double of the machine read back as that double. Assumes nothing.
use mathlib.Core.Path.{refl}
use lib.Ieee.{binary64}
use lib.Ieee.Bits.{of_bits-to_bits}
use Rattle.stratelyn.proofs.run.bits_of.Goals as goal

pub returns : goal.returns
returns c =
    let fit = c.well_formed.0.1 in
    record { bits = refl; back = of_bits-to_bits binary64 c.args.double (rw fit tt) }
