-- The promise rests on it. The three clocks and the coefficients: document 01, "Hours and logarithms", "Coefficients". Each clock has a
-- type of its own: "a reading of one never enters another's table". No reading is taken before its clock starts, where a difference is 0.
use Rattle.std.specs.Prelude.{ℕ, ◌-◌, max, ◌*◌}
use Rattle.coefficient.specs.declared.codes.Kind.{Kind}
use Rattle.coefficient.specs.declared.clocks.MemberHours.{MemberHours}
use Rattle.coefficient.specs.declared.clocks.HoursSinceTransfer.{HoursSinceTransfer}
use Rattle.coefficient.specs.declared.clocks.HoursSinceCuring.{HoursSinceCuring}
use Rattle.coefficient.specs.declared.clocks.HoursSinceTensioning.{HoursSinceTensioning}
use Rattle.coefficient.specs.declared.codes.Cure.{Cure}
use Rattle.coefficient.specs.declared.codes.Concrete.{Concrete}
use Rattle.ticks.specs.Ticks.{T}
use Rattle.tables.specs.Tables.{reading, size_unit, mcf_unit, scf_rows, ssf_rows, mcf_rows, creep_rows, shrinkage_rows}

-- "Hours since transfer (creep)"
abbrev pub since_transfer : MemberHours → ℕ → HoursSinceTransfer
since_transfer hours hour = record { 0 = hour - hours.transfer }

-- "since the end of curing (shrinkage)"
abbrev pub since_curing : MemberHours → ℕ → HoursSinceCuring
since_curing hours hour = record { 0 = hour - hours.end_of_curing }

-- "Hour 0 is tensioning and casting for kind 1, casting for kind 2, whose steel is tensioned at transfer."
abbrev pub tensioning : Kind → ℕ → ℕ
tensioning Kind.Pretensioned transfer = 0
tensioning Kind.PostTensioned transfer = transfer

-- "since tensioning (relaxation)"; "Relaxation hours below 1 read 1."
abbrev pub since_tensioning : MemberHours → ℕ → HoursSinceTensioning
since_tensioning hours hour = record { 0 = max 1 (hour - tensioning hours.kind hours.transfer) }

-- SCF and SSF by volume/surface in ticks
unfoldable pub scf : ℕ → ℕ
unfolding reading
scf volume_to_surface = reading size_unit scf_rows volume_to_surface

unfoldable pub ssf : ℕ → ℕ
unfolding reading
ssf volume_to_surface = reading size_unit ssf_rows volume_to_surface

-- "MCF (moist only, else 1) by age at transfer", here in hours
unfoldable pub mcf : Cure → ℕ → ℕ
unfolding reading
mcf Cure.Moist transfer = reading mcf_unit mcf_rows transfer
mcf Cure.Accelerated transfer = mcf_unit

-- the creep share at a reading of its clock, which reads `life` at hour 438,000 of the member, "Rounded down to 1/T"
unfoldable pub creep_share : HoursSinceTransfer → HoursSinceTransfer → ℕ
unfolding reading
creep_share life clock = reading T (creep_rows life.0) clock.0

-- the shrinkage share at a reading of its clock
unfoldable pub shrinkage_share : HoursSinceCuring → HoursSinceCuring → ℕ
unfolding reading
shrinkage_share life clock = reading T (shrinkage_rows life.0) clock.0

-- "b = 95,000,000 moist normal, 76,000,000 moist lightweight, 63,000,000 accelerated"
abbrev pub ucr_base : Cure → Concrete → ℕ
ucr_base Cure.Moist Concrete.Normal = 95000000
ucr_base Cure.Moist Concrete.Lightweight = 76000000
ucr_base Cure.Accelerated concrete = 63000000

abbrev pub ucr_least : ℕ
ucr_least = 11000000

-- "UCR in millionths: b − 20 Ec, at least 11,000,000"
unfoldable pub ucr : Cure → Concrete → ℕ → ℕ
ucr cure concrete ec = max ucr_least (ucr_base cure concrete - 20 * ec)

abbrev pub ush_least : ℕ
ush_least = 12000000000

-- "USH in millionths of psi: 27·10^9 − 3,000 Ec normal, 41·10^9 − 10,000 Ec lightweight, at least 12·10^9"
unfoldable pub ush : Concrete → ℕ → ℕ
ush Concrete.Normal ec = max ush_least (27000000000 - 3000 * ec)
ush Concrete.Lightweight ec = max ush_least (41000000000 - 10000 * ec)
