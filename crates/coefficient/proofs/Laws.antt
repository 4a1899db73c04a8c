-- What callers use of the coefficients and clocks in place of their definitions. Each law of a table is one law over any rows,
-- cited at the table's own with a test that computes. Assumes nothing.
use mathlib.Core.Path.{◌≡◌}
use Prim.Native.Nat.{ℕ, ◌*◌, ◌≤◌}
use native.Mathlib.Omega.{arith}
use Rattle.logarithm.specs.Logarithm.{service_life}
use Rattle.coefficient.specs.declared.codes.Cure.{Cure}
use Rattle.coefficient.specs.declared.codes.Cure.TheVariants.{Moist, Accelerated}
use Rattle.coefficient.specs.declared.codes.Concrete.{Concrete}
use Rattle.coefficient.specs.declared.codes.Concrete.TheVariants.{Normal, Lightweight}
use Rattle.coefficient.specs.declared.clocks.MemberHours.{MemberHours}
use Rattle.coefficient.specs.declared.clocks.HoursSinceTransfer.{HoursSinceTransfer}
use Rattle.coefficient.specs.declared.clocks.HoursSinceCuring.{HoursSinceCuring}
use Rattle.coefficient.specs.Coefficients.{since_tensioning, scf, ssf, mcf, creep_share, shrinkage_share, ucr, ucr_base, ush}
use Rattle.tables.specs.Exact.{Exact}
use Rattle.tables.specs.Tables.{scf_rows, ssf_rows, mcf_rows, size_unit, mcf_unit, creep_rows, shrinkage_rows}
use Rattle.ticks.specs.Ticks.{T}
use Rattle.tables.proofs.Rows.{exact, within, past_last}

-- SCF is a whole number of 102,400ths at every volume/surface: nothing is rounded.
pub scf_exact : (volume_to_surface : ℕ) → Exact size_unit scf_rows volume_to_surface
scf_exact volume_to_surface = exact size_unit volume_to_surface tt scf_rows tt

-- SSF is a whole number of 102,400ths at every volume/surface.
pub ssf_exact : (volume_to_surface : ℕ) → Exact size_unit ssf_rows volume_to_surface
ssf_exact volume_to_surface = exact size_unit volume_to_surface tt ssf_rows tt

-- MCF is a whole number of 72,000ths at every hour of transfer.
pub mcf_exact : (transfer : ℕ) → Exact mcf_unit mcf_rows transfer
mcf_exact transfer = exact mcf_unit transfer tt mcf_rows tt

-- SCF lies between 0.68 and 1.05, in 102,400ths.
pub scf_range : (volume_to_surface : ℕ) → (69632 ≤ scf volume_to_surface) × (scf volume_to_surface ≤ 107520)
unfolding scf
scf_range volume_to_surface = within size_unit 68 105 volume_to_surface scf_rows tt

-- SSF lies between 0.60 and 1.04, in 102,400ths.
pub ssf_range : (volume_to_surface : ℕ) → (61440 ≤ ssf volume_to_surface) × (ssf volume_to_surface ≤ 106496)
unfolding ssf
ssf_range volume_to_surface = within size_unit 60 104 volume_to_surface ssf_rows tt

-- MCF lies between 0.60 and 1.14, in 72,000ths.
pub mcf_range : (cure : Cure) (transfer : ℕ) → (43200 ≤ mcf cure transfer) × (mcf cure transfer ≤ 82080)
unfolding mcf
mcf_range Moist transfer = within mcf_unit 60 114 transfer mcf_rows tt
mcf_range Accelerated transfer = omega arith

-- The creep share is never more than 1.
pub creep_most : (life clock : HoursSinceTransfer) → creep_share life clock ≤ T
unfolding creep_share
creep_most life clock = (within T 0 100 clock.0 (creep_rows life.0) tt).1

-- The shrinkage share is never more than 1.
pub shrinkage_most : (life clock : HoursSinceCuring) → shrinkage_share life clock ≤ T
unfolding shrinkage_share
shrinkage_most life clock = (within T 0 100 clock.0 (shrinkage_rows life.0) tt).1

-- The hours of the 365th day, the last in both tables of shares. Every member's life is longer.
abbrev pub last_day : ℕ
last_day = 24 * 365

-- The creep share is 1 from where its clock reads the member's life.
pub creep_whole : (life clock : HoursSinceTransfer) → last_day ≤ life.0 → life.0 ≤ clock.0 → creep_share life clock ≡ T
unfolding creep_share
creep_whole life clock long h = past_last T clock.0 (creep_rows life.0) (omega arith)

-- The shrinkage share is 1 from where its clock reads the member's life.
pub shrinkage_whole : (life clock : HoursSinceCuring) → last_day ≤ life.0 → life.0 ≤ clock.0 → shrinkage_share life clock ≡ T
unfolding shrinkage_share
shrinkage_whole life clock long h = past_last T clock.0 (shrinkage_rows life.0) (omega arith)

base_most : (cure : Cure) (concrete : Concrete) → ucr_base cure concrete ≤ 95000000
base_most Moist Normal = omega arith
base_most Moist Lightweight = omega arith
base_most Accelerated concrete = omega arith

-- UCR lies between 11 and 95, in millionths.
pub ucr_range : (cure : Cure) (concrete : Concrete) (ec : ℕ)
    → (11000000 ≤ ucr cure concrete ec) × (ucr cure concrete ec ≤ 95000000)
unfolding ucr
ucr_range cure concrete ec = let most = base_most cure concrete in omega arith

-- USH lies between 12,000 and 41,000 psi, in millionths.
pub ush_range : (concrete : Concrete) (ec : ℕ) → (12000000000 ≤ ush concrete ec) × (ush concrete ec ≤ 41000000000)
unfolding ush
ush_range Normal ec = omega arith
ush_range Lightweight ec = omega arith

-- Relaxation's clock reads at least 1.
pub since_tensioning_least : (hours : MemberHours) (hour : ℕ) → 1 ≤ (since_tensioning hours hour).0
since_tensioning_least hours hour = omega arith

-- Relaxation's clock reads at most the service life within it.
pub since_tensioning_most : (hours : MemberHours) (hour : ℕ) → hour ≤ service_life → (since_tensioning hours hour).0 ≤ service_life
since_tensioning_most hours hour h = omega arith
