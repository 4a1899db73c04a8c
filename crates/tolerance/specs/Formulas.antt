-- The promise rests on it. The formulas without rounding, beside `Tables`, `Constants` of `member` and `Steps` of `formulas`. SCF, SSF
-- and MCF are whole by themselves.
use Rattle.std.specs.Prelude.{ℕ, ◌-◌, ◌*◌, cond, List, [], ◌∷◌, ltb, eqb}
use Rattle.fraction.specs.Fraction.{Fraction, whole, ◌⊕◌, ◌⊖◌, ◌⊗◌, ◌÷◌, inverse, larger}
use Rattle.tables.specs.declared.Row.{Row}
use Rattle.tables.specs.Tables.{hundred, at, hundredths, weighed}
use Rattle.ticks.specs.Ticks.{ticks_per_unit, T}
use Rattle.coefficient.specs.Coefficients.{scf, ssf, mcf, ucr, ush}
use Rattle.fields.specs.declared.segments.Segment.{Segment}
use Rattle.fields.specs.Quantities.{Quantities, parabola, bend}
use Rattle.member.specs.Constants.{million, kappa_of_squares, creep_divisor, shrinkage_divisor}
use Rattle.member.specs.Member.{cure_of, concrete_of}
use Rattle.coefficient.specs.declared.codes.Steel.{Steel}
use Rattle.formulas.specs.Steps.{relaxation_divisor, kappa_unit}

-- "wobble·length·T/(1024·10^6)"
abbrev pub wobble_part : ℕ → Segment → Fraction
wobble_part wobble segment = (wobble * segment.length * T) ÷ (ticks_per_unit * million)

-- "curvature·angle·T/10^6"
abbrev pub curvature_part : ℕ → Segment → Fraction
curvature_part curvature segment =
    cond (eqb segment.kind bend) ((curvature * segment.rise * T) ÷ (ticks_per_unit * million))
    (cond (eqb segment.kind parabola) ((curvature * (2 * segment.rise) * T) ÷ (segment.length * million)) (whole 0))

-- X
unfoldable pub path_friction : ℕ → ℕ → List Segment → Fraction
path_friction wobble curvature [] = whole 0
path_friction wobble curvature (segment ∷ segments) =
    wobble_part wobble segment ⊕ curvature_part curvature segment ⊕ path_friction wobble curvature segments

-- "κ = Ap·2^32/A + 4096·Ap·e²/I"
abbrev pub kappa : Quantities → Fraction
kappa q =
    (q.steel_area * kappa_unit) ÷ q.area ⊕ (kappa_of_squares * q.steel_area * (q.eccentricity * q.eccentricity)) ÷ q.inertia

-- "U = UCR·SCF·MCF/439,453,125"
abbrev pub whole_creep : Quantities → Fraction
whole_creep q =
    (ucr (cure_of q.cure) (concrete_of q.concrete) q.Ec * scf q.volume_to_surface * mcf (cure_of q.cure) q.transfer)
    ÷ creep_divisor

-- "S = USH·SSF/10^8"
abbrev pub whole_shrinkage : Quantities → Fraction
whole_shrinkage q = (ush (concrete_of q.concrete) q.Ec * ssf q.volume_to_surface) ÷ shrinkage_divisor

-- a table of rows, between them
unfoldable pub along : ℕ → ℕ → Row → List Row → Fraction
along unit x low [] = (unit * hundredths low) ÷ hundred
along unit x low (high ∷ rows) =
    cond (ltb x (at high)) ((unit * weighed x low high) ÷ (hundred * (at high - at low))) (along unit x high rows)

-- the share that is done when a clock reads `hours`, by the rows of its table; in 1/T, not rounded
abbrev pub share_of : List Row → ℕ → Fraction
share_of [] hours = whole 0
share_of (first ∷ rows) hours = along T hours first rows

-- "Slip Es·slip·1024/(12·length)"
abbrev pub slip_loss : ℕ → ℕ → ℕ → Fraction
slip_loss es slip length = (es * slip * ticks_per_unit) ÷ (12 * length)

-- "Y = 0.85 F or 0.90 F (steel 1, 2) in ticks"
abbrev pub yield : Steel → ℕ → Fraction
yield Steel.StressRelieved ultimate_strength = (85 * ultimate_strength * ticks_per_unit) ÷ 100
yield Steel.LowRelaxation ultimate_strength = (90 * ultimate_strength * ticks_per_unit) ÷ 100

-- "q the larger of f·T/Y − 0.55 T and 0.05 T"
abbrev pub relaxation_factor : Fraction → Fraction → Fraction
relaxation_factor stress y = larger (stress ⊗ whole T ⊗ inverse y ⊖ (55 * T) ÷ 100) ((5 * T) ÷ 100)

-- "relaxation (f·ΔL/D)·q/T"
abbrev pub relaxation_loss : Steel → ℕ → Fraction → Fraction → Fraction
relaxation_loss steel ultimate_strength stress logarithms =
    stress ⊗ logarithms ⊗ (1 ÷ relaxation_divisor steel) ⊗ relaxation_factor stress (yield steel ultimate_strength) ⊗ (1 ÷ T)

-- "g = M·e/I"
abbrev pub moment_stress : ℕ → ℕ → ℕ → Fraction
moment_stress moments eccentricity inertia = (moments * eccentricity) ÷ inertia

-- "c = f·κ/2^32 − g", and each loss is "0 if c ≤ 0"
abbrev pub concrete_stress : Fraction → Fraction → Fraction → Fraction
concrete_stress stress kappa g = larger (stress ⊗ kappa ⊗ (1 ÷ kappa_unit) ⊖ g) (whole 0)

-- "loss Es·c/(Eci + Es·κ/2^32)"
abbrev pub shortening_loss : ℕ → ℕ → Fraction → Fraction → Fraction
shortening_loss es eci kappa c = whole es ⊗ c ⊗ inverse (whole eci ⊕ whole es ⊗ kappa ⊗ (1 ÷ kappa_unit))

-- "creep W·c/T, W = U·share/T"
abbrev pub creep_loss : Fraction → Fraction → Fraction → Fraction
creep_loss whole_creep share c = whole_creep ⊗ share ⊗ (1 ÷ T) ⊗ c ⊗ (1 ÷ T)

-- "shrinkage S·share/T"
abbrev pub shrinkage_loss : Fraction → Fraction → Fraction
shrinkage_loss whole_shrinkage share = whole_shrinkage ⊗ share ⊗ (1 ÷ T)

-- document 02, W1: "Es times the rise of g over Ec"
abbrev pub moment_gain : ℕ → ℕ → Fraction → Fraction
moment_gain es ec rise = whole es ⊗ rise ⊗ (1 ÷ ec)
