-- The promise rests on it. κ, U and S; X and the length of a path, and the stress along it: document 01, "Steps", first lines and 1, and
-- document 02, W3, W5 and W9.
use Rattle.std.specs.Prelude.{ℕ, ◌+◌, ◌*◌, ◌/◌, ◌^◌, cond, List, [], ◌∷◌, eqb, take}
use Rattle.ticks.specs.Ticks.{ticks_per_unit, T}
use Rattle.fields.specs.declared.segments.Segment.{Segment}
use Rattle.fields.specs.Quantities.{parabola, bend, Quantities}
use Rattle.formulas.specs.Steps.{stress_left, kappa_unit}
use Rattle.coefficient.specs.declared.codes.Cure.{Cure}
use Rattle.coefficient.specs.declared.codes.Concrete.{Concrete}
use Rattle.coefficient.specs.Coefficients.{scf, ssf, mcf, ucr, ush}

-- what is left of it beside the ticks of e²
abbrev pub kappa_of_squares : ℕ
kappa_of_squares = 4096

-- "κ = Ap·2^32/A + 4096·Ap·e²/I, each part rounded"
abbrev pub kappa : ℕ → ℕ → ℕ → ℕ → ℕ
kappa steel_area area eccentricity inertia =
    steel_area * kappa_unit / area + kappa_of_squares * steel_area * (eccentricity * eccentricity) / inertia

abbrev pub creep_divisor : ℕ
creep_divisor = 439453125

abbrev pub shrinkage_divisor : ℕ
shrinkage_divisor = 10 ^ 8

-- "U = UCR·SCF·MCF/439,453,125"
abbrev pub whole_creep : Cure → Concrete → ℕ → ℕ → ℕ → ℕ
whole_creep cure concrete ec volume_to_surface transfer =
    ucr cure concrete ec * scf volume_to_surface * mcf cure transfer / creep_divisor

-- "S = USH·SSF/10^8"
abbrev pub whole_shrinkage : Concrete → ℕ → ℕ → ℕ
whole_shrinkage concrete ec volume_to_surface = ush concrete ec * ssf volume_to_surface / shrinkage_divisor

-- ---- "1. Friction"

abbrev pub million : ℕ
million = 1000000

-- "wobble·length·T/(1024·10^6)"
abbrev pub wobble_part : ℕ → Segment → ℕ
wobble_part wobble segment = wobble * segment.length * T / (ticks_per_unit * million)

-- "curvature·angle·T/10^6 .. angle = 2·rise/length (document 002), itself unrounded, or angle ticks/1024 for a bend"
abbrev pub curvature_part : ℕ → Segment → ℕ
curvature_part curvature segment =
    cond (eqb segment.kind bend) (curvature * segment.rise * T / (ticks_per_unit * million))
    (cond (eqb segment.kind parabola) (curvature * (2 * segment.rise) * T / (segment.length * million)) 0)

-- "X sums, per segment, .. rounded separately"
abbrev pub segment_friction : ℕ → ℕ → Segment → ℕ
segment_friction wobble curvature segment = wobble_part wobble segment + curvature_part curvature segment

unfoldable pub path_friction : ℕ → ℕ → List Segment → ℕ
path_friction wobble curvature [] = 0
path_friction wobble curvature (segment ∷ segments) =
    segment_friction wobble curvature segment + path_friction wobble curvature segments

-- document 02, W5: "path length P", in ticks of foot; "3 bend (length 0, ..": a bend adds none
unfoldable pub path_length : List Segment → ℕ
path_length [] = 0
path_length (segment ∷ segments) = segment.length + path_length segments

-- "Both stresses begin at the jacking stress", "(stress f in ticks)"
abbrev pub jacked : Quantities → ℕ
jacked q = q.jacking_stress * ticks_per_unit

-- X of a member's path, or of a part of it
abbrev pub friction_of : Quantities → List Segment → ℕ
friction_of q path = path_friction q.wobble q.curvature path

-- "the stress after j segments takes X of the first j", along either path; after none X is 0 and the factor T, so that it is the jacking
-- stress
abbrev pub stress_along : Quantities → List Segment → ℕ → ℕ
stress_along q path j = stress_left (jacked q) (friction_of q (take j path))
