-- The promise rests on it. Which refusal quantities get, row by row from codes to creep, or the accepted member.
use Rattle.std.specs.Prelude.{ℕ, ◌+◌, ◌*◌, cond, List, [], ◌∷◌, ◌++◌, eqb, length, Option, Some, None}
use Rattle.fields.specs.declared.refusal.Refusal.{Refusal}
use Rattle.fields.specs.Outcomes.{OrRefusal}
use Rattle.fields.specs.declared.segments.Segment.{Segment}
use Rattle.fields.specs.Quantities.{Quantities, is_pretensioned, has_second_path}
use Rattle.coefficient.specs.declared.codes.Kind.{Kind}
use Rattle.coefficient.specs.declared.codes.Cure.{Cure}
use Rattle.coefficient.specs.declared.codes.Concrete.{Concrete}
use Rattle.coefficient.specs.declared.codes.Steel.{Steel}
use Rattle.coefficient.specs.declared.clocks.MemberHours.{MemberHours}
use Rattle.member.specs.declared.Member.{Member}
use Rattle.member.specs.declared.path.Path.{Path}
use Rattle.member.specs.declared.path.Paths.{Paths}
use Rattle.member.specs.Constants.{path_length, friction_of, kappa, whole_creep, whole_shrinkage}
use Rattle.checks.specs.Rows.{CheckRow, row, checked_by, codes, ranges, hours, kind_row, second_path_row, friction_row, path_lengths_row}
use Rattle.checks.specs.Rows.{buffers, section, creep}

-- "kind (1 pretensioned, 2 post-tensioned)", "steel (1 stress-relieved, 2 low-relaxation)", "cure (1 moist, 2 accelerated)",
-- "concrete (1 normal, 2 lightweight)"
abbrev pub kind_of : ℕ → Kind
kind_of code = cond (eqb code 1) Kind.Pretensioned Kind.PostTensioned

abbrev pub steel_of : ℕ → Steel
steel_of code = cond (eqb code 1) Steel.StressRelieved Steel.LowRelaxation

abbrev pub cure_of : ℕ → Cure
cure_of code = cond (eqb code 1) Cure.Moist Cure.Accelerated

abbrev pub concrete_of : ℕ → Concrete
concrete_of code = cond (eqb code 1) Concrete.Normal Concrete.Lightweight

-- what starts the clocks
abbrev pub hours_of : Quantities → MemberHours
hours_of q = record { kind = kind_of q.kind; end_of_curing = q.end_of_curing; transfer = q.transfer }

-- X and the length of each path
abbrev pub path_of : Quantities → List Segment → Path
path_of q path = record { friction = friction_of q path; length = path_length path }

abbrev pub second_path_of : Quantities → Option Path
second_path_of q = cond (has_second_path q) (Some (path_of q q.second_path)) None

abbrev pub paths_of : Quantities → Paths
paths_of q = record { first = path_of q q.path; second = second_path_of q }

-- κ, U and S
abbrev pub kappa_of : Quantities → ℕ
kappa_of q = kappa q.steel_area q.area q.eccentricity q.inertia

abbrev pub creep_of : Quantities → ℕ
creep_of q = whole_creep (cure_of q.cure) (concrete_of q.concrete) q.Ec q.volume_to_surface q.transfer

abbrev pub shrinkage_of : Quantities → ℕ
shrinkage_of q = whole_shrinkage (concrete_of q.concrete) q.Ec q.volume_to_surface

-- what the steps take of the quantities
unfoldable pub member_of : Quantities → Member
member_of q = record {
  hours = hours_of q;
  steel = steel_of q.steel;
  ultimate_strength = q.ultimate_strength;
  jacking_stress = q.jacking_stress;
  deflector_loss = q.deflector_loss;
  slip = q.slip;
  length = q.tendon_length;
  es = q.Es;
  eci = q.Eci;
  ec = q.Ec;
  inertia = q.inertia;
  eccentricity = q.eccentricity;
  own_weight_moment = q.own_weight_moment;
  paths = paths_of q;
  kappa = kappa_of q;
  creep = creep_of q;
  shrinkage = shrinkage_of q;
}

-- ---- "Refusal by place of checking, top to bottom"

abbrev pub codes_to_hours : Quantities → List CheckRow
codes_to_hours q = row Refusal.Codes (codes q) ∷ row Refusal.Ranges (ranges q) ∷ row Refusal.Hours (hours q) ∷ []

-- document 02, W9: "4 place 1 (first path only)", 14 "checked right after" it; "4 place 2 .. look at both paths"; 15 "checked after number
-- 4"
abbrev pub duct_rows : Quantities → List CheckRow
duct_rows q =
    kind_row (is_pretensioned q) (length q.path) ∷ second_path_row (is_pretensioned q) (length q.second_path)
    ∷ friction_row (friction_of q q.path) ∷ friction_row (friction_of q q.second_path)
    ∷ path_lengths_row (has_second_path q) (path_length q.path + path_length q.second_path) q.tendon_length ∷ []

abbrev pub codes_to_duct : Quantities → List CheckRow
codes_to_duct q = codes_to_hours q ++ duct_rows q

-- with room for so many numbers in report and scratch
abbrev pub buffers_to_creep : Quantities → ℕ → ℕ → List CheckRow
buffers_to_creep q report scratch =
    row Refusal.Buffers (buffers (length q.ages) report scratch) ∷ row (λ place. Refusal.Section) (section (kappa_of q))
    ∷ row (λ place. Refusal.Creep) (creep (creep_of q * kappa_of q)) ∷ []

unfoldable pub checked_of : Quantities → ℕ → ℕ → OrRefusal Member
unfolding checked_by member_of
checked_of q report scratch = checked_by (codes_to_duct q ++ buffers_to_creep q report scratch) (member_of q)
