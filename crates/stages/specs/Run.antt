-- The promise rests on it. The losses in their order and the stress that each leaves: document 01, "Steps", and row "stress", with slip
-- by document 02, W5, and two paths by W9. At each age the gain follows, and the stress after it: document 02, W1.
use Rattle.std.specs.Prelude.{ℕ, ◌+◌, ◌-◌, ◌*◌, suc, cond, leb, List, [], ◌∷◌, Option, Some, None, Ok, Err}
use Rattle.fields.specs.declared.refusal.Refusal.{Refusal}
use Rattle.fields.specs.Outcomes.{OrRefusal, onward, Outcome}
use Rattle.fields.specs.Limits.{least_stress, most_of_strength, hundredths}
use Rattle.ticks.specs.Ticks.{ticks_per_unit}
use Rattle.logarithm.specs.Logarithm.{logarithm, service_life}
use Rattle.coefficient.specs.declared.codes.Kind.{Kind}
use Rattle.coefficient.specs.Coefficients.{since_tensioning, since_transfer, since_curing, creep_share, shrinkage_share}
use Rattle.member.specs.declared.Member.{Member}
use Rattle.member.specs.declared.path.Path.{Path}
use Rattle.formulas.specs.Steps.{friction_loss, dies_out, drop_at_jack, passes_tendon, drop_at_section, slip_loss, deflector_ticks}
use Rattle.formulas.specs.Steps.{relaxation_loss, moment_stress, concrete_stress, shortening_loss, creep_loss, shrinkage_loss, moment_gain}
use Rattle.stages.specs.declared.path.Seated.{Seated}
use Rattle.stages.specs.declared.before.BeforeAges.{BeforeAges}
use Rattle.fields.specs.declared.segments.Age.{Age}
use Rattle.fields.specs.Quantities.{Quantities, quantities_read}
use Rattle.stages.specs.declared.ends.End.{End}
use Rattle.stages.specs.declared.intervals.Losses.{Losses}
use Rattle.stages.specs.declared.intervals.Row.{Row}
use Rattle.member.specs.Member.{checked_of}

-- what a loss leaves of a stress, or "under 1,000 psi after a loss", also where the loss exceeds the stress
abbrev pub after : ℕ → ℕ → ℕ → OrRefusal ℕ
after place stress loss = cond (leb (loss + least_stress) stress) (Ok (stress - loss)) (Err (Refusal.Stress place))

-- "0 before ages, else age's number"
abbrev pub before_ages : ℕ
before_ages = 0

-- ---- friction and slip

-- the stress at the jack
abbrev pub jacked : Member → ℕ
jacked m = m.jacking_stress * ticks_per_unit

-- "1. Friction", by document 02, W3, along a path
abbrev pub friction_along : Member → Path → ℕ
friction_along m path = friction_loss (jacked m) path.friction

-- "2. Slip", by document 02, W5: the drop at the section where slip dies out along the path, or "12 when the affected length .. passes
-- the tendon length"; else by document 01
abbrev pub slip_along : Member → Path → OrRefusal ℕ
slip_along m path =
    let d = friction_along m path in
    let z = drop_at_jack d m.es m.slip path.length in
    cond (dies_out d path.length)
    (cond (passes_tendon z d path.length m.length) (Err Refusal.AnchorSet) (Ok (drop_at_section z d)))
    (Ok (slip_loss m.es m.slip m.length))

-- along one path, friction, slip and the stress after both; 12 is "checked at the slip ahead of number 7"
abbrev pub seated_alone : Member → Path → OrRefusal Seated
seated_alone m path =
    onward (after before_ages (jacked m) (friction_along m path)) (λ rubbed.
    onward (slip_along m path) (λ slip.
    onward (after before_ages rubbed slip) (λ stress.
    Ok (record { friction = friction_along m path; slip = slip; stress = stress }))))

-- document 02, W9: "The stress after friction and slip is worked out for both paths by the same rules". Where they take more than there is
-- it is 0 here, which 7 does not let pass.
abbrev pub seated_along : Member → Path → OrRefusal Seated
seated_along m path =
    let friction = friction_along m path in
    onward (slip_along m path) (λ slip. Ok (record { friction = friction; slip = slip; stress = jacked m - friction - slip }))

-- "and the larger goes on, the first path's if they are equal"
abbrev pub larger : Seated → Seated → Seated
larger first second = cond (leb second.stress first.stress) first second

-- "The friction and slip reported are those of the path that goes on, and number 7 looks at that one alone", after each of the two
abbrev pub looked_at : Member → Seated → OrRefusal Seated
looked_at m given =
    onward (after before_ages (jacked m) given.friction) (λ rubbed.
    onward (after before_ages rubbed given.slip) (λ left. Ok given))

-- "12 look at both paths, ahead of any 7 if there are two"
abbrev pub seated_both : Member → Path → Path → OrRefusal Seated
seated_both m first second =
    onward (seated_along m first) (λ one. onward (seated_along m second) (λ other. looked_at m (larger one other)))

unfoldable pub seated_by : Member → Path → Option Path → OrRefusal Seated
seated_by m path None = seated_alone m path
seated_by m first (Some second) = seated_both m first second

abbrev pub seated : Member → OrRefusal Seated
seated m = seated_by m m.paths.first m.paths.second

-- ---- deflector, early relaxation and shortening

-- "Then deflector loss, whole psi."
abbrev pub deflector_of : Member → ℕ
deflector_of m = deflector_ticks m.deflector_loss

-- the logarithm of relaxation's clock at an hour of the member
abbrev pub relaxation_logarithm : Member → ℕ → ℕ
relaxation_logarithm m hour = logarithm (since_tensioning m.hours hour).0

-- "3. Kind 1: relaxation from hour 1 to transfer."
abbrev pub early_relaxation : Kind → Member → ℕ → ℕ
early_relaxation Kind.Pretensioned m stress =
    relaxation_loss m.steel m.ultimate_strength stress (relaxation_logarithm m m.hours.transfer - logarithm 1)
early_relaxation Kind.PostTensioned m stress = 0

abbrev pub early_relaxation_of : Member → ℕ → ℕ
early_relaxation_of m stress = early_relaxation m.hours.kind m stress

-- g, M being "all moments so far"
abbrev pub moment_stress_of : Member → ℕ → ℕ
moment_stress_of m moments = moment_stress moments m.eccentricity m.inertia

-- "4. Shortening"
abbrev pub shortening_of : Member → ℕ → ℕ
shortening_of m stress =
    shortening_loss m.es m.eci m.kappa (concrete_stress stress m.kappa (moment_stress_of m m.own_weight_moment))

-- the losses after slip, each from the stress that the one before it leaves
abbrev pub begun_from : Member → Seated → OrRefusal BeforeAges
begun_from m given =
    onward (after before_ages given.stress (deflector_of m)) (λ deflected.
    onward (after before_ages deflected (early_relaxation_of m deflected)) (λ relaxed.
    onward (after before_ages relaxed (shortening_of m relaxed)) (λ shortened.
    Ok (record {
      friction = given.friction;
      slip = given.slip;
      deflector = deflector_of m;
      early_relaxation = early_relaxation_of m deflected;
      shortening = shortening_of m relaxed;
      stress = shortened;
    }))))

-- the five losses before the ages
unfoldable pub begun_of : Member → OrRefusal BeforeAges
unfolding seated_by
begun_of m = onward (seated m) (begun_from m)

-- ---- "5. Per age"

-- what stands at an end of an interval, at an hour of the member: "all moments so far" and g, the shares that are done, and the
-- logarithm of relaxation's clock
abbrev pub end_at : Member → ℕ → ℕ → End
end_at m moments hour = record {
  moments = moments;
  g = moment_stress_of m moments;
  creep = creep_share (since_transfer m.hours service_life) (since_transfer m.hours hour);
  shrinkage = shrinkage_share (since_curing m.hours service_life) (since_curing m.hours hour);
  logarithm = relaxation_logarithm m hour;
}

-- the first interval starts at transfer, under own weight
abbrev pub transfer_end : Member → End
transfer_end m = end_at m m.own_weight_moment m.hours.transfer

-- the three losses, "from f and moments at the interval's start"; "an interval's share is the difference of its ends"
abbrev pub losses_between : Member → ℕ → End → End → Losses
losses_between m stress start end = record {
  creep = creep_loss m.creep (end.creep - start.creep) (concrete_stress stress m.kappa start.g);
  shrinkage = shrinkage_loss m.shrinkage (end.shrinkage - start.shrinkage);
  relaxation = relaxation_loss m.steel m.ultimate_strength stress (end.logarithm - start.logarithm);
}

-- "All three leave f together."
abbrev pub together : Losses → ℕ
together losses = losses.creep + losses.shrinkage + losses.relaxation

-- document 02, W1: "After the losses of the interval ending at an age with an added moment, the stress rises by Es times the rise of g
-- over Ec". g never falls from one end to the next; without a moment it stays, and the gain is 0.
abbrev pub gain_between : Member → End → End → ℕ
gain_between m start end = moment_gain m.es m.ec (end.g - start.g)

-- what a gain makes of a stress, or "11 when the stress after a gain passes 0.80 F", unrounded; "place the age's number"
abbrev pub lifted : ℕ → ℕ → ℕ → ℕ → OrRefusal ℕ
lifted number ultimate_strength stress gain =
    cond (leb (hundredths * (stress + gain)) (most_of_strength * ultimate_strength * ticks_per_unit)) (Ok (stress + gain))
    (Err (Refusal.Overstress number))

-- "creep, shrinkage, relaxation, stress per age", and the gain "as a fifth per age, after the stress, which is that after the gain"
abbrev pub row_of : Losses → ℕ → ℕ → Row
row_of losses stress gain = record {
  creep = losses.creep;
  shrinkage = losses.shrinkage;
  relaxation = losses.relaxation;
  stress = stress;
  gain = gain;
}

-- the row of the age of this number, at which the interval ends: 7 is "after a loss", 11 "right after that gain"
abbrev pub row_between : Member → ℕ → ℕ → End → End → OrRefusal Row
row_between m number stress start end =
    let losses = losses_between m stress start end in
    let gain = gain_between m start end in
    onward (after number stress (together losses)) (λ left.
    onward (lifted number m.ultimate_strength left gain) (λ risen.
    Ok (row_of losses risen gain)))

-- what all ages give: their rows, and the stress after the last
pub record Aged : Type 0 where
  pub rows : List Row
  pub last : ℕ

abbrev pub behind : Row → Aged → Aged
behind row later = record { rows = row ∷ later.rows; last = later.last }

-- ages that follow `passed` others, from the stress and the end at which the first interval starts. An age's moment stands at its own
-- end, so that it counts in the losses of later intervals alone, and in the gain at its age.
unfoldable pub aged_from : Member → ℕ → ℕ → End → List Age → OrRefusal Aged
aged_from m passed stress start [] = Ok (record { rows = []; last = stress })
aged_from m passed stress start (age ∷ ages) =
    let end = end_at m (start.moments + age.moment) age.hour in
    onward (row_between m (suc passed) stress start end) (λ row.
    onward (aged_from m (suc passed) row.stress end ages) (λ later.
    Ok (behind row later)))

-- what an accepted run gives: the losses before the ages, the rows of the report and the last stress
pub record Report : Type 0 where
  pub before : BeforeAges
  pub rows : List Row
  pub last : ℕ

-- the ages of a member, from what is left before them
abbrev pub report_from : Member → List Age → BeforeAges → OrRefusal Report
report_from m ages before =
    onward (aged_from m 0 before.stress (transfer_end m) ages) (λ aged.
    Ok (record { before = before; rows = aged.rows; last = aged.last }))

-- an accepted member's run
unfoldable pub member_result : Member → List Age → OrRefusal Report
unfolding begun_of aged_from
member_result m ages = onward (begun_of m) (report_from m ages)

-- what quantities give, with room for so many numbers in report and scratch
abbrev pub result_of : Quantities → ℕ → ℕ → OrRefusal Report
result_of q report scratch = onward (checked_of q report scratch) (λ m. member_result m q.ages)

-- what a card or a list gives that reads so
abbrev pub result_read : Outcome → ℕ → ℕ → OrRefusal Report
result_read outcome report scratch = onward (quantities_read outcome) (λ q. result_of q report scratch)
