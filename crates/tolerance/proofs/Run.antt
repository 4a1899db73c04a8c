-- What an accepted run says of itself. A run goes on after a loss only where the loss leaves 1,000 psi, so from the reported
-- numbers each loss and stress is read off, and no difference of naturals is cut at 0; and after a gain only where that does not lead
-- past 0.80 F: `Began` for the five losses before the ages, `AgesRun` for the ages. From these alone it follows that the stress rises
-- at an age by just its gain, that the ages' losses and the last stress add up to the stress before them and their gains, and that the
-- last of them is the reported last stress. Assumes nothing.
use mathlib.Core.Path.{◌≡◌, refl, ap, subst}
use mathlib.Core.Bool.{Bool, true, false, cond}
use mathlib.Core.List.{List, [], ◌∷◌}
use Prim.Native.Nat.{ℕ, suc, ◌+◌, ◌-◌, ◌≤◌}
use native.Mathlib.Nat.{add-zero, sub_self, mul-zero, zero-div}
use native.Mathlib.Omega.{arith}
use borrow.Author.Tests.{leb-true, leb-false, ltb-false, le-ltb, lt-ltb}
use lib.Dec.{leb, ltb}
use lib.ListN.{length, get_or}
use Rattle.std.specs.Prelude.{Some, None, Ok}
use Rattle.fields.specs.Outcomes.{OrRefusal, onward}
use Rattle.fields.specs.declared.segments.Segment.{Segment}
use Rattle.fields.specs.declared.segments.Age.{Age}
use Rattle.fields.specs.Quantities.{Quantities, has_second_path}
use Rattle.fields.specs.Limits.{least_stress}
use Rattle.fields.proofs.Onward.{through}
use Rattle.member.specs.Member.{path_of, member_of}
use Rattle.member.specs.Facts.{Facts}
use Rattle.member.specs.Constants.{jacked, path_length}
use Rattle.formulas.specs.Steps.{drop_at_section, slip_loss, deflector_ticks, moment_gain}
use Rattle.formulas.proofs.Drop.{both_above, is_drop}
use Rattle.stages.specs.declared.path.Seated.{Seated}
use Rattle.stages.specs.declared.before.BeforeAges.{BeforeAges}
use Rattle.stages.specs.declared.ends.End.{End}
use Rattle.stages.specs.declared.intervals.Losses.{Losses}
use Rattle.stages.specs.declared.intervals.Row.{Row}
use Rattle.stages.specs.Run.{after, before_ages, slip_along as stages_slip, seated_alone, seated_along, larger, looked_at, seated_by}
use Rattle.stages.specs.Run.{seated}
use Rattle.stages.specs.Run.{early_relaxation_of, shortening_of, begun_of, end_at, transfer_end}
use Rattle.stages.specs.Run.{losses_between, together, lifted, gain_between, row_of, row_between, Aged, aged_from, Report, member_result}
use Rattle.stages.proofs.Leaving.{same_value, after_gives, lifted_gives}
use Rattle.stages.proofs.Seating.{alone_is, along_is, looked_is}
use Rattle.stages.proofs.Slipping.{given_over_the_tendon, given_at_the_section}
use Rattle.tolerance.specs.Demand.{core_after_deflector, core_after_early, stresses_of, losses_before, losses_of_rows, gains_of_rows}
use Rattle.tolerance.specs.Demand.{OfEachPath, friction_along, slip_dies_out, drop_along, slip_along, left_along, goes_on, SlipIsExact}
use Rattle.tolerance.specs.Demand.{g_under, RisesByGain, EachRisesByGain}
use Rattle.tolerance.specs.Demand.{no_age as none_rises, an_age as one_rises}
use Rattle.tolerance.proofs.Bounds.{Low, moment_rises}

-- ---- what a run that is not refused went through

went_on : {B : Type 0} {b : B} (place stress loss : ℕ) (next : ℕ → OrRefusal B) → onward (after place stress loss) next ≡ Ok b
    → (loss + least_stress ≤ stress) × (next (stress - loss) ≡ Ok b)
went_on place stress loss next e =
    let gave = through (after place stress loss) next e in
    let (fits, is) = after_gives place stress loss gave.from gave.given_is in
    (fits, rw is at gave.next_is)

rises_on : {B : Type 0} {b : B} (q : Quantities) (number stress gain : ℕ) (next : ℕ → OrRefusal B)
    → onward (lifted number q.ultimate_strength stress gain) next ≡ Ok b → Low q (stress + gain) × (next (stress + gain) ≡ Ok b)
rises_on q number stress gain next e =
    let gave = through (lifted number q.ultimate_strength stress gain) next e in
    let (low, is) = lifted_gives number q.ultimate_strength stress gain gave.from gave.given_is in
    (low, rw is at gave.next_is)

-- ---- before the ages

-- a slip that is given along a path is the one that the demand takes; where it dies out, by its two squares
module _ (q : Quantities) (path : List Segment) {slip : ℕ} (given : stages_slip (member_of q) (path_of q path) ≡ Ok slip) where
  slip_is : slip ≡ slip_along q path
  unfolding member_of
  slip_is = by (slip_dies_out q path) refl
    where
      by : (dies : Bool) → slip_dies_out q path ≡ dies
          → slip
          ≡ cond dies (drop_at_section (drop_along q path) (friction_along q path)) (slip_loss q.Es q.slip q.tendon_length)
      by true so = (given_at_the_section (member_of q) (path_of q path) given so).1
      by false not = given_over_the_tendon (member_of q) (path_of q path) given not

  slips_exactly : slip_dies_out q path ≡ true → SlipIsExact q path
  unfolding member_of
  slips_exactly so = record {
    is_drop =
        is_drop (friction_along q path) q.Es q.slip (path_length path) (both_above (friction_along q path) (path_length path) so).1;
    within_tendon = (given_at_the_section (member_of q) (path_of q path) given so).0;
  }

-- friction and slip along a path leave 1,000 psi each
pub record Left (q : Quantities) (path : List Segment) (seated : Seated) : Type 0 where
  pub friction : seated.friction ≡ friction_along q path
  pub slip : seated.slip ≡ slip_along q path
  pub rubbed : friction_along q path + least_stress ≤ jacked q
  pub slipped : slip_along q path + least_stress ≤ jacked q - friction_along q path
  pub stress : seated.stress ≡ jacked q - friction_along q path - slip_along q path

-- so does a path that was seated, and that 7 let pass
left_by : (q : Quantities) (path : List Segment) {along given : Seated} → seated_along (member_of q) (path_of q path) ≡ Ok along
    → looked_at (member_of q) along ≡ Ok given → Left q path given
unfolding member_of
left_by q path {along} is looked =
    let a = along_is (member_of q) (path_of q path) is in
    let l = looked_is (member_of q) along looked in
    let friction : along.friction ≡ friction_along q path = a.friction_is in
    let slip = slip_is q path a.slip_is in
    let rubbed : along.friction + least_stress ≤ jacked q = l.rubbed_enough in
    let slipped : along.slip + least_stress ≤ jacked q - along.friction = l.left_enough in
    let stress : along.stress ≡ jacked q - along.friction - along.slip = a.stress_is in
    subst (λ (s : Seated). Left q path s) l.is
    (record { friction = friction; slip = slip; rubbed = omega arith; slipped = omega arith; stress = omega arith })

left_alone : (q : Quantities) (path : List Segment) {given : Seated} → seated_alone (member_of q) (path_of q path) ≡ Ok given
    → Left q path given
unfolding member_of
left_alone q path {given} e =
    let a = alone_is (member_of q) (path_of q path) e in
    let slip = slip_is q path a.slip_is in
    let slipped : given.slip + least_stress ≤ jacked q - friction_along q path = a.left_enough in
    let stress : given.stress ≡ jacked q - friction_along q path - given.slip = a.stress_is in
    record { friction = a.friction_is; slip = slip; rubbed = a.rubbed_enough; slipped = omega arith; stress = omega arith }

-- what is known where friction and slip have left a stress: of the path that goes on, and of each path's slip
pub record Seats (q : Quantities) (seated : Seated) : Type 0 where
  pub left : Left q (goes_on q) seated
  pub exactly : OfEachPath q (λ path. slip_dies_out q path ≡ true → SlipIsExact q path)

-- without a segment there is no length along which slip could die out
never_without : (q : Quantities) (path : List Segment) → ltb 0 (length path) ≡ false → slip_dies_out q path ≡ true → SlipIsExact q path
unfolding path_length
never_without q [] none so = let (some, long) = both_above (friction_along q []) 0 so in absurd (omega arith)
never_without q (segment ∷ segments) none so = let few = ltb-false 0 (suc (length segments)) none in absurd (omega arith)

module _ (q : Quantities) where
  abbrev left : ℕ
  left = left_along q q.path

  abbrev left' : ℕ
  left' = left_along q q.second_path

  stress_left_along : (path : List Segment) {along : Seated} → seated_along (member_of q) (path_of q path) ≡ Ok along
      → along.stress ≡ left_along q path
  unfolding member_of
  stress_left_along path {along} is =
      let a = along_is (member_of q) (path_of q path) is in
      let friction : along.friction ≡ friction_along q path = a.friction_is in
      let slip = slip_is q path a.slip_is in
      let stress : along.stress ≡ jacked q - along.friction - along.slip = a.stress_is in
      omega arith

  -- the path that leaves the larger stress, and the first of two equals
  larger_left : {one other given : Seated} → has_second_path q ≡ true → seated_along (member_of q) (path_of q q.path) ≡ Ok one
      → seated_along (member_of q) (path_of q q.second_path) ≡ Ok other → looked_at (member_of q) (larger one other) ≡ Ok given
      → Left q (goes_on q) given
  unfolding member_of
  larger_left {one} {other} {given} both is is' e = by (leb other.stress one.stress) refl e
    where
      first : one.stress ≡ left
      first = stress_left_along q.path is

      second : other.stress ≡ left'
      second = stress_left_along q.second_path is'

      by : (first_goes_on : Bool) → leb other.stress one.stress ≡ first_goes_on
          → looked_at (member_of q) (cond first_goes_on one other) ≡ Ok given → Left q (goes_on q) given
      by true h e =
          let no_less = leb-true other.stress one.stress h in
          rw (both, le-ltb left left' (omega (arith, first, second))) (left_by q q.path is e)
      by false h e =
          let less = leb-false other.stress one.stress h in
          rw (both, lt-ltb left left' (omega (arith, first, second))) (left_by q q.second_path is' e)

  seats : {given : Seated} → seated (member_of q) ≡ Ok given → Seats q given
  unfolding seated_by member_of
  seats {given} e = by (has_second_path q) refl e
    where
      by : (both : Bool) → has_second_path q ≡ both
          → seated_by (member_of q) (path_of q q.path) (cond both (Some (path_of q q.second_path)) None) ≡ Ok given → Seats q given
      by true both e =
          let one = through (seated_along (member_of q) (path_of q q.path)) _ e in
          let other = through (seated_along (member_of q) (path_of q q.second_path)) _ one.next_is in
          record {
            left = larger_left both one.given_is other.given_is other.next_is;
            exactly = record {
              first = slips_exactly q q.path (along_is (member_of q) (path_of q q.path) one.given_is).slip_is;
              second = slips_exactly q q.second_path (along_is (member_of q) (path_of q q.second_path) other.given_is).slip_is;
            };
          }
      by false alone e =
          record {
            left = rw alone (left_alone q q.path e);
            exactly = record {
              first = slips_exactly q q.path (alone_is (member_of q) (path_of q q.path) e).slip_is;
              second = never_without q q.second_path alone;
            };
          }

-- the five losses, each from the stress before it, and the stress that they leave
pub record Began (q : Quantities) (before : BeforeAges) : Type 0 where
  pub friction : before.friction ≡ friction_along q (goes_on q)
  pub slip : before.slip ≡ slip_along q (goes_on q)
  pub slips_exactly : OfEachPath q (λ path. slip_dies_out q path ≡ true → SlipIsExact q path)
  pub deflector : before.deflector ≡ deflector_ticks q.deflector_loss
  pub early : before.early_relaxation ≡ early_relaxation_of (member_of q) (core_after_deflector q before)
  pub shortening : before.shortening ≡ shortening_of (member_of q) (core_after_early q before)
  pub closes : jacked q ≡ before.stress + losses_before before

-- five losses, each of which leaves 1,000 psi of the stress before it
five_losses : (j f s d r c : ℕ) → f + least_stress ≤ j → s + least_stress ≤ j - f → d + least_stress ≤ j - f - s
    → r + least_stress ≤ j - f - s - d → c + least_stress ≤ j - f - s - d - r
    → j ≡ (j - f - s - d - r - c) + (f + s + d + r + c)
five_losses j f s d r c hf hs hd hr hc = omega arith

begun : (q : Quantities) {before : BeforeAges} → begun_of (member_of q) ≡ Ok before → Began q before
unfolding begun_of member_of
begun q e =
    let m = member_of q in
    let sat = through (seated m) _ e in
    let known = seats q sat.given_is in
    let left = known.left in
    let f = friction_along q (goes_on q) in
    let s = slip_along q (goes_on q) in
    let d = deflector_ticks q.deflector_loss in
    let (deflected, e) = went_on before_ages (jacked q - f - s) d _ (rw (left.friction, left.slip, left.stress) at sat.next_is) in
    let r = early_relaxation_of m (jacked q - f - s - d) in
    let (relaxed, e) = went_on before_ages (jacked q - f - s - d) r _ e in
    let c = shortening_of m (jacked q - f - s - d - r) in
    let (shortened, e) = went_on before_ages (jacked q - f - s - d - r) c _ e in
    subst (λ b. Began q b) (same_value e) (record {
      friction = refl;
      slip = refl;
      slips_exactly = known.exactly;
      deflector = refl;
      early = refl;
      shortening = refl;
      closes = five_losses (jacked q) f s d r c left.rubbed left.slipped deflected relaxed shortened;
    })

-- ---- the ages

-- the end of an interval of the member at an age, before which there were these moments
abbrev end_to : Quantities → ℕ → Age → End
end_to q moments age = end_at (member_of q) (moments + age.moment) age.hour

-- from these moments and this hour to the age: the losses, the gain, the stress after both, and the row
abbrev pub losses_to : Quantities → (moments hour stress : ℕ) → Age → Losses
losses_to q moments hour stress age = losses_between (member_of q) stress (end_at (member_of q) moments hour) (end_to q moments age)

abbrev pub gain_to : Quantities → (moments hour : ℕ) → Age → ℕ
gain_to q moments hour age = gain_between (member_of q) (end_at (member_of q) moments hour) (end_to q moments age)

abbrev pub stress_to : Quantities → (moments hour stress : ℕ) → Age → ℕ
stress_to q moments hour stress age = stress - together (losses_to q moments hour stress age) + gain_to q moments hour age

abbrev pub row_to : Quantities → (moments hour stress : ℕ) → Age → Row
row_to q moments hour stress age =
    row_of (losses_to q moments hour stress age) (stress_to q moments hour stress age) (gain_to q moments hour age)

-- each age's losses leave 1,000 psi, its gain does not lead past 0.80 F, and its row has them and the stress after both
pub data AgesRun (q : Quantities) : (moments hour stress : ℕ) → List Age → List Row → ℕ → Type 0 where
  no_age : {moments hour stress : ℕ} → AgesRun q moments hour stress [] [] stress
  an_age : {moments hour stress : ℕ} {age : Age} {ages : List Age} {rows : List Row} {last : ℕ}
      → together (losses_to q moments hour stress age) + least_stress ≤ stress → Low q (stress_to q moments hour stress age)
      → AgesRun q (moments + age.moment) age.hour (stress_to q moments hour stress age) ages rows last
      → AgesRun q moments hour stress (age ∷ ages) (row_to q moments hour stress age ∷ rows) last

ages_run : (q : Quantities) (passed moments hour stress : ℕ) (ages : List Age) (aged : Aged)
    → aged_from (member_of q) passed stress (end_at (member_of q) moments hour) ages ≡ Ok aged
    → AgesRun q moments hour stress ages aged.rows aged.last
unfolding aged_from member_of
ages_run q passed moments hour stress [] aged e =
    subst (λ (a : Aged). AgesRun q moments hour stress [] a.rows a.last) (same_value e) no_age
ages_run q passed moments hour stress (age ∷ ages) aged e =
    let start = end_at (member_of q) moments hour in
    let lost = together (losses_to q moments hour stress age) in
    let passes = through (row_between (member_of q) (suc passed) stress start (end_to q moments age)) _ e in
    let (fits, lifts) = went_on (suc passed) stress lost _ passes.given_is in
    let (low, row) = rises_on q (suc passed) (stress - lost) (gain_to q moments hour age) _ lifts in
    let later = through _ _ (rw (← same_value row) at passes.next_is) in
    subst (λ (a : Aged). AgesRun q moments hour stress (age ∷ ages) a.rows a.last) (same_value later.next_is)
    (an_age fits low
    (ages_run q (suc passed) (moments + age.moment) age.hour (stress_to q moments hour stress age) ages later.from
    later.given_is))

-- ---- the run

pub run : (q : Quantities) (report : Report) → member_result (member_of q) q.ages ≡ Ok report
    → Began q report.before
    × AgesRun q q.own_weight_moment q.transfer report.before.stress q.ages report.rows report.last
unfolding member_result member_of
run q report e =
    let begins = through (begun_of (member_of q)) _ e in
    let before = begins.from in
    let ages = through (aged_from (member_of q) 0 before.stress (transfer_end (member_of q)) q.ages) _ begins.next_is in
    subst
    (λ (r : Report).
    Began q r.before × AgesRun q q.own_weight_moment q.transfer r.before.stress q.ages r.rows r.last)
    (same_value ages.next_is) (
      begun q begins.given_is,
      ages_run q 0 q.own_weight_moment q.transfer before.stress q.ages ages.from ages.given_is,
    )

-- ---- what the ages' run shows

-- where no moment is added g stays, whatever it is
no_moment : (es ec : ℕ) (g : ℕ → ℕ) (moments added : ℕ) → added ≡ 0 → moment_gain es ec (g (moments + added) - g moments) ≡ 0
no_moment es ec g moments added none = rw (none, add-zero moments, sub_self (g moments), mul-zero es, zero-div ec)

pub ages_rise : {q : Quantities} {report scratch : ℕ} → Facts q report scratch → {moments hour stress last : ℕ} {ages : List Age}
    {rows : List Row} → AgesRun q moments hour stress ages rows last → EachRisesByGain q moments stress ages rows
unfolding member_of
ages_rise facts no_age = none_rises
ages_rise {q} facts (an_age {moments} {hour} {stress} {age} fits low run) =
    let none = no_moment q.Es q.Ec (g_under q) moments age.moment in
    let rises : RisesByGain q moments stress age (row_to q moments hour stress age) = record {
      gain_is = refl;
      g_rises = moment_rises facts moments (moments + age.moment) (omega arith);
      no_gain = none;
      only_there = λ still. omega (arith, none still);
      by_just_that = omega arith;
    } in
    one_rises rises (ages_rise facts run)

module _ {q : Quantities} where
  pub ages_close_up : {moments hour stress last : ℕ} {ages : List Age} {rows : List Row}
      → AgesRun q moments hour stress ages rows last → stress + gains_of_rows rows ≡ last + losses_of_rows rows
  unfolding losses_of_rows gains_of_rows
  ages_close_up no_age = omega arith
  ages_close_up (an_age fits low run) = omega (arith, ages_close_up run)

  pub ages_end : {moments hour stress last : ℕ} {ages : List Age} {rows : List Row}
      → AgesRun q moments hour stress ages rows last → get_or (stress ∷ stresses_of rows) (length ages) 0 ≡ last
  unfolding stresses_of
  ages_end no_age = refl
  ages_end (an_age fits low run) = ages_end run

  pub rows_count : {moments hour stress last : ℕ} {ages : List Age} {rows : List Row}
      → AgesRun q moments hour stress ages rows last → length rows ≡ length ages
  rows_count no_age = refl
  rows_count (an_age fits low run) = ap suc (rows_count run)

pub stresses_count : (rows : List Row) → length (stresses_of rows) ≡ length rows
unfolding stresses_of
stresses_count [] = refl
stresses_count (row ∷ rows) = ap suc (stresses_count rows)
