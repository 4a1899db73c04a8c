-- The two runs in ticks, step beside step: what the gauges differ by is the most that the two stresses ever do. Along each path a factor of
-- at most 1 is left of both; slip and the deflector loss take the same of both, and the larger of two lies no further from the larger of
-- two others than each does from its own. Every other loss grows with the stress, so that the higher stress comes down more; and it grows
-- by less than twice the rise, so that even where the two change places they lie no further apart. What roundings add is less than what
-- that leaves of a psi, and two gauges that differ at all differ by a psi at least. Assumes nothing.
use mathlib.Core.Path.{◌≡◌, refl, subst}
use mathlib.Core.Bool.{Bool, true, false, cond}
use mathlib.Core.List.{List}
use Prim.Native.Nat.{ℕ, ◌+◌, ◌-◌, ◌≤◌}
use native.Mathlib.Decide.{dec_le}
use native.Mathlib.Omega.{arith}
use lib.Dec.{ltb, lit≤}
use lib.ListN.{length, take}
use Rattle.fraction.specs.Fraction.{whole}
use Rattle.ticks.specs.Ticks.{ticks_per_unit}
use Rattle.logarithm.specs.Logarithm.{service_life}
use Rattle.coefficient.specs.declared.codes.Kind.{Kind}
use Rattle.coefficient.specs.declared.codes.Kind.TheVariants.{Pretensioned, PostTensioned}
use Rattle.fields.specs.declared.segments.Segment.{Segment}
use Rattle.fields.specs.declared.segments.Age.{Age}
use Rattle.fields.specs.Quantities.{Quantities, has_second_path}
use Rattle.formulas.specs.Steps.{stress_left, relaxation_loss}
use Rattle.formulas.proofs.Laws.{stress_left_most}
use Rattle.member.specs.Constants.{jacked, friction_of, stress_along}
use Rattle.member.specs.Member.{member_of, kind_of, steel_of, kappa_of, creep_of}
use Rattle.member.specs.Facts.{RisingFrom, rises, Facts}
use Rattle.stages.specs.declared.intervals.Row.{Row}
use Rattle.stages.specs.Run.{early_relaxation, early_relaxation_of, shortening_of, end_at, losses_between, together, Report}
use Rattle.tolerance.specs.Method.{table_choice}
use Rattle.tolerance.specs.Demand.{each, slip_dies_out, left_along, second_goes_on, goes_on, core_after_slip, core_after_deflector}
use Rattle.tolerance.specs.Demand.{core_after_early}
use Rattle.tolerance.specs.Demand.{stresses_of, core_stresses}
use Rattle.tolerance.proofs.AfterSlip.{both_true, goes_on_most, core_is}
use Rattle.tolerance.proofs.Bounds.{Low, low, creep_top}
use Rattle.tolerance.proofs.Ends.{between, before_transfer}
use Rattle.tolerance.proofs.Logarithms.{most_rise, Logs, table_logs}
use Rattle.tolerance.proofs.Run.{AgesRun, no_age, an_age, stress_to}
use Rattle.drift.specs.Drift.{Common, jacked_to, distance}
use Rattle.drift.proofs.Runs.{AcceptedRun, left_is, early_fits, shortening_fits, shortening_leaves}
use Rattle.drift.proofs.Runs.{not_above_jacked}
use Rattle.drift.proofs.Beside.{Beside, no_step, a_step, beside_append, beside_each}
use Rattle.drift.proofs.Growth.{whole_rise, Grows, left_grows, creep_grows, shortening_rounding, shortening_grows}
use Rattle.drift.proofs.Growth.{relaxation_sixteenths, relaxation_rounding, relaxation_grows, stays, grow_together}
use Rattle.drift.proofs.Growth.{most_sixteenths, most_rounding, keeps_apart}

-- ---- a step, of two stresses in either order

-- what is said of two stresses in either order need only be said of one and another above it
by_order : (P : ℕ → ℕ → Type 0) → ((x y : ℕ) → P x y → P y x) → ((y rise : ℕ) → P y (y + rise)) → (x y : ℕ) → P x y
by_order P turned above x y = by (dec_le x y)
  where
    up : (y z : ℕ) → y ≤ z → P y z
    up y z h = let is : y + (z - y) ≡ z = omega arith in subst (λ (s : ℕ). P y s) is (above y (z - y))

    by : Dec (x ≤ y) → P x y
    by (yes h) = up x y h
    by (no h) = turned y x (up y x (omega arith))

-- neither lies further above the other
both_ways : (x y e : ℕ) → x ≤ y + e → y ≤ x + e → distance x y ≤ e
both_ways x y e up down = omega arith

turned : (x y e : ℕ) → distance x y ≤ e → distance y x ≤ e
turned x y e near = omega arith

below_top : (x y top e : ℕ) → distance x y ≤ e → y ≤ top → x ≤ top + e
below_top x y top e near below = omega arith

-- the same loss, whatever the stress
same_off : (loss e x y : ℕ) → distance x y ≤ e → distance (x - loss) (y - loss) ≤ e
same_off loss e x y near = omega arith

-- and the same gain
same_on : (gain e x y : ℕ) → distance x y ≤ e → distance (x + gain) (y + gain) ≤ e
same_on gain e x y near = omega arith

left_apart : (X e x y : ℕ) → distance x y ≤ e → distance (stress_left x X) (stress_left y X) ≤ e
left_apart X e =
    by_order (λ x y. distance x y ≤ e → distance (stress_left x X) (stress_left y X) ≤ e) (λ x y near. λ h. omega (arith, near (omega arith)))
    (λ y rise h. omega (arith, left_grows X y rise))

-- a loss, by the stress, that grows so up to 0.80 F
abbrev Growing : Quantities → ℕ → ℕ → (ℕ → ℕ) → Type 0
Growing q sixteenths rounding loss = (y rise : ℕ) → Low q (y + rise) → Grows sixteenths rounding rise (loss y) (loss (y + rise))

-- what it leaves of two stresses of at most 0.80 F
loss_apart : (q : Quantities) {sixteenths rounding : ℕ} (loss : ℕ → ℕ) → Growing q sixteenths rounding loss
    → sixteenths ≤ most_sixteenths → rounding ≤ most_rounding → (e : ℕ) → ticks_per_unit ≤ e → (x y : ℕ)
    → Low q x → Low q y → loss x ≤ x → loss y ≤ y → distance x y ≤ e → distance (x - loss x) (y - loss y) ≤ e
loss_apart q loss growing slope rounding e large =
    by_order
    (λ x y. Low q x → Low q y → loss x ≤ x → loss y ≤ y → distance x y ≤ e → distance (x - loss x) (y - loss y) ≤ e)
    (λ x y near. λ low_y low_x fits_y fits_x h. omega (arith, near low_x low_y fits_x fits_y (omega arith)))
    (λ y rise low_y low_x fits_y fits_x h.
    omega (arith, keeps_apart e y (growing y rise low_x) slope rounding large (omega arith) fits_y fits_x))

-- ---- the losses of a member

-- the core's own logarithms; what factors stand beside them does not matter here
own_logs : Logs 0 (table_choice (λ j. whole 0) (λ j. whole 0))
own_logs = table_logs

module _ {q : Quantities} {report scratch : ℕ} (facts : Facts q report scratch) where
  relaxation_growing : (logarithms : ℕ) → logarithms ≤ most_rise
      → Growing q relaxation_sixteenths relaxation_rounding
      (λ stress. relaxation_loss (steel_of q.steel) q.ultimate_strength stress logarithms)
  relaxation_growing logarithms most y rise top =
      relaxation_grows (steel_of q.steel) q.ultimate_strength logarithms y rise facts.head.ultimate_least
      facts.head.ultimate_most most top

  early_growing : (kind : Kind) → Growing q relaxation_sixteenths relaxation_rounding (early_relaxation kind (member_of q))
  unfolding member_of
  early_growing Pretensioned =
      relaxation_growing _ (omega (arith, (before_transfer facts own_logs).table_top))
  early_growing PostTensioned = λ y rise top. omega arith

  shortening_growing : Growing q whole_rise shortening_rounding (shortening_of (member_of q))
  unfolding member_of
  shortening_growing y rise top =
      shortening_grows q.Es q.Eci (kappa_of q) _ y rise facts.head.es_most facts.head.eci_least

  -- an age's three, of an interval that goes on to an hour within the service life
  losses_growing : (moments added hour later : ℕ) → moments ≤ added → hour ≤ later → later ≤ service_life
      → Growing q most_sixteenths most_rounding
      (λ stress. together (losses_between (member_of q) stress (end_at (member_of q) moments hour) (end_at (member_of q) added later)))
  unfolding member_of
  losses_growing moments added hour later more on life y rise top =
      let ends = between facts own_logs moments added hour later more on life in
      grow_together
      (grow_together
      (creep_grows (creep_of q) _ (kappa_of q) _ y rise ends.creep.ticks (creep_top q) facts.creep_most)
      (stays rise _))
      (relaxation_growing _ (omega (arith, ends.logarithm.table_top)) y rise top)

-- ---- the two runs

-- two stresses of the core after the same step: neither is above 0.80 F, and they lie at most e apart
pub record Apart (q : Quantities) (e x y : ℕ) : Type 0 where
  pub one_low : Low q x
  pub other_low : Low q y
  pub apart : distance x y ≤ e

module _ (common : Common) (a b : ℕ) where
  abbrev q : Quantities
  q = jacked_to a common

  abbrev p : Quantities
  p = jacked_to b common

  -- the jacking stress has no part in it
  same_early : (kind : Kind) (stress : ℕ) → early_relaxation kind (member_of p) stress ≡ early_relaxation kind (member_of q) stress
  unfolding member_of
  same_early Pretensioned stress = refl
  same_early PostTensioned stress = refl

  module _ {one other : Report} (run : AcceptedRun q one) (run' : AcceptedRun p other) (e : ℕ) (large : ticks_per_unit ≤ e)
      (gauges : distance (jacked q) (jacked p) ≤ e) where
    -- before the ages no stress is above the jacking stress
    before_apart : {x y : ℕ} → x ≤ jacked q → y ≤ jacked p → distance x y ≤ e → Apart q e x y
    before_apart {x} {y} x≤ y≤ near =
        record { one_low = low run.facts x x≤; other_low = low run'.facts y y≤; apart = near }

    -- after the first j segments of a path
    along : (path : List Segment) (j : ℕ) → Apart q e (stress_along q path j) (stress_along p path j)
    along path j =
        let X = friction_of q (take j path) in
        before_apart (stress_left_most (jacked q) X) (stress_left_most (jacked p) X) (left_apart X e (jacked q) (jacked p) gauges)

    -- after slip, along a path
    left_near : (path : List Segment) → slip_dies_out q path ≡ false → slip_dies_out p path ≡ false
        → distance (left_along q path) (left_along p path) ≤ e
    left_near path over over' =
        rw (left_is run path over, left_is run' path over') (same_off _ e _ _ (along path (length path)).apart)

    first_near : distance (left_along q q.path) (left_along p p.path) ≤ e
    first_near = left_near common.path run.over_the_tendon.first run'.over_the_tendon.first

    second_near : distance (left_along q q.second_path) (left_along p p.second_path) ≤ e
    second_near = left_near common.second_path run.over_the_tendon.second run'.over_the_tendon.second

    -- the larger of the one's is one of its two, and the other's larger is below neither of its own
    slipped : Apart q e (core_after_slip q one.before) (core_after_slip p other.before)
    slipped =
        before_apart (omega arith) (omega arith)
        (rw (core_is q run.began, core_is p run'.began) (both_ways _ _ e (up (second_goes_on q) refl) (down (second_goes_on p) refl)))
      where
        up : (second : Bool) → second_goes_on q ≡ second
            → left_along q (cond second q.second_path q.path) ≤ left_along p (goes_on p) + e
        up true goes =
            let (both, larger) = both_true (has_second_path q) (ltb (left_along q q.path) (left_along q q.second_path)) goes in
            below_top _ _ _ e second_near ((goes_on_most p).1 both)
        up false goes = below_top _ _ _ e first_near (goes_on_most p).0

        down : (second : Bool) → second_goes_on p ≡ second
            → left_along p (cond second p.second_path p.path) ≤ left_along q (goes_on q) + e
        down true goes =
            let (both, larger) = both_true (has_second_path p) (ltb (left_along p p.path) (left_along p p.second_path)) goes in
            below_top _ _ _ e (turned _ _ e second_near) ((goes_on_most q).1 both)
        down false goes = below_top _ _ _ e (turned _ _ e first_near) (goes_on_most q).0

    pub deflected : Apart q e (core_after_deflector q one.before) (core_after_deflector p other.before)
    deflected =
        before_apart (omega arith) (omega arith)
        (rw (run.began.deflector, run'.began.deflector) (same_off _ e _ _ slipped.apart))

    relaxed : Apart q e (core_after_early q one.before) (core_after_early p other.before)
    unfolding member_of
    relaxed =
        let x = core_after_deflector q one.before in
        let y = core_after_deflector p other.before in
        let same = same_early (kind_of q.kind) y in
        before_apart (omega arith) (omega arith)
        (rw (run.began.early, run'.began.early, same)
        (loss_apart q (early_relaxation_of (member_of q)) (early_growing run.facts (kind_of q.kind)) (lit≤ tt) (lit≤ tt) e large x y
        deflected.one_low deflected.other_low (early_fits run) (rw same at (early_fits run')) deflected.apart))

    shortened : Apart q e one.before.stress other.before.stress
    unfolding member_of
    shortened =
        before_apart (not_above_jacked run) (not_above_jacked run')
        (rw (shortening_leaves run, shortening_leaves run')
        (loss_apart q (shortening_of (member_of q)) (shortening_growing run.facts) (lit≤ tt) (lit≤ tt) e large
        (core_after_early q one.before) (core_after_early p other.before)
        relaxed.one_low relaxed.other_low (shortening_fits run) (shortening_fits run') relaxed.apart))

    -- some ages, from two stresses on
    ages_apart : {moments hour stress stress' last last' : ℕ} {some : List Age} {rows rows' : List Row}
        → AgesRun q moments hour stress some rows last → AgesRun p moments hour stress' some rows' last' → RisingFrom hour some
        → Apart q e stress stress' → Beside (Apart q e) (stresses_of rows) (stresses_of rows')
    unfolding stresses_of member_of
    ages_apart no_age no_age rising near = no_step
    ages_apart (an_age {moments} {hour} {stress} {age} fits low_then ran) (an_age {stress = stress'} fits' low_then' ran')
        (rises on life rising) near =
        let growing = losses_growing run.facts moments (moments + age.moment) hour age.hour (omega arith) (omega arith) life in
        let left =
        loss_apart q _ growing (lit≤ tt) (lit≤ tt) e large stress stress' near.one_low near.other_low (omega arith) (omega arith)
        near.apart in
        let next : Apart q e (stress_to q moments hour stress age) (stress_to p moments hour stress' age) =
        record { one_low = low_then; other_low = low_then'; apart = same_on _ e _ _ left } in
        a_step next (ages_apart ran ran' rising next)

    on_path : (path : List Segment)
        → Beside (Apart q e) (each (length path) (stress_along q path)) (each (length path) (stress_along p path))
    on_path path = beside_each (stress_along q path) (stress_along p path) (length path) (λ j within. along path j)

    pub run_apart : Beside (Apart q e) (core_stresses q one) (core_stresses p other)
    run_apart =
        beside_append (on_path common.path)
        (beside_append (on_path common.second_path)
        (a_step slipped
        (a_step relaxed
        (a_step shortened (ages_apart run.ran run'.ran run.facts.ages_rise shortened)))))
