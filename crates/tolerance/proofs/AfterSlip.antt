-- The stress after friction and slip. Along each path both stresses come from the jacking stress. Slip over the tendon is one step more;
-- where it dies out along the path the exact stress is the core's own. The larger of two brings no two stresses further apart; and the
-- core's larger is the stress that goes on, since a stress that is cut at 0 on the path that is left is not the larger. Assumes nothing.
use mathlib.Core.Path.{◌≡◌, refl}
use mathlib.Core.Bool.{Bool, true, false, not, ◌&&◌, ◌||◌, cond}
use mathlib.Core.List.{List}
use Prim.Native.Nat.{ℕ, suc, ◌+◌, ◌-◌, ◌*◌, ◌≤◌, ◌<◌}
use native.Mathlib.Nat.{le_refl, mul-le-mul_left, mul-le-mul_right}
use native.Mathlib.Omega.{arith}
use borrow.Author.Tests.{ltb-true, ltb-false}
use lib.Dec.{ltb}
use lib.ListN.{length}
use lib.Seq.{take_all}
use Rattle.fraction.specs.Fraction.{Fraction, whole, ◌⊖◌, ◌≼◌, larger, Within}
use Rattle.fraction.specs.Equality.{◌≈◌}
use Rattle.fraction.proofs.Laws.{≈-refl, ≈-sym, ◌⨾◌, ≼_trans, ≼-of-≈, ≈-of-≼, ⊖-cong, whole-⊕, larger_left, larger_right, larger_least}
use Rattle.fraction.proofs.Floors.{whole_order, whole_difference, whole_monus}
use Rattle.fraction.proofs.Distances.{within_refl, within_weaken, within_resp_≈, within_larger}
use Rattle.fields.specs.declared.segments.Segment.{Segment}
use Rattle.fields.specs.Quantities.{Quantities, has_second_path}
use Rattle.fields.specs.Limits.{most_segments, most_friction}
use Rattle.formulas.specs.Steps.{slip_loss}
use Rattle.formulas.proofs.Laws.{stress_left_most}
use Rattle.member.specs.Constants.{jacked, friction_of, stress_along as ticks_along}
use Rattle.member.specs.Facts.{SegmentsFit, Facts}
use Rattle.stages.specs.declared.before.BeforeAges.{BeforeAges}
use Rattle.tolerance.specs.Method.{Choice, FactorsAlong, stress_along, after_tendon_slip}
use Rattle.tolerance.specs.Demand.{path_steps, friction_along, slip_dies_out, slip_along, left_along, second_goes_on, goes_on}
use Rattle.tolerance.specs.Demand.{core_after_slip, exact_left_along, exact_after_slip, counted_at_slip}
use Rattle.tolerance.proofs.Concrete.{highest_stress}
use Rattle.tolerance.proofs.Bounds.{low, low_top}
use Rattle.tolerance.proofs.Allowance.{Allowance}
use Rattle.tolerance.proofs.Path.{path_error, along_close}
use Rattle.tolerance.proofs.Run.{Began}
use Rattle.tolerance.proofs.Distance.{slip_keeps_distance}
use Rattle.tolerance.proofs.Near.{slip_error, after_slip_near}
use Rattle.tolerance.proofs.Closeness.{step_close}

-- ---- the core's, along a path

module _ (q : Quantities) (path : List Segment) where
  friction_most : friction_along q path ≤ jacked q
  friction_most = omega (arith, stress_left_most (jacked q) (friction_of q path))

  pub end_of_path : jacked q - friction_along q path ≡ ticks_along q path (length path)
  end_of_path =
      rw (take_all (length path) path (le_refl (length path))) (omega (arith, stress_left_most (jacked q) (friction_of q path)))

  rubbed : whole (jacked q - friction_along q path) ≈ whole (jacked q) ⊖ whole (friction_along q path)
  rubbed = whole_difference friction_most

  -- what friction and a slip leave, which may be less than 0
  module _ (slip : ℕ) where
    abbrev uncut : Fraction
    uncut = whole (jacked q) ⊖ whole (friction_along q path) ⊖ whole slip

    uncut_not_above : uncut ≼ whole (jacked q - friction_along q path - slip)
    uncut_not_above =
        ≼_trans (≼-of-≈ (⊖-cong (≈-sym rubbed) ≈-refl))
        (≼_trans (larger_left _ (whole 0)) (≼-of-≈ (≈-sym (whole_monus (jacked q - friction_along q path) slip))))

    uncut_is : slip ≤ jacked q - friction_along q path → whole (jacked q - friction_along q path - slip) ≈ uncut
    uncut_is fits = whole_difference fits ⨾ ⊖-cong rubbed ≈-refl

  -- what the exact stress is compared with: where slip dies out along the path the core's own stress
  abbrev over_tendon : Fraction
  over_tendon = uncut (slip_loss q.Es q.slip q.tendon_length)

  abbrev pub core_left : Fraction
  core_left = cond (slip_dies_out q path) (whole (left_along q path)) over_tendon

  left_not_above : core_left ≼ whole (left_along q path)
  left_not_above = by (slip_dies_out q path) refl
    where
      by : (dies : Bool) → slip_dies_out q path ≡ dies → cond dies (whole (left_along q path)) over_tendon ≼ whole (left_along q path)
      by true so = ≼-of-≈ ≈-refl
      by false over = rw over (uncut_not_above (slip_loss q.Es q.slip q.tendon_length))

  left_is : slip_along q path ≤ jacked q - friction_along q path → whole (left_along q path) ≈ core_left
  left_is = by (slip_dies_out q path) refl
    where
      by : (dies : Bool) → slip_dies_out q path ≡ dies → slip_along q path ≤ jacked q - friction_along q path
          → whole (left_along q path) ≈ cond dies (whole (left_along q path)) over_tendon
      by true so fits = ≈-refl
      by false over fits = rw over (uncut_is (slip_loss q.Es q.slip q.tendon_length) (rw over at fits))

-- ---- the path that goes on

pub both_true : (a b : Bool) → (a && b) ≡ true → (a ≡ true) × (b ≡ true)
both_true true b e = (refl, e)
both_true false b e = absurd (let z : ◌≡◌ {A = ℕ} 0 1 = cc in omega arith)

other_false : (a b : Bool) → (a && b) ≡ false → a ≡ true → b ≡ false
other_false true b e t = e
other_false false b e t = absurd (let z : ◌≡◌ {A = ℕ} 0 1 = cc in omega arith)

module _ (q : Quantities) where
  abbrev left : ℕ
  left = left_along q q.path

  abbrev left' : ℕ
  left' = left_along q q.second_path

  -- no path leaves more
  pub goes_on_most : (left ≤ left_along q (goes_on q)) × (has_second_path q ≡ true → left' ≤ left_along q (goes_on q))
  goes_on_most = by (second_goes_on q) refl
    where
      by : (second : Bool) → second_goes_on q ≡ second
          → (left ≤ left_along q (cond second q.second_path q.path))
          × (has_second_path q ≡ true → left' ≤ left_along q (cond second q.second_path q.path))
      by true e =
          let less = ltb-true left left' (both_true (has_second_path q) (ltb left left') e).1 in
          (omega arith, λ both. le_refl left')
      by false e = (le_refl left, λ both. ltb-false left left' (other_false (has_second_path q) (ltb left left') e both))

  module _ {before : BeforeAges} (began : Began q before) where
    pub core_is : core_after_slip q before ≡ left_along q (goes_on q)
    core_is = rw (began.friction, began.slip)

    -- the stress that goes on is not cut at 0
    core_exact : whole (core_after_slip q before) ≈ core_left q (goes_on q)
    core_exact =
        rw core_is
        (left_is q (goes_on q) (omega (arith, began.friction, began.slip, began.closes)))

    first_below : core_left q q.path ≼ whole (core_after_slip q before)
    first_below = rw core_is (≼_trans (left_not_above q q.path) (whole_order goes_on_most.0))

    second_below : has_second_path q ≡ true → core_left q q.second_path ≼ whole (core_after_slip q before)
    second_below both = rw core_is (≼_trans (left_not_above q q.second_path) (whole_order (goes_on_most.1 both)))

    -- it is that of one of the two paths
    of_two : (second : Bool) → core_left q (cond second q.second_path q.path) ≼ larger (core_left q q.path) (core_left q q.second_path)
    of_two true = larger_right (core_left q q.path) (core_left q q.second_path)
    of_two false = larger_left (core_left q q.path) (core_left q q.second_path)

    core_larger : has_second_path q ≡ true → larger (core_left q q.path) (core_left q q.second_path) ≈ whole (core_after_slip q before)
    core_larger both =
        ≈-of-≼ (larger_least first_below (second_below both)) (≼_trans (≼-of-≈ core_exact) (of_two (second_goes_on q)))

    core_alone : has_second_path q ≡ false → core_left q q.path ≈ whole (core_after_slip q before)
    core_alone alone = ≈-sym (rw alone at core_exact)

-- ---- near

module _ {q : Quantities} {report scratch : ℕ} (facts : Facts q report scratch) {δ step : ℕ} {choice : Choice}
    (allowed : Allowance δ step choice) where
  jacked_low : jacked q ≤ highest_stress
  jacked_low = low_top facts (jacked q) (low facts (jacked q) (le_refl (jacked q)))

  -- a segment is well within a step
  segment_covered : path_error 1 ≤ step
  segment_covered = let covers = allowed.covers in omega arith

  module _ {path : List Segment} (fits : SegmentsFit path) (few : length path ≤ most_segments) (most : friction_of q path ≤ most_friction)
      {factor : ℕ → Fraction} (factors : FactorsAlong q path factor) where
    abbrev segments : ℕ
    segments = length path

    -- after the first j segments
    along : (j : ℕ) → j ≤ segments → Within (whole (path_error j)) (whole (ticks_along q path j)) (stress_along factor q j)
    along = along_close q fits few most jacked_low factors

    pub along_path : (j : ℕ) → j < segments
        → Within (whole (suc j * step)) (whole (ticks_along q path (suc j))) (stress_along factor q (suc j))
    along_path j h = within_weaken (whole_order (omega (arith, mul-le-mul_left (suc j) segment_covered))) (along (suc j) h)

    -- slip over the tendon is one step more
    slip_covered : slip_error + path_error segments ≤ suc segments * step
    slip_covered = omega (arith, mul-le-mul_left (suc segments) segment_covered)

    over_the_tendon : Within (whole (suc segments * step)) (over_tendon q path)
        (after_tendon_slip choice q (stress_along factor q segments))
    over_the_tendon =
        let x = jacked q - friction_along q path in
        let y = stress_along factor q segments in
        within_weaken (≼_trans (≼-of-≈ (≈-sym (whole-⊕ slip_error (path_error segments)))) (whole_order slip_covered))
        (step_close (slip_keeps_distance choice q (larger (whole x) y)) (larger_left (whole x) y) (larger_right (whole x) y)
        (within_resp_≈ (⊖-cong (rubbed q path) ≈-refl) ≈-refl (after_slip_near facts choice x))
        (rw (end_of_path q path) (along segments (le_refl segments))))

    -- where slip dies out along the path the exact stress is the core's
    left_near : (k : ℕ) → (slip_dies_out q path ≡ false → suc segments ≤ k)
        → Within (whole (k * step)) (core_left q path) (exact_left_along choice q path factor)
    left_near k counts = by (slip_dies_out q path) refl
      where
        by : (dies : Bool) → slip_dies_out q path ≡ dies
            → Within (whole (k * step)) (cond dies (whole (left_along q path)) (over_tendon q path))
            (cond dies (whole (left_along q path)) (after_tendon_slip choice q (stress_along factor q segments)))
        by true so = within_weaken (whole_order (omega arith)) (within_refl _)
        by false over = within_weaken (whole_order (mul-le-mul_right step (counts over))) over_the_tendon

  -- ---- of the larger

  module _ (few : length q.path ≤ most_segments) (second_few : length q.second_path ≤ most_segments)
      (factors : FactorsAlong q q.path choice.factor) (second_factors : FactorsAlong q q.second_path choice.second_factor) where
    -- what is counted at slip covers each path that is not entered anew
    first_counts : slip_dies_out q q.path ≡ false → suc (length q.path) ≤ counted_at_slip q
    first_counts over = rw over (omega arith)

    second_counts : has_second_path q ≡ true → slip_dies_out q q.second_path ≡ false → suc (length q.second_path) ≤ counted_at_slip q
    second_counts both over = by (slip_dies_out q q.path) refl
      where
        by : (dies : Bool) → slip_dies_out q q.path ≡ dies
            → suc (length q.second_path) ≤ cond (dies && (not (has_second_path q) || slip_dies_out q q.second_path)) 0 (suc (path_steps q))
        by true so = rw (both, over) (omega arith)
        by false not = omega arith

    near_first : Within (whole (counted_at_slip q * step)) (core_left q q.path) (exact_left_along choice q q.path choice.factor)
    near_first = left_near facts.segments_fit few facts.friction_most factors (counted_at_slip q) first_counts

    near_second : has_second_path q ≡ true
        → Within (whole (counted_at_slip q * step)) (core_left q q.second_path)
        (exact_left_along choice q q.second_path choice.second_factor)
    near_second both =
        left_near facts.second_fit second_few facts.second_friction_most second_factors (counted_at_slip q) (second_counts both)

    pub after_slip : {before : BeforeAges} → Began q before
        → Within (whole (counted_at_slip q * step)) (whole (core_after_slip q before)) (exact_after_slip choice q)
    after_slip {before} began = by (has_second_path q) refl
      where
        by : (both : Bool) → has_second_path q ≡ both
            → let left = exact_left_along choice q q.path choice.factor in
            Within (whole (counted_at_slip q * step)) (whole (core_after_slip q before))
            (cond both (larger left (exact_left_along choice q q.second_path choice.second_factor)) left)
        by true both = within_resp_≈ (core_larger q began both) ≈-refl (within_larger near_first (near_second both))
        by false alone = within_resp_≈ (core_alone q began alone) ≈-refl near_first
