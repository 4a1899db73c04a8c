-- The promise rests on it. Demand 3 as one statement about an accepted run: document 01, "Steps", last paragraph; document 02, W1, W3, W5
-- and W9.
use Rattle.std.specs.Prelude.{ℕ, zero, suc, ◌+◌, ◌-◌, ◌*◌, ◌≤◌, ◌<◌, ◌≡◌, Bool, true, false, not, ◌&&◌, ◌||◌, cond, ltb}
use Rattle.std.specs.Prelude.{List, [], ◌∷◌, ◌++◌, length, get_or}
use Rattle.fraction.specs.Fraction.{Fraction, whole, larger, Within}
use Rattle.fields.specs.declared.segments.Segment.{Segment}
use Rattle.fields.specs.declared.segments.Age.{Age}
use Rattle.fields.specs.Quantities.{Quantities, has_second_path}
use Rattle.member.specs.Constants.{jacked, path_length, friction_of, stress_along as ticks_along}
use Rattle.stages.specs.declared.before.BeforeAges.{BeforeAges}
use Rattle.stages.specs.declared.intervals.Row.{Row}
use Rattle.formulas.specs.Steps.{friction_loss, dies_out, IsDropAtJack, drop_at_jack, passes_tendon, drop_at_section, slip_loss}
use Rattle.formulas.specs.Steps.{moment_stress, moment_gain}
use Rattle.stages.specs.Run.{Report}
use Rattle.exponential.specs.Factor.{powers}
use Rattle.exponential.specs.Series.{sum_to}
use Rattle.tolerance.specs.Method.{Choice, exponent_along, FactorsAlong, Admissible, table_choice, stress_along, after_tendon_slip}
use Rattle.tolerance.specs.Method.{steps_after_slip, after_deflector}
use Rattle.ticks.specs.Ticks.{ticks_per_unit}

-- document 02, W9: "Steps count the segments of both paths"
abbrev pub path_steps : Quantities → ℕ
path_steps q = length q.path + length q.second_path

-- "Steps count s + n + 3: segments, slip, early relaxation, shortening, ages, also where the loss is 0"
abbrev pub steps_of : Quantities → ℕ
steps_of q = path_steps q + length q.ages + 3

-- what holds of the first path and of the second, which may have no segment
pub record OfEachPath (q : Quantities) (P : List Segment → Type 0) : Type 0 where
  pub first : P q.path
  pub second : P q.second_path

-- f 1, f 2, .. , f count
unfoldable pub each : {A : Type 0} → ℕ → (ℕ → A) → List A
each zero f = []
each (suc count) f = each count f ++ (f (suc count) ∷ [])

-- ---- friction and slip along a path, in ticks, said of the quantities: document 02, W9, "worked out for both paths by the same rules"

-- d, the friction loss at the section
abbrev pub friction_along : Quantities → List Segment → ℕ
friction_along q path = friction_loss (jacked q) (friction_of q path)

-- whether slip dies out along the path: document 02, W5, "in the fraction method too the core's d decides which rule holds"
abbrev pub slip_dies_out : Quantities → List Segment → Bool
slip_dies_out q path = dies_out (friction_along q path) (path_length path)

-- Z
abbrev pub drop_along : Quantities → List Segment → ℕ
drop_along q path = drop_at_jack (friction_along q path) q.Es q.slip (path_length path)

abbrev pub slip_along : Quantities → List Segment → ℕ
slip_along q path =
    cond (slip_dies_out q path) (drop_at_section (drop_along q path) (friction_along q path))
    (slip_loss q.Es q.slip q.tendon_length)

-- the stress after both; 0 where they take more than there is
abbrev pub left_along : Quantities → List Segment → ℕ
left_along q path = jacked q - friction_along q path - slip_along q path

-- "and the larger goes on, the first path's if they are equal"
abbrev pub second_goes_on : Quantities → Bool
second_goes_on q = has_second_path q && ltb (left_along q q.path) (left_along q q.second_path)

abbrev pub goes_on : Quantities → List Segment
goes_on q = cond (second_goes_on q) q.second_path q.path

-- where slip dies out along a path, what the method in fractions enters with is not just any stress: the slip is the drop at the section,
-- made of the drop at the jack, "exact by its two squares"; and it ends within the tendon
pub record SlipIsExact (q : Quantities) (path : List Segment) : Type 0 where
  pub is_drop : IsDropAtJack (friction_along q path) q.Es q.slip (path_length path) (drop_along q path)
  pub within_tendon : passes_tendon (drop_along q path) (friction_along q path) (path_length path) q.tendon_length ≡ false

-- ---- the core's: "the one these lines give in ticks, and where reply or report has it, the number there"

-- the stress after slip, along the path that goes on
abbrev pub core_after_slip : Quantities → BeforeAges → ℕ
core_after_slip q before = jacked q - before.friction - before.slip

abbrev pub core_after_deflector : Quantities → BeforeAges → ℕ
core_after_deflector q before = core_after_slip q before - before.deflector

abbrev pub core_after_early : Quantities → BeforeAges → ℕ
core_after_early q before = core_after_deflector q before - before.early_relaxation

-- the reported stresses of the ages, each "that after the gain"
unfoldable pub stresses_of : List Row → List ℕ
stresses_of [] = []
stresses_of (row ∷ rows) = row.stress ∷ stresses_of rows

-- after each step from slip to shortening, and after every step
abbrev pub core_after_path : Quantities → BeforeAges → List ℕ
core_after_path q before = core_after_slip q before ∷ core_after_early q before ∷ before.stress ∷ []

abbrev pub core_stresses : Quantities → Report → List ℕ
core_stresses q report =
    each (length q.path) (ticks_along q q.path)
    ++ (each (length q.second_path) (ticks_along q q.second_path)
    ++ (core_after_path q report.before ++ stresses_of report.rows))

-- ---- in fractions

-- the stress after each of some steps, from this one on
unfoldable pub stresses_by : List (Fraction → Fraction) → Fraction → List Fraction
stresses_by [] stress = []
stresses_by (step ∷ steps) stress = step stress ∷ stresses_by steps (step stress)

-- after slip, along a path: "a path under the new rule entering the fraction method with the core's own stress after slip"
abbrev pub exact_left_along : Choice → Quantities → List Segment → (ℕ → Fraction) → Fraction
exact_left_along choice q path factor =
    cond (slip_dies_out q path) (whole (left_along q path))
    (after_tendon_slip choice q (stress_along factor q (length path)))

-- "the larger goes on"
abbrev pub exact_after_slip : Choice → Quantities → Fraction
exact_after_slip choice q =
    let left = exact_left_along choice q q.path choice.factor in
    cond (has_second_path q) (larger left (exact_left_along choice q q.second_path choice.second_factor)) left

-- the stress after every step, beside the core's
abbrev pub exact_stresses : Choice → Quantities → List Fraction
exact_stresses choice q =
    each (length q.path) (stress_along choice.factor q)
    ++ (each (length q.second_path) (stress_along choice.second_factor q)
    ++ (exact_after_slip choice q ∷ stresses_by (steps_after_slip choice q) (exact_after_slip choice q)))

-- ---- how far apart

-- whether the distance "is then counted anew from the stress after slip, with only the steps after it" (document 02, W5): where each path
-- that there is follows the new rule; "where only one path follows the new rule of W5, the steps up to slip count too" (W9)
abbrev pub counted_anew : Quantities → Bool
counted_anew q = slip_dies_out q q.path && (not (has_second_path q) || slip_dies_out q q.second_path)

-- the steps that are counted at slip
abbrev pub counted_at_slip : Quantities → ℕ
counted_at_slip q = cond (counted_anew q) 0 (suc (path_steps q))

-- the steps that are counted after the one at this place of the lists, the first being 0: "through friction" those of the same path so far,
-- and then what is counted at slip and each step after it
abbrev pub counted : Quantities → ℕ → ℕ
counted q place =
    cond (ltb place (length q.path)) (suc place)
    (cond (ltb place (path_steps q)) (suc (place - length q.path)) (counted_at_slip q + (place - path_steps q)))

-- what the delivery note allows a step, in ticks: 1 psi where the fractions read the core's logarithms, and 40 psi whatever admissible
-- ones they read; document 02, W3: "The 1 psi a step must survive"
abbrev pub narrow_step : ℕ
narrow_step = 1 * ticks_per_unit

abbrev pub wide_step : ℕ
wide_step = 40 * ticks_per_unit

-- two lists with a stress for each step. After every step the two stresses differ by at most `step` ticks for each step counted; "what
-- holds after slip holds after" the deflector loss, which is no step
pub record Close (step : ℕ) (choice : Choice) (q : Quantities) (report : Report) : Type 0 where
  pub core_count : length (core_stresses q report) ≡ steps_of q
  pub exact_count : length (exact_stresses choice q) ≡ steps_of q
  pub steps : (place : ℕ) → place < steps_of q
      → Within (whole (counted q place * step)) (whole (get_or (core_stresses q report) place 0))
      (get_or (exact_stresses choice q) place (whole 0))
  pub deflector :
      Within (whole (counted_at_slip q * step)) (whole (core_after_deflector q report.before))
      (after_deflector choice q (exact_after_slip choice q))

-- no stress is larger than the one before it: "no step raises the stress", up to the ages; document 02, W3: "friction counts as a single
-- fall, from the jack to the path's end, where a rise of stress is ruled out"; and W9: "along each path from the jacking stress and then
-- from the larger on"
unfoldable pub Falls : ℕ → List ℕ → Type 0
Falls before [] = Unit {0}
Falls before (stress ∷ stresses) = (stress ≤ before) × Falls stress stresses

-- the five losses of the reply, and three for each age
abbrev pub losses_before : BeforeAges → ℕ
losses_before before =
    before.friction + before.slip + before.deflector + before.early_relaxation + before.shortening

abbrev pub losses_of_row : Row → ℕ
losses_of_row row = row.creep + row.shrinkage + row.relaxation

unfoldable pub losses_of_rows : List Row → ℕ
losses_of_rows [] = 0
losses_of_rows (row ∷ rows) = losses_of_row row + losses_of_rows rows

unfoldable pub gains_of_rows : List Row → ℕ
gains_of_rows [] = 0
gains_of_rows (row ∷ rows) = row.gain + gains_of_rows rows

-- "g = M·e/I", under these moments, in ticks
abbrev pub g_under : Quantities → ℕ → ℕ
g_under q moments = moment_stress moments q.eccentricity q.inertia

-- document 02, W1: "it rises only there and by just that gain". So at an age, from the moments and the stress before it: the gain is
-- ⌊Es·Δg/Ec⌋, where g never falls, and 0 where no moment is added; there the stress does not rise; and it rises by the gain, less what
-- it loses.
pub record RisesByGain (q : Quantities) (moments stress : ℕ) (age : Age) (row : Row) : Type 0 where
  pub gain_is : row.gain ≡ moment_gain q.Es q.Ec (g_under q (moments + age.moment) - g_under q moments)
  pub g_rises : g_under q moments ≤ g_under q (moments + age.moment)
  pub no_gain : age.moment ≡ 0 → row.gain ≡ 0
  pub only_there : age.moment ≡ 0 → row.stress ≤ stress
  pub by_just_that : stress + row.gain ≡ row.stress + losses_of_row row

-- so at each age in turn
pub data EachRisesByGain (q : Quantities) : (moments stress : ℕ) → List Age → List Row → Type 0 where
  no_age : {moments stress : ℕ} → EachRisesByGain q moments stress [] []
  an_age : {moments stress : ℕ} {age : Age} {row : Row} {ages : List Age} {rows : List Row} → RisesByGain q moments stress age row
      → EachRisesByGain q (moments + age.moment) row.stress ages rows
      → EachRisesByGain q moments stress (age ∷ ages) (row ∷ rows)

-- "the core's after a step is the one these lines give in ticks, and where reply or report has it, the number there". "The friction and
-- slip reported are those of the path that goes on". By the sums none of the differences in `core_stresses` is cut at 0, and by the count
-- every age has its row.
pub record Linked (q : Quantities) (report : Report) : Type 0 where
  pub path_end : ticks_along q (goes_on q) (length (goes_on q)) + report.before.friction ≡ jacked q
  pub slip_is : report.before.slip ≡ slip_along q (goes_on q)
  pub reply : report.before.stress + losses_before report.before ≡ jacked q
  pub rows_count : length report.rows ≡ length q.ages
  pub last : get_or (core_stresses q report) (path_steps q + length q.ages + 2) 0 ≡ report.last

-- "Demand 3 is one claim over the whole run"
pub record Demand3 (q : Quantities) (report : Report) : Type 0 where
  pub narrow : (factor second_factor : ℕ → Fraction) → FactorsAlong q q.path factor → FactorsAlong q q.second_path second_factor
      → Close narrow_step (table_choice factor second_factor) q report
  pub wide : (choice : Choice) → Admissible q choice → Close wide_step choice q report
  -- there are such factors: the sums up to the 15th power
  pub some_factors : OfEachPath q (λ path. FactorsAlong q path (λ j. sum_to powers (exponent_along q path j)))
  -- document 02, W5: "Z itself is exact by its two squares"
  pub slip_exact : OfEachPath q (λ path. slip_dies_out q path ≡ true → SlipIsExact q path)
  pub falls_along : OfEachPath q (λ path. Falls (jacked q) (ticks_along q path (length path) ∷ left_along q path ∷ []))
  pub falls : Falls (left_along q (goes_on q)) (core_after_path q report.before)
  pub rises : EachRisesByGain q q.own_weight_moment report.before.stress q.ages report.rows
  pub closes :
      jacked q + gains_of_rows report.rows ≡ report.last + losses_before report.before + losses_of_rows report.rows
  pub linked : Linked q report
