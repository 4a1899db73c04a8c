-- Demand 3 of document 01, proved of every accepted run. Along each path both stresses come from the jacking stress; after slip the larger
-- goes on (`AfterSlip`), and where every path's slip dies out both go on from the core's stress, and the count begins anew. The steps after
-- slip keep near from there on, whatever is counted at slip; the two tolerances are one lemma, at the allowances of 1 and of 40 psi a step.
-- That the stress rises neither along a path, from the jack to its end and to what slip leaves, nor from the larger to the ages, and at
-- these by no more than its gain, that the losses and the last stress add up to the jacking stress and the gains, and that the numbers are
-- those reported, is read off the run. Assumes nothing.
use mathlib.Core.Path.{◌≡◌, subst}
use mathlib.Core.Bool.{Bool, true, false, cond}
use mathlib.Core.List.{List, ◌∷◌, [], ◌++◌}
use Prim.Native.Nat.{ℕ, zero, suc, ◌+◌, ◌-◌, ◌*◌, ◌≤◌, ◌<◌}
use native.Mathlib.Nat.{mul-le-mul_right, add-sub_cancel_left}
use native.Mathlib.Decide.{dec_lt}
use native.Mathlib.Omega.{arith}
use borrow.Author.Tests.{lt-ltb, le-ltb}
use lib.Dec.{ltb}
use lib.ListN.{length, get_or}
use Rattle.fraction.specs.Fraction.{Fraction, whole, larger, Within}
use Rattle.fraction.proofs.Laws.{≼-of-≈, zero-⊕, larger_left, larger_right}
use Rattle.fraction.proofs.Floors.{whole_order}
use Rattle.fraction.proofs.Distances.{within_weaken}
use Rattle.std.specs.Prelude.{Ok}
use Rattle.fields.specs.declared.segments.Segment.{Segment}
use Rattle.fields.specs.Quantities.{Quantities}
use Rattle.fields.specs.Limits.{most_segments}
use Rattle.fields.proofs.Counting.{Few}
use Rattle.member.specs.Constants.{jacked, stress_along as ticks_along}
use Rattle.member.specs.Member.{member_of}
use Rattle.member.specs.Facts.{Facts}
use Rattle.stages.specs.declared.before.BeforeAges.{BeforeAges}
use Rattle.stages.specs.Run.{Report, member_result}
use Rattle.tolerance.specs.Method.{Choice, FactorsAlong, stress_along, after_deflector, steps_after_slip}
use Rattle.tolerance.specs.Demand.{each, path_steps, steps_of, left_along, goes_on, exact_after_slip, exact_stresses, core_after_slip}
use Rattle.tolerance.specs.Demand.{core_after_deflector, counted_anew, counted_at_slip, counted, core_after_early, stresses_by, stresses_of}
use Rattle.tolerance.specs.Demand.{core_after_path, core_stresses, Close, Falls, Linked, Demand3, losses_before, losses_of_rows}
use Rattle.tolerance.specs.Demand.{gains_of_rows}
use Rattle.tolerance.proofs.Path.{some_factors}
use Rattle.tolerance.proofs.Allowance.{Allowance, narrow_allowance, wide_allowance}
use Rattle.tolerance.proofs.Chains.{Chain, chain_at, chain_lengths, each_length_then, each_at, each_then}
use Rattle.tolerance.proofs.Run.{Began, AgesRun, run, ages_rise, ages_close_up, ages_end, rows_count, stresses_count}
use Rattle.tolerance.proofs.Distance.{deflector_keeps_distance}
use Rattle.tolerance.proofs.Closeness.{step_close, deflected, after_slip_close}
use Rattle.tolerance.proofs.AfterSlip.{end_of_path, along_path, after_slip}

module _ {q : Quantities} {report scratch : ℕ} (facts : Facts q report scratch) (few : Few q) {given : Report}
    (began : Began q given.before)
    (ran : AgesRun q q.own_weight_moment q.transfer given.before.stress q.ages given.rows given.last) where
  abbrev before : BeforeAges
  before = given.before

  abbrev segments : ℕ
  segments = length q.path

  abbrev second : ℕ
  second = length q.second_path

  -- the core's stresses after the paths, and from the second path on
  abbrev rest : List ℕ
  rest = core_after_path q before ++ stresses_of given.rows

  abbrev from_second : List ℕ
  from_second = each second (ticks_along q q.second_path) ++ rest

  rest_count : length rest ≡ length q.ages + 3
  rest_count = omega (arith, stresses_count given.rows, rows_count ran)

  second_count : length from_second ≡ second + length rest
  second_count = each_length_then (ticks_along q q.second_path) second rest

  count : length (core_stresses q given) ≡ steps_of q
  count = omega (arith, each_length_then (ticks_along q q.path) segments from_second, second_count, rest_count)

  -- ---- near after every step

  module _ {δ step : ℕ} {choice : Choice} (allowed : Allowance δ step choice) (factors : FactorsAlong q q.path choice.factor)
      (second_factors : FactorsAlong q q.second_path choice.second_factor) where
    -- the steps counted at slip, and the exact stress there
    abbrev at_slip : ℕ
    at_slip = counted_at_slip q

    abbrev exact_slipped : Fraction
    exact_slipped = exact_after_slip choice q

    slipped : Within (whole (at_slip * step)) (whole (core_after_slip q before)) exact_slipped
    slipped = after_slip facts allowed few.segments few.second factors second_factors began

    after_deflector_near : Within (whole (at_slip * step)) (whole (core_after_deflector q before)) (after_deflector choice q exact_slipped)
    after_deflector_near =
        let x = whole (core_after_slip q before) in
        within_weaken (≼-of-≈ (zero-⊕ (whole (at_slip * step))))
        (step_close (deflector_keeps_distance choice q (larger x exact_slipped)) (larger_left x exact_slipped)
        (larger_right x exact_slipped) (deflected facts allowed began ran) slipped)

    -- the exact stresses after the paths, and from the second path on
    abbrev exact_rest : List Fraction
    exact_rest = exact_slipped ∷ stresses_by (steps_after_slip choice q) exact_slipped

    abbrev exact_second : List Fraction
    exact_second = each second (stress_along choice.second_factor q) ++ exact_rest

    counted_few : at_slip ≤ suc (most_segments + most_segments)
    counted_few = by (counted_anew q)
      where
        by : (anew : Bool) → cond anew 0 (suc (path_steps q)) ≤ suc (most_segments + most_segments)
        by true = omega arith
        by false = omega (arith, few.segments, few.second)

    chain : Chain step at_slip (core_after_early q before ∷ before.stress ∷ stresses_of given.rows)
        (stresses_by (steps_after_slip choice q) exact_slipped)
    chain =
        after_slip_close facts allowed began ran at_slip exact_slipped (omega (arith, counted_few, few.ages)) slipped

    from_slip : (i : ℕ) → i < length rest
        → Within (whole ((at_slip + i) * step)) (whole (get_or rest i 0)) (get_or exact_rest i (whole 0))
    from_slip zero h = within_weaken (whole_order (mul-le-mul_right step (omega arith))) slipped
    from_slip (suc i) h = chain_at chain i (omega arith)

    -- from the second path on, so many steps behind the first
    abbrev CloseBehind : ℕ → Type 0
    CloseBehind i =
        Within (whole (cond (ltb i second) (suc i) (at_slip + (i - second)) * step)) (whole (get_or from_second i 0))
        (get_or exact_second i (whole 0))

    close_behind : (i : ℕ) → i < length from_second → CloseBehind i
    close_behind i h = by (dec_lt i second)
      where
        later : (k : ℕ) → k < length rest → CloseBehind (second + k)
        later k h =
            rw (
              le-ltb (second + k) second (omega arith),
              each_then (ticks_along q q.second_path) second rest k 0,
              each_then (stress_along choice.second_factor q) second exact_rest k (whole 0),
              add-sub_cancel_left second k,
            )
            (from_slip k h)

        by : Dec (i < second) → CloseBehind i
        by (yes less) =
            rw (
              lt-ltb i second less,
              each_at (ticks_along q q.second_path) second rest i 0 less,
              each_at (stress_along choice.second_factor q) second exact_rest i (whole 0) less,
            )
            (along_path facts allowed facts.second_fit few.second facts.second_friction_most second_factors i less)
        by (no not_less) =
            let at : second + (i - second) ≡ i = omega arith in
            subst CloseBehind at (later (i - second) (omega (arith, second_count)))

    abbrev CloseAt : ℕ → Type 0
    CloseAt place =
        Within (whole (counted q place * step)) (whole (get_or (core_stresses q given) place 0))
        (get_or (exact_stresses choice q) place (whole 0))

    close_at : (place : ℕ) → place < steps_of q → CloseAt place
    close_at place h = by (dec_lt place segments)
      where
        same_test : (i : ℕ) → ltb (segments + i) (path_steps q) ≡ ltb i second
        same_test i = by (dec_lt i second)
          where
            by : Dec (i < second) → ltb (segments + i) (path_steps q) ≡ ltb i second
            by (yes less) = rw (lt-ltb i second less, lt-ltb (segments + i) (path_steps q) (omega arith))
            by (no not_less) = rw (le-ltb i second (omega arith), le-ltb (segments + i) (path_steps q) (omega arith))

        same_rest : (i : ℕ) → segments + i - path_steps q ≡ i - second
        same_rest i = omega arith

        later : (i : ℕ) → i < length from_second → CloseAt (segments + i)
        later i h =
            rw (
              le-ltb (segments + i) segments (omega arith),
              same_test i,
              same_rest i,
              each_then (ticks_along q q.path) segments from_second i 0,
              each_then (stress_along choice.factor q) segments exact_second i (whole 0),
              add-sub_cancel_left segments i,
            )
            (close_behind i h)

        by : Dec (place < segments) → CloseAt place
        by (yes less) =
            rw (
              lt-ltb place segments less,
              each_at (ticks_along q q.path) segments from_second place 0 less,
              each_at (stress_along choice.factor q) segments exact_second place (whole 0) less,
            )
            (along_path facts allowed facts.segments_fit few.segments facts.friction_most factors place less)
        by (no not_less) =
            let at : segments + (place - segments) ≡ place = omega arith in
            subst CloseAt at (later (place - segments) (omega (arith, second_count, rest_count)))

    close : Close step choice q given
    close = record {
      core_count = count;
      exact_count =
          omega (
            arith,
            each_length_then (stress_along choice.factor q) segments exact_second,
            each_length_then (stress_along choice.second_factor q) second exact_rest,
            chain_lengths chain,
            rest_count,
          );
      steps = close_at;
      deflector = after_deflector_near;
    }

  -- ---- the run's own numbers

  falls_along : (path : List Segment) → Falls (jacked q) (ticks_along q path (length path) ∷ left_along q path ∷ [])
  unfolding Falls
  falls_along path = (omega (arith, end_of_path q path), (omega (arith, end_of_path q path), tt))

  falls : Falls (left_along q (goes_on q)) (core_after_path q before)
  unfolding Falls
  falls = (rw (began.friction, began.slip) (omega arith), (omega arith, (omega (arith, began.closes), tt)))

  closes : jacked q + gains_of_rows given.rows ≡ given.last + losses_before before + losses_of_rows given.rows
  closes = omega (arith, began.closes, ages_close_up ran)

  reported_last : get_or (core_stresses q given) (path_steps q + length q.ages + 2) 0 ≡ given.last
  reported_last =
      let place : path_steps q + length q.ages + 2 ≡ segments + (second + suc (suc (length q.ages))) = omega arith in
      rw (
        place,
        each_then (ticks_along q q.path) segments from_second (second + suc (suc (length q.ages))) 0,
        each_then (ticks_along q q.second_path) second rest (suc (suc (length q.ages))) 0,
      )
      (ages_end ran)

  linked : Linked q given
  linked = record {
    path_end = omega (arith, end_of_path q (goes_on q), began.friction, began.closes);
    slip_is = began.slip;
    reply = omega (arith, began.closes);
    rows_count = rows_count ran;
    last = reported_last;
  }

pub demand_3 : (q : Quantities) (report scratch : ℕ) → Few q → Facts q report scratch → (given : Report)
    → member_result (member_of q) q.ages ≡ Ok given → Demand3 q given
demand_3 q report scratch few facts given result =
    let (began, ran) = run q given result in
    record {
      narrow = λ factor second_factor factors second_factors. close facts few began ran narrow_allowance factors second_factors;
      wide = λ choice admissible. close facts few began ran (wide_allowance admissible) admissible.factors admissible.second_factors;
      some_factors = record {
        first = some_factors q facts.segments_fit few.segments facts.friction_most;
        second = some_factors q facts.second_fit few.second facts.second_friction_most;
      };
      slip_exact = began.slips_exactly;
      falls_along = record { first = falls_along facts few began ran q.path; second = falls_along facts few began ran q.second_path };
      falls = falls facts few began ran;
      rises = ages_rise facts ran;
      closes = closes facts few began ran;
      linked = linked facts few began ran;
    }
