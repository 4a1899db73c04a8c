-- A turn brings one more elongation, and the last turn all. Assumes nothing.
use mathlib.Core.Path.{◌≡◌, sym, ◌∙◌}
use mathlib.Core.List.{◌∷◌}
use Prim.Native.Nat.{◌+◌}
use native.Mathlib.Omega.{arith}
use lib.ListN.{drop}
use Rattle.formulas.specs.Steps.{stress_left}
use Rattle.fields.specs.Along.{segments_of}
use Rattle.member.specs.Constants.{jacked, segment_friction}
use Rattle.fields.proofs.Counting.{few_segments}
use Rattle.elongation.proofs.Walk.{one_passed, friction_small, all_stretched, fits}
use Rattle.elongation.proofs.Walk.{friction_fits, elongation_fits, one_more}
use Rattle.elongation.proofs.stretching.stretch.Goals as goal
use Rattle.elongation.proofs.stretching.stretch.Goals.{In-Some, After-segment_friction-friction, After-stress_left-after}

next : (c : In-Some)
    → drop c.loop-number.number-iterator.count c.args.fields.now.path ≡ c.in-Some.segment ∷ segments_of c.next.new.self.iter.fields.now
next c = sym c.loop-number.invariant.left ∙ c.in-Some.ensures.steps.0.1

-- what the calls give, of the fields as the quantities that they are
rubbed : (c : After-segment_friction-friction)
    → c.segment_friction-friction.result ≡ segment_friction c.args.fields.now.wobble c.args.fields.now.curvature c.in-Some.segment
rubbed c = rw (← c.fields.view_is) c.segment_friction-friction.ensures.is

is_left : (c : After-stress_left-after)
    → c.stress_left-after.result
    ≡ stress_left (jacked c.args.fields.now) (c.loop-number.friction + c.segment_friction-friction.result)
is_left c = rw (← c.fields.view_is) c.stress_left-after.ensures

pub segment_friction-friction-requires : goal.segment_friction-friction-requires
segment_friction-friction-requires c =
    let at = goal.at.segment_friction-friction-requires c in
    rw (← c.fields.view_is) at (fits c.requires c.loop-number.invariant.stretching (next at.In-Some))

pub overflow_add-friction : goal.overflow_add-friction
overflow_add-friction c =
    omega (arith, friction_small c.requires c.loop-number.invariant.stretching, c.segment_friction-friction.ensures.most)

pub stress_left-after-requires : goal.stress_left-after-requires
stress_left-after-requires c =
    let at = goal.at.stress_left-after-requires c in
    rw (← c.fields.view_is) at (friction_fits c.requires c.loop-number.invariant.stretching (next at.In-Some) (rubbed c))

pub elongation-stretched-requires : goal.elongation-stretched-requires
elongation-stretched-requires c =
    let at = goal.at.elongation-stretched-requires c in
    rw (← c.fields.view_is) at
    (elongation_fits c.requires c.loop-number.invariant.stretching (next at.In-Some) (rubbed at.After-segment_friction-friction)
    (is_left c))

pub loop-number-preserved : goal.loop-number-preserved
loop-number-preserved c =
    let at = goal.at.loop-number-preserved c in
    let steps = c.in-Some.ensures.steps in
    record {
      left = rw steps.2 (one_passed c.args.fields.now.path c.loop-number.number-iterator.count c.loop-number.invariant.left steps.0.1);
      stretching = rw (steps.1, steps.2)
          (one_more c.requires c.loop-number.invariant.stretching (next at.In-Some) (rubbed at.After-segment_friction-friction)
          (is_left at.After-stress_left-after) (rw (← c.fields.view_is) c.elongation-stretched.ensures.is) c.elongation-stretched.ensures.most);
    }

pub returns : goal.returns
returns c =
    let left = c.loop-number.invariant.left in
    all_stretched c.requires c.loop-number.invariant.stretching (few_segments _ _ c.fields.view_is c.fields.invariant)
    (sym left ∙ c.in-None.ensures.steps.0)
