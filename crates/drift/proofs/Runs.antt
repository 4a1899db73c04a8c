-- An accepted run of a member whose slip goes over the tendon along each path, and what is known of it: the member's facts, demand 3, and
-- each loss before the ages with the stress that it leaves. Which rule a member's slip follows does not depend on its jacking stress, since
-- friction takes something of any stress or of none. Assumes nothing.
use mathlib.Core.Path.{◌≡◌, sym, ◌∙◌}
use mathlib.Core.Bool.{false}
use mathlib.Core.List.{List}
use Prim.Native.Nat.{ℕ, ◌-◌, ◌*◌, ◌/◌, ◌≤◌, ◌<◌}
use native.Mathlib.Nat.{le_trans, mul-lt-mul_of_pos_left, div-lt_iff_lt-mul}
use native.Mathlib.Decide.{dec_lt}
use native.Mathlib.Omega.{arith}
use lib.Dec.{ltb, lit<, lit≤}
use lib.ListN.{length}
use borrow.Author.Tests.{lt-ltb, le-ltb}
use Rattle.std.specs.Prelude.{Ok}
use Rattle.ticks.specs.Ticks.{ticks_per_unit, T}
use Rattle.exponential.specs.Factor.{factor}
use Rattle.exponential.proofs.Turns.{factor_most}
use Rattle.fields.specs.declared.segments.Segment.{Segment}
use Rattle.fields.specs.Quantities.{Quantities}
use Rattle.std.specs.Prelude.{Ok}
use Rattle.fields.proofs.Onward.{through}
use Rattle.formulas.specs.Steps.{friction_loss, slip_loss}
use Rattle.member.specs.Constants.{jacked, friction_of, stress_along}
use Rattle.member.specs.Member.{member_of, checked_of}
use Rattle.member.specs.Facts.{Facts}
use Rattle.member.proofs.Laws.{accepted}
use Rattle.stages.specs.Run.{early_relaxation_of, shortening_of, Report, member_result, result_of}
use Rattle.tolerance.specs.Demand.{OfEachPath, slip_dies_out, left_along, core_after_deflector, core_after_early, Demand3}
use Rattle.tolerance.proofs.AfterSlip.{end_of_path}
use Rattle.fields.proofs.Counting.{Few}
use Rattle.tolerance.proofs.Demand3.{demand_3}
use Rattle.tolerance.proofs.Run.{Began, AgesRun, run}
use Rattle.drift.specs.Drift.{Common, jacked_to}

-- along neither path does slip die out
abbrev pub OverTheTendon : Quantities → Type 0
OverTheTendon q = OfEachPath q (λ path. slip_dies_out q path ≡ false)

pub record AcceptedRun (q : Quantities) (given : Report) : Type 0 where
  pub report : ℕ
  pub scratch : ℕ
  pub few : Few q
  pub facts : Facts q report scratch
  pub result_is : member_result (member_of q) q.ages ≡ Ok given
  pub began : Began q given.before
  pub ran : AgesRun q q.own_weight_moment q.transfer given.before.stress q.ages given.rows given.last
  pub over_the_tendon : OverTheTendon q
  pub demand : Demand3 q given

-- an accepted member has a jacking stress above 0
pub accepted_run : (q : Quantities) (report scratch : ℕ) {given : Report} → Few q → (0 < q.jacking_stress → OverTheTendon q)
    → result_of q report scratch ≡ Ok given → AcceptedRun q given
accepted_run q report scratch {given} few over result =
    let checked = through (checked_of q report scratch) (λ m. member_result m q.ages) result in
    let known = accepted q report scratch checked.given_is in
    let result_is = rw known.is at checked.next_is in
    let (began, ran) = run q given result_is in
    record {
      report = report;
      scratch = scratch;
      few = few;
      facts = known.facts;
      result_is = result_is;
      began = began;
      ran = ran;
      over_the_tendon = over (le_trans (lit≤ tt) known.facts.head.jacking_least);
      demand = demand_3 q report scratch few known.facts given result_is;
    }

-- ---- which rule slip follows

-- friction takes something of a stress just where its factor is below T
friction_some : (stress X : ℕ) → 0 < stress → ltb 0 (friction_loss stress X) ≡ ltb (factor X) T
friction_some stress X some = by (dec_lt (factor X) T)
  where
    by : Dec (factor X < T) → ltb 0 (friction_loss stress X) ≡ ltb (factor X) T
    by (yes less) =
        let left : stress * factor X / T < stress = (div-lt_iff_lt-mul (lit< tt)).1 (mul-lt-mul_of_pos_left less some) in
        lt-ltb 0 (friction_loss stress X) (omega arith) ∙ sym (lt-ltb (factor X) T less)
    by (no not_less) =
        let whole : factor X ≡ T = omega (arith, factor_most X) in
        le-ltb 0 (friction_loss stress X) (rw whole (omega arith)) ∙ sym (le-ltb (factor X) T (omega arith))

-- so the rule is the same along a path for any two jacking stresses of a member
pub same_rule : (common : Common) (path : List Segment) (a b : ℕ) → 0 < a → 0 < b
    → slip_dies_out (jacked_to a common) path ≡ slip_dies_out (jacked_to b common) path
same_rule common path a b a>0 b>0 =
    let X = friction_of (jacked_to a common) path in
    rw (friction_some (a * ticks_per_unit) X (omega arith), friction_some (b * ticks_per_unit) X (omega arith))

-- ---- the losses before the ages, each no larger than the stress before it, and what they leave

module _ {q : Quantities} {given : Report} (accepted : AcceptedRun q given) where
  abbrev began : Began q given.before
  began = accepted.began

  -- what friction and slip over the tendon leave along a path
  pub left_is : (path : List Segment) → slip_dies_out q path ≡ false
      → left_along q path ≡ stress_along q path (length path) - slip_loss q.Es q.slip q.tendon_length
  left_is path over = rw (over, end_of_path q path)

  pub early_fits : early_relaxation_of (member_of q) (core_after_deflector q given.before) ≤ core_after_deflector q given.before
  early_fits = omega (arith, began.early, began.closes)

  pub shortening_fits : shortening_of (member_of q) (core_after_early q given.before) ≤ core_after_early q given.before
  shortening_fits = omega (arith, began.shortening, began.closes)

  pub shortening_leaves :
      given.before.stress ≡ core_after_early q given.before - shortening_of (member_of q) (core_after_early q given.before)
  shortening_leaves = omega (arith, began.shortening, began.closes)

  pub not_above_jacked : given.before.stress ≤ jacked q
  not_above_jacked = omega (arith, began.closes)
