-- `list::write` meets its contract. The loop's invariant: whatever the amounts are that are given, the first `at` of them are read, and
-- their numbers stand at the front. Assumes nothing.
use mathlib.Core.Path.{◌≡◌}
use Prim.Native.Nat.{ℕ, ◌<◌}
use native.Mathlib.Omega.{arith}
use lib.ListN.{length, length-take}
use Rattle.std.specs.Prelude.{Err}
use Rattle.std.proofs.lemmas.Grind.{common_steps}
use Rattle.std.proofs.lemmas.List.{take-append-drop, set-append_left, set-get_or}
use Rattle.list.proofs.Numbers.{begun, one_more, stopped}
use Rattle.list.proofs.write.Goals as goal

pub loop-at-init : goal.loop-at-init
loop-at-init g c = λ amounts given. rw take-append-drop (begun amounts c.args.fields.now)

pub returns-in_err-number-clause-written : goal.returns-in_err-number-clause-written
returns-in_err-number-clause-written g c = λ amounts given.
    let test : c.loop-at.at < c.args.count = omega (arith, length-take {A = ℕ}) in
    let answered : c.from_residual.result ≡ Err c.loop-at.at = grind (arith, common_steps) in
    rw (answered, set-get_or)
    (stopped (c.loop-at.invariant amounts given) (omega (arith, given.count_is))
    (given.each c.loop-at.at c.amount.result test c.amount.ensures) c.in_err-number.ensures.ok_part)

pub loop-at-preserved : goal.loop-at-preserved
loop-at-preserved g c = λ amounts given.
    let more : c.loop-at.at < length c.loop-at.number-items = omega arith in
    let test : c.loop-at.at < c.args.count = omega (arith, length-take {A = ℕ}) in
    rw (← set-append_left c.loop-at.number-items)
    (one_more (c.loop-at.invariant amounts given) (omega (arith, given.count_is))
    (given.each c.loop-at.at c.amount.result test c.amount.ensures) c.in_ok-number.field-0 (omega arith) c.in_ok-number.ensures.ok_part)
