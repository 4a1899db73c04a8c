-- The losses before the ages: a stress that is left fits as the one before it does, from the jacking stress on. Assumes nothing.
use mathlib.Core.Path.{◌≡◌, ap}
use Prim.Native.Nat.{◌<◌}
use native.Mathlib.Omega.{arith}
use Rattle.std.specs.Prelude.{Ok}
use Rattle.fields.proofs.Onward.{through}
use Rattle.member.specs.declared.Member.{Member}
use Rattle.formulas.specs.Conditions.{stress_limit}
use Rattle.stages.specs.declared.path.Seated.{Seated}
use Rattle.stages.specs.declared.before.BeforeAges.{BeforeAges}
use Rattle.stages.specs.Conditions.{Bounded}
use Rattle.stages.specs.Run.{seated, begun_of}
use Rattle.stages.proofs.Seating.{seated_most}
use Rattle.stages.proofs.Leaving.{same_value, left_fits}

pub seated_fits : (m : Member) (given : Seated) → Bounded m → seated m ≡ Ok given → given.stress < stress_limit
seated_fits m given bounds e =
    let most = seated_most m m.paths.first m.paths.second e in
    let fits = bounds.jacking_fits in
    omega arith

pub begun_fits : (m : Member) (before : BeforeAges) → Bounded m → begun_of m ≡ Ok before → before.stress < stress_limit
unfolding begun_of
begun_fits m before bounds e =
    let seated = through _ _ e in
    let deflected = through _ _ seated.next_is in
    let relaxed = through _ _ deflected.next_is in
    let shortened = through _ _ relaxed.next_is in
    let seated_fit = seated_fits m seated.from bounds seated.given_is in
    let deflected_fits = left_fits _ _ _ deflected.from seated_fit deflected.given_is in
    let relaxed_fits = left_fits _ _ _ relaxed.from deflected_fits relaxed.given_is in
    let shortened_fits = left_fits _ _ _ shortened.from relaxed_fits shortened.given_is in
    let last : shortened.from ≡ before.stress = ap (λ (begun : BeforeAges). begun.stress) (same_value shortened.next_is) in
    omega arith
