-- What is known of a path that is seated, and of the one that goes on: by the parts through which a value was given. Assumes nothing.
use mathlib.Core.Path.{◌≡◌, refl, ap}
use mathlib.Core.Bool.{Bool, true, false, cond}
use Prim.Native.Nat.{ℕ, ◌+◌, ◌-◌, ◌≤◌}
use native.Mathlib.Omega.{arith}
use lib.Dec.{leb}
use Rattle.std.specs.Prelude.{Option, Some, None, Ok}
use Rattle.fields.specs.Limits.{least_stress}
use Rattle.fields.proofs.Onward.{through}
use Rattle.member.specs.declared.Member.{Member}
use Rattle.member.specs.declared.path.Path.{Path}
use Rattle.stages.specs.declared.path.Seated.{Seated}
use Rattle.stages.specs.Run.{after, jacked, friction_along, slip_along, seated_alone, seated_along, larger, looked_at, before_ages}
use Rattle.stages.specs.Run.{seated_by}
use Rattle.stages.proofs.Leaving.{same_value, after_gives}

-- along a path
pub record SeatedAlong (m : Member) (path : Path) (given : Seated) : Type 0 where
  pub friction_is : given.friction ≡ friction_along m path
  pub slip_is : slip_along m path ≡ Ok given.slip
  pub stress_is : given.stress ≡ jacked m - given.friction - given.slip

pub along_is : (m : Member) (path : Path) {given : Seated} → seated_along m path ≡ Ok given → SeatedAlong m path given
along_is m path {given} e =
    let slips = through (slip_along m path) _ e in
    let made : SeatedAlong m path (record {
      friction = friction_along m path;
      slip = slips.from;
      stress = jacked m - friction_along m path - slips.from;
    }) = record { friction_is = refl; slip_is = slips.given_is; stress_is = refl } in
    rw (same_value slips.next_is) at made

-- along the only path, which 7 let pass
pub record SeatedAlone (m : Member) (path : Path) (given : Seated) : Type 0 where
  pub friction_is : given.friction ≡ friction_along m path
  pub slip_is : slip_along m path ≡ Ok given.slip
  pub rubbed_enough : friction_along m path + least_stress ≤ jacked m
  pub left_enough : given.slip + least_stress ≤ jacked m - friction_along m path
  pub stress_is : given.stress ≡ jacked m - friction_along m path - given.slip

pub alone_is : (m : Member) (path : Path) {given : Seated} → seated_alone m path ≡ Ok given → SeatedAlone m path given
alone_is m path e =
    let friction = friction_along m path in
    let rubbed = through (after before_ages (jacked m) friction) _ e in
    let slips = through (slip_along m path) _ rubbed.next_is in
    let left = through (after before_ages rubbed.from slips.from) _ slips.next_is in
    let (rubbed_enough, rubbed_is) = after_gives before_ages (jacked m) friction rubbed.from rubbed.given_is in
    let (left_enough, left_is) = after_gives before_ages rubbed.from slips.from left.from left.given_is in
    let made : SeatedAlone m path (record { friction = friction; slip = slips.from; stress = left.from }) = record {
      friction_is = refl;
      slip_is = slips.given_is;
      rubbed_enough = rubbed_enough;
      left_enough = omega arith;
      stress_is = omega arith;
    } in
    rw (same_value left.next_is) at made

-- 7 let it pass
pub record LookedAt (m : Member) (looked given : Seated) : Type 0 where
  pub is : looked ≡ given
  pub rubbed_enough : looked.friction + least_stress ≤ jacked m
  pub left_enough : looked.slip + least_stress ≤ jacked m - looked.friction

pub looked_is : (m : Member) (looked : Seated) {given : Seated} → looked_at m looked ≡ Ok given → LookedAt m looked given
looked_is m looked e =
    let rubbed = through _ _ e in
    let left = through _ _ rubbed.next_is in
    let after_friction = after_gives _ _ _ rubbed.from rubbed.given_is in
    let after_slip = after_gives before_ages rubbed.from looked.slip left.from left.given_is in
    record {
      is = same_value left.next_is;
      rubbed_enough = after_friction.0;
      left_enough = rw (after_friction.1) at after_slip.0;
    }

-- ---- the one that goes on leaves no more than the jacking stress

along_most : (m : Member) (path : Path) {given : Seated} → seated_along m path ≡ Ok given → given.stress ≤ jacked m
along_most m path e = let is = (along_is m path e).stress_is in omega arith

larger_most : (most : ℕ) (first second : Seated) → first.stress ≤ most → second.stress ≤ most → (larger first second).stress ≤ most
larger_most most first second one other = by (leb second.stress first.stress)
  where
    by : (first_goes_on : Bool) → (cond first_goes_on first second).stress ≤ most
    by true = one
    by false = other

looked_most : (m : Member) (looked : Seated) {given : Seated} → looked.stress ≤ jacked m → looked_at m looked ≡ Ok given
    → given.stress ≤ jacked m
looked_most m looked most e =
    let same = ap (λ (seated : Seated). seated.stress) (looked_is m looked e).is in
    omega arith

alone_most : (m : Member) (path : Path) {given : Seated} → seated_alone m path ≡ Ok given → given.stress ≤ jacked m
alone_most m path e = let is = (alone_is m path e).stress_is in omega arith

pub seated_most : (m : Member) (first : Path) (second : Option Path) {given : Seated} → seated_by m first second ≡ Ok given
    → given.stress ≤ jacked m
unfolding seated_by
seated_most m path None e = alone_most m path e
seated_most m first (Some second) e =
    let one = through (seated_along m first) _ e in
    let other = through (seated_along m second) _ one.next_is in
    let most = larger_most (jacked m) one.from other.from (along_most m first one.given_is) (along_most m second other.given_is) in
    looked_most m (larger one.from other.from) most other.next_is
