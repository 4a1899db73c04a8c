-- What slip takes of a stress, or its refusal. The definition has three cases: each holds where its tests say so, and a slip that is
-- given came by one of two. Assumes nothing.
use mathlib.Core.Path.{◌≡◌, refl}
use mathlib.Core.Bool.{Bool, true, false}
use Prim.Native.Nat.{ℕ}
use Rattle.std.specs.Prelude.{Ok, Err}
use Rattle.fields.specs.declared.refusal.Refusal.TheVariants.{AnchorSet}
use Rattle.formulas.specs.Steps.{dies_out, drop_at_jack, passes_tendon, drop_at_section, slip_loss}
use Rattle.member.specs.declared.Member.{Member}
use Rattle.member.specs.declared.path.Path.{Path}
use Rattle.stages.specs.Run.{friction_along, slip_along}

module _ (m : Member) (path : Path) where
  abbrev d : ℕ
  d = friction_along m path

  -- Z
  abbrev z : ℕ
  z = drop_at_jack d m.es m.slip path.length

  abbrev dies : Bool
  dies = dies_out d path.length

  abbrev passes : Bool
  passes = passes_tendon z d path.length m.length

  pub over_the_tendon : dies ≡ false → slip_along m path ≡ Ok (slip_loss m.es m.slip m.length)
  over_the_tendon not = rw not refl

  pub beyond_the_tendon : dies ≡ true → passes ≡ true → slip_along m path ≡ Err AnchorSet
  beyond_the_tendon so far = rw (so, far) refl

  pub at_the_section : dies ≡ true → passes ≡ false → slip_along m path ≡ Ok (drop_at_section z d)
  at_the_section so near = rw (so, near) refl

  -- ---- a slip that is given

  module _ {slip : ℕ} (given : slip_along m path ≡ Ok slip) where
    pub given_over_the_tendon : dies ≡ false → slip ≡ slip_loss m.es m.slip m.length
    given_over_the_tendon not = let is = over_the_tendon not in cc

    pub given_at_the_section : dies ≡ true → (passes ≡ false) × (slip ≡ drop_at_section z d)
    given_at_the_section so = by passes refl
      where
        by : (far : Bool) → passes ≡ far → (passes ≡ false) × (slip ≡ drop_at_section z d)
        by true far = let refused = beyond_the_tendon so far in cc
        by false near = let is = at_the_section so near in (near, cc)
