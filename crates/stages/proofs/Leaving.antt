-- What a loss leaves of a stress, and what a gain makes of it. Each is a test that gives a stress or refuses: which case it is, what was
-- tested where a stress is given, that this stress fits, and which refusal it is. Assumes nothing.
use mathlib.Core.Path.{◌≡◌, refl}
use mathlib.Core.Bool.{Bool, true, false, cond}
use Prim.Native.Nat.{ℕ, ◌+◌, ◌-◌, ◌*◌, ◌≤◌, ◌<◌}
use native.Mathlib.Omega.{arith}
use lib.Dec.{leb}
use borrow.Author.Tests.{leb-true}
use Rattle.std.specs.Prelude.{Ok, Err}
use Rattle.ticks.specs.Ticks.{ticks_per_unit}
use Rattle.fields.specs.declared.refusal.Refusal.{Refusal}
use Rattle.fields.specs.declared.refusal.Refusal.TheVariants.{Stress, Overstress}
use Rattle.fields.specs.Outcomes.{OrRefusal}
use Rattle.fields.specs.Limits.{least_stress, most_of_strength, hundredths, strengths}
use Rattle.formulas.specs.Conditions.{stress_limit}
use Rattle.stages.specs.Run.{after, lifted}

-- ---- what is given

pub same_value : {A : Type 0} {a b : A} → ◌≡◌ {A = OrRefusal A} (Ok a) (Ok b) → a ≡ b
same_value e = cc

-- ---- a test

module _ (a b value : ℕ) (otherwise : Refusal) where
  abbrev tested : Bool → OrRefusal ℕ
  tested test = cond test (Ok value) (Err otherwise)

  passed : {given : ℕ} → tested (leb a b) ≡ Ok given → (a ≤ b) × (given ≡ value)
  passed {given} = by (leb a b) refl
    where
      by : (test : Bool) → leb a b ≡ test → tested test ≡ Ok given → (a ≤ b) × (given ≡ value)
      by true h e = (leb-true a b h, cc)
      by false h e = cc

  failed : {refusal : Refusal} → tested (leb a b) ≡ Err refusal → otherwise ≡ refusal
  failed {refusal} = by (leb a b)
    where
      by : (test : Bool) → tested test ≡ Err refusal → otherwise ≡ refusal
      by true e = cc
      by false e = cc

-- ---- a loss

module _ (place stress loss : ℕ) where
  -- a loss that leaves 1,000 psi, and what it leaves
  pub after_gives : (left : ℕ) → after place stress loss ≡ Ok left → (loss + least_stress ≤ stress) × (left ≡ stress - loss)
  after_gives left e = passed (loss + least_stress) stress (stress - loss) (Stress place) e

  pub left_fits : (left : ℕ) → stress < stress_limit → after place stress loss ≡ Ok left → left < stress_limit
  left_fits left fits e = let (enough, is) = after_gives left e in omega arith

  pub refuses_stress : {refusal : Refusal} → after place stress loss ≡ Err refusal → Stress place ≡ refusal
  refuses_stress e = failed (loss + least_stress) stress (stress - loss) (Stress place) e

-- ---- a gain

module _ (number strength stress gain : ℕ) where
  -- 0.80 F, in hundredths of ticks
  abbrev most : ℕ
  most = most_of_strength * strength * ticks_per_unit

  -- a gain that does not lead past 0.80 F, and where it leads
  pub lifted_gives : (risen : ℕ) → lifted number strength stress gain ≡ Ok risen
      → (hundredths * (stress + gain) ≤ most) × (risen ≡ stress + gain)
  lifted_gives risen e = passed (hundredths * (stress + gain)) most (stress + gain) (Overstress number) e

  pub lifted_fits : (risen : ℕ) → strength ≤ strengths.high → lifted number strength stress gain ≡ Ok risen → risen < stress_limit
  lifted_fits risen strong e = let (low, is) = lifted_gives risen e in omega arith

  pub refuses_overstress : {refusal : Refusal} → lifted number strength stress gain ≡ Err refusal → Overstress number ≡ refusal
  refuses_overstress e = failed (hundredths * (stress + gain)) most (stress + gain) (Overstress number) e
