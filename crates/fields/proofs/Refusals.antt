-- What the number and the place of a refusal decide: that there is one, and which. A refusal is found again by its number and place.
-- Assumes nothing.
use mathlib.Core.Path.{◌≡◌, refl, sym, ◌∙◌}
use mathlib.Core.Bool.{cond}
use Prim.Native.Nat.{ℕ, ◌<◌}
use native.Mathlib.Omega.{arith}
use lib.Dec.{eqb}
use Rattle.fields.specs.declared.refusal.Refusal.{Refusal}
use Rattle.fields.specs.declared.refusal.Refusal.TheVariants.{Shape, Doubles, Codes, Ranges, Hours, Pretensioned, Duct, Buffers}
use Rattle.fields.specs.declared.refusal.Refusal.TheVariants.{SecondPath, PathLengths, Section, Creep, AnchorSet, Stress}
use Rattle.fields.specs.declared.refusal.Refusal.TheVariants.{Overstress}
use Rattle.fields.specs.Refusals.{acceptance_number, number, place}

-- none has the number of what is accepted
pub refusal_number : (refusal : Refusal) → acceptance_number < number refusal
refusal_number (Shape line) = omega arith
refusal_number (Doubles field) = omega arith
refusal_number (Codes field) = omega arith
refusal_number (Ranges field) = omega arith
refusal_number (Hours field) = omega arith
refusal_number Pretensioned = omega arith
refusal_number (Duct check) = omega arith
refusal_number SecondPath = omega arith
refusal_number PathLengths = omega arith
refusal_number (Buffers buffer) = omega arith
refusal_number Section = omega arith
refusal_number Creep = omega arith
refusal_number AnchorSet = omega arith
refusal_number (Stress age) = omega arith
refusal_number (Overstress age) = omega arith

refusal_by : ℕ → ℕ → Refusal
refusal_by number place =
    cond (eqb number 8) (Shape place)
    (cond (eqb number 9) (Doubles place)
    (cond (eqb number 1) (Codes place)
    (cond (eqb number 2) (Ranges place)
    (cond (eqb number 3) (Hours place)
    (cond (eqb number 13) Pretensioned
    (cond (eqb number 4) (Duct place)
    (cond (eqb number 14) SecondPath
    (cond (eqb number 15) PathLengths
    (cond (eqb number 10) (Buffers place)
    (cond (eqb number 5) Section
    (cond (eqb number 6) Creep
    (cond (eqb number 12) AnchorSet
    (cond (eqb number 7) (Stress place) (Overstress place))))))))))))))

found : (refusal : Refusal) → refusal_by (number refusal) (place refusal) ≡ refusal
unfolding refusal_by
found (Shape line) = refl
found (Doubles field) = refl
found (Codes field) = refl
found (Ranges field) = refl
found (Hours field) = refl
found Pretensioned = refl
found (Duct check) = refl
found SecondPath = refl
found PathLengths = refl
found (Buffers buffer) = refl
found Section = refl
found Creep = refl
found AnchorSet = refl
found (Stress age) = refl
found (Overstress age) = refl

pub same_refusal : (one other : Refusal) → number one ≡ number other → place one ≡ place other → one ≡ other
same_refusal one other numbers places = sym (found one) ∙ rw (numbers, places) (found other)
