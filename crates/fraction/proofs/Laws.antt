-- The laws of fractions: ≈ is an equality and ≼ a total order that sums and products keep, fractions are a semiring, ⊖ undoes ⊕,
-- and `larger` is the least that is not below either. Each is a law of the cross products: a fraction stands for three naturals,
-- and what omega does not find there is found by comparing polynomials in them. Assumes nothing.
use mathlib.Core.Path.{◌≡◌, refl, ap}
use mathlib.Core.List.{List, [], ◌∷◌}
use mathlib.Core.Logic.{◌⊎◌, inl, inr}
use mathlib.Core.Bool.{Bool, true, false, not, cond}
use Prim.Native.Nat.{ℕ, ◌+◌, ◌*◌, ◌≤◌, ◌<◌}
use native.Mathlib.Nat.{mul-pos, le_dest, le_of_eq, mul-le-mul_left, mul-le-mul_right}
use native.Mathlib.Nat.{le_of_mul-le-mul_left, eq_of_mul-eq-mul_left}
use native.Mathlib.Omega.{arith}
use lib.Dec.{T, leb, leb→le, nleb→lt}
use Rattle.fraction.specs.Fraction.{Fraction, whole, ◌⊕◌, ◌⊖◌, ◌⊗◌, opposite, cross, ◌≼◌, larger}
use Rattle.fraction.specs.Equality.{◌≈◌}
use Rattle.fraction.proofs.Polynomial.{Expression, atom, ◌+ᵉ◌, ◌*ᵉ◌, Semiring, naturals, solve}

-- ---- a fraction as three unknown naturals, with the sum, the product and the cross product of the definitions

record Symbol : Type 0 where
  up : Expression
  down : Expression
  den : Expression

abbrev symbol : ℕ → Symbol
symbol k = record { up = atom (3 * k); down = atom (3 * k + 1); den = atom (3 * k + 2) }

abbrev naturals_of : List Fraction → List ℕ
naturals_of [] = []
naturals_of (x ∷ fractions) = x.up ∷ x.down ∷ x.den ∷ naturals_of fractions

infixl 75 ◌⊕ˢ◌
infixl 80 ◌⊗ˢ◌
abbrev ◌⊕ˢ◌ : Symbol → Symbol → Symbol
x ⊕ˢ y = record {
  up = x.up *ᵉ y.den +ᵉ y.up *ᵉ x.den;
  down = x.down *ᵉ y.den +ᵉ y.down *ᵉ x.den;
  den = x.den *ᵉ y.den;
}

abbrev ◌⊗ˢ◌ : Symbol → Symbol → Symbol
x ⊗ˢ y = record {
  up = x.up *ᵉ y.up +ᵉ x.down *ᵉ y.down;
  down = x.up *ᵉ y.down +ᵉ x.down *ᵉ y.up;
  den = x.den *ᵉ y.den;
}

abbrev crossˢ : Symbol → Symbol → Expression
crossˢ x y = x.up *ᵉ y.den +ᵉ y.down *ᵉ x.den

-- three fractions are all that the laws below need
abbrev X : Symbol
X = symbol 0

abbrev Y : Symbol
Y = symbol 1

abbrev Z : Symbol
Z = symbol 2

-- ---- equality and order

pub ≈-refl : {x : Fraction} → x ≈ x
≈-refl = record { equal = refl }

pub ≈-sym : {x y : Fraction} → x ≈ y → y ≈ x
≈-sym {x} {y} h = record { equal = omega (arith, h.equal) }

pub ≈-trans : {x y z : Fraction} → x ≈ y → y ≈ z → x ≈ z
≈-trans {x} {y} {z} h k = record {
  equal = eq_of_mul-eq-mul_left y.den y.positive _ _
      (omega (arith, ap (λ n. z.den * n) h.equal, ap (λ n. x.den * n) k.equal));
}

-- the same, to be written in a row
infixr 20 ◌⨾◌
pub ◌⨾◌ : {x y z : Fraction} → x ≈ y → y ≈ z → x ≈ z
h ⨾ k = ≈-trans h k

pub ≼_trans : {x y z : Fraction} → x ≼ y → y ≼ z → x ≼ z
≼_trans {x} {y} {z} h k = record {
  at_most = le_of_mul-le-mul_left
      (omega (arith, mul-le-mul_left z.den h.at_most, mul-le-mul_left x.den k.at_most)) y.positive;
}

pub ≼-of-≈ : {x y : Fraction} → x ≈ y → x ≼ y
≼-of-≈ h = record { at_most = le_of_eq h.equal }

pub ≈-of-≼ : {x y : Fraction} → x ≼ y → y ≼ x → x ≈ y
≈-of-≼ {x} {y} h k = record { equal = omega (arith, h.at_most, k.at_most) }

pub ≼_refl : {x : Fraction} → x ≼ x
≼_refl = ≼-of-≈ ≈-refl

-- an order between equals of x and y
pub ≼-resp-≈ : {x x' y y' : Fraction} → x ≈ x' → y ≈ y' → x ≼ y → x' ≼ y'
≼-resp-≈ p q h = ≼_trans (≼-of-≈ (≈-sym p)) (≼_trans h (≼-of-≈ q))

-- ---- sums

pub ⊕-comm : (x y : Fraction) → x ⊕ y ≈ y ⊕ x
unfolding ◌⊕◌
⊕-comm x y = record { equal = omega arith }

pub ⊕-assoc : (x y z : Fraction) → (x ⊕ y) ⊕ z ≈ x ⊕ (y ⊕ z)
unfolding ◌⊕◌
⊕-assoc x y z = record { equal = omega arith }

-- the cross products of x + z and y + z differ by z's den, squared, times the difference of those of x and y
⊕-cross : (x y z : Fraction) →
    cross (x ⊕ z) (y ⊕ z) + z.den * z.den * cross y x ≡ cross (y ⊕ z) (x ⊕ z) + z.den * z.den * cross x y
unfolding ◌⊕◌
⊕-cross x y z = solve naturals (naturals_of (x ∷ y ∷ z ∷ []))
    (crossˢ (X ⊕ˢ Z) (Y ⊕ˢ Z) +ᵉ Z.den *ᵉ Z.den *ᵉ crossˢ Y X)
    (crossˢ (Y ⊕ˢ Z) (X ⊕ˢ Z) +ᵉ Z.den *ᵉ Z.den *ᵉ crossˢ X Y) tt

pub ⊕-mono-left : {x y : Fraction} (z : Fraction) → x ≼ y → x ⊕ z ≼ y ⊕ z
⊕-mono-left {x} {y} z h = record {
  at_most = step _ _ _ _ (z.den * z.den) (⊕-cross x y z) h.at_most;
}
  where
    step : (l r a b d : ℕ) → l + d * b ≡ r + d * a → a ≤ b → l ≤ r
    step l r a b d e h = omega (arith, e, mul-le-mul_left d h)

pub ⊕-cancel : {x y : Fraction} (z : Fraction) → x ⊕ z ≼ y ⊕ z → x ≼ y
⊕-cancel {x} {y} z h = record {
  at_most = le_of_mul-le-mul_left (step _ _ _ _ (⊕-cross x y z) h.at_most) (mul-pos z.positive z.positive);
}
  where
    step : (l r a b : ℕ) → l + b ≡ r + a → l ≤ r → a ≤ b
    step l r a b e h = omega arith

pub ⊕-mono : {x y z w : Fraction} → x ≼ y → z ≼ w → x ⊕ z ≼ y ⊕ w
⊕-mono {x} {y} {z} {w} h k =
    ≼_trans (⊕-mono-left z h) (≼-resp-≈ (⊕-comm z y) (⊕-comm w y) (⊕-mono-left y k))

pub ⊕-cong : {x y z w : Fraction} → x ≈ y → z ≈ w → x ⊕ z ≈ y ⊕ w
⊕-cong h k = ≈-of-≼ (⊕-mono (≼-of-≈ h) (≼-of-≈ k)) (⊕-mono (≼-of-≈ (≈-sym h)) (≼-of-≈ (≈-sym k)))

pub ⊕-cancel-≈ : {x y : Fraction} (z : Fraction) → x ⊕ z ≈ y ⊕ z → x ≈ y
⊕-cancel-≈ z h = ≈-of-≼ (⊕-cancel z (≼-of-≈ h)) (⊕-cancel z (≼-of-≈ (≈-sym h)))

-- ---- products

pub ⊗-comm : (x y : Fraction) → x ⊗ y ≈ y ⊗ x
unfolding ◌⊗◌
⊗-comm x y = record { equal = omega arith }

pub ⊗-assoc : (x y z : Fraction) → (x ⊗ y) ⊗ z ≈ x ⊗ (y ⊗ z)
unfolding ◌⊗◌
⊗-assoc x y z = record { equal = omega arith }

pub ⊗-⊕ : (x y z : Fraction) → x ⊗ (y ⊕ z) ≈ x ⊗ y ⊕ x ⊗ z
unfolding ◌⊗◌ ◌⊕◌
⊗-⊕ x y z = record {
  equal = solve naturals (naturals_of (x ∷ y ∷ z ∷ []))
      (crossˢ (X ⊗ˢ (Y ⊕ˢ Z)) (X ⊗ˢ Y ⊕ˢ X ⊗ˢ Z)) (crossˢ (X ⊗ˢ Y ⊕ˢ X ⊗ˢ Z) (X ⊗ˢ (Y ⊕ˢ Z))) tt;
}

-- the cross products of x z and y z differ by z's den times (up − down) times the difference of those of x and y
⊗-cross : (x y z : Fraction) →
    cross (x ⊗ z) (y ⊗ z) + z.den * (z.up * cross y x + z.down * cross x y)
    ≡ cross (y ⊗ z) (x ⊗ z) + z.den * (z.up * cross x y + z.down * cross y x)
unfolding ◌⊗◌
⊗-cross x y z = solve naturals (naturals_of (x ∷ y ∷ z ∷ []))
    (crossˢ (X ⊗ˢ Z) (Y ⊗ˢ Z) +ᵉ Z.den *ᵉ (Z.up *ᵉ crossˢ Y X +ᵉ Z.down *ᵉ crossˢ X Y))
    (crossˢ (Y ⊗ˢ Z) (X ⊗ˢ Z) +ᵉ Z.den *ᵉ (Z.up *ᵉ crossˢ X Y +ᵉ Z.down *ᵉ crossˢ Y X)) tt

pub ⊗-cong-left : {x y : Fraction} (z : Fraction) → x ≈ y → x ⊗ z ≈ y ⊗ z
⊗-cong-left {x} {y} z h = record {
  equal = step _ _ _ _ z.den z.up z.down (⊗-cross x y z) h.equal;
}
  where
    step : (l r a b d u n : ℕ) → l + d * (u * b + n * a) ≡ r + d * (u * a + n * b) → a ≡ b → l ≡ r
    step l r a b d u n e h = omega (arith, rw h at e)

pub ⊗-cong : {x y z w : Fraction} → x ≈ y → z ≈ w → x ⊗ z ≈ y ⊗ w
⊗-cong {x} {y} {z} {w} h k = ⊗-cong-left z h ⨾ ⊗-comm y z ⨾ ⊗-cong-left y k ⨾ ⊗-comm w y

-- a product with what is not negative keeps the order
pub ⊗-mono-left : {x y : Fraction} (z : Fraction) → whole 0 ≼ z → x ≼ y → x ⊗ z ≼ y ⊗ z
unfolding whole
⊗-mono-left {x} {y} z h k = record {
  at_most = step _ _ _ _ z.den z.up z.down (⊗-cross x y z) (omega (arith, h.at_most)) (le_dest k.at_most);
}
  where
    step : (l r a b d u n : ℕ) → l + d * (u * b + n * a) ≡ r + d * (u * a + n * b) → n ≤ u → (j : ℕ) × (a + j ≡ b) → l ≤ r
    step l r a b d u n e h (j, k) = omega (arith, rw (← k) at e, mul-le-mul_left d (mul-le-mul_right j h))

-- both factors may grow where neither z nor y is negative
pub ⊗-mono : {x y z w : Fraction} → whole 0 ≼ z → whole 0 ≼ y → x ≼ y → z ≼ w → x ⊗ z ≼ y ⊗ w
⊗-mono {x} {y} {z} {w} z≥0 y≥0 h k =
    ≼_trans (⊗-mono-left z z≥0 h) (≼-resp-≈ (⊗-comm z y) (⊗-comm w y) (⊗-mono-left y y≥0 k))

-- ---- whole numbers

pub whole-⊕ : (a b : ℕ) → whole (a + b) ≈ whole a ⊕ whole b
unfolding whole ◌⊕◌
whole-⊕ a b = record { equal = omega arith }

pub whole-⊗ : (a b : ℕ) → whole (a * b) ≈ whole a ⊗ whole b
unfolding whole ◌⊗◌
whole-⊗ a b = record { equal = omega arith }

pub zero-⊕ : (x : Fraction) → whole 0 ⊕ x ≈ x
unfolding whole ◌⊕◌
zero-⊕ x = record { equal = omega arith }

pub zero-⊗ : (x : Fraction) → whole 0 ⊗ x ≈ whole 0
unfolding whole ◌⊗◌
zero-⊗ x = record { equal = omega arith }

pub one-⊗ : (x : Fraction) → whole 1 ⊗ x ≈ x
unfolding whole ◌⊗◌
one-⊗ x = record { equal = omega arith }

pub ⊗-not-negative : {x y : Fraction} → whole 0 ≼ x → whole 0 ≼ y → whole 0 ≼ x ⊗ y
⊗-not-negative {x} {y} h k = ≼_trans (≼-of-≈ (≈-sym (zero-⊗ y))) (⊗-mono-left y k h)

-- fractions are a semiring, so that `solve` is for them too
abbrev pub fractions : Semiring
fractions = record {
  Number = Fraction;
  ◌≈◌ = ◌≈◌;
  add = ◌⊕◌;
  mul = ◌⊗◌;
  numeral = whole;
  reflexive = ≈-refl;
  symmetric = ≈-sym;
  transitive = ≈-trans;
  add_cong = ⊕-cong;
  mul_cong = ⊗-cong;
  add_comm = ⊕-comm;
  add_assoc = ⊕-assoc;
  mul_comm = ⊗-comm;
  mul_assoc = ⊗-assoc;
  mul_add = ⊗-⊕;
  zero_add = zero-⊕;
  zero_mul = zero-⊗;
  one_mul = one-⊗;
  numeral_add = whole-⊕;
  numeral_mul = whole-⊗;
}

-- ---- differences

pub ⊖-⊕ : (x y : Fraction) → (x ⊖ y) ⊕ y ≈ x
unfolding ◌⊖◌ ◌⊕◌ opposite
⊖-⊕ x y = record { equal = omega arith }

-- what is taken off turns the order round
pub ⊖-mono : {x y z w : Fraction} → x ≼ y → w ≼ z → x ⊖ z ≼ y ⊖ w
unfolding ◌⊖◌ opposite
⊖-mono {x} {y} {z} {w} h k = ⊕-mono h (record { at_most = omega (arith, k.at_most) })

pub ⊖-cong : {x y z w : Fraction} → x ≈ y → z ≈ w → x ⊖ z ≈ y ⊖ w
⊖-cong h k = ≈-of-≼ (⊖-mono (≼-of-≈ h) (≼-of-≈ (≈-sym k))) (⊖-mono (≼-of-≈ (≈-sym h)) (≼-of-≈ k))

-- ---- the larger of two

cond_cases : (b : Bool) (x y : Fraction) (C : Fraction → Type 0) → (T b → C y) → (T (not b) → C x) → C (cond b y x)
cond_cases true x y C upper lower = upper tt
cond_cases false x y C upper lower = lower tt

-- what holds of y where x ≼ y, and of x where y ≼ x, holds of the larger
pub larger_cases : (x y : Fraction) (C : Fraction → Type 0) → (x ≼ y → C y) → (y ≼ x → C x) → C (larger x y)
unfolding larger
larger_cases x y C upper lower = cond_cases (leb (cross x y) (cross y x)) x y C
    (λ t. upper (record { at_most = leb→le _ _ t }))
    (λ t. lower (record { at_most = weaken _ _ (nleb→lt _ _ t) }))
  where
    weaken : (a b : ℕ) → a < b → a ≤ b
    weaken a b h = omega arith

pub ≼-total : (x y : Fraction) → (x ≼ y) ⊎ (y ≼ x)
≼-total x y = larger_cases x y (λ _. (x ≼ y) ⊎ (y ≼ x)) inl inr

pub larger_left : (x y : Fraction) → x ≼ larger x y
larger_left x y = larger_cases x y (λ m. x ≼ m) (λ h. h) (λ _. ≼_refl)

pub larger_right : (x y : Fraction) → y ≼ larger x y
larger_right x y = larger_cases x y (λ m. y ≼ m) (λ _. ≼_refl) (λ h. h)

pub larger_least : {x y z : Fraction} → x ≼ z → y ≼ z → larger x y ≼ z
larger_least {x} {y} {z} h k = larger_cases x y (λ m. m ≼ z) (λ _. k) (λ _. h)

pub larger_mono : {x y z w : Fraction} → x ≼ y → z ≼ w → larger x z ≼ larger y w
larger_mono {x} {y} {z} {w} h k = larger_least (≼_trans h (larger_left y w)) (≼_trans k (larger_right y w))

pub larger_cong : {x y z w : Fraction} → x ≈ y → z ≈ w → larger x z ≈ larger y w
larger_cong h k = ≈-of-≼ (larger_mono (≼-of-≈ h) (≼-of-≈ k)) (larger_mono (≼-of-≈ (≈-sym h)) (≼-of-≈ (≈-sym k)))

pub larger_is_left : {x y : Fraction} → y ≼ x → larger x y ≈ x
larger_is_left {x} {y} h = ≈-of-≼ (larger_least ≼_refl h) (larger_left x y)
