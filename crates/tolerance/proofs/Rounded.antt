-- Naturals that stand for fractions rounded down. Every division of the core rounds down, so a natural n of the core lies below the
-- fraction x that it stands for, and by no more than what the divisions lost. `Rounded e n x` says that e bounds this loss; a
-- division loses 1 at the most, and what it divides brings its own loss, scaled. Assumes nothing.
use mathlib.Core.Path.{◌≡◌}
use mathlib.Core.List.{[], ◌∷◌}
use Prim.Native.Nat.{ℕ, ◌+◌, ◌*◌, ◌/◌, ◌-◌, ◌≤◌, ◌<◌, max}
use native.Mathlib.Nat.{mul-div-le, lt-mul-div-succ}
use native.Mathlib.Omega.{arith}
use Rattle.fraction.specs.Fraction.{Fraction, whole, ◌⊕◌, ◌⊖◌, ◌⊗◌, ◌÷◌, ◌≼◌, larger, Within}
use Rattle.fraction.specs.Equality.{◌≈◌}
use Rattle.fraction.proofs.Laws.{≈-refl, ≈-sym, ≼_trans, ≼-of-≈, ≼-resp-≈, ⊕-cong, ⊗-comm, whole-⊕}
use Rattle.fraction.proofs.Certificate.{num, ◌⊞◌, ◌⊟◌, ◌⊠◌, ◌⊑◌, ◌⊛◌, ◌⊢◌, follows}
use Rattle.fraction.proofs.Floors.{whole_order, whole_not_negative, whole_difference, whole_monus, floor_below, floor_above}
use Rattle.fraction.proofs.Quotients.{quotient, quotient_not_negative}
use Rattle.fraction.proofs.Distances.{within_below, within_trans, within_resp_≈, within_scaled, within_product}
use Rattle.fraction.proofs.Distances.{within_larger_constant}

-- n lies below x, by at most e
pub record Rounded (e : Fraction) (n : ℕ) (x : Fraction) : Type 0 where
  pub least : whole n ≼ x
  pub greatest : x ≼ whole n ⊕ e

pub rounded_within : {e x : Fraction} {n : ℕ} → whole 0 ≼ e → Rounded e n x → Within e (whole n) x
rounded_within e≥0 r = within_below e≥0 r.least r.greatest

pub rounded_not_negative : {e x : Fraction} {n : ℕ} → Rounded e n x → whole 0 ≼ x
rounded_not_negative {n = n} r = ≼_trans (whole_not_negative n) r.least

pub rounded_exact : {e : Fraction} → whole 0 ≼ e → (n : ℕ) → Rounded e n (whole n)
rounded_exact {e} e≥0 n = record {
  least = follows (whole n ∷ []) (λ N. [] ⊢ N ⊑ N) tt;
  greatest = follows (e ∷ whole n ∷ []) (λ E N. num 0 ⊑ E ∷ [] ⊢ N ⊑ N ⊞ E) tt e≥0;
}

pub rounded_sum : {e f x y : Fraction} {m n : ℕ} → Rounded e m x → Rounded f n y → Rounded (e ⊕ f) (m + n) (x ⊕ y)
rounded_sum {e} {f} {x} {y} {m} {n} r s = record {
  least = ≼-resp-≈ (≈-sym (whole-⊕ m n)) ≈-refl
      (follows (x ∷ y ∷ whole m ∷ whole n ∷ []) (λ X Y M N. M ⊑ X ∷ N ⊑ Y ∷ [] ⊢ M ⊞ N ⊑ X ⊞ Y) tt r.least s.least);
  greatest = ≼-resp-≈ ≈-refl (⊕-cong (≈-sym (whole-⊕ m n)) ≈-refl)
      (follows (e ∷ f ∷ x ∷ y ∷ whole m ∷ whole n ∷ [])
      (λ E F X Y M N. X ⊑ M ⊞ E ∷ Y ⊑ N ⊞ F ∷ [] ⊢ X ⊞ Y ⊑ M ⊞ N ⊞ (E ⊞ F)) tt r.greatest s.greatest);
}

pub rounded_weaken : {e f x : Fraction} {n : ℕ} → e ≼ f → Rounded e n x → Rounded f n x
rounded_weaken {e} {f} {x} {n} h r = record {
  least = r.least;
  greatest = follows (e ∷ f ∷ x ∷ whole n ∷ []) (λ E F X N. X ⊑ N ⊞ E ∷ E ⊑ F ∷ [] ⊢ X ⊑ N ⊞ F) tt r.greatest h;
}

-- the same for losses that are whole
pub rounded_whole_sum : {x y : Fraction} {m n : ℕ} (k l : ℕ) → Rounded (whole k) m x → Rounded (whole l) n y →
    Rounded (whole (k + l)) (m + n) (x ⊕ y)
rounded_whole_sum k l r s = rounded_weaken (≼-of-≈ (≈-sym (whole-⊕ k l))) (rounded_sum r s)

-- ---- divisions

pub floor_rounded : (a b : ℕ) → 0 < b → Rounded (whole 1) (a / b) (a ÷ b)
floor_rounded a b h = record {
  least = ≼-resp-≈ ≈-refl (≈-sym (quotient a b h)) (floor_below a b h);
  greatest = ≼-resp-≈ (≈-sym (quotient a b h)) ≈-refl (floor_above a b h);
}

-- a product over d, as the exact steps write it
quotient_product : (a b d : ℕ) → 0 < d → (a * b) ÷ d ≈ whole a ⊗ whole b ⊗ (1 ÷ d)
unfolding ◌÷◌ whole ◌⊗◌
quotient_product a b d h = record { equal = let e : max 1 d ≡ d = omega arith in rw e (omega arith) }

-- a part of m / d, of which m is rounded already
pub rounded_part : {f x : Fraction} {m : ℕ} (a d : ℕ) (e : Fraction) → 0 < d → Rounded f m x →
    whole 1 ⊕ whole a ⊗ f ⊗ (1 ÷ d) ≼ e → Rounded e (a * m / d) (whole a ⊗ x ⊗ (1 ÷ d))
rounded_part {f} {x} {m} a d e h r room = record {
  least = follows (x ∷ whole a ∷ whole m ∷ 1 ÷ d ∷ whole (a * m / d) ∷ (a * m) ÷ d ∷ [])
      (λ X A M Q N P. N ⊑ P ∷ P ⊑ A ⊠ M ⊠ Q ∷ (num 0 ⊑ A) ⊛ (num 0 ⊑ Q) ⊛ (M ⊑ X) ∷ [] ⊢ N ⊑ A ⊠ X ⊠ Q) tt
      floor.least (≼-of-≈ product) ((a≥0, q≥0), r.least);
  greatest = follows (e ∷ f ∷ x ∷ whole a ∷ whole m ∷ 1 ÷ d ∷ whole (a * m / d) ∷ (a * m) ÷ d ∷ [])
      (λ E F X A M Q N P.
      P ⊑ N ⊞ num 1 ∷ A ⊠ M ⊠ Q ⊑ P ∷ (num 0 ⊑ A) ⊛ (num 0 ⊑ Q) ⊛ (X ⊑ M ⊞ F) ∷ num 1 ⊞ A ⊠ F ⊠ Q ⊑ E ∷ []
      ⊢ A ⊠ X ⊠ Q ⊑ N ⊞ E) tt
      floor.greatest (≼-of-≈ (≈-sym product)) ((a≥0, q≥0), r.greatest) room;
}
  where
    floor : Rounded (whole 1) (a * m / d) ((a * m) ÷ d)
    floor = floor_rounded (a * m) d h

    product : (a * m) ÷ d ≈ whole a ⊗ whole m ⊗ (1 ÷ d)
    product = quotient_product a m d h

    a≥0 : whole 0 ≼ whole a
    a≥0 = whole_not_negative a

    q≥0 : whole 0 ≼ 1 ÷ d
    q≥0 = quotient_not_negative 1 d

-- a product of whole numbers over d
rounded_product : (a b d : ℕ) → 0 < d → Rounded (whole 1) (a * b / d) (whole a ⊗ whole b ⊗ (1 ÷ d))
rounded_product a b d h = rounded_part a d (whole 1) h (rounded_exact (whole_not_negative 0) b)
    (follows (whole a ∷ 1 ÷ d ∷ []) (λ A Q. [] ⊢ num 1 ⊞ A ⊠ num 0 ⊠ Q ⊑ num 1) tt)

-- a product over d of two numbers that are near their fractions, y and w: what y is off by costs that times w, and what w is off by
-- that times y
pub product_near : {e f y w : Fraction} (m n d b c : ℕ) → 0 < d → n ≤ b → whole 0 ≼ y → y ≼ whole c
    → Within e (whole m) y → Within f (whole n) w
    → Within (whole 1 ⊕ (1 ÷ d) ⊗ (e ⊗ whole b ⊕ whole c ⊗ f)) (whole (m * n / d)) (y ⊗ w ⊗ (1 ÷ d))
product_near m n d b c h n≤b y≥0 y≤c near_y near_w =
    within_trans (rounded_within (whole_not_negative 1) (rounded_product m n d h))
    (within_resp_≈ (⊗-comm _ _) (⊗-comm _ _)
    (within_scaled (1 ÷ d) (quotient_not_negative 1 d)
    (within_product (whole b) (whole c) (whole_not_negative n) (whole_order n≤b) y≥0 y≤c near_y near_w)))

-- the divisor times what a division gives: at most what is divided, and with the divisor once more at least that
pub floor_product_below : (a b d : ℕ) → whole d ⊗ whole (a * b / d) ≼ whole a ⊗ whole b
unfolding whole ◌⊗◌
floor_product_below a b d = record { at_most = omega (arith, mul-div-le (a * b) d) }

pub floor_product_above : (a b d : ℕ) → 0 < d → whole a ⊗ whole b ≼ whole d ⊗ (whole (a * b / d) ⊕ whole 1)
unfolding whole ◌⊗◌ ◌⊕◌
floor_product_above a b d h = record { at_most = omega (arith, lt-mul-div-succ (a * b) h) }

-- ---- differences

-- what both lose on the same side does not add up
pub difference_near : {e x y : Fraction} {m n : ℕ} → whole 1 ≼ e → Rounded e m x → Rounded (whole 1) n y →
    Within e (whole m ⊖ whole n) (x ⊖ y)
difference_near {e} {x} {y} {m} {n} one r s = record {
  above = follows (e ∷ x ∷ y ∷ whole m ∷ whole n ∷ [])
      (λ E X Y M N. M ⊑ X ∷ Y ⊑ N ⊞ num 1 ∷ num 1 ⊑ E ∷ [] ⊢ M ⊟ N ⊑ X ⊟ Y ⊞ E) tt r.least s.greatest one;
  below = follows (e ∷ x ∷ y ∷ whole m ∷ whole n ∷ [])
      (λ E X Y M N. X ⊑ M ⊞ E ∷ N ⊑ Y ∷ [] ⊢ X ⊟ Y ⊑ M ⊟ N ⊞ E) tt r.greatest s.least;
}

-- a difference that stops at 0
pub rounded_difference : {e x y : Fraction} {m n : ℕ} → whole 1 ≼ e → Rounded e m x → Rounded (whole 1) n y →
    Within e (whole (m - n)) (larger (x ⊖ y) (whole 0))
rounded_difference {m = m} {n} one r s =
    within_resp_≈ (≈-sym (whole_monus m n)) ≈-refl (within_larger_constant (whole 0) (difference_near one r s))

-- what a loss leaves of n, and the loss without rounding
pub taken_from : {e loss exact : Fraction} (n : Fraction) → Within e loss exact → Within e (n ⊖ loss) (n ⊖ exact)
taken_from {e} {loss} {exact} n near = record {
  above = follows (e ∷ exact ∷ n ∷ loss ∷ []) (λ E A N L. A ⊑ L ⊞ E ∷ [] ⊢ N ⊟ L ⊑ N ⊟ A ⊞ E) tt near.below;
  below = follows (e ∷ exact ∷ n ∷ loss ∷ []) (λ E A N L. L ⊑ A ⊞ E ∷ [] ⊢ N ⊟ A ⊑ N ⊟ L ⊞ E) tt near.above;
}

pub taken_off : {e loss : Fraction} {n l : ℕ} → l ≤ n → Within e (whole l) loss → Within e (whole (n - l)) (whole n ⊖ loss)
taken_off {n = n} fits near = within_resp_≈ (≈-sym (whole_difference fits)) ≈-refl (taken_from (whole n) near)
