-- How a distance passes through the operations. `Within e x y` says that x and y differ by at most e; what is made of x and what
-- is made of y then differ by at most a bound made of e. A law is two orders, x ≼ y + e and y ≼ x + e: the lemma before it has
-- one of them, certified by `follows`, and the law takes that for x and y and for y and x. Assumes nothing.
use mathlib.Core.List.{[], ◌∷◌}
use mathlib.Core.Logic.{⊎_elim}
use Rattle.fraction.specs.Fraction.{Fraction, whole, ◌⊕◌, ◌⊖◌, ◌⊗◌, ◌≼◌, larger, Within}
use Rattle.fraction.specs.Equality.{◌≈◌}
use Rattle.fraction.proofs.Laws.{≈-refl, ≈-sym, ≼_refl, ≼_trans, ≼-of-≈, ≼-resp-≈, ≼-total}
use Rattle.fraction.proofs.Laws.{⊕-cong, ⊕-mono, larger_left, larger_right, larger_least}
use Rattle.fraction.proofs.Certificate.{num, ◌⊞◌, ◌⊟◌, ◌⊠◌, ◌⊑◌, ◌≐◌, ◌⊛◌, ◌⊢◌, follows}

-- ---- distances alone

pub within_refl : (x : Fraction) → Within (whole 0) x x
within_refl x = record { above = same; below = same }
  where
    same : x ≼ x ⊕ whole 0
    same = follows (x ∷ []) (λ X. [] ⊢ X ⊑ X ⊞ num 0) tt

pub within_sym : {e x y : Fraction} → Within e x y → Within e y x
within_sym h = record { above = h.below; below = h.above }

above_trans : (e f x y z : Fraction) → x ≼ y ⊕ e → y ≼ z ⊕ f → x ≼ z ⊕ (e ⊕ f)
above_trans e f x y z = follows (e ∷ f ∷ x ∷ y ∷ z ∷ [])
    (λ E F X Y Z. X ⊑ Y ⊞ E ∷ Y ⊑ Z ⊞ F ∷ [] ⊢ X ⊑ Z ⊞ (E ⊞ F)) tt

below_trans : (e f x y z : Fraction) → y ≼ x ⊕ e → z ≼ y ⊕ f → z ≼ x ⊕ (e ⊕ f)
below_trans e f x y z = follows (e ∷ f ∷ x ∷ y ∷ z ∷ [])
    (λ E F X Y Z. Y ⊑ X ⊞ E ∷ Z ⊑ Y ⊞ F ∷ [] ⊢ Z ⊑ X ⊞ (E ⊞ F)) tt

-- from x to z by way of y
pub within_trans : {e f x y z : Fraction} → Within e x y → Within f y z → Within (e ⊕ f) x z
within_trans {e} {f} {x} {y} {z} h k = record {
  above = above_trans e f x y z h.above k.above;
  below = below_trans e f x y z h.below k.below;
}

pub within_weaken : {e f x y : Fraction} → e ≼ f → Within e x y → Within f x y
within_weaken p h = record {
  above = ≼_trans h.above (⊕-mono ≼_refl p);
  below = ≼_trans h.below (⊕-mono ≼_refl p);
}

-- equals for either
pub within_resp_≈ : {e x x' y y' : Fraction} → x ≈ x' → y ≈ y' → Within e x y → Within e x' y'
within_resp_≈ p q h = record {
  above = ≼-resp-≈ p (⊕-cong q ≈-refl) h.above;
  below = ≼-resp-≈ q (⊕-cong p ≈-refl) h.below;
}

-- a bound of a distance is not negative: x ≼ y + e ≼ x + e + e
pub within_bound : {e x y : Fraction} → Within e x y → whole 0 ≼ e
within_bound {e} {x} {y} h = ⊎_elim (λ p. p) (λ p. otherwise h.above h.below p) (≼-total (whole 0) e)
  where
    otherwise : x ≼ y ⊕ e → y ≼ x ⊕ e → e ≼ whole 0 → whole 0 ≼ e
    otherwise = follows (e ∷ x ∷ y ∷ []) (λ E X Y. X ⊑ Y ⊞ E ∷ Y ⊑ X ⊞ E ∷ E ⊑ num 0 ∷ [] ⊢ num 0 ⊑ E) tt

-- x lies below y, and by at most e
pub within_below : {e x y : Fraction} → whole 0 ≼ e → x ≼ y → y ≼ x ⊕ e → Within e x y
within_below {e} {x} {y} p h k = record {
  above = follows (e ∷ x ∷ y ∷ []) (λ E X Y. X ⊑ Y ∷ num 0 ⊑ E ∷ [] ⊢ X ⊑ Y ⊞ E) tt h p;
  below = k;
}

pub within_equal : {e x y : Fraction} → whole 0 ≼ e → x ≈ y → Within e x y
within_equal {e} {x} {y} p h =
    within_below p (≼-of-≈ h) (follows (e ∷ x ∷ y ∷ []) (λ E X Y. Y ≐ X ∷ num 0 ⊑ E ∷ [] ⊢ Y ⊑ X ⊞ E) tt (≈-sym h) p)

-- ---- sums, differences, products

above_sum : (e f x y z w : Fraction) → x ≼ y ⊕ e → z ≼ w ⊕ f → x ⊕ z ≼ y ⊕ w ⊕ (e ⊕ f)
above_sum e f x y z w = follows (e ∷ f ∷ x ∷ y ∷ z ∷ w ∷ [])
    (λ E F X Y Z W. X ⊑ Y ⊞ E ∷ Z ⊑ W ⊞ F ∷ [] ⊢ X ⊞ Z ⊑ Y ⊞ W ⊞ (E ⊞ F)) tt

pub within_sum : {e f x y z w : Fraction} → Within e x y → Within f z w → Within (e ⊕ f) (x ⊕ z) (y ⊕ w)
within_sum {e} {f} {x} {y} {z} {w} h k = record {
  above = above_sum e f x y z w h.above k.above;
  below = above_sum e f y x w z h.below k.below;
}

above_difference : (e f x y z w : Fraction) → x ≼ y ⊕ e → w ≼ z ⊕ f → x ⊖ z ≼ y ⊖ w ⊕ (e ⊕ f)
above_difference e f x y z w = follows (e ∷ f ∷ x ∷ y ∷ z ∷ w ∷ [])
    (λ E F X Y Z W. X ⊑ Y ⊞ E ∷ W ⊑ Z ⊞ F ∷ [] ⊢ X ⊟ Z ⊑ Y ⊟ W ⊞ (E ⊞ F)) tt

pub within_difference : {e f x y z w : Fraction} → Within e x y → Within f z w → Within (e ⊕ f) (x ⊖ z) (y ⊖ w)
within_difference {e} {f} {x} {y} {z} {w} h k = record {
  above = above_difference e f x y z w h.above k.below;
  below = above_difference e f y x w z h.below k.above;
}

above_scaled : (e w x y : Fraction) → whole 0 ≼ w → x ≼ y ⊕ e → w ⊗ x ≼ w ⊗ y ⊕ w ⊗ e
above_scaled e w x y p h = follows (e ∷ w ∷ x ∷ y ∷ [])
    (λ E W X Y. (num 0 ⊑ W) ⊛ (X ⊑ Y ⊞ E) ∷ [] ⊢ W ⊠ X ⊑ W ⊠ Y ⊞ W ⊠ E) tt (p, h)

pub within_scaled : {e x y : Fraction} (w : Fraction) → whole 0 ≼ w → Within e x y → Within (w ⊗ e) (w ⊗ x) (w ⊗ y)
within_scaled {e} {x} {y} w p h = record {
  above = above_scaled e w x y p h.above;
  below = above_scaled e w y x p h.below;
}

-- x z − y w = (x − y) z + y (z − w), of which the first is at most e b and the second at most c f
module _ (e f b c x y z w : Fraction) (z≥0 : whole 0 ≼ z) (z≤b : z ≼ b) (y≥0 : whole 0 ≼ y) (y≤c : y ≼ c) where
  above_product : whole 0 ≼ e → whole 0 ≼ f → x ≼ y ⊕ e → z ≼ w ⊕ f → x ⊗ z ≼ y ⊗ w ⊕ (e ⊗ b ⊕ c ⊗ f)
  above_product e≥0 f≥0 h k = follows (e ∷ f ∷ b ∷ c ∷ x ∷ y ∷ z ∷ w ∷ [])
      (λ E F B C X Y Z W.
      (num 0 ⊑ Z) ⊛ (X ⊑ Y ⊞ E) ∷ (num 0 ⊑ E) ⊛ (Z ⊑ B) ∷ (num 0 ⊑ Y) ⊛ (Z ⊑ W ⊞ F) ∷ (num 0 ⊑ F) ⊛ (Y ⊑ C) ∷ []
      ⊢ X ⊠ Z ⊑ Y ⊠ W ⊞ (E ⊠ B ⊞ C ⊠ F)) tt
      (z≥0, h) (e≥0, z≤b) (y≥0, k) (f≥0, y≤c)

  below_product : whole 0 ≼ e → whole 0 ≼ f → y ≼ x ⊕ e → w ≼ z ⊕ f → y ⊗ w ≼ x ⊗ z ⊕ (e ⊗ b ⊕ c ⊗ f)
  below_product e≥0 f≥0 h k = follows (e ∷ f ∷ b ∷ c ∷ x ∷ y ∷ z ∷ w ∷ [])
      (λ E F B C X Y Z W.
      (num 0 ⊑ Z) ⊛ (Y ⊑ X ⊞ E) ∷ (num 0 ⊑ E) ⊛ (Z ⊑ B) ∷ (num 0 ⊑ Y) ⊛ (W ⊑ Z ⊞ F) ∷ (num 0 ⊑ F) ⊛ (Y ⊑ C) ∷ []
      ⊢ Y ⊠ W ⊑ X ⊠ Z ⊞ (E ⊠ B ⊞ C ⊠ F)) tt
      (z≥0, h) (e≥0, z≤b) (y≥0, k) (f≥0, y≤c)

-- two that are near, times two that are near: one of each is bounded, and not negative
pub within_product : {e f x y z w : Fraction} (b c : Fraction) → whole 0 ≼ z → z ≼ b → whole 0 ≼ y → y ≼ c →
    Within e x y → Within f z w → Within (e ⊗ b ⊕ c ⊗ f) (x ⊗ z) (y ⊗ w)
within_product {e} {f} {x} {y} {z} {w} b c z≥0 z≤b y≥0 y≤c h k = record {
  above = above_product e f b c x y z w z≥0 z≤b y≥0 y≤c (within_bound h) (within_bound k) h.above k.above;
  below = below_product e f b c x y z w z≥0 z≤b y≥0 y≤c (within_bound h) (within_bound k) h.below k.below;
}

-- ---- the larger of two

above_larger : (e x y z w : Fraction) → x ≼ y ⊕ e → z ≼ w ⊕ e → larger x z ≼ larger y w ⊕ e
above_larger e x y z w h k = larger_least
    (≼_trans h (⊕-mono (larger_left y w) ≼_refl))
    (≼_trans k (⊕-mono (larger_right y w) ≼_refl))

pub within_larger : {e x y z w : Fraction} → Within e x y → Within e z w → Within e (larger x z) (larger y w)
within_larger {e} {x} {y} {z} {w} h k = record {
  above = above_larger e x y z w h.above k.above;
  below = above_larger e y x w z h.below k.below;
}

pub within_larger_constant : {e x y : Fraction} (c : Fraction) → Within e x y → Within e (larger x c) (larger y c)
within_larger_constant c h = within_larger h (within_equal (within_bound h) ≈-refl)
