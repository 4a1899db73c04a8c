-- Whole numbers and quotients of naturals as fractions, and what a division that rounds down loses: less than 1.
-- With the fractions unfolded each law is one of naturals, which omega finds. Assumes nothing.
use Prim.Native.Nat.{ℕ, ◌*◌, ◌-◌, ◌/◌, ◌≤◌, ◌<◌}
use native.Mathlib.Nat.{mul-div-le, lt-mul-div-succ}
use native.Mathlib.Omega.{arith}
use lib.Dec.{lit<}
use Rattle.fraction.specs.Fraction.{Fraction, whole, ◌⊕◌, ◌⊖◌, ◌⊗◌, opposite, ◌≼◌, larger}
use Rattle.fraction.specs.Equality.{over, ◌≈◌}
use Rattle.fraction.proofs.Laws.{≈-refl, ≈-sym, ◌⨾◌, ≼-resp-≈, ⊗-cong, ⊗-comm, ⊗-assoc, one-⊗, ⊗-mono-left, larger_cases}

-- ---- whole numbers; their sums and products are in Laws.antt

pub whole_order : {a b : ℕ} → a ≤ b → whole a ≼ whole b
unfolding whole
whole_order h = record { at_most = omega (arith, h) }

pub order_of_whole : {a b : ℕ} → whole a ≼ whole b → a ≤ b
unfolding whole
order_of_whole h = omega (arith, h.at_most)

pub whole_not_negative : (a : ℕ) → whole 0 ≼ whole a
whole_not_negative a = whole_order (omega arith)

pub whole_difference : {a b : ℕ} → b ≤ a → whole (a - b) ≈ whole a ⊖ whole b
unfolding whole ◌⊖◌ ◌⊕◌ opposite
whole_difference h = record { equal = omega arith }

-- a difference of naturals, which is 0 at the least
pub whole_monus : (a b : ℕ) → whole (a - b) ≈ larger (whole a ⊖ whole b) (whole 0)
unfolding whole ◌⊖◌ ◌⊕◌ opposite
whole_monus a b = larger_cases (whole a ⊖ whole b) (whole 0) (λ m. whole (a - b) ≈ m)
    (λ h. record { equal = omega (arith, h.at_most) })
    (λ h. record { equal = omega (arith, h.at_most) })

-- ---- quotients

pub over_order : (a b c d : ℕ) (h : 0 < b) (k : 0 < d) → a * d ≤ c * b → over a b h ≼ over c d k
unfolding over
over_order a b c d h k l = record { at_most = omega (arith, l) }

pub over_not_negative : (a b : ℕ) (h : 0 < b) → whole 0 ≼ over a b h
unfolding over whole
over_not_negative a b h = record { at_most = omega arith }

pub over_one : (a : ℕ) (h : 0 < 1) → over a 1 h ≈ whole a
unfolding over whole
over_one a h = record { equal = omega arith }

pub over_times : (a b c : ℕ) (h : 0 < c) → over (a * b) c h ≈ whole a ⊗ over b c h
unfolding over whole ◌⊗◌
over_times a b c h = record { equal = omega arith }

pub over_inverse : (a b : ℕ) (h : 0 < b) (k : 0 < a) → over a b h ⊗ over b a k ≈ whole 1
unfolding over whole ◌⊗◌
over_inverse a b h k = record { equal = omega arith }

-- a factor above 0 on both sides of an order
pub over_cancel : {x y : Fraction} (a b : ℕ) (h : 0 < b) → 0 < a → x ⊗ over a b h ≼ y ⊗ over a b h → x ≼ y
over_cancel {x} {y} a b h k l = ≼-resp-≈ (back x) (back y) (⊗-mono-left (over b a k) (over_not_negative b a k) l)
  where
    back : (z : Fraction) → z ⊗ over a b h ⊗ over b a k ≈ z
    back z = ⊗-assoc z (over a b h) (over b a k) ⨾ ⊗-cong ≈-refl (over_inverse a b h k) ⨾ ⊗-comm z (whole 1) ⨾ one-⊗ z

pub whole_cancel : {x y : Fraction} (k : ℕ) → 0 < k → whole k ⊗ x ≼ whole k ⊗ y → x ≼ y
whole_cancel {x} {y} k h l = over_cancel k 1 (lit< tt) h (≼-resp-≈ (turn x) (turn y) l)
  where
    turn : (z : Fraction) → whole k ⊗ z ≈ z ⊗ over k 1 (lit< tt)
    turn z = ⊗-comm (whole k) z ⨾ ⊗-cong ≈-refl (≈-sym (over_one k (lit< tt)))

-- ---- floors

pub floor_below : (a b : ℕ) (h : 0 < b) → whole (a / b) ≼ over a b h
unfolding over whole
floor_below a b h = record { at_most = omega (arith, mul-div-le a b) }

pub floor_above : (a b : ℕ) (h : 0 < b) → over a b h ≼ whole (a / b) ⊕ whole 1
unfolding over whole ◌⊕◌
floor_above a b h = record { at_most = omega (arith, lt-mul-div-succ a h) }
