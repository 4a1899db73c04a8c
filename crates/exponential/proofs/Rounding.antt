-- The factor lies near T times the 15th sum at x = X / T. A turn makes T − ⌊h X / (k T)⌋ of h, and without rounding 1 − (x / k) s of s: the
-- error h − T s becomes δ − (x / k) times itself, with a δ from 0 to 1 for the part that is rounded down. `Near a b h s` says that 64 times
-- the error lies from −a to b. The turns of k ≥ 4 keep it from −32 to 80; those of 3, 2 and 1 widen it to −141 and 154. Assumes nothing.
use mathlib.Core.Path.{◌≡◌}
use mathlib.Core.List.{[], ◌∷◌}
use Prim.Native.Nat.{ℕ, zero, suc, ◌+◌, ◌*◌, ◌≤◌, ◌<◌, max}
use native.Mathlib.Nat.{mul-le-mul_left}
use native.Mathlib.Omega.{arith}
use lib.Dec.{lit<, lit≤}
use Rattle.fraction.specs.Fraction.{Fraction, whole, ◌⊕◌, ◌⊖◌, ◌⊗◌, ◌÷◌, ◌≼◌, Within}
use Rattle.fraction.specs.Equality.{over, ◌≈◌}
use Rattle.fraction.proofs.Laws.{≈-refl, ≈-sym, ≼-resp-≈, ⊗-not-negative, whole-⊕, ⊕-cong, ⊗-cong}
use Rattle.fraction.proofs.Floors.{floor_below, floor_above, whole_difference, whole_not_negative, whole_order, whole_cancel}
use Rattle.fraction.proofs.Quotients.{quotient_not_negative, quotient_times}
use Rattle.fraction.proofs.Certificate.{num, ◌⊞◌, ◌⊟◌, ◌⊠◌, ◌⊑◌, ◌≐◌, ◌⊛◌, ◌⊢◌, follows}
use Rattle.ticks.specs.Ticks.{T}
use Rattle.fields.specs.Limits.{most_friction}
use Rattle.exponential.specs.Factor.{powers, turn, turns, factor}
use Rattle.exponential.specs.Series.{sum_to}
use Rattle.exponential.proofs.Sums.{part, part_not_negative, run, run_is_sum}
use Rattle.exponential.proofs.Turns.{taken, turn_most, early_fits, third_half, last_fits}

-- −a ≤ 64 (h − T s) ≤ b
pub record Near (a b h : ℕ) (s : Fraction) : Type 0 where
  pub above : whole 64 ⊗ whole h ≼ whole 64 ⊗ whole T ⊗ s ⊕ whole b
  pub below : whole 64 ⊗ whole T ⊗ s ≼ whole 64 ⊗ whole h ⊕ whole a

-- h X / (k T) is h times x / k
taken_part : (X i h : ℕ) (p : 0 < suc i * T) → over (h * X) (suc i * T) p ≈ whole h ⊗ (X ÷ T ⊗ part i)
unfolding over ◌÷◌ whole ◌⊗◌
taken_part X i h p = record { equal = let e : max 1 (suc i) ≡ suc i = omega arith in rw e (omega arith) }

-- b · x / k ≼ c where 3 b ≤ 2 k c
scaled_most : (X i b c : ℕ) → X ≤ most_friction → 3 * b ≤ 2 * (suc i * c) → whole b ⊗ (X ÷ T ⊗ part i) ≼ whole c
unfolding ◌÷◌ whole ◌⊗◌
scaled_most X i b c most h = record {
  at_most = let e : max 1 (suc i) ≡ suc i = omega arith in rw e (omega (arith, mul-le-mul_left b most));
}

module _ (X : ℕ) (most : X ≤ most_friction) where
  -- ---- the turn of k = i + 1 takes Near a b to Near c (64 + d)

  module _ (a b c d i h : ℕ) (s : Fraction) (hb : 3 * b ≤ 2 * (suc i * c)) (ha : 3 * a ≤ 2 * (suc i * d))
      (fits : taken X (suc i) h ≤ T) (near : Near a b h s) where
    -- x / k
    abbrev p : Fraction
    p = X ÷ T ⊗ part i

    p≥0 : whole 0 ≼ p
    p≥0 = ⊗-not-negative (quotient_not_negative X T) (part_not_negative i)

    positive : 0 < suc i * T
    positive = omega arith

    left : whole (turn X (suc i) h) ≈ whole T ⊖ whole (taken X (suc i) h)
    left = whole_difference fits

    floor≤ : whole (taken X (suc i) h) ≼ whole h ⊗ p
    floor≤ = ≼-resp-≈ ≈-refl (taken_part X i h positive) (floor_below (h * X) (suc i * T) positive)

    floor≥ : whole h ⊗ p ≼ whole (taken X (suc i) h) ⊕ whole 1
    floor≥ = ≼-resp-≈ (taken_part X i h positive) ≈-refl (floor_above (h * X) (suc i * T) positive)

    one_turn : Near c (64 + d) (turn X (suc i) h) (whole 1 ⊖ p ⊗ s)
    one_turn = record {
      above = follows
          (whole T ∷ p ∷ s ∷ whole h ∷ whole (taken X (suc i) h) ∷ whole (turn X (suc i) h) ∷ whole a ∷ whole d ∷ whole (64 + d) ∷ [])
          (λ N P A H Q G E D B.
          (num 0 ⊑ num 64) ⊛ (G ≐ N ⊟ Q) ∷ (num 0 ⊑ P) ⊛ (num 64 ⊠ N ⊠ A ⊑ num 64 ⊠ H ⊞ E)
          ∷ (num 0 ⊑ num 64) ⊛ (H ⊠ P ⊑ Q ⊞ num 1) ∷ E ⊠ P ⊑ D ∷ num 64 ⊞ D ≐ B ∷ []
          ⊢ num 64 ⊠ G ⊑ num 64 ⊠ N ⊠ (num 1 ⊟ P ⊠ A) ⊞ B) tt
          (whole_not_negative 64, left) (p≥0, near.below) (whole_not_negative 64, floor≥) (scaled_most X i a d most ha)
          (≈-sym (whole-⊕ 64 d));
      below = follows (whole T ∷ p ∷ s ∷ whole h ∷ whole (taken X (suc i) h) ∷ whole (turn X (suc i) h) ∷ whole b ∷ whole c ∷ [])
          (λ N P A H Q G E C.
          (num 0 ⊑ num 64) ⊛ (N ⊟ Q ≐ G) ∷ (num 0 ⊑ P) ⊛ (num 64 ⊠ H ⊑ num 64 ⊠ N ⊠ A ⊞ E)
          ∷ (num 0 ⊑ num 64) ⊛ (Q ⊑ H ⊠ P) ∷ E ⊠ P ⊑ C ∷ []
          ⊢ num 64 ⊠ N ⊠ (num 1 ⊟ P ⊠ A) ⊑ num 64 ⊠ G ⊞ C) tt
          (whole_not_negative 64, ≈-sym left) (p≥0, near.above) (whole_not_negative 64, floor≤) (scaled_most X i b c most hb);
    }

  -- ---- all turns

  -- of 3, 2 and 1
  last_turns : (h : ℕ) (s : Fraction) → h ≤ T → Near 32 80 h s → Near 141 154 (turns X 3 h) (run 3 (X ÷ T) s)
  unfolding turns run
  last_turns h s low near =
      one_turn 60 94 141 90 0 _ _ (lit≤ tt) (lit≤ tt) (last_fits X most _ (third_half X most h low) (turn_most X 3 h))
      (one_turn 40 80 60 30 1 _ _ (lit≤ tt) (lit≤ tt) (early_fits X most 1 _ (lit≤ tt) (turn_most X 3 h))
      (one_turn 32 80 40 16 2 h s (lit≤ tt) (lit≤ tt) (early_fits X most 2 h (lit≤ tt) low) near))

  -- of j + 3, .. , 1
  all_turns : (j h : ℕ) (s : Fraction) → h ≤ T → Near 32 80 h s →
      Near 141 154 (turns X (suc (suc (suc j))) h) (run (suc (suc (suc j))) (X ÷ T) s)
  unfolding turns run
  all_turns zero h s low near = last_turns h s low near
  all_turns (suc j) h s low near =
      let i : ℕ = suc (suc (suc j)) in
      all_turns j (turn X (suc i) h) _ (turn_most X (suc i) h)
      (one_turn 32 80 32 16 i h s (omega arith) (omega arith) (early_fits X most i h (omega arith) low) near)

  start : Near 32 80 T (whole 1)
  start = record {
    above = follows (whole T ∷ []) (λ N. num 0 ⊑ num 80 ∷ [] ⊢ num 64 ⊠ N ⊑ num 64 ⊠ N ⊠ num 1 ⊞ num 80) tt (whole_not_negative 80);
    below = follows (whole T ∷ []) (λ N. num 0 ⊑ num 32 ∷ [] ⊢ num 64 ⊠ N ⊠ num 1 ⊑ num 64 ⊠ N ⊞ num 32) tt (whole_not_negative 32);
  }

  near_equal : {a b h : ℕ} {s r : Fraction} → s ≈ r → Near a b h s → Near a b h r
  near_equal e n = record {
    above = ≼-resp-≈ ≈-refl (⊕-cong (⊗-cong ≈-refl e) ≈-refl) n.above;
    below = ≼-resp-≈ (⊗-cong ≈-refl e) ≈-refl n.below;
  }

  factor_rounded : Near 141 154 (factor X) (sum_to powers (X ÷ T))
  unfolding factor
  factor_rounded = near_equal (run_is_sum powers (X ÷ T)) (all_turns 12 T (whole 1) (lit≤ tt) start)

  -- the larger of the two
  pub factor_within : Within (154 ÷ 64) (whole (factor X)) (whole T ⊗ sum_to powers (X ÷ T))
  factor_within =
      let e = ≈-sym (quotient_times 154 64 (lit< tt)) in
      record {
        above = whole_cancel 64 (lit< tt) (follows (whole (factor X) ∷ whole T ∷ sum_to powers (X ÷ T) ∷ 154 ÷ 64 ∷ [])
            (λ H N A E. num 64 ⊠ H ⊑ num 64 ⊠ N ⊠ A ⊞ num 154 ∷ num 154 ≐ num 64 ⊠ E ∷ []
            ⊢ num 64 ⊠ H ⊑ num 64 ⊠ (N ⊠ A ⊞ E)) tt factor_rounded.above e);
        below = whole_cancel 64 (lit< tt) (follows (whole (factor X) ∷ whole T ∷ sum_to powers (X ÷ T) ∷ 154 ÷ 64 ∷ [])
            (λ H N A E. num 64 ⊠ N ⊠ A ⊑ num 64 ⊠ H ⊞ num 141 ∷ num 141 ⊑ num 154 ∷ num 154 ≐ num 64 ⊠ E ∷ []
            ⊢ num 64 ⊠ (N ⊠ A) ⊑ num 64 ⊠ (H ⊞ E)) tt factor_rounded.below (whole_order (lit≤ tt)) e);
      }
