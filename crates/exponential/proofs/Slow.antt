-- The 15th sum is slow: for 0 ≼ x ≼ y ≼ 2 the sums at x and at y differ by at most y − x. Two runs of Horner's rule go side by side, u at x
-- and v at y. From u = v = 1 on, v ≼ u, y (u − v) ≼ (y − x) (1 − v) and v is from 0 to 1; the first of these needs v ≽ 1/2 before a turn,
-- which holds before each but the last, that of 1. Assumes nothing.
use mathlib.Core.List.{[], ◌∷◌}
use Prim.Native.Nat.{ℕ, zero, suc, ◌*◌, ◌≤◌}
use native.Mathlib.Omega.{arith}
use lib.Dec.{lit≤}
use Rattle.fraction.specs.Fraction.{Fraction, whole, ◌⊖◌, ◌⊗◌, ◌≼◌, Within}
use Rattle.fraction.proofs.Laws.{≈-sym, ≼_refl, ≼_trans, ≼-of-≈, ⊗-not-negative, whole-⊗}
use Rattle.fraction.proofs.Floors.{whole_order, whole_not_negative}
use Rattle.fraction.proofs.Distances.{within_resp_≈}
use Rattle.fraction.proofs.Certificate.{num, ◌⊞◌, ◌⊟◌, ◌⊠◌, ◌⊑◌, ◌≐◌, ◌⊛◌, ◌⊢◌, follows}
use Rattle.exponential.specs.Factor.{powers}
use Rattle.exponential.specs.Series.{sum_to}
use Rattle.exponential.proofs.Sums.{part, part_not_negative, part_cancels, exact_turn, run, run_is_sum}
use Rattle.exponential.proofs.Alternation.{part_most}

-- u at x and v at y before a turn
record Pair (x y u v : Fraction) : Type 0 where
  low : whole 0 ≼ v
  top : v ≼ whole 1
  order : v ≼ u
  slow : y ⊗ (u ⊖ v) ≼ (y ⊖ x) ⊗ (whole 1 ⊖ v)

module _ (x y : Fraction) (x≥0 : whole 0 ≼ x) (x≤y : x ≼ y) (y≤2 : y ≼ whole 2) where
  y≥0 : whole 0 ≼ y
  y≥0 = ≼_trans x≥0 x≤y

  -- c y / k ≼ 1 where 2 c ≤ k
  times_most : (c i : ℕ) → 2 * c ≤ suc i → whole c ⊗ y ⊗ part i ≼ whole 1
  times_most c i h = part_most i (whole c ⊗ y)
      (follows (whole c ∷ y ∷ whole (suc i) ∷ []) (λ C Y K. (num 0 ⊑ C) ⊛ (Y ⊑ num 2) ∷ C ⊠ num 2 ⊑ K ∷ [] ⊢ C ⊠ Y ⊑ K) tt
      (whole_not_negative c, y≤2) (≼_trans (≼-of-≈ (≈-sym (whole-⊗ c 2))) (whole_order (omega arith))))

  -- a turn of k ≥ 2, before which v is 1/2 at least
  pair_turn : (i : ℕ) (u v : Fraction) → 1 ≤ i → whole 1 ≼ whole 2 ⊗ v → Pair x y u v → Pair x y (exact_turn i x u) (exact_turn i y v)
  pair_turn i u v late half p = record {
    low = follows (y ∷ part i ∷ v ∷ [])
        (λ Y Q B. (num 0 ⊑ Y) ⊛ (num 0 ⊑ Q) ⊛ (B ⊑ num 1) ∷ num 1 ⊠ Y ⊠ Q ⊑ num 1 ∷ [] ⊢ num 0 ⊑ num 1 ⊟ Y ⊠ Q ⊠ B) tt
        ((y≥0, q≥0), p.top) (times_most 1 i (omega arith));
    top = follows (y ∷ part i ∷ v ∷ [])
        (λ Y Q B. (num 0 ⊑ Y) ⊛ (num 0 ⊑ Q) ⊛ (num 0 ⊑ B) ∷ [] ⊢ num 1 ⊟ Y ⊠ Q ⊠ B ⊑ num 1) tt ((y≥0, q≥0), p.low);
    order = follows (x ∷ y ∷ part i ∷ u ∷ v ∷ [])
        (λ X Y Q A B.
        (num 0 ⊑ Q) ⊛ (X ⊑ Y) ⊛ (num 1 ⊑ num 2 ⊠ B) ∷ (num 0 ⊑ Q) ⊛ (Y ⊠ (A ⊟ B) ⊑ (Y ⊟ X) ⊠ (num 1 ⊟ B))
        ∷ (num 0 ⊑ Q) ⊛ (X ⊑ Y) ⊛ (B ⊑ A) ∷ []
        ⊢ num 1 ⊟ Y ⊠ Q ⊠ B ⊑ num 1 ⊟ X ⊠ Q ⊠ A) tt
        ((q≥0, x≤y), half) (q≥0, p.slow) ((q≥0, x≤y), p.order);
    slow = follows (x ∷ y ∷ part i ∷ u ∷ v ∷ [])
        (λ X Y Q A B. (num 0 ⊑ Y) ⊛ (num 0 ⊑ Q) ⊛ (num 0 ⊑ X) ⊛ (B ⊑ A) ∷ []
        ⊢ Y ⊠ (num 1 ⊟ X ⊠ Q ⊠ A ⊟ (num 1 ⊟ Y ⊠ Q ⊠ B)) ⊑ (Y ⊟ X) ⊠ (num 1 ⊟ (num 1 ⊟ Y ⊠ Q ⊠ B))) tt
        (((y≥0, q≥0), x≥0), p.order);
  }
    where
      q≥0 : whole 0 ≼ part i
      q≥0 = part_not_negative i

  -- v ≽ 1/2 after a turn of k ≥ 4
  half_turn : (i : ℕ) (v : Fraction) → 3 ≤ i → v ≼ whole 1 → whole 1 ≼ whole 2 ⊗ exact_turn i y v
  half_turn i v early top = follows (y ∷ part i ∷ v ∷ [])
      (λ Y Q B. (num 0 ⊑ num 2) ⊛ (num 0 ⊑ Y) ⊛ (num 0 ⊑ Q) ⊛ (B ⊑ num 1) ∷ num 2 ⊠ Y ⊠ Q ⊑ num 1 ∷ []
      ⊢ num 1 ⊑ num 2 ⊠ (num 1 ⊟ Y ⊠ Q ⊠ B)) tt
      (((whole_not_negative 2, y≥0), part_not_negative i), top) (times_most 2 i (omega arith))

  -- and after the turns of 4 and 3: 1 − (2/3) y + (1/6) y² v is not negative, as (2 − y) (6 − y) is not
  half_third : (v : Fraction) → whole 1 ≼ whole 2 ⊗ v → whole 1 ≼ whole 2 ⊗ exact_turn 2 y (exact_turn 3 y v)
  half_third v half = follows (y ∷ part 2 ∷ part 3 ∷ v ∷ [])
      (λ Y Q R B.
      (num 0 ⊑ Y) ⊛ (num 0 ⊑ Y) ⊛ (num 0 ⊑ Q) ⊛ (num 0 ⊑ R) ⊛ (num 1 ⊑ num 2 ⊠ B)
      ∷ (num 0 ⊑ Q) ⊛ (num 0 ⊑ R) ⊛ (Y ⊑ num 2) ⊛ (Y ⊑ num 6)
      ∷ (num 0 ⊑ num 2 ⊠ Y ⊠ Q) ⊛ (num 1 ≐ num 4 ⊠ R)
      ∷ num 4 ⊠ R ≐ num 1 ∷ (num 0 ⊑ num 4 ⊠ R) ⊛ (num 3 ⊠ Q ≐ num 1) ∷ []
      ⊢ num 1 ⊑ num 2 ⊠ (num 1 ⊟ Y ⊠ Q ⊠ (num 1 ⊟ Y ⊠ R ⊠ B))) tt
      ((((y≥0, y≥0), part_not_negative 2), part_not_negative 3), half)
      (((part_not_negative 2, part_not_negative 3), y≤2), ≼_trans y≤2 (whole_order (lit≤ tt)))
      (⊗-not-negative (⊗-not-negative (whole_not_negative 2) y≥0) (part_not_negative 2), ≈-sym (part_cancels 3))
      (part_cancels 3) (⊗-not-negative (whole_not_negative 4) (part_not_negative 3), part_cancels 2)

  -- the turn of 1
  last_turn : (u v : Fraction) → Pair x y u v → Within (y ⊖ x) (exact_turn 0 x u) (exact_turn 0 y v)
  last_turn u v p = record {
    above = follows (x ∷ y ∷ part 0 ∷ u ∷ v ∷ [])
        (λ X Y Q A B.
        (num 0 ⊑ Q) ⊛ (num 0 ⊑ X) ⊛ (B ⊑ A) ∷ (num 0 ⊑ Q) ⊛ (X ⊑ Y) ⊛ (B ⊑ num 1) ∷ (X ⊑ Y) ⊛ (num 1 ⊠ Q ≐ num 1) ∷ []
        ⊢ num 1 ⊟ X ⊠ Q ⊠ A ⊑ num 1 ⊟ Y ⊠ Q ⊠ B ⊞ (Y ⊟ X)) tt
        ((q≥0, x≥0), p.order) ((q≥0, x≤y), p.top) (x≤y, part_cancels 0);
    below = follows (x ∷ y ∷ part 0 ∷ u ∷ v ∷ [])
        (λ X Y Q A B.
        (num 0 ⊑ Q) ⊛ (X ⊑ Y) ⊛ (B ⊑ A) ∷ (num 0 ⊑ Q) ⊛ (Y ⊠ (A ⊟ B) ⊑ (Y ⊟ X) ⊠ (num 1 ⊟ B))
        ∷ (num 0 ⊑ num 2) ⊛ (num 0 ⊑ Q) ⊛ (X ⊑ Y) ⊛ (num 0 ⊑ B) ∷ (X ⊑ Y) ⊛ (num 1 ⊠ Q ≐ num 1) ∷ []
        ⊢ num 1 ⊟ Y ⊠ Q ⊠ B ⊑ num 1 ⊟ X ⊠ Q ⊠ A ⊞ (Y ⊟ X)) tt
        ((q≥0, x≤y), p.order) (q≥0, p.slow) (((whole_not_negative 2, q≥0), x≤y), p.low) (x≤y, part_cancels 0);
  }
    where
      q≥0 : whole 0 ≼ part 0
      q≥0 = part_not_negative 0

  -- ---- all turns

  -- of 5, 4, 3, 2 and 1
  last_turns : (u v : Fraction) → whole 1 ≼ whole 2 ⊗ v → Pair x y u v → Within (y ⊖ x) (run 5 x u) (run 5 y v)
  unfolding run
  last_turns u v half p =
      let fifth = pair_turn 4 u v (lit≤ tt) half p in
      let half_fifth = half_turn 4 v (lit≤ tt) p.top in
      last_turn _ _
      (pair_turn 1 _ _ (lit≤ tt) (half_third (exact_turn 4 y v) half_fifth)
      (pair_turn 2 _ _ (lit≤ tt) (half_turn 3 _ (lit≤ tt) fifth.top) (pair_turn 3 _ _ (lit≤ tt) half_fifth fifth)))

  -- of j + 5, .. , 1
  all_turns : (j : ℕ) (u v : Fraction) → whole 1 ≼ whole 2 ⊗ v → Pair x y u v →
      Within (y ⊖ x) (run (suc (suc (suc (suc (suc j))))) x u) (run (suc (suc (suc (suc (suc j))))) y v)
  unfolding run
  all_turns zero u v half p = last_turns u v half p
  all_turns (suc j) u v half p =
      let i : ℕ = suc (suc (suc (suc (suc j)))) in
      all_turns j _ _ (half_turn i v (omega arith) p.top) (pair_turn i u v (omega arith) half p)

  pub sum_slow : Within (y ⊖ x) (sum_to powers x) (sum_to powers y)
  sum_slow = within_resp_≈ (run_is_sum powers x) (run_is_sum powers y)
      (all_turns 10 (whole 1) (whole 1)
      (follows [] (num 0 ⊑ num 1 ∷ [] ⊢ num 1 ⊑ num 2 ⊠ num 1) tt (whole_not_negative 1)) start)
    where
      start : Pair x y (whole 1) (whole 1)
      start = record {
        low = whole_not_negative 1;
        top = ≼_refl;
        order = ≼_refl;
        slow = follows (x ∷ y ∷ []) (λ X Y. [] ⊢ Y ⊠ (num 1 ⊟ num 1) ⊑ (Y ⊟ X) ⊠ (num 1 ⊟ num 1)) tt;
      }
