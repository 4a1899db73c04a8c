-- Every factor that the series allows at x lies within 1/T of the 15th sum, where 0 ≼ x ≼ 2. Two that lie between the same neighbours are
-- no further apart than these. Where the neighbours are up to the 15th power, the 15th sum itself lies between them; above it they lie
-- between the 15th and the 16th, which are no further apart than 1/(16 T). Assumes nothing.
use mathlib.Core.Path.{◌≡◌}
use mathlib.Core.List.{[], ◌∷◌}
use Prim.Native.Nat.{ℕ, zero, suc, ◌+◌, ◌*◌, ◌/◌, ◌≤◌, max}
use native.Mathlib.Nat.{lt-mul-div-succ}
use native.Mathlib.Decide.{dec_le}
use native.Mathlib.Omega.{arith}
use lib.Dec.{lit<, lit≤}
use Rattle.fraction.specs.Fraction.{Fraction, whole, ◌⊕◌, ◌⊖◌, ◌⊗◌, ◌÷◌, ◌≼◌, Within}
use Rattle.fraction.specs.Equality.{◌≈◌}
use Rattle.fraction.proofs.Laws.{≈-sym, ≈-of-≼, ≼_refl, ≼_trans, ⊕-mono}
use Rattle.fraction.proofs.Floors.{whole_not_negative, whole_cancel}
use Rattle.fraction.proofs.Quotients.{quotient_order}
use Rattle.fraction.proofs.Distances.{within_weaken, within_bound, within_equal}
use Rattle.fraction.proofs.Certificate.{num, ◌⊞◌, ◌⊟◌, ◌⊠◌, ◌⊑◌, ◌≐◌, ◌⊛◌, ◌⊢◌, follows}
use Rattle.ticks.specs.Ticks.{T}
use Rattle.exponential.specs.Factor.{powers}
use Rattle.exponential.specs.Series.{term, sum_to, Between, upward, downward, BySeries}
use Rattle.exponential.proofs.Sums.{part, part_not_negative, term_zero, term_suc, sum_suc}
use Rattle.exponential.proofs.Alternation.{alternates}

-- ---- between the same neighbours

between_near : {e z c a b : Fraction} → Within e a b → Between z a b → Between c a b → Within e z c
between_near near (upward az zb) (upward ac cb) = record {
  above = ≼_trans zb (≼_trans near.below (⊕-mono ac ≼_refl));
  below = ≼_trans cb (≼_trans near.below (⊕-mono az ≼_refl));
}
between_near near (downward bz za) (downward bc ca) = record {
  above = ≼_trans za (≼_trans near.above (⊕-mono bc ≼_refl));
  below = ≼_trans ca (≼_trans near.above (⊕-mono bz ≼_refl));
}
between_near near (upward az zb) (downward bc ca) = within_equal (within_bound near) (≈-of-≼ (≼_trans zb bc) (≼_trans ca az))
between_near near (downward bz za) (upward ac cb) = within_equal (within_bound near) (≈-of-≼ (≼_trans za ac) (≼_trans cb bz))

-- what lies between two that are near
between_both : {e z c a b : Fraction} → Within e a c → Within e b c → Between z a b → Within e z c
between_both near_a near_b (upward az zb) = record {
  above = ≼_trans zb near_b.above;
  below = ≼_trans near_a.below (⊕-mono az ≼_refl);
}
between_both near_a near_b (downward bz za) = record {
  above = ≼_trans za near_a.above;
  below = ≼_trans near_b.below (⊕-mono bz ≼_refl);
}

-- ---- the 16th term

abbrev scale : ℕ
scale = 64 * T

-- `scale` times the i-th term is at most this, rounded up from term to term
abbrev bound : ℕ → ℕ
bound zero = scale
bound (suc i) = 2 * bound i / suc i + 1

doubled_part : (b c i : ℕ) → 2 * b ≤ suc i * c → whole b ⊗ whole 2 ⊗ part i ≼ whole c
unfolding ◌÷◌ whole ◌⊗◌
doubled_part b c i h = record { at_most = let e : max 1 (suc i) ≡ suc i = omega arith in rw e (omega arith) }

-- the bound of the 16th computes to 4
of_scale : whole scale ⊗ (1 ÷ (16 * T)) ≈ whole 4
unfolding ◌÷◌ whole ◌⊗◌
of_scale = record { equal = omega arith }

module _ (x : Fraction) (x≥0 : whole 0 ≼ x) (x≤2 : x ≼ whole 2) where
  term_small : (i : ℕ) → Within (whole (bound i)) (whole scale ⊗ term i (whole 0 ⊖ x)) (whole 0)
  term_small zero = rw term_zero (record {
    above = follows (whole scale ∷ []) (λ K. [] ⊢ K ⊠ num 1 ⊑ num 0 ⊞ K) tt;
    below = follows (whole scale ∷ []) (λ K. num 0 ⊑ K ∷ num 0 ⊑ K ∷ [] ⊢ num 0 ⊑ K ⊠ num 1 ⊞ K) tt
        (whole_not_negative scale) (whole_not_negative scale);
  })
  term_small (suc i) = rw term_suc (next (bound i) (bound (suc i)) (term i (whole 0 ⊖ x)) (term_small i) (less (bound i)))
    where
      less : (b : ℕ) → 2 * b ≤ suc i * (2 * b / suc i + 1)
      less b = omega (arith, lt-mul-div-succ (2 * b) {b = suc i} (omega arith))

      next : (b c : ℕ) (t : Fraction) → Within (whole b) (whole scale ⊗ t) (whole 0) → 2 * b ≤ suc i * c
          → Within (whole c) (whole scale ⊗ (t ⊗ (whole 0 ⊖ x) ⊗ part i)) (whole 0)
      next b c t small h = record {
        above = follows (whole scale ∷ t ∷ x ∷ part i ∷ whole b ∷ whole c ∷ [])
            (λ K W X Q B C.
            (num 0 ⊑ X) ⊛ (num 0 ⊑ Q) ⊛ (num 0 ⊑ K ⊠ W ⊞ B) ∷ (num 0 ⊑ B) ⊛ (num 0 ⊑ Q) ⊛ (X ⊑ num 2) ∷ B ⊠ num 2 ⊠ Q ⊑ C ∷ []
            ⊢ K ⊠ (W ⊠ (num 0 ⊟ X) ⊠ Q) ⊑ num 0 ⊞ C) tt
            ((x≥0, part_not_negative i), small.below) ((whole_not_negative b, part_not_negative i), x≤2) (doubled_part b c i h);
        below = follows (whole scale ∷ t ∷ x ∷ part i ∷ whole b ∷ whole c ∷ [])
            (λ K W X Q B C.
            (num 0 ⊑ X) ⊛ (num 0 ⊑ Q) ⊛ (K ⊠ W ⊑ num 0 ⊞ B) ∷ (num 0 ⊑ B) ⊛ (num 0 ⊑ Q) ⊛ (X ⊑ num 2) ∷ B ⊠ num 2 ⊠ Q ⊑ C ∷ []
            ⊢ num 0 ⊑ K ⊠ (W ⊠ (num 0 ⊟ X) ⊠ Q) ⊞ C) tt
            ((x≥0, part_not_negative i), small.above) ((whole_not_negative b, part_not_negative i), x≤2) (doubled_part b c i h);
      }

  pub sixteenth_near : Within (1 ÷ (16 * T)) (sum_to powers x) (sum_to (suc powers) x)
  sixteenth_near =
      rw (sum_suc powers x)
      (apart (sum_to powers x) (term (suc powers) (whole 0 ⊖ x)) (1 ÷ (16 * T)) (term_small (suc powers)) of_scale)
    where
      apart : (a t e : Fraction) → Within (whole 4) (whole scale ⊗ t) (whole 0) → whole scale ⊗ e ≈ whole 4 → Within e a (a ⊕ t)
      apart a t e small is = record {
        above = whole_cancel scale (lit< tt) (follows (whole scale ∷ a ∷ t ∷ e ∷ [])
            (λ K A W E. num 0 ⊑ K ⊠ W ⊞ num 4 ∷ num 4 ≐ K ⊠ E ∷ [] ⊢ K ⊠ A ⊑ K ⊠ (A ⊞ W ⊞ E)) tt small.below (≈-sym is));
        below = whole_cancel scale (lit< tt) (follows (whole scale ∷ a ∷ t ∷ e ∷ [])
            (λ K A W E. K ⊠ W ⊑ num 0 ⊞ num 4 ∷ num 4 ≐ K ⊠ E ∷ [] ⊢ K ⊠ (A ⊞ W) ⊑ K ⊠ (A ⊞ E)) tt small.above (≈-sym is));
      }

  -- ---- what is allowed

  fifteenth_apart : Within (1 ÷ T) (sum_to powers x) (sum_to (suc powers) x)
  fifteenth_apart = within_weaken (quotient_order 1 (16 * T) 1 T (lit< tt) (lit< tt) (lit≤ tt)) sixteenth_near

  -- a later sum lies between these two
  later_near : (j : ℕ) → powers ≤ j → Within (1 ÷ T) (sum_to j x) (sum_to powers x)
  later_near j h = between_near fifteenth_apart (alternates x x≥0 x≤2 powers j h) (alternates x x≥0 x≤2 powers powers (lit≤ tt))

  pub allowed_near : {φ : Fraction} → BySeries x φ → Within (1 ÷ T) φ (sum_to powers x)
  allowed_near {φ} allowed = by (dec_le m powers)
    where
      m : ℕ
      m = allowed.power

      by : Dec (m ≤ powers) → Within (1 ÷ T) φ (sum_to powers x)
      by (yes h) = between_near allowed.apart allowed.between (alternates x x≥0 x≤2 m powers h)
      by (no h) = between_both (later_near m (omega arith)) (later_near (suc m) (omega arith)) allowed.between

  -- the 15th sum itself is allowed
  pub some_allowed : BySeries x (sum_to powers x)
  some_allowed = record { power = powers; apart = fifteenth_apart; between = alternates x x≥0 x≤2 powers powers (lit≤ tt) }
