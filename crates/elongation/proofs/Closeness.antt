-- The sheet lies near its values in fractions. Each stress along the first path lies within its distance; a segment's elongation is the
-- sum of two of them by a factor that is largest on the longest segment at the least Es, rounded once; the distances of the segments add
-- up to that of the sum. The measurable part is 80 of 100 of the sum, rounded once more. Assumes nothing.
use mathlib.Core.Path.{◌≡◌, refl}
use mathlib.Core.List.{List, [], ◌∷◌}
use Prim.Native.Nat.{ℕ, zero, suc, ◌+◌, ◌*◌, ◌/◌, ◌≤◌, ◌<◌}
use native.Mathlib.Nat.{zero-add, mul-le-mul, mul-le-mul_right}
use native.Mathlib.Omega.{arith}
use lib.Dec.{lit<}
use lib.ListN.{length, get_or}
use Rattle.std.specs.Prelude.{Ok}
use Rattle.fraction.specs.Fraction.{Fraction, whole, ◌⊕◌, ◌⊗◌, ◌÷◌, ◌≼◌, Within}
use Rattle.fraction.specs.Equality.{◌≈◌}
use Rattle.fraction.proofs.Laws.{≈-refl, ≈-sym, ◌⨾◌, ≼_refl, ≼_trans, ≼-of-≈, ⊕-cong, ⊕-mono, ⊗-cong, ⊗-mono, ⊗-comm, whole-⊕}
use Rattle.fraction.proofs.Floors.{whole_order, whole_not_negative, over_times}
use Rattle.fraction.proofs.Quotients.{quotient, quotient_not_negative, quotient_order}
use Rattle.fraction.proofs.Distances.{within_refl, within_trans, within_weaken, within_resp_≈, within_equal, within_sum, within_scaled}
use Rattle.fraction.proofs.Certificate.{num, ◌⊞◌, ◌⊠◌, ◌⊑◌, ◌≐◌, ◌⊛◌, ◌⊢◌, identity, follows}
use Rattle.ticks.specs.Ticks.{ticks_per_unit}
use Rattle.fields.specs.Quantities.{Quantities}
use Rattle.fields.specs.declared.segments.Segment.{Segment}
use Rattle.fields.specs.Limits.{range, most_length, most_segments}
use Rattle.checks.proofs.Cascade.{given_is}
use Rattle.member.specs.Constants.{jacked, stress_along as ticks_along}
use Rattle.member.specs.Facts.{SegmentsFit, no_segment, segment_fits}
use Rattle.tolerance.specs.Method.{FactorsAlong, stress_along}
use Rattle.tolerance.proofs.Rounded.{rounded_within, floor_rounded}
use Rattle.tolerance.proofs.Concrete.{highest_stress}
use Rattle.tolerance.proofs.Path.{some_factors, along_close}
use Rattle.elongation.specs.Sheet.{elongation as ticks_elongation, elongations_from as ticks_from, sum_of as ticks_sum, Sheet, sheet_of}
use Rattle.elongation.specs.Sheet.{sheet_rows, sheet_result}
use Rattle.elongation.specs.Close.{elongation, elongations_from, sum_of, measurable_part, stress_distance, worth, segment_distance}
use Rattle.elongation.specs.Close.{sum_distance, measurable_distance, most_distance, Near, SheetClose}
use Rattle.elongation.proofs.Passing.{Passed, passed}

-- ---- a segment

-- two distances, each some ticks and some worths
regrouped : (a b n w : Fraction) → whole 1 ⊕ a ⊗ w ⊕ (n ⊕ b ⊗ w) ≈ whole 1 ⊕ n ⊕ (a ⊕ b) ⊗ w
regrouped a b n w =
    identity (a ∷ b ∷ n ∷ w ∷ []) (λ A B N W. num 1 ⊞ A ⊠ W ⊞ (N ⊞ B ⊠ W) ≐ num 1 ⊞ N ⊞ (A ⊞ B) ⊠ W) tt

-- a product over d
product_over : (a b d : ℕ) → 0 < d → (a * b) ÷ d ≈ whole a ⊗ (b ÷ d)
product_over a b d h = quotient (a * b) d h ⨾ over_times a b d h ⨾ ⊗-cong ≈-refl (≈-sym (quotient b d h))

module _ (es : ℕ) (stiff : range.Es.low ≤ es) where
  -- what a tick of the two stresses' sum is worth on a segment
  abbrev worth_on : ℕ → Fraction
  worth_on segment = (12 * segment) ÷ (2 * (es * ticks_per_unit))

  some_divisor : 0 < 2 * (es * ticks_per_unit)
  some_divisor = omega arith

  worth_most : (segment : ℕ) → segment ≤ most_length → worth_on segment ≼ worth
  worth_most segment short =
      let short_by : 12 * segment ≤ 12 * most_length = omega arith in
      quotient_order (12 * segment) (2 * (es * ticks_per_unit)) (12 * most_length) (2 * (range.Es.low * ticks_per_unit)) some_divisor
      (lit< tt) (mul-le-mul short_by (omega arith))

  segment_near : (before after : ℕ) {x y : Fraction} (d e length : ℕ) → length ≤ most_length → Within (whole d) (whole before) x
      → Within (whole e) (whole after) y
      → Within (whole 1 ⊕ whole (d + e) ⊗ worth) (whole (ticks_elongation es before after length)) (elongation es x y length)
  segment_near before after {x} {y} d e length short near_x near_y =
      within_weaken
      (⊕-mono ≼_refl
      (≼_trans (≼-of-≈ (⊗-comm (worth_on length) (whole d ⊕ whole e) ⨾ ⊗-cong (≈-sym (whole-⊕ d e)) ≈-refl))
      (⊗-mono (quotient_not_negative (12 * length) (2 * (es * ticks_per_unit))) (whole_not_negative (d + e)) ≼_refl (worth_most length short))))
      (within_trans
      (within_resp_≈ ≈-refl
      (product_over (before + after) (12 * length) (2 * (es * ticks_per_unit)) some_divisor
      ⨾ ⊗-cong (whole-⊕ before after) ≈-refl ⨾ ⊗-comm (whole before ⊕ whole after) (worth_on length))
      (rounded_within (whole_not_negative 1)
      (floor_rounded ((before + after) * (12 * length)) (2 * (es * ticks_per_unit)) some_divisor)))
      (within_resp_≈ ≈-refl (⊗-comm (worth_on length) (x ⊕ y))
      (within_scaled (worth_on length) (quotient_not_negative (12 * length) (2 * (es * ticks_per_unit))) (within_sum near_x near_y))))

  -- ---- segments that follow j others

  -- their distances together, n of them
  abbrev distance_from : ℕ → ℕ → Fraction
  distance_from j n = whole n ⊕ whole (60 * (n * j) + (30 * (n * n) + 122 * n)) ⊗ worth

  one_more : (j n : ℕ) → segment_distance j ⊕ distance_from (suc j) n ≼ distance_from j (suc n)
  one_more j n =
      let here = stress_distance j + stress_distance (suc j) in
      let later = 60 * (n * suc j) + (30 * (n * n) + 122 * n) in
      let all : 60 * (suc n * j) + (30 * (suc n * suc n) + 122 * suc n) ≡ here + later = omega arith in
      let count : suc n ≡ 1 + n = omega arith in
      rw (all, count)
      (≼-of-≈
      (regrouped (whole here) (whole later) (whole n) worth
      ⨾ ⊕-cong (≈-sym (whole-⊕ 1 n)) (⊗-cong (≈-sym (whole-⊕ here later)) ≈-refl)))

  module _ (x : ℕ → ℕ) (y : ℕ → Fraction) (most : ℕ)
      (near : (i : ℕ) → i ≤ most → Within (whole (stress_distance i)) (whole (x i)) (y i)) where
    each_near : (j : ℕ) {segments : List Segment} → SegmentsFit segments → j + length segments ≤ most
        → (i : ℕ) → i < length segments
        → Within (segment_distance (j + i)) (whole (get_or (ticks_from es x j segments) i 0)) (get_or (elongations_from es y j segments) i (whole 0))
    unfolding ticks_from elongations_from
    each_near j no_segment few i h = absurd (omega arith)
    each_near j (segment_fits {segment} fits later) few zero h =
        let at : j + 0 ≡ j = omega arith in
        rw at
        (segment_near (x j) (x (suc j)) (stress_distance j) (stress_distance (suc j)) segment.length fits.length_most
        (near j (omega arith)) (near (suc j) (omega arith)))
    each_near j (segment_fits fits later) few (suc i) h =
        let at : j + suc i ≡ suc j + i = omega arith in
        rw at (each_near (suc j) later (omega arith) i (omega arith))

    sum_near : (j : ℕ) {segments : List Segment} → SegmentsFit segments → j + length segments ≤ most
        → Within (distance_from j (length segments)) (whole (ticks_sum (ticks_from es x j segments))) (sum_of (elongations_from es y j segments))
    unfolding ticks_from elongations_from ticks_sum sum_of
    sum_near j no_segment few =
        within_weaken
        (follows (whole (60 * (0 * j) + (30 * (0 * 0) + 122 * 0)) ∷ worth ∷ [])
        (λ K W. (num 0 ⊑ K) ⊛ (num 0 ⊑ W) ∷ [] ⊢ num 0 ⊑ num 0 ⊞ K ⊠ W) tt
        (whole_not_negative (60 * (0 * j) + (30 * (0 * 0) + 122 * 0)), quotient_not_negative (12 * most_length) _))
        (within_refl (whole 0))
    sum_near j (segment_fits {segment} {segments} fits later) few =
        within_weaken (one_more j (length segments))
        (within_resp_≈ (≈-sym (whole-⊕ (ticks_elongation es (x j) (x (suc j)) segment.length) (ticks_sum (ticks_from es x (suc j) segments))))
        ≈-refl
        (within_sum
        (segment_near (x j) (x (suc j)) (stress_distance j) (stress_distance (suc j)) segment.length fits.length_most
        (near j (omega arith)) (near (suc j) (omega arith)))
        (sum_near (suc j) later (omega arith))))

-- ---- how many there are

exact_count : (es : ℕ) (stress : ℕ → Fraction) (j : ℕ) (segments : List Segment)
    → length (elongations_from es stress j segments) ≡ length segments
unfolding elongations_from
exact_count es stress j [] = refl
exact_count es stress j (segment ∷ segments) = omega (arith, exact_count es stress (suc j) segments)

ticks_count : (es : ℕ) (stress : ℕ → ℕ) (j : ℕ) (segments : List Segment) → length (ticks_from es stress j segments) ≡ length segments
unfolding ticks_from
ticks_count es stress j [] = refl
ticks_count es stress j (segment ∷ segments) = omega (arith, ticks_count es stress (suc j) segments)

-- ---- the measurable part

-- 80 n / 100 is a number of fifths, so that its rounding loses four of them at the most
measured : (n : ℕ) → Within (80 ÷ 100) (whole (80 * n / 100)) ((80 ÷ 100) ⊗ whole n)
unfolding ◌÷◌ whole ◌⊕◌ ◌⊗◌
measured n = record { above = record { at_most = omega arith }; below = record { at_most = omega arith } }

measurable_near : (s n : ℕ) {sum : Fraction} → Within (sum_distance (suc s)) (whole n) sum
    → Within (measurable_distance (suc s)) (whole (80 * n / 100)) (measurable_part sum)
measurable_near s n near =
    within_weaken
    (≼-of-≈ (identity (80 ÷ 100 ∷ sum_distance (suc s) ∷ []) (λ P E. P ⊞ P ⊠ E ≐ P ⊠ (E ⊞ num 1)) tt))
    (within_trans (measured n) (within_scaled (80 ÷ 100) (quotient_not_negative 80 100) near))

-- ---- at most four ticks for each segment

sum_small : (s : ℕ) → s ≤ most_segments → sum_distance s ≼ most_distance s
unfolding ◌÷◌ whole ◌⊕◌ ◌⊗◌
sum_small s few = record { at_most = omega (arith, mul-le-mul_right s few) }

measurable_small : (s : ℕ) → s ≤ most_segments → measurable_distance s ≼ most_distance s
unfolding ◌÷◌ whole ◌⊕◌ ◌⊗◌
measurable_small zero few = record { at_most = omega arith }
measurable_small (suc s) few = record { at_most = omega (arith, mul-le-mul_right (suc s) few) }

-- ---- an accepted sheet

module _ (q : Quantities) (few : length q.path ≤ most_segments) where
  module _ {room : ℕ} (known : Passed q room) where
    stiff : range.Es.low ≤ q.Es
    stiff = known.below_hours.head.es_least

    jacked_low : jacked q ≤ highest_stress
    jacked_low =
        let head = known.below_hours.head in
        let low = head.jacking_most in
        let strong = head.ultimate_most in
        omega arith

    module _ {factor : ℕ → Fraction} (factors : FactorsAlong q q.path factor) where
      stress_near : (j : ℕ) → j ≤ length q.path
          → Within (whole (stress_distance j)) (whole (ticks_along q q.path j)) (stress_along factor q j)
      stress_near j h =
          within_weaken (whole_order (omega arith))
          (along_close q known.below_hours.segments_fit few known.friction_most jacked_low factors j h)

      sum_close :
          Within (sum_distance (length q.path)) (whole (ticks_sum (ticks_from q.Es (ticks_along q q.path) 0 q.path)))
          (sum_of (elongations_from q.Es (stress_along factor q) 0 q.path))
      sum_close =
          let s = length q.path in
          let first : 60 * (s * 0) + (30 * (s * s) + 122 * s) ≡ 30 * (s * s) + 122 * s = omega arith in
          rw first at
          (sum_near q.Es stiff (ticks_along q q.path) (stress_along factor q) s stress_near 0 known.below_hours.segments_fit (omega arith))

      measurable_of : (path : List Segment)
          → Within (sum_distance (length path)) (whole (ticks_sum (ticks_from q.Es (ticks_along q q.path) 0 path)))
          (sum_of (elongations_from q.Es (stress_along factor q) 0 path))
          → Within (measurable_distance (length path)) (whole (80 * ticks_sum (ticks_from q.Es (ticks_along q q.path) 0 path) / 100))
          (measurable_part (sum_of (elongations_from q.Es (stress_along factor q) 0 path)))
      unfolding ticks_from elongations_from ticks_sum sum_of
      measurable_of [] near =
          within_equal (whole_not_negative 0) (identity (80 ÷ 100 ∷ []) (λ P. num 0 ≐ P ⊠ num 0) tt)
      measurable_of (segment ∷ segments) near = measurable_near (length segments) _ near

      near : Near factor q (sheet_of q)
      unfolding sheet_of
      near = record {
        count = exact_count q.Es (stress_along factor q) 0 q.path;
        segments = λ j h. rw (zero-add j) at
            (each_near q.Es stiff (ticks_along q q.path) (stress_along factor q) (length q.path) stress_near 0
            known.below_hours.segments_fit (omega arith) j h);
        sum = sum_close;
        measurable = measurable_of q.path sum_close;
      }

    sheet_close : SheetClose q (sheet_of q)
    unfolding sheet_of
    sheet_close = record {
      count = ticks_count q.Es (ticks_along q q.path) 0 q.path;
      near = λ factor factors. near factors;
      some_factors = some_factors q known.below_hours.segments_fit few known.friction_most;
      sum_small = sum_small (length q.path) few;
      measurable_small = measurable_small (length q.path) few;
    }

  pub close : (room : ℕ) (given : Sheet) → sheet_result q room ≡ Ok given → SheetClose q given
  unfolding sheet_result
  close room given e = rw (given_is (sheet_rows q room) (sheet_of q) e) (sheet_close (passed q room (sheet_of q) e))
