-- The promise rests on it. The elongation sheet in fractions, and how far the core's lies from it: document 02, W7 and W9.
use Rattle.std.specs.Prelude.{ℕ, zero, suc, ◌+◌, ◌*◌, ◌<◌, ◌≡◌, List, [], ◌∷◌, length, get_or}
use Rattle.fraction.specs.Fraction.{Fraction, whole, ◌⊕◌, ◌⊗◌, ◌÷◌, ◌≼◌, Within}
use Rattle.ticks.specs.Ticks.{ticks_per_unit}
use Rattle.exponential.specs.Factor.{powers}
use Rattle.exponential.specs.Series.{sum_to}
use Rattle.fields.specs.Quantities.{Quantities}
use Rattle.fields.specs.declared.segments.Segment.{Segment}
use Rattle.fields.specs.Limits.{range, most_length}
use Rattle.tolerance.specs.Method.{exponent_along, FactorsAlong, stress_along}
use Rattle.elongation.specs.Sheet.{Sheet}

-- ---- in fractions: "their values in fractions", by the stresses of the method in fractions

-- "the mean of the stresses at its ends before slip, times its length over Es"
abbrev pub elongation : (es : ℕ) (before after : Fraction) (length : ℕ) → Fraction
elongation es before after length = (before ⊕ after) ⊗ ((12 * length) ÷ (2 * (es * ticks_per_unit)))

unfoldable pub elongations_from : (es : ℕ) (stress : ℕ → Fraction) (j : ℕ) → List Segment → List Fraction
elongations_from es stress j [] = []
elongations_from es stress j (segment ∷ segments) =
    elongation es (stress j) (stress (suc j)) segment.length ∷ elongations_from es stress (suc j) segments

-- document 02, W3: by any factors that the series allows; W9: along the first path
abbrev pub elongations_by : (ℕ → Fraction) → Quantities → List Fraction
elongations_by factor q = elongations_from q.Es (stress_along factor q) 0 q.path

unfoldable pub sum_of : List Fraction → Fraction
sum_of [] = whole 0
sum_of (elongation ∷ elongations) = elongation ⊕ sum_of elongations

-- "80 of 100"
abbrev pub measurable_part : Fraction → Fraction
measurable_part sum = (80 ÷ 100) ⊗ sum

-- ---- how far apart, in ticks of inch: "as a formula in the number of segments"

-- the two stresses after j segments, in ticks of psi
abbrev pub stress_distance : ℕ → ℕ
stress_distance j = 30 * j + 61

-- what a tick of psi in the sum of a segment's two stresses is worth at the most: on the longest segment, at the least Es
abbrev pub worth : Fraction
worth = (12 * most_length) ÷ (2 * (range.Es.low * ticks_per_unit))

-- the segment that follows j others: its own rounding, and what the stresses at its two ends are off by
abbrev pub segment_distance : ℕ → Fraction
segment_distance j = whole 1 ⊕ whole (stress_distance j + stress_distance (suc j)) ⊗ worth

-- all of s segments: the sum of theirs
abbrev pub sum_distance : ℕ → Fraction
sum_distance s = whole s ⊕ whole (30 * (s * s) + 122 * s) ⊗ worth

-- 80 of 100 of that, and of 1 for the measurable part's own rounding; without a segment both are 0
abbrev pub measurable_distance : ℕ → Fraction
measurable_distance zero = whole 0
measurable_distance (suc s) = (80 ÷ 100) ⊗ (sum_distance (suc s) ⊕ whole 1)

-- "at most four ticks for each"
abbrev pub most_distance : ℕ → Fraction
most_distance s = whole (4 * s)

pub record Near (factor : ℕ → Fraction) (q : Quantities) (sheet : Sheet) : Type 0 where
  pub count : length (elongations_by factor q) ≡ length q.path
  pub segments : (j : ℕ) → j < length q.path
      → Within (segment_distance j) (whole (get_or sheet.elongations j 0)) (get_or (elongations_by factor q) j (whole 0))
  pub sum : Within (sum_distance (length q.path)) (whole sheet.total.sum) (sum_of (elongations_by factor q))
  pub measurable :
      Within (measurable_distance (length q.path)) (whole sheet.total.measurable) (measurable_part (sum_of (elongations_by factor q)))

-- of an accepted sheet
pub record SheetClose (q : Quantities) (sheet : Sheet) : Type 0 where
  pub count : length sheet.elongations ≡ length q.path
  pub near : (factor : ℕ → Fraction) → FactorsAlong q q.path factor → Near factor q sheet
  -- there are such factors: the sums up to the 15th power
  pub some_factors : FactorsAlong q q.path (λ j. sum_to powers (exponent_along q q.path j))
  pub sum_small : sum_distance (length q.path) ≼ most_distance (length q.path)
  pub measurable_small : measurable_distance (length q.path) ≼ most_distance (length q.path)
