-- The elongations of the first path are written segment by segment: those that are written and those of the segments left make the whole,
-- and X, the stress before the next segment and the sum are those of the segments that are passed. Assumes nothing.
use mathlib.Core.Path.{◌≡◌, refl, sym, ap, ◌∙◌}
use mathlib.Core.List.{List, [], ◌∷◌, ◌++◌, append_assoc, append-nil}
use Prim.Native.Nat.{ℕ, suc, ◌+◌, ◌*◌, ◌≤◌, ◌<◌}
use native.Mathlib.Numerals.{add-one}
use native.Mathlib.Nat.{le_trans}
use native.Mathlib.Omega.{arith}
use lib.ListN.{length, take, drop, set, length-append, length-drop}
use Rattle.std.proofs.lemmas.List.{drop-drop}
use Rattle.formulas.specs.Steps.{stress_left}
use Rattle.formulas.specs.Conditions.{stress_limit, FrictionFits}
use Rattle.formulas.proofs.Laws.{stress_left_most}
use Rattle.fields.specs.Outcomes.{over}
use Rattle.fields.specs.declared.segments.Segment.{Segment}
use Rattle.fields.specs.Quantities.{Quantities}
use Rattle.fields.specs.Limits.{most_friction, most_segments}
use Rattle.fields.proofs.Buffers.{set_behind}
use Rattle.member.specs.Constants.{segment_friction, path_friction, jacked, friction_of, stress_along}
use Rattle.member.specs.Facts.{SegmentFrictionFits}
use Rattle.tolerance.proofs.Path.{friction_of_part}
use Rattle.elongation.specs.Sheet.{elongation, elongations_from, elongations_of, sum_of}
use Rattle.elongation.specs.Conditions.{ElongationFits, most_elongation, Stretchable, Stretched}
use Rattle.elongation.proofs.Along.{jacked_first, one_segment_more, fits_at}

-- ---- the segments that are left

-- the first of them is passed
pub one_passed : (path : List Segment) (k : ℕ) {left later : List Segment} {segment : Segment} → left ≡ drop k path
    → left ≡ segment ∷ later → later ≡ drop (k + 1) path
one_passed path k is next = ap (λ (l : List Segment). drop 1 l) (sym next ∙ is) ∙ drop-drop 1 k path

-- ---- what is written

sum_append : (elongations : List ℕ) (more : ℕ) → sum_of (elongations ++ (more ∷ [])) ≡ sum_of elongations + more
unfolding sum_of
sum_append [] more = omega arith
sum_append (elongation ∷ elongations) more = omega (arith, sum_append elongations more)

none_summed : 0 ≡ sum_of []
unfolding sum_of
none_summed = refl

next_elongation : (es : ℕ) (stress : ℕ → ℕ) (k : ℕ) {left rest : List Segment} {segment : Segment} → left ≡ segment ∷ rest
    → elongations_from es stress k left
    ≡ elongation es (stress k) (stress (suc k)) segment.length ∷ elongations_from es stress (suc k) rest
unfolding elongations_from
next_elongation es stress k e = rw e

no_elongation : (es : ℕ) (stress : ℕ → ℕ) (k : ℕ) {left : List Segment} → left ≡ [] → elongations_from es stress k left ≡ []
unfolding elongations_from
no_elongation es stress k e = rw e

-- up to the segment `k`
pub record Stretching (q : Quantities) (old sheet : List ℕ) (friction before sum k : ℕ) : Type 0 where
  pub done : List ℕ
  pub count : length done ≡ k
  pub within : k ≤ length q.path
  pub friction_is : friction ≡ friction_of q (take k q.path)
  pub before_is : before ≡ stress_along q q.path k
  pub small : sum ≤ most_elongation * k
  pub sum_is : sum ≡ sum_of done
  pub sheet_is : sheet ≡ over done old
  pub whole : done ++ elongations_from q.Es (stress_along q q.path) k (drop k q.path) ≡ elongations_of q

pub none_stretched : (q : Quantities) (old : List ℕ) → Stretching q old old 0 (jacked q) 0 0
unfolding path_friction
none_stretched q old = record {
  done = [];
  count = refl;
  within = omega arith;
  friction_is = refl;
  before_is = sym (jacked_first q q.path);
  small = omega arith;
  sum_is = none_summed;
  sheet_is = refl;
  whole = refl;
}

module _ {q : Quantities} {old : List ℕ} (fit : Stretchable q old) where
  -- no stress along the path is above the jacking stress
  pub jacked_fits : jacked q < stress_limit
  jacked_fits =
      let head = fit.below_hours.head in
      let low = head.jacking_most in
      let strong = head.ultimate_most in
      omega arith

  along_fits : (j : ℕ) → stress_along q q.path j < stress_limit
  along_fits j =
      let top = jacked_fits in
      omega (arith, stress_left_most (jacked q) (friction_of q (take j q.path)))

  part_most : (j : ℕ) → friction_of q (take j q.path) ≤ most_friction
  part_most j = le_trans (friction_of_part q.wobble q.curvature q.path j) fit.friction_most

  module _ {sheet : List ℕ} {friction before sum k : ℕ} (stretching : Stretching q old sheet friction before sum k) where
    pub friction_small : friction ≤ most_friction
    friction_small = rw stretching.friction_is (part_most k)

    pub sum_small : length q.path ≤ most_segments → sum ≤ most_elongation * most_segments
    sum_small few = let within = stretching.within in let small = stretching.small in omega arith

    pub all_stretched : length q.path ≤ most_segments → drop k q.path ≡ [] → Stretched q sum sheet old
    all_stretched few end =
        let none : elongations_from q.Es (stress_along q q.path) k (drop k q.path) ≡ [] =
        no_elongation q.Es (stress_along q q.path) k end in
        let all : stretching.done ≡ elongations_of q =
        sym (append-nil stretching.done) ∙ ap (λ (l : List ℕ). stretching.done ++ l) (sym none) ∙ stretching.whole in
        record {
          sum_is = stretching.sum_is ∙ rw all;
          sum_most = sum_small few;
          sheet_is = stretching.sheet_is ∙ rw all;
        }

    module _ {segment : Segment} {later : List Segment} (next : drop k q.path ≡ segment ∷ later) where
      more_left : k < length q.path
      more_left = let left = simp length-drop at (ap length next) in omega arith

      later_is : later ≡ drop (suc k) q.path
      later_is = rw add-one at (one_passed q.path k refl next)

      pub fits : SegmentFrictionFits q.wobble q.curvature segment
      fits =
          let head = fit.below_hours.head in
          record {
            wobble_most = head.wobble_most;
            curvature_most = head.curvature_most;
            segment_fits = fits_at q.path k fit.below_hours.segments_fit next;
          }

      module _ {more : ℕ} (rubbed : more ≡ segment_friction q.wobble q.curvature segment) where
        friction_is : friction + more ≡ friction_of q (take (suc k) q.path)
        friction_is = omega (arith, rubbed, stretching.friction_is, one_segment_more q.wobble q.curvature q.path k next)

        pub friction_fits : FrictionFits (jacked q) (friction + more)
        friction_fits = record { stress_fits = jacked_fits; friction_most = rw friction_is (part_most (suc k)) }

        module _ {after : ℕ} (is_left : after ≡ stress_left (jacked q) (friction + more)) where
          after_is : after ≡ stress_along q q.path (suc k)
          after_is = is_left ∙ rw friction_is

          pub elongation_fits : ElongationFits q.Es before after segment.length
          elongation_fits =
              let head = fit.below_hours.head in
              let most = head.es_most in
              let here = fits.segment_fits in
              record {
                es_least = head.es_least;
                es_fits = omega arith;
                before_fits = rw stretching.before_is (along_fits k);
                after_fits = rw after_is (along_fits (suc k));
                length_most = here.length_most;
              }

          pub one_more : {stretched : ℕ} → stretched ≡ elongation q.Es before after segment.length → stretched ≤ most_elongation
              → Stretching q old (set sheet k stretched) (friction + more) after (sum + stretched) (k + 1)
          one_more {stretched} is small =
              let room = fit.room in
              let here = more_left in
              let count = stretching.count in
              let smaller = stretching.small in
              let done = stretching.done in
              let here_is : stretched ≡ elongation q.Es (stress_along q q.path k) (stress_along q q.path (suc k)) segment.length =
              is ∙ rw (stretching.before_is, after_is) in
              record {
                done = done ++ (stretched ∷ []);
                count = length-append done (stretched ∷ []) ∙ (omega arith);
                within = omega arith;
                friction_is = rw add-one friction_is;
                before_is = rw add-one after_is;
                small = omega arith;
                sum_is = rw (sum_append done stretched, stretching.sum_is);
                sheet_is =
                    ap (λ (l : List ℕ). set l k stretched) stretching.sheet_is ∙ set_behind done old stretched k count (omega arith);
                whole = rw (add-one, append_assoc, here_is, ← later_is)
                    (ap (λ (l : List ℕ). done ++ l) (sym (next_elongation q.Es (stress_along q q.path) k next)) ∙ stretching.whole);
              }
