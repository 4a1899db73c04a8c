-- Fields that a card does not have read 0, and so do zeros behind those that it has: the quantities do not tell the two apart. Assumes
-- nothing.
use mathlib.Core.Path.{◌≡◌, refl, sym, ◌∙◌}
use mathlib.Core.List.{List, [], ◌∷◌, ◌++◌}
use Prim.Native.Nat.{ℕ, zero, suc, ◌+◌, ◌*◌}
use lib.ListN.{length, get_or, drop, replicate}
use lib.Seq.{get_or-drop}
use Rattle.fields.specs.Quantities.{head_fields, per_segment, per_age, segment_at, age_at, parts_from, all_segments, quantities_of}
use Rattle.fields.specs.declared.read.Counts.{Counts}
use Rattle.fields.specs.Outcomes.{over}

-- two lists of fields that read the same everywhere
abbrev pub Same : List ℕ → List ℕ → Type 0
Same fields others = (k : ℕ) → get_or fields k 0 ≡ get_or others k 0

pub drop_same : (count : ℕ) (fields others : List ℕ) → Same fields others → Same (drop count fields) (drop count others)
drop_same count fields others same k =
    get_or-drop count fields k 0 ∙ same (count + k) ∙ sym (get_or-drop count others k 0)

parts_same : {A : Type 0} (width : ℕ) (part_at : List ℕ → A)
    → ((fields others : List ℕ) → Same fields others → part_at fields ≡ part_at others) → (count : ℕ) (fields others : List ℕ)
    → Same fields others → parts_from width part_at count fields ≡ parts_from width part_at count others
unfolding parts_from
parts_same width part_at alike zero fields others same = refl
parts_same width part_at alike (suc count) fields others same =
    rw (
      alike fields others same,
      parts_same width part_at alike count (drop width fields) (drop width others) (drop_same width fields others same),
    )

segments_same : (fields others : List ℕ) → Same fields others → segment_at fields ≡ segment_at others
segments_same fields others same = simp same

ages_same : (fields others : List ℕ) → Same fields others → age_at fields ≡ age_at others
ages_same fields others same = simp same

pub same_quantities : (counts : Counts) (fields others : List ℕ) → Same fields others
    → quantities_of counts fields ≡ quantities_of counts others
same_quantities counts fields others same =
    let second = head_fields + per_segment * counts.segments in
    let first_age = head_fields + per_segment * all_segments counts in
    simp same
    (rw (
      parts_same per_segment segment_at segments_same counts.segments _ _ (drop_same head_fields fields others same),
      parts_same per_segment segment_at segments_same counts.second_segments _ _ (drop_same second fields others same),
      parts_same per_age age_at ages_same counts.ages _ _ (drop_same first_age fields others same),
    ))

-- ---- zeros behind the fields

zeros : (count k : ℕ) → ◌≡◌ {A = ℕ} (get_or (replicate count 0) k 0) 0
zeros zero k = refl
zeros (suc count) zero = refl
zeros (suc count) (suc k) = zeros count k

padded : (numbers : List ℕ) (cut count : ℕ) → Same (numbers ++ drop cut (replicate count 0)) numbers
padded [] cut count k = get_or-drop cut (replicate count 0) k 0 ∙ zeros count (cut + k)
padded (number ∷ numbers) cut count zero = refl
padded (number ∷ numbers) cut count (suc k) = padded numbers cut count k

pub over_zeros : (numbers : List ℕ) (count : ℕ) → Same (over numbers (replicate count 0)) numbers
over_zeros numbers count = padded numbers (length numbers) count
