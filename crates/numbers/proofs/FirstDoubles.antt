-- What a list gives is what its doubles give with infinity for each NaN, and what its first doubles give, one more than a list can have
-- fields: both readings of a double refuse the two alike, and a list of more doubles than it can have fields is refused with any length.
-- Assumes nothing.
use mathlib.Core.Path.{◌≡◌, refl, sym, ap, ◌∙◌}
use mathlib.Core.Bool.{Bool, true, false, false≢true, cond}
use mathlib.Core.List.{List, [], ◌∷◌, ◌++◌, map}
use Prim.Native.Nat.{ℕ, zero, suc, ◌-◌, min, ◌≤◌, ◌<◌}
use native.Mathlib.Nat.{le_of_lt, suc-min-suc, zero-min, min-zero, min-le_right}
use native.Mathlib.Omega.{arith}
use borrow.Author.Tests.{le-ltb, ne_eqb, leb-true, leb-false}
use lib.Dec.{leb, lit<}
use lib.Ieee.{Float, nan, inf, fin, binary64, nan_bits, is_nan, of_bits}
use lib.Ieee.Bits.{nan_bits_is}
use lib.Ieee.Fits.{inf-fits, nan-fits}
use lib.ListN.{length, get_or, take, drop, length-map}
use lib.Seq.{get_or-take, take_all, take_at, length-take-le}
use Rattle.std.specs.Prelude.{Some, None, Ok, Err}
use Rattle.std.specs.Option.{unwrap_or}
use Rattle.ticks.proofs.Laws.{refused}
use Rattle.fields.specs.declared.read.Counts.{Counts}
use Rattle.fields.specs.Quantities.{segments_field, ages_field, second_segments_field, head_fields, all_segments, fields_in}
use Rattle.fields.specs.Limits.{most_segments, most_ages, segment_counts, age_counts}
use Rattle.fields.specs.Sizes.{most_fields}
use Rattle.fields.specs.Outcomes.{OrRefusal, onward}
use Rattle.list.specs.Lists.{amount_in, in_ticks, amounts_by, amounts_of, count_in, shaped, counts_in, with_counts, list_outcome}
use Rattle.list.specs.Counted.{counted_in, counts_accepted}
use Rattle.numbers.specs.Numbers.{bytes_per_number, room, numbers_from, doubles_of}
use Rattle.numbers.specs.ReadDoubles.{stands_for, most_doubles}

-- ---- infinity for a NaN

is_nan_then : (x : Float) → is_nan x ≡ true → x ≡ nan
unfolding is_nan
is_nan_then nan e = refl
is_nan_then (inf s) e = absurd (false≢true e)
is_nan_then (fin s m e) t = absurd (false≢true t)

unreadable : (ticks : Bool) → amount_in ticks (inf false) ≡ amount_in ticks nan
unreadable true = (refused (inf false) (inf-fits binary64 false) tt).0 ∙ sym (refused nan (nan-fits binary64) tt).0
unreadable false = (refused (inf false) (inf-fits binary64 false) tt).1 ∙ sym (refused nan (nan-fits binary64) tt).1

same_amount : (ticks : Bool) (bits : ℕ) → amount_in ticks (stands_for bits) ≡ amount_in ticks (of_bits binary64 bits)
same_amount ticks bits = by (nan_bits binary64 bits) refl
  where
    by : (b : Bool) → nan_bits binary64 bits ≡ b
        → amount_in ticks (unwrap_or (cond b None (Some (of_bits binary64 bits))) (inf false)) ≡ amount_in ticks (of_bits binary64 bits)
    by true e = unreadable ticks ∙ ap (amount_in ticks) (sym (is_nan_then (of_bits binary64 bits) (sym (nan_bits_is binary64 bits) ∙ e)))
    by false e = refl

same_count : (numbers : List ℕ) (k : ℕ)
    → amount_in false (get_or (map stands_for numbers) k nan) ≡ amount_in false (get_or (map (of_bits binary64) numbers) k nan)
same_count [] k = refl
same_count (bits ∷ numbers) zero = same_amount false bits
same_count (bits ∷ numbers) (suc k) = same_count numbers k

same_amounts : (segments field : ℕ) (numbers : List ℕ)
    → amounts_of segments field (map stands_for numbers) ≡ amounts_of segments field (map (of_bits binary64) numbers)
unfolding amounts_by
same_amounts segments field [] = refl
same_amounts segments field (bits ∷ numbers) =
    rw (same_amount (in_ticks segments field) bits, same_amounts segments (suc field) numbers)

same_counts : (numbers : List ℕ) → counts_in (map stands_for numbers) ≡ counts_in (map (of_bits binary64) numbers)
unfolding counts_in
same_counts numbers =
    rw (
      length-map numbers stands_for,
      length-map numbers (of_bits binary64),
      same_count numbers (segments_field - 1),
      same_count numbers (ages_field - 1),
      same_count numbers (second_segments_field - 1),
    )

same_doubles : (numbers : List ℕ) → list_outcome (map stands_for numbers) ≡ list_outcome (map (of_bits binary64) numbers)
unfolding list_outcome
same_doubles numbers = by (counts_in (map stands_for numbers)) ∙ rw (same_counts numbers)
  where
    by : (reading : OrRefusal Counts) → with_counts reading (map stands_for numbers) ≡ with_counts reading (map (of_bits binary64) numbers)
    by (Err refusal) = refl
    by (Ok counts) = rw (same_amounts (all_segments counts) 1 numbers)

-- ---- the first doubles, one more than a list can have fields

-- what follows is alike where it is alike for all that can be given
alike : {A B : Type 0} (given : OrRefusal A) {next other : A → OrRefusal B}
    → ((value : A) → given ≡ Ok value → next value ≡ other value) → onward given next ≡ onward given other
alike (Ok value) same = same value refl
alike (Err refusal) same = refl

module _ (front list : List Float) (front_long : most_fields < length front) (long : most_fields < length list)
    (same : (k : ℕ) → k < head_fields → get_or front k nan ≡ get_or list k nan) where
  -- no counts in their ranges ask for so many
  misshaped : (counts : Counts) → counts.segments ≤ most_segments → counts.ages ≤ most_ages → counts.second_segments ≤ most_segments
      → shaped (length front) counts ≡ shaped (length list) counts
  misshaped counts segments ages second =
      rw (
        ne_eqb (length front) (fields_in counts) (λ e. omega arith),
        ne_eqb (length list) (fields_in counts) (λ e. omega arith),
      )

  counts_alike : counts_in front ≡ counts_in list
  unfolding counts_in
  counts_alike =
      rw (
        le-ltb (length front) head_fields (omega arith),
        le-ltb (length list) head_fields (omega arith),
        same (segments_field - 1) (lit< tt),
        same (ages_field - 1) (lit< tt),
        same (second_segments_field - 1) (lit< tt),
      )
      (alike (count_in segments_field segment_counts list) (λ segments s.
      alike (count_in ages_field age_counts list) (λ ages n.
      alike (count_in second_segments_field segment_counts list) (λ second t.
      misshaped _ (counted_in segments_field segment_counts list s).most (counted_in ages_field age_counts list n).most
      (counted_in second_segments_field segment_counts list t).most))))

-- such a list has no fields
none_read : (front list : List Float) → most_fields < length list → (reading : OrRefusal Counts) → counts_in list ≡ reading
    → with_counts reading front ≡ with_counts reading list
none_read front list long (Ok counts) e = let counted = counts_accepted list e in absurd (omega arith)
none_read front list long (Err refusal) e = refl

first_doubles : (list : List Float) → list_outcome (take most_doubles list) ≡ list_outcome list
unfolding list_outcome
first_doubles list = by (leb most_doubles (length list)) refl
  where
    by : (b : Bool) → leb most_doubles (length list) ≡ b
        → with_counts (counts_in (take most_doubles list)) (take most_doubles list) ≡ with_counts (counts_in list) list
    by false e = rw (take_all most_doubles list (le_of_lt (leb-false most_doubles (length list) e)))
    by true e =
        let many = leb-true most_doubles (length list) e in
        let front = take most_doubles list in
        let size = length-take-le most_doubles list many in
        let same : (k : ℕ) → k < head_fields → get_or front k nan ≡ get_or list k nan =
        λ k h. get_or-take most_doubles list k nan (omega arith) in
        rw (counts_alike front list (omega arith) (omega arith) same) (none_read front list (omega arith) (counts_in list) refl)

-- ---- together, over the bytes

numbers_first : {A : Type 0} (f : ℕ → A) (most count : ℕ) (list : List ℕ)
    → map f (numbers_from (min count most) list) ≡ take most (map f (numbers_from count list))
unfolding numbers_from
numbers_first f zero count list = rw (min-zero count)
numbers_first f (suc most) zero list = rw (zero-min (suc most))
numbers_first f (suc most) (suc count) list = rw (suc-min-suc count most, numbers_first f most count (drop bytes_per_number list))

same_list : (count : ℕ) (list : List ℕ)
    → list_outcome (map stands_for (numbers_from (min count most_doubles) list))
    ≡ list_outcome (map (of_bits binary64) (numbers_from count list))
same_list count list =
    ap list_outcome (numbers_first stands_for most_doubles count list)
    ∙ first_doubles (map stands_for (numbers_from count list))
    ∙ same_doubles (numbers_from count list)

-- so many doubles as the list holds, up to one more than the most fields, at the front of that many
module _ (list : List ℕ) (doubles : List Float) (count : ℕ)
    (is : count ≡ min (room (length list)) most_doubles) (all : length doubles ≡ most_doubles) where
  front_length : length (take count doubles) ≡ count
  front_length = let most = min-le_right (room (length list)) most_doubles in length-take-le count doubles (omega arith)

  module _ (read : List Float) (same : length read ≡ length (take count doubles)) where
    read_front : take count (read ++ drop count doubles) ≡ read
    read_front = take_at read (drop count doubles) count (same ∙ front_length)

    pub read_outcome : read ≡ map stands_for (numbers_from (length (take count doubles)) list)
        → list_outcome (take count (read ++ drop count doubles)) ≡ list_outcome (doubles_of list)
    read_outcome e =
        ap list_outcome (read_front ∙ e ∙ ap (λ (n : ℕ). map stands_for (numbers_from n list)) (front_length ∙ is))
        ∙ same_list (room (length list)) list
