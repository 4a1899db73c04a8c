-- How many segments and ages the fields of a card or a list have; and both paths, one behind the other. Assumes nothing.
use mathlib.Core.Path.{◌≡◌, sym, ap, ◌∙◌}
use mathlib.Core.List.{List}
use Prim.Native.Nat.{ℕ, ◌+◌, ◌*◌, ◌≤◌}
use lib.ListN.{length, drop}
use lib.Seq.{drop-drop}
use Rattle.fields.specs.declared.read.Counts.{Counts}
use Rattle.fields.specs.Limits.{most_segments, most_ages}
use Rattle.fields.specs.Quantities.{head_fields, per_segment, per_age, segment_at, age_at, segments_from, all_segments, Quantities}
use Rattle.fields.specs.Quantities.{both_paths, quantities_of}
use Rattle.fields.specs.Readable.{Readable}
use Rattle.fields.proofs.Along.{parts_length, parts_append}

pub path_counted : (counts : Counts) (numbers : List ℕ) → length (quantities_of counts numbers).path ≡ counts.segments
path_counted counts numbers = parts_length per_segment segment_at counts.segments (drop head_fields numbers)

pub second_counted : (counts : Counts) (numbers : List ℕ) → length (quantities_of counts numbers).second_path ≡ counts.second_segments
second_counted counts numbers =
    parts_length per_segment segment_at counts.second_segments (drop (head_fields + per_segment * counts.segments) numbers)

pub ages_counted : (counts : Counts) (numbers : List ℕ) → length (quantities_of counts numbers).ages ≡ counts.ages
ages_counted counts numbers = parts_length per_age age_at counts.ages (drop (head_fields + per_segment * all_segments counts) numbers)

pub both_paths_are : (counts : Counts) (numbers : List ℕ)
    → both_paths (quantities_of counts numbers) ≡ segments_from (all_segments counts) (drop head_fields numbers)
both_paths_are counts numbers =
    rw (← drop-drop) (parts_append per_segment segment_at counts.segments counts.second_segments (drop head_fields numbers))

pub both_paths_counted : (counts : Counts) (numbers : List ℕ) → length (both_paths (quantities_of counts numbers)) ≡ all_segments counts
both_paths_counted counts numbers =
    ap length (both_paths_are counts numbers) ∙ parts_length per_segment segment_at (all_segments counts) (drop head_fields numbers)

-- within their limits
pub record Few (q : Quantities) : Type 0 where
  pub segments : length q.path ≤ most_segments
  pub second : length q.second_path ≤ most_segments
  pub ages : length q.ages ≤ most_ages

pub few_counted : (counts : Counts) (numbers : List ℕ) → counts.segments ≤ most_segments → counts.second_segments ≤ most_segments
    → counts.ages ≤ most_ages → Few (quantities_of counts numbers)
few_counted counts numbers segments second ages = record {
  segments = rw (path_counted counts numbers) segments;
  second = rw (second_counted counts numbers) second;
  ages = rw (ages_counted counts numbers) ages;
}

module _ (counts : Counts) (numbers : List ℕ) {q : Quantities} (is : quantities_of counts numbers ≡ q) where
  pub path_count : length q.path ≡ counts.segments
  path_count = rw (← is) (path_counted counts numbers)

  pub second_count : length q.second_path ≡ counts.second_segments
  second_count = rw (← is) (second_counted counts numbers)

  pub both_are : segments_from (all_segments counts) (drop head_fields numbers) ≡ both_paths q
  both_are = rw (← is) (sym (both_paths_are counts numbers))

  pub both_count : length (both_paths q) ≡ all_segments counts
  both_count = rw (← is) (both_paths_counted counts numbers)

  pub age_count : length q.ages ≡ counts.ages
  age_count = rw (← is) (ages_counted counts numbers)

  pub few : Readable counts numbers → Few q
  few readable = rw (← is) (few_counted counts numbers readable.segments_most readable.second_most readable.ages_most)

  pub few_segments : Readable counts numbers → length q.path ≤ most_segments
  few_segments readable = (few readable).segments

  pub few_second_segments : Readable counts numbers → length q.second_path ≤ most_segments
  few_second_segments readable = (few readable).second
