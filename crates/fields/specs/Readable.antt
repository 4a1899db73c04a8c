-- It serves the code alone. What a reader hands over, and what the code of the checks and of the run asks for: the counts in their
-- ranges, and fields of at most 14 digits.
use Rattle.std.specs.Prelude.{ℕ, ◌-◌, ◌≡◌, ◌≤◌, ◌<◌, ◌^◌, List, length, get_or, Ok}
use Rattle.fields.specs.declared.read.Counts.{Counts}
use Rattle.fields.specs.Outcomes.{Outcome}
use Rattle.fields.specs.Quantities.{columns, segments_field, ages_field, second_segments_field, fields_in}
use Rattle.fields.specs.Limits.{most_segments, least_ages, most_ages}

abbrev pub Small : List ℕ → Type 0
Small fields = (k : ℕ) → get_or fields k 0 < 10 ^ columns

pub record Readable (counts : Counts) (fields : List ℕ) : Type 0 where
  pub segments_most : counts.segments ≤ most_segments
  pub ages_least : least_ages ≤ counts.ages
  pub ages_most : counts.ages ≤ most_ages
  pub second_most : counts.second_segments ≤ most_segments
  pub small : Small fields

-- what is known of the numbers of a card or a list that is read with these counts
pub record Accepted (numbers : List ℕ) (counts : Counts) : Type 0 where
  pub few_segments : counts.segments ≤ most_segments
  pub enough_ages : least_ages ≤ counts.ages
  pub few_ages : counts.ages ≤ most_ages
  pub few_second : counts.second_segments ≤ most_segments
  pub count : length numbers ≡ fields_in counts
  pub segments_field_is : get_or numbers (segments_field - 1) 0 ≡ counts.segments
  pub ages_field_is : get_or numbers (ages_field - 1) 0 ≡ counts.ages
  pub second_field_is : get_or numbers (second_segments_field - 1) 0 ≡ counts.second_segments
  pub below : Small numbers

-- the same of whatever is read
abbrev pub AcceptedIfRead : Outcome → Type 0
AcceptedIfRead outcome = (counts : Counts) → outcome.reading ≡ Ok counts → Accepted outcome.numbers counts
