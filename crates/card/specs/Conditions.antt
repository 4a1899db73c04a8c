-- It serves the code alone. What the code that reads a card asks of its buffers.
use Rattle.std.specs.Prelude.{ℕ, ◌+◌, ◌*◌, ◌≡◌, ◌≤◌, List, length}
use Rattle.fields.specs.declared.read.Counts.{Counts}
use Rattle.fields.specs.Quantities.{all_segments, per_segment, per_age, first_segment_field}
use Rattle.fields.specs.Limits.{most_segments, most_ages}
use Rattle.fields.specs.Sizes.{most_counts}
use Rattle.line.specs.declared.lines.Unread.{Unread}
use Rattle.line.specs.Conditions.{bytes_on}
use Rattle.card.specs.Card.{head_lines, announced_lines, first_segment_line}

-- the bytes of the longest good card
abbrev pub most_bytes : ℕ
most_bytes = bytes_on head_lines + bytes_on (announced_lines most_counts)

-- the lines of segments and of ages, which come next
pub record AnnouncedFit (counts : Counts) (unread : Unread) (fields : List ℕ) : Type 0 where
  pub segments_most : counts.segments ≤ most_segments
  pub ages_most : counts.ages ≤ most_ages
  pub second_most : counts.second_segments ≤ most_segments
  pub room : per_segment * all_segments counts + per_age * counts.ages ≤ length fields
  pub line : unread.line ≡ first_segment_line
  pub field : unread.field ≡ first_segment_field
