-- It serves the code alone. What the code of the sheet asks for, and every card that passes its checks has; and what it makes of it.
use Rattle.std.specs.Prelude.{ℕ, ◌*◌, ◌^◌, ◌≤◌, ◌<◌, ◌≡◌, List, length}
use Rattle.fields.specs.Outcomes.{OrRefusal, over}
use Rattle.fields.specs.Quantities.{Quantities}
use Rattle.fields.specs.Limits.{range, most_length, most_friction, most_segments}
use Rattle.formulas.specs.Conditions.{stress_limit, es_limit}
use Rattle.member.specs.Constants.{friction_of}
use Rattle.member.specs.Checking.{BelowHours}
use Rattle.elongation.specs.Sheet.{Sheet, SheetAnswer, elongations_of, sum_of, sheet_answer, elongations_written}

-- of a segment's elongation
pub record ElongationFits (es before after length : ℕ) : Type 0 where
  pub es_least : range.Es.low ≤ es
  pub es_fits : es < es_limit
  pub before_fits : before < stress_limit
  pub after_fits : after < stress_limit
  pub length_most : length ≤ most_length

-- more than a segment's elongation can be
abbrev pub most_elongation : ℕ
most_elongation = 2 ^ 19

-- of the elongations of a path's segments, and of the buffer that takes them
pub record Stretchable (q : Quantities) (sheet : List ℕ) : Type 0 where
  pub below_hours : BelowHours q
  pub friction_most : friction_of q q.path ≤ most_friction
  pub room : length q.path ≤ length sheet

-- the sum of the elongations, which are written
pub record Stretched (q : Quantities) (sum : ℕ) (sheet sheet_was : List ℕ) : Type 0 where
  pub sum_is : sum ≡ sum_of (elongations_of q)
  pub sum_most : sum ≤ most_elongation * most_segments
  pub sheet_is : sheet ≡ over (elongations_of q) sheet_was

-- the answer itself, and the buffer
pub record Answered (result : OrRefusal Sheet) (answer : SheetAnswer) (sheet sheet_was : List ℕ) : Type 0 where
  pub answer_is : answer ≡ sheet_answer result
  pub sheet_is : sheet ≡ over (elongations_written result) sheet_was
