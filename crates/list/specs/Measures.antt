-- It serves the code alone: what a list gives does not depend on it. What the doubles of a section and of a segment pass through on their
-- way: document 01, "The section's five measures and each segment arrive as doubles." And the parts in which a list is read.
use Rattle.std.specs.Prelude.{ℕ, ◌<◌, ◌≡◌, Bool, false, ◌&&◌, cond, List, [], ◌∷◌, eqb, Float, length, get_or}
use Rattle.std.specs.Prelude.{Option, Some, None, Result, Ok, Err}
use Rattle.list.specs.declared.Section.{Section}
use Rattle.list.specs.declared.Segment.{Segment}
use Rattle.list.specs.declared.Entry.{Entry}
use Rattle.fields.specs.Quantities.{field_number, straight, parabola, bend}
use Rattle.fields.specs.Outcomes.{numbers_in, all_read, over}
use Rattle.list.specs.Lists.{ticks_in, whole_in, head_in_ticks, segment_in_ticks, age_in_ticks, amounts_by, field_in}

-- ---- the section

abbrev pub section_of : List Float → Section
section_of list =
    record {
      area = field_in field_number.area list;
      inertia = field_in field_number.inertia list;
      eccentricity = field_in field_number.eccentricity list;
      steel_area = field_in field_number.steel_area list;
      own_weight_moment = field_in field_number.own_weight_moment list;
    }

-- ---- a segment

-- an amount that is read, and is this number
abbrev pub is : Option ℕ → ℕ → Bool
is (Some n) number = eqb n number
is None number = false

-- "1 straight (.. rise 0); 2 parabola ..; 3 bend (length 0, third field the angle ..)"
abbrev pub is_straight : Float → Float → Bool
is_straight kind third = is (whole_in kind) straight && is (ticks_in third) 0

abbrev pub is_parabola : Float → Bool
is_parabola kind = is (whole_in kind) parabola

abbrev pub is_bend : Float → Float → Bool
is_bend kind second = is (whole_in kind) bend && is (ticks_in second) 0

-- What the three doubles of a segment are held as. What is no segment keeps all three, for the rows "doubles", "codes" and "ranges"
-- to refuse.
abbrev pub entry_of : Float → Float → Float → Entry
entry_of kind second third =
    cond (is_straight kind third) (Entry.Listed (Segment.Straight second))
    (cond (is_parabola kind) (Entry.Listed (Segment.Parabola second third))
    (cond (is_bend kind second) (Entry.Listed (Segment.Bend third)) (Entry.Unlisted kind second third)))

-- what its three fields then read
abbrev pub amounts_of_segment : Segment → List (Option ℕ)
amounts_of_segment (Segment.Straight length) = Some straight ∷ ticks_in length ∷ Some 0 ∷ []
amounts_of_segment (Segment.Parabola length rise) = Some parabola ∷ ticks_in length ∷ ticks_in rise ∷ []
amounts_of_segment (Segment.Bend angle) = Some bend ∷ Some 0 ∷ ticks_in angle ∷ []

abbrev pub amounts_of_entry : Entry → List (Option ℕ)
amounts_of_entry (Entry.Listed segment) = amounts_of_segment segment
amounts_of_entry (Entry.Unlisted kind second third) = whole_in kind ∷ ticks_in second ∷ ticks_in third ∷ []

-- ---- the parts of a list

-- so many amounts, each of them whatever is given for its place
pub record GivenBy (gives : ℕ → Option ℕ → Type 0) (count : ℕ) (amounts : List (Option ℕ)) : Type 0 where
  pub count_is : length amounts ≡ count
  pub each : (at : ℕ) (amount : Option ℕ) → at < count → gives at amount → get_or amounts at None ≡ amount

-- all fields are read; else how many are before the first that is refused
abbrev pub reading_of : List (Option ℕ) → Result Unit ℕ
reading_of amounts = cond (all_read amounts) (Ok tt) (Err (length (numbers_in amounts)))

-- a buffer into which some fields were read, up to the first that is refused, and what is answered
pub record Written (amounts : List (Option ℕ)) (old now : List ℕ) (reading : Result Unit ℕ) : Type 0 where
  pub reading_is : reading ≡ reading_of amounts
  pub buffer_is : now ≡ over (numbers_in amounts) old

abbrev pub head_amounts : List Float → List (Option ℕ)
head_amounts head = amounts_by head_in_ticks 1 head

abbrev pub segments_amounts : List Float → List (Option ℕ)
segments_amounts part = amounts_by segment_in_ticks 0 part

abbrev pub ages_amounts : List Float → List (Option ℕ)
ages_amounts part = amounts_by age_in_ticks 0 part
