-- It serves the code alone. What the inner functions of the list's reader ask of a field's number, of a list's parts and of the buffer.
use Rattle.std.specs.Prelude.{ℕ, ◌+◌, ◌*◌, ◌%◌, ◌<◌, ◌≤◌, ◌≡◌, List, Float, length}
use Rattle.fields.specs.Quantities.{head_fields, per_segment}
use Rattle.list.specs.declared.Section.{Section}
use Rattle.list.specs.Measures.{section_of}

-- of a field of the head, of the head and of the section that was made of it
pub record HeadField (head : List Float) (section : Section) (at : ℕ) : Type 0 where
  pub within : at < length head
  pub whole_head : length head ≡ head_fields
  pub section_is : section ≡ section_of head

-- of the segments, and of the buffer for their numbers
pub record SegmentsFit (part : List Float) (fields : List ℕ) : Type 0 where
  pub whole_segments : length part % per_segment ≡ 0
  pub room : length part ≤ length fields

-- of a whole list of so many segments, and of the buffer for its numbers
pub record ListFits (list : List Float) (segments : ℕ) (fields : List ℕ) : Type 0 where
  pub room : length list ≤ length fields
  pub segments_listed : head_fields + per_segment * segments ≤ length list
