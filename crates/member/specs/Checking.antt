-- It serves the code alone. What the code knows of a member's quantities on its way down the rows.
use Rattle.fields.specs.Quantities.{Quantities}
use Rattle.member.specs.Facts.{SegmentsFit, HeadFits}

-- what is known where the rows from codes to hours hold
pub record BelowHours (q : Quantities) : Type 0 where
  pub head : HeadFits q
  pub segments_fit : SegmentsFit q.path
  pub second_fit : SegmentsFit q.second_path
