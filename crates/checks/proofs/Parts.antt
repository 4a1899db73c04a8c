-- The rows "codes" and "ranges" in the parts that the code makes of them. Assumes nothing.
use mathlib.Core.Path.{◌≡◌, ◌∙◌, ap}
use mathlib.Core.List.{◌++◌}
use lib.ListN.{length}
use Rattle.fields.specs.Quantities.{first_segment_field, first_age_field, Quantities, both_paths}
use Rattle.checks.specs.Rows.{checked, head_codes, segment_codes, codes, head_ranges, ranges_of_segments, ranges_of_moments, ranges}
use Rattle.checks.specs.Places.{ranges_of_line1, ranges_of_line2, ranges_of_line3, ranges_of_line4}
use Rattle.checks.proofs.Rows.{before, in_parts}

pub codes_in_parts : (q : Quantities)
    → checked (codes q) ≡ before (checked (head_codes q)) (checked (segment_codes first_segment_field (both_paths q)))
unfolding codes
codes_in_parts q = in_parts (head_codes q) (segment_codes first_segment_field (both_paths q))

pub head_in_lines : (q : Quantities)
    → checked (head_ranges q)
    ≡ before (checked (ranges_of_line1 q)) (before (checked (ranges_of_line2 q)) (before (checked (ranges_of_line3 q))
    (checked (ranges_of_line4 q))))
unfolding ranges_of_line1 ranges_of_line2 ranges_of_line3 ranges_of_line4
head_in_lines q =
    let three_and_four = ranges_of_line3 q ++ ranges_of_line4 q in
    rw (
      in_parts (ranges_of_line1 q) (ranges_of_line2 q ++ three_and_four),
      in_parts (ranges_of_line2 q) three_and_four,
      in_parts (ranges_of_line3 q) (ranges_of_line4 q),
    )

pub ranges_in_parts : (q : Quantities)
    → checked (ranges q)
    ≡ before (checked (head_ranges q)) (before (checked (ranges_of_segments first_segment_field (both_paths q)))
    (checked (ranges_of_moments (first_age_field (length (both_paths q))) q.own_weight_moment q.ages)))
unfolding ranges
ranges_in_parts q =
    let path = ranges_of_segments first_segment_field (both_paths q) in
    let moments = ranges_of_moments (first_age_field (length (both_paths q))) q.own_weight_moment q.ages in
    in_parts (head_ranges q) (path ++ moments)
    ∙ ap (before (checked (head_ranges q))) (in_parts path moments)
