-- The theorem `one_path_as_before` rests on it. The core as it was before document 02's W9, by the rules for one path, and a card of then
-- with a 0 in field 25: "where 0 means no second path".
use Rattle.std.specs.Prelude.{ℕ, suc, ◌+◌, ◌-◌, ◌*◌, ◌≡◌, not, ◌||◌, cond, List, [], ◌∷◌, ◌++◌, leb, ltb, eqb}
use Rattle.std.specs.Prelude.{length, get_or, take, drop, Ok, Err}
use Rattle.fields.specs.declared.read.Counts.{Counts}
use Rattle.fields.specs.declared.refusal.Refusal.{Refusal}
use Rattle.fields.specs.declared.segments.Age.{Age}
use Rattle.fields.specs.Quantities.{segments_field, ages_field, per_segment, Quantities, quantities_by, field_number, is_pretensioned}
use Rattle.fields.specs.Quantities.{segments_from, ages_from}
use Rattle.fields.specs.Limits.{blank_slip, segment_counts, age_counts, most_friction}
use Rattle.fields.specs.Outcomes.{OrRefusal, onward}
use Rattle.line.specs.Lines.{Lines, read_lines, ended}
use Rattle.line.specs.Conditions.{bytes_on}
use Rattle.card.specs.Card.{slip_may_be_blank, count_in, announced_lines, first_segment_line, line_behind, shape, card_outcome}
use Rattle.checks.specs.Rows.{Check, CheckRow, row, at, checked_by, head_codes, segment_codes, head_ranges, ranges_of_segments}
use Rattle.checks.specs.Rows.{ranges_of_moments, curing_fits, transfer_fits, hours_of_ages}
use Rattle.member.specs.declared.Member.{Member}
use Rattle.member.specs.declared.path.Path.{Path}
use Rattle.member.specs.Constants.{friction_of}
use Rattle.member.specs.Member.{member_of, buffers_to_creep}
use Rattle.stages.specs.declared.path.Seated.{Seated}
use Rattle.stages.specs.Run.{after, before_ages, jacked, friction_along, slip_along, begun_from, report_from, Report, result_read}
use Rattle.text.specs.Columns.{in_columns}

-- ---- the card: line 4 ended with field 24, and "Fields of segments and ages are numbered on from 25."

abbrev pub head_lines_before : List ℕ
head_lines_before = 7 ∷ 6 ∷ 5 ∷ 6 ∷ []

abbrev pub first_field_before : ℕ
first_field_before = suc ages_field

-- the same card with a 0 in field 25, whose columns stand before the line feed of line 4
abbrev pub behind_field24 : ℕ
behind_field24 = bytes_on head_lines_before - 1

abbrev pub without_second_path : List ℕ → List ℕ
without_second_path card = take behind_field24 card ++ (in_columns 0 ++ drop behind_field24 card)

abbrev pub head_before : List ℕ → Lines
head_before card = read_lines (slip_may_be_blank blank_slip) head_lines_before 1 1 card

-- "the counts in fields 23 and 24 are ranged while the shape is read, giving 2 .., field 23 wholly before 24"
abbrev pub counts_before : List ℕ → OrRefusal Counts
counts_before numbers =
    onward (count_in segments_field segment_counts numbers) (λ segments.
    onward (count_in ages_field age_counts numbers) (λ ages.
    Ok (record { segments = segments; ages = ages; second_segments = 0 })))

abbrev pub announced_before : Counts → List ℕ → Lines
announced_before counts bytes =
    read_lines (slip_may_be_blank blank_slip) (announced_lines counts) first_segment_line first_field_before bytes

abbrev pub quantities_before : Counts → List ℕ → Quantities
quantities_before counts fields =
    quantities_by (λ number. get_or fields (number - 1) 0) (segments_from counts.segments (drop ages_field fields)) []
    (ages_from counts.ages (drop (ages_field + per_segment * counts.segments) fields))

-- shape, the two counts, and the shape of what they announce
unfoldable pub read_before : List ℕ → OrRefusal Quantities
unfolding read_lines
read_before card =
    let first = head_before card in
    onward (shape first.rest) (λ rest.
    onward (counts_before first.numbers) (λ counts.
    let more = announced_before counts rest in
    onward (shape (ended (line_behind counts) more.rest)) (λ _.
    Ok (quantities_before counts (first.numbers ++ more.numbers)))))

-- ---- the checks: the places of segments and ages, and a duct of one path

abbrev pub first_age_before : Quantities → ℕ
first_age_before q = first_field_before + per_segment * length q.path

abbrev pub codes_before : Quantities → List Check
codes_before q = head_codes q ++ segment_codes first_field_before q.path

abbrev pub ranges_before : Quantities → List Check
ranges_before q =
    head_ranges q
    ++ (ranges_of_segments first_field_before q.path ++ ranges_of_moments (first_age_before q) q.own_weight_moment q.ages)

abbrev pub hours_before : Quantities → List Check
hours_before q =
    at field_number.end_of_curing (curing_fits q) ∷ at field_number.transfer (transfer_fits q)
    ∷ hours_of_ages (first_age_before q) q.transfer q.ages

abbrev pub duct_before : Quantities → List Check
duct_before q =
    at 1 (not (is_pretensioned q) || eqb (length q.path) 0) ∷ at 2 (leb (friction_of q q.path) most_friction) ∷ []

abbrev pub rows_before : Quantities → ℕ → ℕ → List CheckRow
rows_before q report scratch =
    row Refusal.Codes (codes_before q) ∷ row Refusal.Ranges (ranges_before q) ∷ row Refusal.Hours (hours_before q)
    ∷ row Refusal.Duct (duct_before q) ∷ buffers_to_creep q report scratch

-- ---- the run: friction and slip along the one path; 12 is "checked at the slip ahead of number 7"

abbrev pub seated_before : Member → Path → OrRefusal Seated
seated_before m path =
    onward (after before_ages (jacked m) (friction_along m path)) (λ rubbed.
    onward (slip_along m path) (λ slip.
    onward (after before_ages rubbed slip) (λ stress.
    Ok (record { friction = friction_along m path; slip = slip; stress = stress }))))

abbrev pub member_result_before : Member → List Age → OrRefusal Report
member_result_before m ages = onward (onward (seated_before m m.paths.first) (begun_from m)) (report_from m ages)

abbrev pub result_before : List ℕ → ℕ → ℕ → OrRefusal Report
result_before card report scratch =
    onward (read_before card) (λ q.
    onward (checked_by (rows_before q report scratch) (member_of q)) (λ m. member_result_before m q.ages))

-- ---- "later fields number on from 26", and so do the places that are fields

abbrev pub moved_field : ℕ → ℕ
moved_field field = cond (ltb field first_field_before) field (suc field)

abbrev pub moved : Refusal → Refusal
moved (Refusal.Shape line) = Refusal.Shape line
moved (Refusal.Doubles field) = Refusal.Doubles (moved_field field)
moved (Refusal.Codes field) = Refusal.Codes (moved_field field)
moved (Refusal.Ranges field) = Refusal.Ranges (moved_field field)
moved (Refusal.Hours field) = Refusal.Hours (moved_field field)
moved Refusal.Pretensioned = Refusal.Pretensioned
moved (Refusal.Duct place) = Refusal.Duct place
moved Refusal.SecondPath = Refusal.SecondPath
moved Refusal.PathLengths = Refusal.PathLengths
moved (Refusal.Buffers place) = Refusal.Buffers place
moved Refusal.Section = Refusal.Section
moved Refusal.Creep = Refusal.Creep
moved Refusal.AnchorSet = Refusal.AnchorSet
moved (Refusal.Stress age) = Refusal.Stress age
moved (Refusal.Overstress age) = Refusal.Overstress age

abbrev pub moved_result : OrRefusal Report → OrRefusal Report
moved_result (Ok report) = Ok report
moved_result (Err refusal) = Err (moved refusal)

-- every card of before, with a 0 in field 25, gives what it gave: the same report, or the same refusal, at the place that its field has now
abbrev pub OnePathAsBefore : Type 0
OnePathAsBefore = (card : List ℕ) (report scratch : ℕ)
    → result_read (card_outcome (without_second_path card)) report scratch ≡ moved_result (result_before card report scratch)
