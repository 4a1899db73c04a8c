-- The theorem `one_path_as_before`, part by part: each part of the way from a card to its report gives what it gave, or refuses what it
-- refused, at the place that its field has now. In the run no place is a field; of the rows each checks what it checked, and those of a
-- second path hold; and a card that gains a 0 in field 25 reads the same quantities, by the laws of lines in `Inserted`. The parts follow
-- on each other as `onward` has them, along which `search` finds most. Assumes nothing.
use mathlib.Core.Path.{◌≡◌, refl, ap, subst}
use mathlib.Core.Bool.{Bool, true, false, cond, or-true}
use mathlib.Core.List.{List, [], ◌∷◌, ◌++◌, map, append-nil, append_assoc, map-append}
use Prim.Native.Nat.{ℕ, suc, ◌+◌, ◌*◌, ◌≤◌, ◌<◌}
use native.Mathlib.Nat.{add-zero}
use native.Mathlib.Omega.{arith}
use lib.ListN.{length, get_or, take, drop, length-append, length-take, length-drop, get_or-append}
use lib.Seq.{drop-append-add, get_or_at}
use Rattle.std.proofs.lemmas.List.{take-append-drop}
use Rattle.std.specs.Prelude.{Result, Some, None, Ok, Err}
use Rattle.fields.specs.declared.read.Counts.{Counts}
use Rattle.fields.specs.declared.refusal.Refusal.{Refusal}
use Rattle.fields.specs.declared.segments.Segment.{Segment}
use Rattle.fields.specs.declared.segments.Age.{Age}
use Rattle.fields.specs.Quantities.{ages_field, head_fields, first_segment_field, first_age_field, per_segment, per_age, field_number}
use Rattle.fields.specs.Quantities.{Quantities, parts_from, quantities_of}
use Rattle.fields.specs.Limits.{blank_slip}
use Rattle.fields.specs.Outcomes.{OrRefusal, onward, Outcome}
use Rattle.line.specs.declared.Blank.{Blank}
use Rattle.line.specs.Lines.{digits_of, spaces_in, Lines, ended}
use Rattle.line.proofs.LineByLine.{lines_right}
use Rattle.card.specs.Card.{head, first_segment_line, announced_lines, announced, line_behind, counts_in, shape, unless_refused}
use Rattle.card.specs.Card.{card_outcome}
use Rattle.checks.specs.Rows.{Check, CheckRow, row, at, checked, refused_at, checked_by, segment_codes, ranges_of_segments}
use Rattle.checks.specs.Rows.{ranges_of_moments, hours_of_ages, codes, ranges, hours}
use Rattle.checks.proofs.Cascade.{given_is}
use Rattle.member.specs.declared.Member.{Member}
use Rattle.member.specs.Constants.{path_friction}
use Rattle.member.specs.Member.{member_of, buffers_to_creep, checked_of, duct_rows}
use Rattle.stages.specs.declared.ends.End.{End}
use Rattle.stages.specs.Run.{seated_by, end_at, aged_from, member_result, Report, result_of, result_read}
use Rattle.text.specs.Columns.{first_columns, in_columns}
use Rattle.readings.specs.OnePath.{head_lines_before, first_field_before, behind_field24, without_second_path, head_before, counts_before}
use Rattle.readings.specs.OnePath.{announced_before, quantities_before, read_before, first_age_before, codes_before, ranges_before}
use Rattle.readings.specs.OnePath.{hours_before, duct_before, rows_before, member_result_before, result_before, moved_field}
use Rattle.readings.specs.OnePath.{moved, moved_result, OnePathAsBefore}
use Rattle.readings.proofs.Inserted.{lines_numbered, OneMore, one_more}

-- ---- what was given is given, and what was refused is refused, at the place that it has now

data Moved {A : Type 0} : OrRefusal A → OrRefusal A → Type 0 where
  gives : {value : A} → Moved (Ok value) (Ok value)
  refuses : {now before : Refusal} → now ≡ moved before → Moved (Err now) (Err before)

abbrev Kept : {A : Type 0} → OrRefusal A → Type 0
Kept given = Moved given given

onward_moved : {A B : Type 0} {now before : OrRefusal A} {next next_before : A → OrRefusal B} → Moved now before
    → ((value : A) → before ≡ Ok value → Moved (next value) (next_before value)) → Moved (onward now next) (onward before next_before)
onward_moved (gives {value = value}) behind = behind value refl
onward_moved (refuses e) behind = refuses e

by_test : {A : Type 0} {now now' before before' : OrRefusal A} (test : Bool) → Moved now before → Moved now' before'
    → Moved (cond test now now') (cond test before before')
by_test true one other = one
by_test false one other = other

ruleset moving = (onward_moved, by_test, gives, refuses)

moved_is : {now before : OrRefusal Report} → Moved now before → now ≡ moved_result before
moved_is gives = refl
moved_is (refuses e) = ap Err e

-- ---- the run

aged_kept : (m : Member) (passed stress : ℕ) (start : End) (ages : List Age) → Kept (aged_from m passed stress start ages)
unfolding aged_from
aged_kept m passed stress start [] = gives
aged_kept m passed stress start (age ∷ ages) =
    let end = end_at m (start.moments + age.moment) age.hour in
    search (moving, λ (stress : ℕ). aged_kept m (suc passed) stress end ages)

run_moved : (m : Member) (ages : List Age) → m.paths.second ≡ None → Moved (member_result m ages) (member_result_before m ages)
unfolding member_result seated_by
run_moved m ages none = rw none (search (moving, aged_kept) depth 9)

-- ---- checks whose places are one further on

abbrev moved_check : Check → Check
moved_check check = at (moved_field check.place) check.holds

codes_moved : (now before : ℕ) (path : List Segment) → now ≡ suc before → first_field_before ≤ before
    → segment_codes now path ≡ map moved_check (segment_codes before path)
unfolding segment_codes
codes_moved now before [] e h = refl
codes_moved now before (segment ∷ path) e h = grind (arith, codes_moved (now + per_segment) (before + per_segment) path)

ranges_moved : (now before : ℕ) (path : List Segment) → now ≡ suc before → first_field_before ≤ before
    → ranges_of_segments now path ≡ map moved_check (ranges_of_segments before path)
unfolding ranges_of_segments
ranges_moved now before [] e h = refl
ranges_moved now before (segment ∷ path) e h = grind (arith, ranges_moved (now + per_segment) (before + per_segment) path)

moments_moved : (now before moments : ℕ) (ages : List Age) → now ≡ suc before → first_field_before ≤ before
    → ranges_of_moments now moments ages ≡ map moved_check (ranges_of_moments before moments ages)
unfolding ranges_of_moments
moments_moved now before moments [] e h = refl
moments_moved now before moments (age ∷ ages) e h =
    grind (arith, moments_moved (now + per_age) (before + per_age) (moments + age.moment) ages)

hours_moved : (now before hour : ℕ) (ages : List Age) → now ≡ suc before → first_field_before ≤ before
    → hours_of_ages now hour ages ≡ map moved_check (hours_of_ages before hour ages)
unfolding hours_of_ages
hours_moved now before hour [] e h = refl
hours_moved now before hour (age ∷ ages) e h = grind (arith, hours_moved (now + per_age) (before + per_age) age.hour ages)

-- ---- rows, whose places are fields, or are not; and the two checks of the duct, which were one row

moved_row : (refusal : ℕ → Refusal) (checks : List Check) → ((place : ℕ) → refusal (moved_field place) ≡ moved (refusal place))
    → Moved (refused_at refusal (checked (map moved_check checks))) (refused_at refusal (checked checks))
unfolding checked
moved_row refusal [] is = gives
moved_row refusal (check ∷ checks) is = by check.holds (moved_row refusal checks is)
  where
    by : (holds : Bool) → Moved (refused_at refusal (checked (map moved_check checks))) (refused_at refusal (checked checks))
        → Moved (refused_at refusal (checked (at (moved_field check.place) holds ∷ map moved_check checks)))
        (refused_at refusal (checked (at check.place holds ∷ checks)))
    by true later = later
    by false later = refuses (is check.place)

kept_row : (refusal : ℕ → Refusal) (found : Result (Unit {0}) ℕ) → ((place : ℕ) → refusal place ≡ moved (refusal place))
    → Kept (refused_at refusal found)
kept_row refusal (Ok held) is = gives
kept_row refusal (Err place) is = refuses (is place)

duct_moved : {A : Type 0} {now before : OrRefusal A} (kind friction : Bool) → Moved now before
    → Moved
    (onward (refused_at Refusal.Duct (cond kind (Ok tt) (Err 1))) (λ _.
    onward (refused_at Refusal.Duct (cond friction (Ok tt) (Err 2))) (λ _. now)))
    (onward (refused_at Refusal.Duct (cond kind (cond friction (Ok tt) (Err 2)) (Err 1))) (λ _. before))
duct_moved true true later = later
duct_moved true false later = refuses refl
duct_moved false friction later = refuses refl

-- ---- quantities without a second path

-- what they gave
abbrev given_before : ℕ → ℕ → Quantities → OrRefusal Report
given_before report scratch q = onward (checked_by (rows_before q report scratch) (member_of q)) (λ m. member_result_before m q.ages)

module _ (q : Quantities) (none : q.second_path ≡ []) where
  all_codes : codes q ≡ map moved_check (codes_before q)
  unfolding codes
  all_codes = grind (arith, none, append-nil q.path, codes_moved (suc first_field_before) first_field_before q.path)

  all_ranges : ranges q ≡ map moved_check (ranges_before q)
  unfolding ranges
  all_ranges =
      let first_age = first_age_field (length q.path) in
      let of_segments = ranges_of_segments first_field_before q.path in
      let of_moments = ranges_of_moments (first_age_before q) q.own_weight_moment q.ages in
      grind (
        arith,
        none,
        append-nil q.path,
        map-append moved_check of_segments of_moments,
        ranges_moved (suc first_field_before) first_field_before q.path,
        moments_moved first_age (first_age_before q) q.own_weight_moment q.ages,
      )

  all_hours : hours q ≡ map moved_check (hours_before q)
  unfolding hours
  all_hours =
      let first_age = first_age_field (length q.path) in
      grind (arith, none, append-nil q.path, hours_moved first_age (first_age_before q) q.transfer q.ages)

  from_duct : {A : Type 0} (value : A) (rows : List CheckRow) → Kept (checked_by rows value)
      → Moved (checked_by (duct_rows q ++ rows) value) (checked_by (row Refusal.Duct (duct_before q) ∷ rows) value)
  unfolding checked_by checked path_friction
  from_duct value rows later = rw (none, or-true) (duct_moved _ _ later)

  module _ (report scratch : ℕ) where
    from_buffers : Kept (checked_by (buffers_to_creep q report scratch) (member_of q))
    unfolding checked_by
    from_buffers = search (moving, kept_row)

    checked_moved : Moved (checked_of q report scratch) (checked_by (rows_before q report scratch) (member_of q))
    unfolding checked_of
    checked_moved = rw (all_codes, all_ranges, all_hours) (search (moving, moved_row, from_duct, from_buffers))

    result_moved : (now : Quantities) → now ≡ q → Moved (result_of now report scratch) (given_before report scratch q)
    unfolding member_of
    result_moved now is =
        rw is
        (onward_moved checked_moved (λ m given. rw (given_is _ _ given) (run_moved (member_of q) q.ages (rw none refl))))

-- ---- numbers with a 0 behind the first 24

module _ (first : List ℕ) (count : length first ≡ ages_field) where
  abbrev with_zero : List ℕ
  with_zero = first ++ (0 ∷ [])

  counts_are : counts_in with_zero ≡ counts_before first
  counts_are = grind (arith, get_or-append {A = ℕ}, get_or_at {A = ℕ})

  module _ (more : List ℕ) where
    in_head : (k : ℕ) → k < ages_field → get_or (with_zero ++ more) k 0 ≡ get_or (first ++ more) k 0
    in_head k h = rw append_assoc (grind (arith, get_or-append {A = ℕ}))

    behind_head : (k : ℕ) → drop (head_fields + k) (with_zero ++ more) ≡ drop (ages_field + k) (first ++ more)
    behind_head k = grind (arith, drop-append-add with_zero more k, drop-append-add first more k, length-append first (0 ∷ []))

    quantities_are : (counts : Counts) → counts.second_segments ≡ 0
        → quantities_of counts (with_zero ++ more) ≡ quantities_before counts (first ++ more)
    unfolding parts_from
    quantities_are counts none =
        rw (none, add-zero counts.segments, behind_head 0, behind_head (per_segment * counts.segments)) (grind (arith, in_head))

counts_kept : (numbers : List ℕ) → Kept (counts_before numbers)
counts_kept numbers = search moving

no_second : (numbers : List ℕ) (counts : Counts) → counts_before numbers ≡ Ok counts → counts.second_segments ≡ 0
no_second numbers counts e = grind arith

-- ---- the card

shape_kept : {A : Type 0} (result : Result A ℕ) → Kept (shape result)
shape_kept (Ok value) = gives
shape_kept (Err line) = refuses refl

abbrev blank : Blank
blank = record { field = field_number.slip; reads = blank_slip }

announced_are : (counts : Counts) (bytes : List ℕ) → announced (Some blank) counts bytes ≡ announced_before counts bytes
announced_are counts bytes =
    lines_numbered blank (announced_lines counts) first_segment_line first_segment_field first_field_before bytes (omega arith)
    (omega arith)

module _ (card : List ℕ) where
  abbrev now : Lines
  now = head (Some blank) (without_second_path card)

  abbrev first : Lines
  first = head_before card

  -- behind lines 1 to 3 the fourth has a field more than six
  head_more : OneMore 0 now first
  unfolding first_columns digits_of spaces_in
  head_more =
      let front = take behind_field24 card in
      let back = drop behind_field24 card in
      subst (λ (l : List ℕ). OneMore 0 now (head_before l)) (take-append-drop behind_field24 card)
      (one_more (Some blank) 6 0 (in_columns 0) refl refl refl (take 3 head_lines_before) 1 1 front back
      (omega (arith, length-take behind_field24 card, length-drop behind_field24 card)))

  module _ (report scratch : ℕ) where
    in_turn : {A : Type 0} {now before : OrRefusal A} (numbers : List ℕ) (next : A → Outcome) (next_before : A → OrRefusal Quantities)
        → Moved now before
        → ((value : A) → before ≡ Ok value
        → Moved (result_read (next value) report scratch) (onward (next_before value) (given_before report scratch)))
        → Moved (result_read (unless_refused now numbers next) report scratch)
        (onward (onward before next_before) (given_before report scratch))
    in_turn numbers next next_before (gives {value = value}) behind = behind value refl
    in_turn numbers next next_before (refuses e) behind = refuses e

    card_moved : Moved (result_read (card_outcome (without_second_path card)) report scratch) (result_before card report scratch)
    unfolding card_outcome read_before
    card_moved =
        rw (head_more.rest)
        (in_turn _ _ _ (shape_kept first.rest) (λ rest right.
        let is : first.rest ≡ Ok rest = grind (arith, right) in
        let count : length first.numbers ≡ ages_field = (lines_right (Some blank) head_lines_before 1 1 card rest is).read in
        rw (head_more.numbers is, counts_are first.numbers count)
        (in_turn _ _ _ (counts_kept first.numbers) (λ counts counted.
        let more = announced_before counts rest in
        rw (announced_are counts rest)
        (in_turn _ _ _ (shape_kept (ended (line_behind counts) more.rest)) (λ _ _.
        result_moved (quantities_before counts (first.numbers ++ more.numbers)) refl report scratch _
        (quantities_are first.numbers count more.numbers counts (no_second first.numbers counts counted))))))))

pub one_path_as_before : OnePathAsBefore
one_path_as_before card report scratch = moved_is (card_moved card report scratch)
