-- It serves the code alone. The law of the card's reader, which later crates use of a card's outcome in place of its definition, and how
-- long an accepted card can be: counts within their limits, a number for each field, the counts in fields 23 to 25, numbers of at most
-- 14 digits, and no more bytes than the longest good card. What is accepted went through each part of the outcome. Assumes nothing.
use mathlib.Core.Path.{◌≡◌, refl, ap, ◌∙◌}
use mathlib.Core.List.{List, [], ◌∷◌, ◌++◌}
use Prim.Native.Nat.{ℕ, ◌+◌, ◌-◌, ◌*◌, ◌≤◌}
use native.Mathlib.Omega.{arith}
use lib.Dec.{lit<}
use lib.ListN.{length, get_or, replicate, length-append, length-drop, get_or-append}
use Rattle.std.specs.Prelude.{Option, Result, Ok, Err}
use Rattle.fields.specs.declared.read.Counts.{Counts}
use Rattle.fields.specs.Quantities.{segments_field, ages_field, second_segments_field, head_fields, first_segment_field}
use Rattle.fields.specs.Quantities.{per_segment, per_age, all_segments}
use Rattle.fields.specs.Limits.{blank_slip, most_segments, least_ages, most_ages, segment_counts, age_counts}
use Rattle.fields.specs.Outcomes.{OrRefusal, Outcome, accepted}
use Rattle.fields.specs.Readable.{AcceptedIfRead}
use Rattle.fields.proofs.Laws.{counted_within}
use Rattle.fields.proofs.Onward.{through}
use Rattle.line.specs.declared.Blank.{Blank}
use Rattle.line.specs.Lines.{Lines, line_length, ended}
use Rattle.line.specs.Conditions.{fields_on, bytes_on}
use Rattle.line.proofs.Laws.{append_small, BlankSmall, blank_small, lines_small}
use Rattle.line.proofs.LineByLine.{Right, lines_right, fields_append, bytes_append, fields_replicate, bytes_replicate}
use Rattle.card.specs.Card.{slip_may_be_blank, head_lines, head, first_segment_line, announced_lines, announced, line_behind}
use Rattle.card.specs.Card.{count_in, counts_in, shape, unless_refused, ending, outcome_of, card_outcome}
use Rattle.card.specs.Conditions.{most_bytes}

-- ---- the lines that are announced

pub announced_fields : (counts : Counts) → fields_on (announced_lines counts) ≡ per_segment * all_segments counts + per_age * counts.ages
announced_fields counts =
    let both = fields_append (replicate (all_segments counts) per_segment) (replicate counts.ages per_age) in
    let s = fields_replicate (all_segments counts) per_segment in
    let a = fields_replicate counts.ages per_age in
    omega arith

pub announced_bytes : (counts : Counts)
    → bytes_on (announced_lines counts) ≡ line_length per_segment * all_segments counts + line_length per_age * counts.ages
announced_bytes counts =
    let both = bytes_append (replicate (all_segments counts) per_segment) (replicate counts.ages per_age) in
    let s = bytes_replicate (all_segments counts) per_segment in
    let a = bytes_replicate counts.ages per_age in
    omega arith

-- ---- a shape that is not refused

pub right : {A : Type 0} (result : Result A ℕ) {value : A} → ◌≡◌ {A = OrRefusal A} (shape result) (Ok value) → result ≡ Ok value
right (Ok read) {value} e = let same : read ≡ value = cc in ap Ok same
right (Err line) e = absurd (let z : ⊥ = cc in z)

-- ---- the counts, in their ranges

ok_counts : (counts other : Counts) → ◌≡◌ {A = OrRefusal Counts} (Ok counts) (Ok other) → counts ≡ other
ok_counts counts other e = cc

pub record Counted (numbers : List ℕ) (counts : Counts) : Type 0 where
  pub few_segments : counts.segments ≤ most_segments
  pub enough_ages : least_ages ≤ counts.ages
  pub few_ages : counts.ages ≤ most_ages
  pub few_second : counts.second_segments ≤ most_segments
  pub segments_are : get_or numbers (segments_field - 1) 0 ≡ counts.segments
  pub ages_are : get_or numbers (ages_field - 1) 0 ≡ counts.ages
  pub second_are : get_or numbers (second_segments_field - 1) 0 ≡ counts.second_segments

pub counted : (numbers : List ℕ) (counts : Counts) → counts_in numbers ≡ Ok counts → Counted numbers counts
counted numbers counts e =
    let segments = through (count_in segments_field segment_counts numbers) _ e in
    let ages = through (count_in ages_field age_counts numbers) _ segments.next_is in
    let second = through (count_in second_segments_field segment_counts numbers) _ ages.next_is in
    let s = counted_within segments_field segment_counts _ segments.given_is in
    let a = counted_within ages_field age_counts _ ages.given_is in
    let t = counted_within second_segments_field segment_counts _ second.given_is in
    let known : Counted numbers (record { segments = segments.from; ages = ages.from; second_segments = second.from }) =
    record {
      few_segments = s.most;
      enough_ages = a.least;
      few_ages = a.most;
      few_second = t.most;
      segments_are = s.is;
      ages_are = a.is;
      second_are = t.is;
    } in
    rw (ok_counts _ counts second.next_is) at known

-- ---- what is accepted

-- a part of the outcome, gone through
record Passed {A : Type 0} (given : OrRefusal A) (numbers : List ℕ) (next : A → Outcome) (counts : Counts) : Type 0 where
  from : A
  given_is : given ≡ Ok from
  outcome_is : unless_refused given numbers next ≡ next from
  reads : (next from).reading ≡ Ok counts

passed : {A : Type 0} (given : OrRefusal A) (numbers : List ℕ) (next : A → Outcome) {counts : Counts}
    → (unless_refused given numbers next).reading ≡ Ok counts → Passed given numbers next counts
passed (Ok value) numbers next e = record { from = value; given_is = refl; outcome_is = refl; reads = e }
passed (Err refusal) numbers next e = absurd (let z : ⊥ = cc in z)

-- nothing is left behind the last line
nothing_left : (behind : ℕ) (rest : Result (List ℕ) ℕ) {done : Unit {0}} → ended behind rest ≡ Ok done → rest ≡ Ok []
nothing_left behind (Ok []) e = refl
nothing_left behind (Ok (byte ∷ bytes)) e = absurd (let z : ⊥ = cc in z)
nothing_left behind (Err line) e = absurd (let z : ⊥ = cc in z)

module _ (blank : Option Blank) (card : List ℕ) where
  abbrev first : Lines
  first = head blank card

  -- a card that is read with these counts
  record Whole (counts : Counts) : Type 0 where
    rest : List ℕ
    head_is : Right head_lines card first rest
    counts_are : Counted first.numbers counts
    more_is : Right (announced_lines counts) rest (announced blank counts rest) []
    numbers_are : (outcome_of blank card).numbers ≡ first.numbers ++ (announced blank counts rest).numbers

  whole : (counts : Counts) → (outcome_of blank card).reading ≡ Ok counts → Whole counts
  unfolding outcome_of
  whole counts e =
      let a =
      passed (shape first.rest) first.numbers
      (λ rest. unless_refused (counts_in first.numbers) first.numbers (ending blank first.numbers rest)) e in
      let b = passed (counts_in first.numbers) first.numbers (ending blank first.numbers a.from) a.reads in
      let more = announced blank b.from a.from in
      let all = first.numbers ++ more.numbers in
      let d = passed (shape (ended (line_behind b.from) more.rest)) all (λ _. accepted b.from all) b.reads in
      let same : b.from ≡ counts = ok_counts b.from counts d.reads in
      let right_to_end = nothing_left (line_behind b.from) more.rest (right (ended (line_behind b.from) more.rest) d.given_is) in
      let here : Whole b.from = record {
        rest = a.from;
        head_is = lines_right blank head_lines 1 1 card a.from (right first.rest a.given_is);
        counts_are = counted first.numbers b.from b.given_is;
        more_is =
            lines_right blank (announced_lines b.from) first_segment_line first_segment_field a.from [] right_to_end;
        numbers_are = ap (λ (o : Outcome). o.numbers) (a.outcome_is ∙ b.outcome_is ∙ d.outcome_is);
      } in
      rw same at here

  accepted_by : BlankSmall blank → AcceptedIfRead (outcome_of blank card)
  accepted_by digits counts e =
      let w = whole counts e in
      let more = announced blank counts w.rest in
      let c = w.counts_are in
      let head_count : length first.numbers ≡ head_fields = w.head_is.read in
      let more_count = w.more_is.read ∙ announced_fields counts in
      let both = length-append first.numbers more.numbers in
      rw (w.numbers_are)
      (record {
        few_segments = c.few_segments;
        enough_ages = c.enough_ages;
        few_ages = c.few_ages;
        few_second = c.few_second;
        count = omega arith;
        segments_field_is = get_or-append first.numbers more.numbers 0 (segments_field - 1) (omega arith) ∙ c.segments_are;
        ages_field_is = get_or-append first.numbers more.numbers 0 (ages_field - 1) (omega arith) ∙ c.ages_are;
        second_field_is = get_or-append first.numbers more.numbers 0 (second_segments_field - 1) (omega arith) ∙ c.second_are;
        below =
            append_small first.numbers more.numbers (lines_small blank digits head_lines 1 1 card)
            (lines_small blank digits (announced_lines counts) first_segment_line first_segment_field w.rest);
      })

  fits_by : (counts : Counts) → (outcome_of blank card).reading ≡ Ok counts → length card ≤ most_bytes
  fits_by counts e =
      let w = whole counts e in
      let first_rest = ap length w.head_is.rest_is ∙ length-drop (bytes_on head_lines) card in
      let more_rest = ap length w.more_is.rest_is ∙ length-drop (bytes_on (announced_lines counts)) w.rest in
      let due = announced_bytes counts in
      let few = w.counts_are.few_segments in
      let few_ages = w.counts_are.few_ages in
      let few_second = w.counts_are.few_second in
      let first_long = w.head_is.long in
      let more_long = w.more_is.long in
      omega arith

-- ---- an accepted card

pub card_accepted : (card : List ℕ) → AcceptedIfRead (card_outcome card)
unfolding card_outcome
card_accepted card = accepted_by (slip_may_be_blank blank_slip) card (blank_small _ (lit< tt))

pub card_fits : (card : List ℕ) (counts : Counts) → (card_outcome card).reading ≡ Ok counts → length card ≤ most_bytes
unfolding card_outcome
card_fits card = fits_by (slip_may_be_blank blank_slip) card
