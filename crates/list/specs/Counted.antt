-- It serves the code alone. What is known of counts that are accepted: they are in their ranges, and are those of a list of their length.
-- Each test is known, since no refusal is a count, nor counts. Assumes nothing.
use mathlib.Core.Path.{◌≡◌, refl, ap}
use mathlib.Core.Bool.{Bool, true, false, cond}
use mathlib.Core.List.{List}
use Prim.Native.Nat.{ℕ, ◌≤◌}
use lib.Dec.{ltb, eqb}
use lib.Ieee.{Float}
use lib.ListN.{length}
use borrow.Author.Tests.{ltb-false, eqb-true}
use Rattle.std.specs.Prelude.{Option, Some, None, Ok, Err}
use Rattle.fields.specs.declared.read.Counts.{Counts}
use Rattle.fields.specs.declared.refusal.Refusal.{Refusal}
use Rattle.fields.specs.declared.refusal.Refusal.TheVariants.{Shape}
use Rattle.fields.specs.Outcomes.{OrRefusal}
use Rattle.fields.specs.Quantities.{segments_field, ages_field, second_segments_field, head_fields, fields_in}
use Rattle.fields.specs.Limits.{Range, segment_counts, age_counts}
use Rattle.fields.proofs.Laws.{counted_within}
use Rattle.fields.proofs.Onward.{through}
use Rattle.list.specs.Lists.{whole_in, field_in, count_by, count_in, shaped, counts_in}

-- ---- one count

pub record CountedIn (field : ℕ) (range : Range) (list : List Float) (count : ℕ) : Type 0 where
  pub is : whole_in (field_in field list) ≡ Some count
  pub least : range.low ≤ count
  pub most : count ≤ range.high

pub counted_in : (field : ℕ) (range : Range) (list : List Float) {count : ℕ} → count_in field range list ≡ Ok count
    → CountedIn field range list count
counted_in field range list {count} = by (whole_in (field_in field list)) refl
  where
    by : (amount : Option ℕ) → whole_in (field_in field list) ≡ amount → count_by field range amount ≡ Ok count
        → CountedIn field range list count
    by None whole e = cc
    by (Some given) whole e =
        let within = counted_within field range given e in
        record { is = rw whole (ap Some within.is); least = within.least; most = within.most }

-- ---- the three

pub record Counted (list : List Float) (counts : Counts) : Type 0 where
  pub enough : head_fields ≤ length list
  pub segments : CountedIn segments_field segment_counts list counts.segments
  pub ages : CountedIn ages_field age_counts list counts.ages
  pub second : CountedIn second_segments_field segment_counts list counts.second_segments
  pub shape : length list ≡ fields_in counts

unless : {A : Type 0} (b : Bool) (refusal : Refusal) (given : OrRefusal A) {value : A} → cond b (Err refusal) given ≡ Ok value
    → (b ≡ false) × (given ≡ Ok value)
unless true refusal given e = cc
unless false refusal given e = (refl, e)

shape_right : (doubles : ℕ) (given : Counts) {counts : Counts} → shaped doubles given ≡ Ok counts
    → (doubles ≡ fields_in given) × (given ≡ counts)
shape_right doubles given {counts} = by (eqb doubles (fields_in given)) refl
  where
    by : (b : Bool) → eqb doubles (fields_in given) ≡ b → cond b (Ok given) (Err (Shape 0)) ≡ Ok counts
        → (doubles ≡ fields_in given) × (given ≡ counts)
    by true t e = (eqb-true doubles (fields_in given) t, cc)
    by false t e = cc

pub counts_accepted : (list : List Float) {counts : Counts} → counts_in list ≡ Ok counts → Counted list counts
unfolding counts_in
counts_accepted list {counts} e =
    let long = unless (ltb (length list) head_fields) (Shape 0) _ e in
    let segments = through (count_in segments_field segment_counts list) _ long.1 in
    let ages = through (count_in ages_field age_counts list) _ segments.next_is in
    let second = through (count_in second_segments_field segment_counts list) _ ages.next_is in
    let given : Counts = record { segments = segments.from; ages = ages.from; second_segments = second.from } in
    let shape = shape_right (length list) given second.next_is in
    rw (← shape.1)
    (record {
      enough = ltb-false (length list) head_fields long.0;
      segments = counted_in segments_field segment_counts list segments.given_is;
      ages = counted_in ages_field age_counts list ages.given_is;
      second = counted_in second_segments_field segment_counts list second.given_is;
      shape = shape.0;
    })
