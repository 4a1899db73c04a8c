-- Running through the ages: what holds as each begins, that an age passed keeps it, and what follows at the end and where an age is
-- refused. What the ages give is written as the rows so far, before what the ages from here on give. Assumes nothing.
use mathlib.Core.Path.{◌≡◌, refl, sym, ap, ◌∙◌}
use mathlib.Core.List.{List, [], ◌∷◌, ◌++◌, append_assoc, append-nil}
use Prim.Native.Nat.{ℕ, ◌+◌, ◌-◌, ◌*◌, ◌^◌, ◌≤◌, ◌<◌}
use native.Mathlib.Numerals.{add-one}
use native.Mathlib.Omega.{arith}
use lib.ListN.{length, length-append}
use borrow.Rule.Slice.PartMut.{mid_of, put_mid}
use Rattle.std.specs.Prelude.{Ok, Err}
use Rattle.logarithm.specs.Logarithm.{service_life}
use Rattle.fields.specs.declared.refusal.Refusal.{Refusal}
use Rattle.fields.specs.Outcomes.{OrRefusal, onward, over}
use Rattle.fields.specs.declared.segments.Age.{Age}
use Rattle.fields.specs.Limits.{per_row, most_moment}
use Rattle.fields.proofs.Buffers.{length_over, written_behind}
use Rattle.member.specs.declared.Member.{Member}
use Rattle.member.specs.Facts.{RisingFrom, rises, MomentsWithin, adds}
use Rattle.formulas.specs.Conditions.{stress_limit}
use Rattle.stages.specs.declared.ends.End.{End}
use Rattle.stages.specs.declared.intervals.Row.{Row}
use Rattle.stages.specs.Conditions.{Bounded}
use Rattle.stages.specs.Run.{Aged, behind, end_at, transfer_end, row_between, aged_from}
use Rattle.stages.proofs.Passing.{row_fits, row_refuses}
use Rattle.entries.specs.Answers.{numbers_of_row, numbers_of_rows}
use Rattle.entries.specs.RunAges.{RanAges}
use Rattle.entries.specs.Conditions.{AgesRunnable}
use Rattle.entries.proofs.BufferRows.{part_room}

-- ---- the ages that are left

-- what is known of the first of them, and of the others
hour_within : {before : ℕ} {age : Age} {ages : List Age} → RisingFrom before (age ∷ ages) → age.hour ≤ service_life
hour_within (rises later within rising) = within

then_rising : {before : ℕ} {age : Age} {ages : List Age} → RisingFrom before (age ∷ ages) → RisingFrom age.hour ages
then_rising (rises later within rising) = rising

moment_within : {before : ℕ} {age : Age} {ages : List Age} → MomentsWithin before (age ∷ ages) → before + age.moment ≤ most_moment
moment_within (adds within fit) = within

then_within : {before : ℕ} {age : Age} {ages : List Age} → MomentsWithin before (age ∷ ages)
    → MomentsWithin (before + age.moment) ages
then_within (adds within fit) = fit

-- ---- the rows so far

rows_append : (rows : List Row) (row : Row) → numbers_of_rows (rows ++ (row ∷ [])) ≡ numbers_of_rows rows ++ numbers_of_row row
unfolding numbers_of_rows
rows_append [] row = refl
rows_append (first ∷ rows) row = rw (rows_append rows row)

-- what later ages give, behind these rows
abbrev pub behind_rows : List Row → OrRefusal Aged → OrRefusal Aged
behind_rows rows later = onward later (λ aged. Ok (record { rows = rows ++ aged.rows; last = aged.last }))

behind_one_more : (rows : List Row) (row : Row) (later : OrRefusal Aged)
    → behind_rows rows (onward later (λ aged. Ok (behind row aged))) ≡ behind_rows (rows ++ (row ∷ [])) later
behind_one_more rows row (Ok aged) = rw append_assoc
behind_one_more rows row (Err refusal) = refl

-- no rows before any
behind_none : (later : OrRefusal Aged) → later ≡ behind_rows [] later
behind_none (Ok aged) = refl
behind_none (Err refusal) = refl

-- ---- what holds as an age begins

-- rows of the ages before it stand in the scratch, and the ages from it on, which are left, decide the rest
pub record Progress (m : Member) (ages : List Age) (first : ℕ) (old scratch : List ℕ) (stress : ℕ) (start : End) (passed : ℕ)
    (left : List Age) : Type 0 where
  pub all : passed + length left ≡ length ages
  pub stress_fits : stress < stress_limit
  pub hour : ℕ
  pub rise : RisingFrom hour left
  pub moments_fit : MomentsWithin start.moments left
  pub rows : List Row
  pub so_far : aged_from m 0 first (transfer_end m) ages ≡ behind_rows rows (aged_from m passed stress start left)
  pub rows_length : length (numbers_of_rows rows) ≡ per_row * passed
  pub written : scratch ≡ over (numbers_of_rows rows) old
  pub room : per_row * length ages ≤ length old
  pub kept : length scratch ≡ length old

pub begins : (m : Member) (ages : List Age) (transfer : End) (stress : ℕ) (old : List ℕ) → AgesRunnable m ages transfer stress old
    → Progress m ages stress old old stress transfer 0 ages
unfolding numbers_of_rows
begins m ages transfer stress old asked = record {
  all = omega arith;
  stress_fits = asked.stress_fits;
  hour = m.hours.transfer;
  rise = asked.ages_fit.rise;
  moments_fit = rw asked.transfer_is asked.ages_fit.moments_fit;
  rows = [];
  so_far = rw asked.transfer_is (behind_none _);
  rows_length = refl;
  written = refl;
  room = asked.scratch_room_fits;
  kept = refl;
}

module _ {m : Member} {ages : List Age} {first : ℕ} {old scratch : List ℕ} {stress : ℕ} {start : End} {passed : ℕ} {left : List Age}
    (p : Progress m ages first old scratch stress start passed left) where
  -- what the ages give
  abbrev of_ages : OrRefusal Aged
  of_ages = aged_from m 0 first (transfer_end m) ages

  pub ends : left ≡ [] → RanAges of_ages (length ages) (Ok stress) scratch old
  unfolding aged_from
  ends none =
      let count = p.all in
      let r = p.rows_length in
      let passed_all : passed ≡ length ages = omega (arith, ap length none) in
      rw (rw none at p.so_far) (record {
        result_is = refl;
        leaves = record {
          last_fits = p.stress_fits;
          rows_length = rw (append-nil, ← passed_all) r;
          scratch_is = rw append-nil p.written;
        };
        scratch_length = p.kept;
      })

  module _ (age : Age) (later : List Age) (next : left ≡ age ∷ later) where
    rise_here : RisingFrom p.hour (age ∷ later)
    rise_here = rw next at p.rise

    moments_here : MomentsWithin start.moments (age ∷ later)
    moments_here = rw next at p.moments_fit

    pub moments_most : start.moments + age.moment ≤ most_moment
    moments_most = moment_within moments_here

    pub hour_fits : age.hour < 2 ^ 32
    hour_fits = let most = hour_within rise_here in omega arith

    -- where the row goes
    abbrev at : ℕ
    at = per_row * passed

    pub row_within : at + per_row ≤ length scratch
    row_within =
        let count = p.all in
        let r = p.room in
        let k = p.kept in
        omega (arith, ap length next)

    abbrev end_here : End
    end_here = end_at m (start.moments + age.moment) age.hour

    -- what the ages give from this one on, which is the `count`th and at which the interval ends
    abbrev aged_here : End → ℕ → OrRefusal Aged
    aged_here end count =
        onward (row_between m count stress start end) (λ row.
        onward (aged_from m count row.stress end later) (λ aged. Ok (behind row aged)))

    module _ (end : End) (end_is : end ≡ end_here) where
      so_far_with_age : of_ages ≡ behind_rows p.rows (aged_here end (passed + 1))
      unfolding aged_from
      so_far_with_age =
          rw end_is
          (rw next at p.so_far ∙ ap (λ (count : ℕ). behind_rows p.rows (aged_here end_here count)) (sym (add-one passed)))

      pub stops : (refusal : Refusal) → row_between m (passed + 1) stress start end ≡ Err refusal
          → RanAges of_ages (length ages) (Err refusal) scratch old
      stops refusal refused =
          rw (rw refused at so_far_with_age) (record {
            result_is = refl;
            leaves = row_refuses m (passed + 1) stress start end refused;
            scratch_length = p.kept;
          })

      module _ (row : Row) (passes : row_between m (passed + 1) stress start end ≡ Ok row) where
        abbrev rows_then : List Row
        rows_then = p.rows ++ (row ∷ [])

        -- the scratch with the row in its place
        abbrev scratch_then : List ℕ
        scratch_then = put_mid at (length scratch - at) scratch (over (numbers_of_row row) (mid_of at (length scratch - at) scratch))

        so_far_onward : of_ages ≡ behind_rows rows_then (aged_from m (passed + 1) row.stress end later)
        so_far_onward =
            rw passes at so_far_with_age ∙ behind_one_more p.rows row (aged_from m (passed + 1) row.stress end later)

        written_then : scratch_then ≡ over (numbers_of_rows rows_then) old
        written_then =
            rw rows_append (written_behind (numbers_of_rows p.rows) (numbers_of_row row) old scratch _ at (sym p.rows_length) p.written refl)

        length_then : length (numbers_of_rows rows_then) ≡ per_row * (passed + 1)
        length_then = let r = p.rows_length in rw (rows_append, length-append) (omega arith)

        pub turns : Bounded m → Progress m ages first old scratch_then row.stress end (passed + 1) later
        turns bounded =
            let count = p.all in
            let r = p.room in
            let all = length_then in
            record {
              all = omega (arith, ap length next);
              stress_fits = row_fits m (passed + 1) stress start end bounded passes;
              hour = age.hour;
              rise = then_rising rise_here;
              moments_fit = rw end_is (then_within moments_here);
              rows = rows_then;
              so_far = so_far_onward;
              rows_length = all;
              written = written_then;
              room = r;
              kept = rw written_then (length_over (numbers_of_rows rows_then) old (omega (arith, ap length next)));
            }

-- what an age's code asks for
pub ruleset an_age = (begins, moments_most, hour_fits, row_within, part_room)
