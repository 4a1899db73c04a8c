-- What a run answers and leaves of the two buffers: it is refused before anything is written, or at an age, or all ages are passed.
-- Assumes nothing.
use mathlib.Core.Path.{◌≡◌, refl, sym, ap, ◌∙◌}
use mathlib.Core.Bool.{true}
use mathlib.Core.List.{List}
use Prim.Native.Nat.{ℕ, ◌^◌, ◌<◌}
use native.Mathlib.Omega.{arith}
use lib.Ieee.{Float}
use lib.ListN.{length, take, drop}
use lib.Seq.{take_at}
use Rattle.std.specs.Prelude.{Ok, Err}
use Rattle.fields.specs.declared.refusal.Refusal.{Refusal}
use Rattle.fields.specs.Outcomes.{OrRefusal, over}
use Rattle.fields.specs.declared.segments.Age.{Age}
use Rattle.fields.specs.Limits.{scratch_room}
use Rattle.fields.proofs.Onward.{through, refused}
use Rattle.member.specs.declared.Member.{Member}
use Rattle.stages.specs.declared.before.BeforeAges.{BeforeAges}
use Rattle.stages.specs.Run.{begun_of, Aged, transfer_end, aged_from, Report, member_result}
use Rattle.entries.specs.Answers.{IsExactly, numbers_of_rows, keeps_scratch, Ran}
use Rattle.entries.specs.RunAges.{AllPassed, RanAges}
use Rattle.entries.proofs.Doubles.{same_bits}

-- a refusal: the report is as it was, and so is the scratch where the refusal may not alter it
refuses : (refusal : Refusal) (result : OrRefusal Report) (report scratch scratch_was : List ℕ) → result ≡ Err refusal
    → (keeps_scratch (Err refusal) ≡ true → scratch ≡ scratch_was) → length scratch ≡ length scratch_was
    → Ran result (Err refusal) report report scratch scratch_was
refuses refusal result report scratch scratch_was e kept room =
    rw e (record {
      answered = record { number_is = refl; values_are = refl; double_is = tt };
      report_is = refl;
      scratch_kept = kept;
      scratch_length = room;
    })

-- a refusal before anything is written
pub refused_early : (refusal : Refusal) (result : OrRefusal Report) (report scratch : List ℕ) → result ≡ Err refusal
    → Ran result (Err refusal) report report scratch scratch
refused_early refusal result report scratch e = refuses refusal result report scratch scratch e (λ unaltered. refl) refl

-- ---- the run of the ages, and what it leaves of the scratch

module _ (aged : OrRefusal Aged) (ages : ℕ) (result : OrRefusal ℕ) (scratch scratch_was : List ℕ)
    (ran : RanAges aged ages result scratch scratch_was) where
  -- all ages are passed
  record Ended (last : ℕ) : Type 0 where
    passed : Aged
    aged_is : aged ≡ Ok passed
    last_is : passed.last ≡ last
    leaves : AllPassed passed ages scratch scratch_was

  ended : {last : ℕ} → result ≡ Ok last → Ended last
  ended {last} e =
      let went = through aged (λ passed. Ok passed.last) (sym ran.result_is ∙ e) in
      record {
        passed = went.from;
        aged_is = went.given_is;
        last_is = cc;
        leaves = rw went.given_is at ran.leaves;
      }

  -- the last stress fits the double's 32 digits
  pub last_fits : {last : ℕ} → result ≡ Ok last → last < 2 ^ 32
  last_fits e =
      let all = ended e in
      let same = all.last_is in
      omega (arith, all.leaves.last_fits)

module _ (m : Member) (ages : List Age) (report scratch_was : List ℕ) where
  pub none_begins : (refusal : Refusal) → begun_of m ≡ Err refusal
      → Ran (member_result m ages) (Err refusal) report report scratch_was scratch_was
  unfolding member_result
  none_begins refusal e = refused_early refusal (member_result m ages) report scratch_was (rw e)

  module _ (before : BeforeAges) (begun : begun_of m ≡ Ok before) (result : OrRefusal ℕ) (scratch : List ℕ)
      (ran : RanAges (aged_from m 0 before.stress (transfer_end m) ages) (length ages) result scratch scratch_was) where
    abbrev aged : OrRefusal Aged
    aged = aged_from m 0 before.stress (transfer_end m) ages

    pub none_left : (refusal : Refusal) → result ≡ Err refusal
        → Ran (member_result m ages) (Err refusal) report report scratch scratch_was
    unfolding member_result
    none_left refusal e =
        let stopped = refused aged (λ passed. passed.last) (sym ran.result_is ∙ e) in
        let alters = rw stopped at ran.leaves in
        refuses refusal (member_result m ages) report scratch scratch_was (rw (begun, stopped))
        (λ unaltered. cc) ran.scratch_length

    pub all_passed : (last : ℕ) (double : Float) (filled : List ℕ) → result ≡ Ok last → IsExactly double last
        → filled ≡ over (take (scratch_room (length ages)) scratch) report
        → Ran (member_result m ages) (Ok (record { before = before; last = double })) filled report scratch scratch_was
    unfolding member_result
    all_passed last double filled e exactly filling =
        let all = ended aged (length ages) result scratch scratch_was ran e in
        let rows = numbers_of_rows all.passed.rows in
        let front : take (scratch_room (length ages)) scratch ≡ rows =
        ap (take (scratch_room (length ages))) all.leaves.scratch_is
        ∙ take_at rows (drop (length rows) scratch_was) (scratch_room (length ages)) all.leaves.rows_length in
        rw (begun, all.aged_is, all.last_is) (record {
          answered = record { number_is = refl; values_are = rw (same_bits double last exactly); double_is = exactly };
          report_is = rw front at filling;
          scratch_kept = λ free. cc;
          scratch_length = ran.scratch_length;
        })
