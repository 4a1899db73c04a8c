-- The lines of a sheet's segments, one behind the other; and what its answer prints is what its result does. Assumes nothing.
use mathlib.Core.Path.{◌≡◌, refl, sym, ap, ◌∙◌}
use mathlib.Core.List.{List, [], ◌∷◌, ◌++◌, append_assoc, append-nil}
use Prim.Native.Nat.{ℕ, suc, ◌+◌, ◌-◌, ◌*◌, ◌≤◌, ◌<◌}
use native.Mathlib.Nat.{zero-add, add-zero}
use native.Mathlib.Numerals.{add-one}
use native.Mathlib.Omega.{arith}
use lib.ListN.{length, get_or, take, drop, length-append, length-take, length-drop}
use Rattle.std.proofs.lemmas.List.{take_more, take_at, take_all, length-take-le}
use borrow.Rule.Slice.PartMut.{mid_of, put_mid}
use Rattle.std.specs.Prelude.{Ok, Err}
use Rattle.fields.specs.Outcomes.{over, OrRefusal}
use Rattle.fields.specs.Quantities.{Quantities}
use Rattle.fields.specs.Limits.{most_segments}
use Rattle.fields.proofs.Buffers.{length_over}
use Rattle.elongation.specs.declared.Total.{Total}
use Rattle.elongation.specs.Sheet.{Sheet, sheet_result, sheet_answer, elongations_written}
use Rattle.elongation.specs.Conditions.{Answered}
use Rattle.elongation.proofs.Closeness.{close}
use Rattle.text.specs.Columns.{line_of, Holds}
use Rattle.text.specs.Conditions.{segment_line_bytes}
use Rattle.text.specs.Text.{elongations_text, total_text, sheet_text, sheet_text_of}
use Rattle.text.proofs.Laying.{line_length_is}
use Rattle.text.proofs.Texts.{holds_then}

-- ---- the lines of the segments

elongations_length : (passed : ℕ) (elongations : List ℕ)
    → length (elongations_text passed elongations) ≡ segment_line_bytes * length elongations
unfolding elongations_text
elongations_length passed [] = refl
elongations_length passed (elongation ∷ elongations) =
    let first = line_length_is (suc passed ∷ elongation ∷ []) in
    let later = elongations_length (suc passed) elongations in
    length-append (line_of (suc passed ∷ elongation ∷ [])) (elongations_text (suc passed) elongations) ∙ (omega arith)

one_more_text : (passed : ℕ) (elongations : List ℕ) (elongation : ℕ)
    → elongations_text passed (elongations ++ (elongation ∷ []))
    ≡ elongations_text passed elongations ++ line_of ((passed + length elongations + 1) ∷ elongation ∷ [])
unfolding elongations_text
one_more_text passed [] elongation = rw (add-zero passed, add-one passed) (append-nil (line_of (suc passed ∷ elongation ∷ [])))
one_more_text passed (first ∷ elongations) elongation =
    let line = line_of (suc passed ∷ first ∷ []) in
    let count : passed + suc (length elongations) ≡ suc passed + length elongations = omega arith in
    rw count
    (ap (λ (l : List ℕ). line ++ l) (one_more_text (suc passed) elongations elongation)
    ∙ sym (append_assoc line (elongations_text (suc passed) elongations) (line_of ((suc passed + length elongations + 1) ∷ elongation ∷ []))))

-- the room that is left behind the lines of all segments
pub room_behind : (elongations : List ℕ) {at : ℕ} {buffer old : List ℕ} → Holds (elongations_text 0 elongations) at buffer old
    → segment_line_bytes * length elongations + segment_line_bytes ≤ length old
    → segment_line_bytes ≤ length (mid_of at (length buffer - at) buffer)
room_behind elongations {at} {buffer} {old} holds room =
    let lines = elongations_length 0 elongations in
    let bytes = holds.bytes_are in
    let same = ap length holds.buffer_is ∙ length_over (elongations_text 0 elongations) old (omega arith) in
    simp (length-take, length-drop) (omega arith)

-- a part that holds the lines of the first segments, so many of them
pub record Lined (elongations old part : List ℕ) (at passed : ℕ) : Type 0 where
  pub holds : Holds (elongations_text 0 (take passed elongations)) at part old
  pub at_is : at ≡ segment_line_bytes * passed

pub none_lined : (elongations old : List ℕ) → Lined elongations old old 0 0
unfolding elongations_text
none_lined elongations old = record { holds = record { bytes_are = refl; buffer_is = refl }; at_is = refl }

module _ {elongations old part : List ℕ} {at passed : ℕ} (lined : Lined elongations old part at passed) where
  pub next_lined : passed < length elongations → {more : ℕ} {after : List ℕ}
      → Holds (line_of ((passed + 1) ∷ get_or elongations passed 0 ∷ [])) more after (mid_of at (length part - at) part)
      → Lined elongations old (put_mid at (length part - at) part after) (at + more) (passed + 1)
  next_lined h {more} {after} written =
      let of_line = line_length_is ((passed + 1) ∷ get_or elongations passed 0 ∷ []) in
      let bytes = written.bytes_are in
      let at_is = lined.at_is in
      let count : 0 + length (take passed elongations) ≡ passed =
      zero-add (length (take passed elongations)) ∙ length-take-le passed elongations (omega arith) in
      record {
        holds = rw (take_more elongations passed 0, one_more_text, count) (holds_then lined.holds written);
        at_is = omega arith;
      }

  pub all_lined : length elongations ≤ passed → Holds (elongations_text 0 elongations) at part old
  all_lined h = rw (take_all passed elongations h) at lined.holds

-- ---- the answer

module _ (q : Quantities) {sheet was : List ℕ} {bytes : ℕ} {buffer old : List ℕ} where
  -- an accepted sheet has an elongation for each segment
  pub sheet_printed : length q.path ≤ most_segments → {total : Total} → Answered (sheet_result q most_segments) (Ok total) sheet was
      → Holds (elongations_text 0 (take (length q.path) sheet) ++ total_text total) bytes buffer old
      → Holds (sheet_text_of q) bytes buffer old
  sheet_printed few {total} answered holds =
      rw (by (sheet_result q most_segments) refl answered.answer_is answered.sheet_is) at holds
    where
      by : (result : OrRefusal Sheet) → sheet_result q most_segments ≡ result → Ok total ≡ sheet_answer result
          → sheet ≡ over (elongations_written result) was
          → elongations_text 0 (take (length q.path) sheet) ++ total_text total ≡ sheet_text result
      by (Err refusal) gives e is = cc
      by (Ok given) gives e is =
          let same : total ≡ given.total = cc in
          let count = (close q few most_segments given gives).count in
          rw (is, take_at given.elongations (drop (length given.elongations) was) (length q.path) count, same)
