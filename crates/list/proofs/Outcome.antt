-- What a list gives, from its counts and from how its fields were read: one lemma for each way out of `list::Lists::read` before they are
-- read, and one for what is answered then. Assumes nothing.
use mathlib.Core.Path.{◌≡◌, refl, sym, ap, ◌∙◌}
use mathlib.Core.Bool.{Bool, true, false, cond}
use mathlib.Core.List.{List}
use Prim.Native.Nat.{ℕ, suc, ◌+◌, ◌*◌, ◌≤◌}
use native.Mathlib.Numerals.{add-one}
use native.Mathlib.Omega.{arith}
use lib.Ieee.{Float}
use lib.ListN.{length}
use Rattle.std.specs.Prelude.{Result, Ok, Err, MatchResult, IsErrAnd}
use Rattle.fields.specs.declared.read.Counts.{Counts}
use Rattle.fields.specs.declared.refusal.Refusal.{Refusal}
use Rattle.fields.specs.declared.refusal.Refusal.TheVariants.{Doubles}
use Rattle.fields.specs.Quantities.{head_fields, per_segment, all_segments}
use Rattle.fields.specs.Sizes.{most_fields}
use Rattle.fields.specs.Outcomes.{OrRefusal, onward, numbers_in, all_read, over, refused, accepted}
use Rattle.list.specs.Lists.{amounts_of, counts_in, list_outcome}
use Rattle.list.specs.Measures.{Written}
use Rattle.list.specs.Counted.{counts_accepted}

-- what a reading has to give, and the buffer behind it
pub record Gives (list : List Float) (old : List ℕ) (reading : OrRefusal Counts) (after : List ℕ) : Type 0 where
  pub value : reading ≡ (list_outcome list).reading
  pub numbers_after : after ≡ over (list_outcome list).numbers old

-- the counts are refused
pub counts_refused : (list : List Float) (old : List ℕ) {refusal : Refusal} → Err refusal ≡ counts_in list
    → Gives list old (Err refusal) old
unfolding list_outcome
counts_refused list old is = record { value = rw (← is) refl; numbers_after = rw (← is) refl }

-- there is room for all fields, and segments are among them
pub room : (list : List Float) {counts : Counts} → Ok counts ≡ counts_in list
    → (length list ≤ most_fields) × (head_fields + per_segment * all_segments counts ≤ length list)
room list is = let counted = counts_accepted list (sym is) in omega arith

-- the code's answer, which makes a refusal of how many fields are read
abbrev pub Answered : (ℕ → Refusal → Type 0) → Result Unit ℕ → OrRefusal Unit → Type 0
Answered gives reading answer = MatchResult reading (λ done. answer ≡ Ok done) (λ read. IsErrAnd answer (gives read))

abbrev pub IsPlaced : (ℕ → Refusal → Type 0) → Type 0
IsPlaced gives = (read : ℕ) (refusal : Refusal) → gives read refusal → refusal ≡ Doubles (read + 1)

by_fields : (all : Bool) (counts : Counts) (numbers old : List ℕ) (answer : OrRefusal Unit) {gives : ℕ → Refusal → Type 0}
    → Answered gives (cond all (Ok tt) (Err (length numbers))) answer → IsPlaced gives
    → let outcome = cond all (accepted counts numbers) (refused (Doubles (suc (length numbers))) numbers) in
    (onward answer (λ done. Ok counts) ≡ outcome.reading) × (over numbers old ≡ over outcome.numbers old)
by_fields true counts numbers old (Ok tt) answered placed = (refl, refl)
by_fields true counts numbers old (Err refusal) answered placed = cc
by_fields false counts numbers old (Ok tt) answered placed = absurd answered
by_fields false counts numbers old (Err refusal) answered placed =
    (ap Err (placed (length numbers) refusal answered ∙ ap Doubles (add-one (length numbers))), refl)

-- the counts are accepted
pub fields_read : (list : List Float) (old : List ℕ) {after : List ℕ} {counts : Counts} {reading : Result Unit ℕ} (answer : OrRefusal Unit)
    {gives : ℕ → Refusal → Type 0} → Ok counts ≡ counts_in list → Written (amounts_of (all_segments counts) 1 list) old after reading
    → Answered gives reading answer → IsPlaced gives → Gives list old (onward answer (λ done. Ok counts)) after
unfolding list_outcome
fields_read list old {counts = counts} answer is w answered placed =
    let amounts = amounts_of (all_segments counts) 1 list in
    let given = by_fields (all_read amounts) counts (numbers_in amounts) old answer (rw w.reading_is at answered) placed in
    record { value = rw (← is) given.0; numbers_after = rw (← is, w.buffer_is) given.1 }
