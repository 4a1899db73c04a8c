-- It serves the code alone. The law of the list's reader, which later crates use of a list's outcome in place of its definition: the counts
-- of a list that is accepted, where they stand among its numbers, how many numbers there are, and how large they can be. An accepted list
-- has accepted counts and no refused field, and each number is an amount. Assumes nothing.
use mathlib.Core.Path.{◌≡◌, refl, sym, ap, ◌∙◌}
use mathlib.Core.Bool.{Bool, true, false, cond}
use mathlib.Core.List.{List, [], ◌∷◌}
use Prim.Native.Nat.{ℕ, zero, suc, ◌+◌, ◌-◌, ◌^◌, ◌<◌}
use native.Mathlib.Nat.{le_of_suc-le-suc, not-suc-le-zero}
use native.Mathlib.Omega.{arith}
use lib.Dec.{lit<}
use lib.Ieee.{Float, nan, to_bits, binary64}
use lib.ListN.{length, get_or}
use borrow.Author.Tests.{eqb-true}
use Rattle.std.specs.Prelude.{Option, Some, None, Ok, Err}
use Rattle.ticks.proofs.Laws.{ticks_below, whole_below}
use Rattle.fields.specs.declared.read.Counts.{Counts}
use Rattle.fields.specs.declared.refusal.Refusal.{Refusal}
use Rattle.fields.specs.Quantities.{segments_field, ages_field, second_segments_field, head_fields, all_segments}
use Rattle.fields.specs.Outcomes.{OrRefusal, numbers_in, all_read, refused, accepted}
use Rattle.fields.specs.Readable.{Accepted, AcceptedIfRead}
use Rattle.list.specs.Lists.{in_ticks, amount_in, amounts_by, amounts_of, with_counts, counts_in, list_outcome}
use Rattle.list.specs.Counted.{Counted, counts_accepted}

-- ---- the amounts of some doubles

pub part_length : (ticks : ℕ → Bool) (field : ℕ) (xs : List Float) → length (amounts_by ticks field xs) ≡ length xs
unfolding amounts_by
part_length ticks field [] = refl
part_length ticks field (x ∷ xs) = ap suc (part_length ticks (suc field) xs)

pub part_at : (ticks : ℕ → Bool) (field : ℕ) (xs : List Float) (k : ℕ) → k < length xs
    → get_or (amounts_by ticks field xs) k None ≡ amount_in (ticks (field + k)) (get_or xs k nan)
unfolding amounts_by
part_at ticks field [] k h = absurd (not-suc-le-zero h)
part_at ticks field (x ∷ xs) zero h =
    let e : field + 0 ≡ field = omega arith in
    ap (λ (f : ℕ). amount_in (ticks f) x) (sym e)
part_at ticks field (x ∷ xs) (suc k) h =
    let e : suc field + k ≡ field + suc k = omega arith in
    part_at ticks (suc field) xs k (le_of_suc-le-suc h) ∙ ap (λ (f : ℕ). amount_in (ticks f) (get_or xs k nan)) e

-- ---- how large a number can be

amount_below : (ticks : Bool) (x : Float) (n : ℕ) → amount_in ticks x ≡ Some n → n < 2 ^ 41
amount_below true x n e = ticks_below (to_bits binary64 x) n e
amount_below false x n e = let h = whole_below (to_bits binary64 x) n e in omega arith

first_below : (ticks : Bool) (x : Float) (amount : Option ℕ) (amounts : List (Option ℕ)) → amount_in ticks x ≡ amount
    → ((k : ℕ) → get_or (numbers_in amounts) k 0 < 2 ^ 41) → (k : ℕ) → get_or (numbers_in (amount ∷ amounts)) k 0 < 2 ^ 41
unfolding numbers_in
first_below ticks x (Some n) amounts e others zero = amount_below ticks x n e
first_below ticks x (Some n) amounts e others (suc k) = others k
first_below ticks x None amounts e others k = lit< tt

below : (segments field : ℕ) (xs : List Float) (k : ℕ) → get_or (numbers_in (amounts_of segments field xs)) k 0 < 2 ^ 41
unfolding numbers_in amounts_by
below segments field [] k = lit< tt
below segments field (x ∷ xs) k =
    first_below (in_ticks segments field) x (amount_in (in_ticks segments field) x) (amounts_of segments (suc field) xs) refl
    (λ k. below segments (suc field) xs k) k

-- ---- an accepted list

all_accepted : (all : Bool) (counts : Counts) (refusal : Refusal) (numbers : List ℕ) {given : Counts}
    → (cond all (accepted counts numbers) (refused refusal numbers)).reading ≡ Ok given
    → (all ≡ true) × (counts ≡ given)
all_accepted true counts refusal numbers e = (refl, cc)
all_accepted false counts refusal numbers e = cc

number_at : (amounts : List (Option ℕ)) (k : ℕ) → length (numbers_in amounts) ≡ length amounts → k < length amounts
    → get_or amounts k None ≡ Some (get_or (numbers_in amounts) k 0)
unfolding numbers_in
number_at [] k all h = absurd (not-suc-le-zero h)
number_at (Some n ∷ amounts) zero all h = refl
number_at (Some n ∷ amounts) (suc k) all h = number_at amounts k (omega arith) (le_of_suc-le-suc h)
number_at (None ∷ amounts) k all h = absurd (omega arith)

module _ (list : List Float) (counts : Counts) (counted : Counted list counts)
    (all : all_read (amounts_of (all_segments counts) 1 list) ≡ true) where
  abbrev kept : ℕ → Bool
  kept = in_ticks (all_segments counts)

  abbrev amounts : List (Option ℕ)
  amounts = amounts_of (all_segments counts) 1 list

  abbrev numbers : List ℕ
  numbers = numbers_in amounts

  read : length numbers ≡ length amounts
  read = eqb-true (length numbers) (length amounts) all

  -- a field of the head that is whole has its own number
  number_is : (k count : ℕ) → k < head_fields → amount_in (kept (1 + k)) (get_or list k nan) ≡ Some count
      → get_or numbers k 0 ≡ count
  number_is k count h e =
      let long = part_length kept 1 list in
      let enough = counted.enough in
      let at = number_at amounts k read (omega arith) in
      let is = part_at kept 1 list k (omega arith) in
      cc

  accepted_numbers : Accepted numbers counts
  accepted_numbers =
      record {
        few_segments = counted.segments.most;
        enough_ages = counted.ages.least;
        few_ages = counted.ages.most;
        few_second = counted.second.most;
        count = read ∙ part_length kept 1 list ∙ counted.shape;
        segments_field_is = number_is (segments_field - 1) counts.segments (lit< tt) counted.segments.is;
        ages_field_is = number_is (ages_field - 1) counts.ages (lit< tt) counted.ages.is;
        second_field_is = number_is (second_segments_field - 1) counts.second_segments (lit< tt) counted.second.is;
        below = λ k. let small = below (all_segments counts) 1 list k in omega arith;
      }

-- what is known of a list that is read
pub list_accepted : (list : List Float) → AcceptedIfRead (list_outcome list)
unfolding list_outcome
list_accepted list given e = by_counts (counts_in list) refl e
  where
    by_counts : (reading : OrRefusal Counts) → counts_in list ≡ reading → (with_counts reading list).reading ≡ Ok given
        → Accepted (with_counts reading list).numbers given
    by_counts (Ok counts) is e =
        let all = all_accepted (all_read (amounts_of (all_segments counts) 1 list)) counts _ _ e in
        rw (all.0, ← all.1) (accepted_numbers list counts (counts_accepted list is) all.0)
    by_counts (Err refusal) is e = cc
