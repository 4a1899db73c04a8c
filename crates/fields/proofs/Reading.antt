-- What a reader gives with its fields lent and zeros behind those that were read: the zeros change nothing. Assumes nothing.
use mathlib.Core.Path.{◌≡◌, refl, sym}
use mathlib.Core.List.{List}
use Prim.Native.Nat.{ℕ}
use lib.ListN.{replicate}
use Rattle.std.specs.Prelude.{Ok, Err}
use Rattle.fields.specs.declared.read.Counts.{Counts}
use Rattle.fields.specs.Outcomes.{OrRefusal, Outcome, over}
use Rattle.fields.specs.Quantities.{Quantities, quantities_of, quantities_in, quantities_read}
use Rattle.fields.specs.Readable.{Readable, AcceptedIfRead}
use Rattle.fields.specs.Sizes.{most_fields}
use Rattle.fields.proofs.Padding.{Same, same_quantities, over_zeros}

-- what holds of the quantities by their counts holds of those that were read
pub of_read : (outcome : Outcome) (P : Quantities → Type 0)
    → ((counts : Counts) → outcome.reading ≡ Ok counts → P (quantities_of counts outcome.numbers))
    → (q : Quantities) → quantities_read outcome ≡ Ok q → P q
of_read outcome P holds q = by outcome.reading refl
  where
    by : (reading : OrRefusal Counts) → outcome.reading ≡ reading → quantities_in reading outcome.numbers ≡ Ok q → P q
    by (Err refusal) e read = cc
    by (Ok counts) e read =
        let same : quantities_of counts outcome.numbers ≡ q = cc in rw same at (holds counts e)

module _ (outcome : Outcome) (accepted : AcceptedIfRead outcome) (counts : Counts) (numbers : List ℕ)
    (is : Ok counts ≡ outcome.reading) (numbers_are : numbers ≡ over outcome.numbers (replicate most_fields 0)) where
  same : Same numbers outcome.numbers
  same = rw numbers_are (over_zeros outcome.numbers most_fields)

  -- what is made of the fields requires what the numbers have
  pub readable : Readable counts numbers
  readable =
      let good = accepted counts (sym is) in
      record {
        segments_most = good.few_segments;
        ages_least = good.enough_ages;
        ages_most = good.few_ages;
        second_most = good.few_second;
        small = λ k. rw (same k) (good.below k);
      }

  -- the lent fields have the quantities that were read
  pub same_read : quantities_read outcome ≡ Ok (quantities_of counts numbers)
  same_read = rw (← is, same_quantities counts numbers outcome.numbers same) refl
