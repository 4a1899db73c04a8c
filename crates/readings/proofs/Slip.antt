-- The theorem `slip_as_before`. Each promise decides what a host sees, and speaks of a card by what it gives alone; so cards that give
-- the same have the same run, and which do are the laws of `card`. Assumes nothing.
use Prim.Native.Nat.{ℕ}
use mathlib.Core.Path.{◌≡◌, refl, sym, ◌∙◌}
use mathlib.Core.Bool.{Bool, true, false}
use mathlib.Core.List.{List}
use lib.Dec.{ltb}
use lib.ListN.{length}
use borrow.Author.Tests.{ltb-true, ltb-false}
use Rattle.fields.specs.Limits.{blank_slip}
use Rattle.fields.specs.Outcomes.{Outcome}
use Rattle.line.specs.Lines.{digits_of, spaces_in}
use Rattle.card.specs.Card.{card_outcome}
use Rattle.card.proofs.Slip.{written_slip, blank_slip_is}
use Rattle.text.specs.Columns.{first_columns, in_columns}
use Rattle.stratelyn.specs.Hosts.{reply_bytes, Served}
use Rattle.readings.specs.Slip.{SameRun, older_slip, SlipAsBefore}

-- what a C host gets of two runs, whether or not the reply has room
module _ {outcome : Outcome} {returned returned' : ℕ}
    {report report' report_was scratch scratch' scratch_was reply reply' reply_was : List ℕ}
    (one : Served outcome returned report report_was scratch scratch_was reply reply_was)
    (other : Served outcome returned' report' report_was scratch' scratch_was reply' reply_was) where
  abbrev Same : Type 0
  Same = (returned ≡ returned') × (report ≡ report') × (scratch ≡ scratch') × (reply ≡ reply')

  same_scratch : scratch ≡ scratch'
  same_scratch = one.scratch_kept ∙ sym other.scratch_kept

  same_served : Same
  same_served = by_room (ltb (length reply_was) reply_bytes) refl
    where
      by_room : (short : Bool) → ltb (length reply_was) reply_bytes ≡ short → Same
      by_room true e =
          let a = one.short (ltb-true (length reply_was) reply_bytes e) in
          let b = other.short (ltb-true (length reply_was) reply_bytes e) in
          (a.number_is ∙ sym b.number_is, a.report_kept ∙ sym b.report_kept, same_scratch, a.reply_kept ∙ sym b.reply_kept)
      by_room false e =
          let a = one.exact (ltb-false (length reply_was) reply_bytes e) in
          let b = other.exact (ltb-false (length reply_was) reply_bytes e) in
          (a.number_is ∙ sym b.number_is, a.report_is ∙ sym b.report_is, same_scratch, a.values_are ∙ sym b.values_are)

same_run : (one other : Outcome) → one ≡ other → SameRun one other
same_run one other e =
    rw e
    (record {
      read = refl;
      native = λ a b. (
        a.exact.answered.number_is ∙ sym b.exact.answered.number_is,
        a.exact.answered.values_are ∙ sym b.exact.answered.values_are,
        a.exact.report_is ∙ sym b.exact.report_is,
      );
      hosts = λ a b. same_served a b;
      printed = λ program. refl;
    })

pub slip_as_before : SlipAsBefore
unfolding card_outcome first_columns digits_of spaces_in
slip_as_before = record {
  written = λ before card written. same_run _ _ (written_slip before blank_slip card written);
  blank = λ card blank. same_run _ _ (sym (blank_slip_is blank_slip blank_slip (in_columns blank_slip) card blank refl refl));
  older = λ card blank. same_run _ _ (blank_slip_is older_slip blank_slip (in_columns older_slip) card blank refl refl);
}
