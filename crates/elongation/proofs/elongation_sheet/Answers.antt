-- A card that is read has the sheet of its fields: the zeros behind them change nothing. Assumes nothing.
use Rattle.fields.proofs.Reading.{readable, same_read}
use Rattle.card.specs.Laws.{card_accepted}
use Rattle.elongation.proofs.Answering.{promised}
use Rattle.elongation.proofs.elongation_sheet.Goals as goal

pub new-requires : goal.new-requires
new-requires c = readable _ (card_accepted _) _ _ c.in_ok-counts.ensures.value c.in_ok-counts.ensures.fields_after

pub returns : goal.returns
returns c =
    let read = same_read _ (card_accepted _) _ _ c.in_ok-counts.ensures.value c.in_ok-counts.ensures.fields_after in
    promised _ (card_accepted _) (rw (read, ← c.new.ensures) c.of_fields.ensures)
