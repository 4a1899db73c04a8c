-- A card that is read prints what the run or the sheet of its fields does: the zeros behind the fields change nothing. Assumes nothing.
use Rattle.fields.proofs.Reading.{readable, same_read}
use Rattle.card.specs.Laws.{card_accepted}
use Rattle.text.specs.Text.{text_of}
use Rattle.text.proofs.put_card.Goals as goal

pub new-requires : goal.new-requires
new-requires c = readable _ (card_accepted _) _ _ c.in-Ok.ensures.value c.in-Ok.ensures.fields_after

pub returns-in-Ok : goal.returns-in-Ok
unfolding text_of
returns-in-Ok c =
    let read = same_read _ (card_accepted _) _ _ c.in-Ok.ensures.value c.in-Ok.ensures.fields_after in
    rw (read, ← c.new.ensures) c.put_fields.ensures
