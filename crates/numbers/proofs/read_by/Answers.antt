-- As many doubles are read as the list holds, up to one more than the most fields: what they give is what the whole list gives.
-- Assumes nothing.
use mathlib.Core.Path.{ap, ◌∙◌}
use Rattle.fields.specs.Outcomes.{Outcome, over}
use Rattle.numbers.proofs.FirstDoubles.{read_outcome}
use Rattle.numbers.proofs.read_by.Goals as goal

pub returns : goal.returns
returns c =
    let same =
    read_outcome c.args.list.now _ _ c.room_up_to-count.ensures c.requires c.read_doubles.new.doubles
    c.read_doubles.auto.doubles c.read_doubles.ensures in
    record {
      value = c.read_list.ensures.value ∙ ap (λ (o : Outcome). o.reading) same;
      fields_after = c.read_list.ensures.fields_after ∙ ap (λ (o : Outcome). over o.numbers c.args.fields.now) same;
    }
