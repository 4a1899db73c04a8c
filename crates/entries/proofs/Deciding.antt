-- What the number and the values of an answer decide: whether it is a refusal, and which; so that a promise that gives them gives the
-- answer. Assumes nothing.
use mathlib.Core.Path.{◌≡◌, sym, ◌∙◌}
use Rattle.std.specs.Prelude.{Err}
use Rattle.fields.specs.declared.refusal.Refusal.{Refusal}
use Rattle.fields.specs.Outcomes.{OrRefusal}
use Rattle.fields.proofs.Refusals.{same_refusal}
use Rattle.stages.specs.Run.{Report}
use Rattle.entries.specs.Answers.{Answered}

-- two refusals that answer the same result are the same
pub one_refusal : (result : OrRefusal Report) (one other : Refusal) → Answered result (Err one) → Answered result (Err other)
    → one ≡ other
one_refusal result one other a b =
    let values = a.values_are ∙ sym b.values_are in
    same_refusal one other (a.number_is ∙ sym b.number_is) (cc)
