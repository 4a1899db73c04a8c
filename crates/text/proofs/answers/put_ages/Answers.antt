-- A turn lays the next age's line out behind those that are there. Assumes nothing.
use mathlib.Core.Logic.{inl, inr}
use Rattle.text.proofs.Texts.{all_lined}
use Rattle.text.proofs.answers.put_ages.Goals as goal

pub returns : goal.returns
returns c = all_lined c.loop-passed.invariant (elim c.in-None.ensures.steps.0 [ inl ages ↦ inl ages.1 | inr rows ↦ inr rows.1.1.0 ])
