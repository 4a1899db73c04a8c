-- It serves the code alone. The law of the reader of a list's bytes: what is known of a list that is accepted, whose doubles are then those
-- of an accepted list. Assumes nothing.
use Rattle.std.specs.Prelude.{ℕ, Bool, true, false, cond, List}
use Rattle.fields.specs.declared.refusal.Refusal.{Refusal}
use Rattle.fields.specs.Outcomes.{Outcome, refused}
use Rattle.fields.specs.Readable.{AcceptedIfRead}
use Rattle.list.specs.Laws.{list_accepted}
use Rattle.numbers.specs.Numbers.{bytes_outcome}

either : (b : Bool) (one other : Outcome) → AcceptedIfRead one → AcceptedIfRead other → AcceptedIfRead (cond b one other)
either true one other first second = first
either false one other first second = second

nothing_read : (refusal : Refusal) (numbers : List ℕ) → AcceptedIfRead (refused refusal numbers)
nothing_read refusal numbers counts e = cc

pub bytes_accepted : (list : List ℕ) → AcceptedIfRead (bytes_outcome list)
unfolding bytes_outcome
bytes_accepted list = search (either, list_accepted, nothing_read)
