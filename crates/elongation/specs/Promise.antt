-- The promise rests on it; this is the promise of the elongation sheet, of its answer and of the lent buffer, for every card. The entry has
-- no condition, answers what the definitions give, and what they give is close.
use Rattle.std.specs.Prelude.{ℕ, ◌≡◌, List, length, Ok}
use Rattle.fields.specs.Outcomes.{Outcome}
use Rattle.fields.specs.Quantities.{Quantities, quantities_read}
use Rattle.elongation.specs.Sheet.{Sheet, SheetAnswer, sheet_result, sheet_read, Written}
use Rattle.elongation.specs.Close.{SheetClose}

-- of whatever was read and is accepted, with room for so many numbers
abbrev pub CloseIfAccepted : Outcome → ℕ → Type 0
CloseIfAccepted outcome room =
    (q : Quantities) (given : Sheet) → quantities_read outcome ≡ Ok q → sheet_result q room ≡ Ok given → SheetClose q given

pub record SheetPromise (outcome : Outcome) (answer : SheetAnswer) (sheet sheet_was : List ℕ) : Type 0 where
  pub exact : Written (sheet_read outcome (length sheet_was)) answer sheet sheet_was
  pub close : CloseIfAccepted outcome (length sheet_was)
