-- The theorem `slip_as_before` rests on it. Where a card's slip stands, and when it is blank: document 02, W2.
use Rattle.std.specs.Prelude.{ℕ, ◌-◌, ◌*◌, ◌≡◌, List, ◌++◌, take, drop, replicate}
use Rattle.fields.specs.Quantities.{columns, field_number}
use Rattle.line.specs.Lines.{space}

-- the column of a card, from 0, at which the slip begins: it is on line 1
abbrev pub slip_column : ℕ
slip_column = columns * (field_number.slip - 1)

-- the slip's columns, fewer than 14 where the card ends before them
abbrev pub slip_columns : List ℕ → List ℕ
slip_columns card = take columns (drop slip_column card)

-- "A blank slip field": all of it is there, and spaces alone
abbrev pub SlipIsBlank : List ℕ → Type 0
SlipIsBlank card = slip_columns card ≡ replicate columns space

-- a card with these columns for its slip
abbrev pub with_slip : List ℕ → List ℕ → List ℕ
with_slip slip card = take slip_column card ++ (slip ++ drop columns (drop slip_column card))
