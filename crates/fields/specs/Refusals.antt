-- The promise rests on it. The numbers and places of document 01, "Refusal by place of checking", row by row, and of document 02.
use Rattle.std.specs.Prelude.{ℕ, Bool, ◌||◌, eqb}
use Rattle.fields.specs.Quantities.{field_number}
use Rattle.fields.specs.declared.refusal.Refusal.{Refusal}

-- "The refusal number (0 if accepted)"
abbrev pub acceptance_number : ℕ
acceptance_number = 0

abbrev pub number : Refusal → ℕ
number (Refusal.Shape line) = 8
number (Refusal.Doubles field) = 9
number (Refusal.Codes field) = 1
number (Refusal.Ranges field) = 2
number (Refusal.Hours field) = 3
number Refusal.Pretensioned = 13
number (Refusal.Duct place) = 4
number Refusal.SecondPath = 14
number Refusal.PathLengths = 15
number (Refusal.Buffers place) = 10
number Refusal.Section = 5
number Refusal.Creep = 6
number Refusal.AnchorSet = 12
number (Refusal.Stress age) = 7
number (Refusal.Overstress age) = 11

-- of 13 by document 02, W7: "place 1"; of 14 and 15 by W9: "place 2" and "place 7"
abbrev pub place : Refusal → ℕ
place (Refusal.Shape line) = line
place (Refusal.Doubles field) = field
place (Refusal.Codes field) = field
place (Refusal.Ranges field) = field
place (Refusal.Hours field) = field
place Refusal.Pretensioned = 1
place (Refusal.Duct p) = p
place Refusal.SecondPath = 2
place Refusal.PathLengths = field_number.tendon_length
place (Refusal.Buffers p) = p
place Refusal.Section = field_number.area
place Refusal.Creep = field_number.steel_area
place Refusal.AnchorSet = field_number.tendon_length
place (Refusal.Stress age) = age
place (Refusal.Overstress age) = age

-- "refusal 7 alone may alter the scratch"; document 02, W1, of 11: "like 7 it may alter the scratch"
abbrev pub may_alter_scratch : Refusal → Bool
may_alter_scratch refusal = eqb (number refusal) 7 || eqb (number refusal) 11
