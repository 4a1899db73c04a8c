-- `read_field` meets its contract: `position` finds where the digits begin, or that the field is blank. Assumes nothing.
use mathlib.Core.Path.{◌∙◌}
use native.Mathlib.Omega.{arith}
use borrow.Author.Tests.{tests}
use Rattle.std.proofs.Common.{rules}
use Rattle.std.proofs.lemmas.List.{length-take, length-drop, take_rest}
use Rattle.std.proofs.lemmas.Iterator.{YieldsList-from_slice}
use Rattle.std.proofs.lemmas.Iterator.Search.{position_from_yields_List}
use Rattle.line.proofs.Fields.{no_space, written_from, nothing_written}
use Rattle.line.proofs.read_field.Goals as goal

pub digits-requires : goal.digits-requires
digits-requires c = simp (length-take, length-drop) (omega arith)

pub returns-in-Some : goal.returns-in-Some
returns-in-Some c =
    let found =
    position_from_yields_List no_space _ _ _ c.in-Some.ensures.ran (YieldsList-from_slice _ c.iter.ensures.rest)
    (λ x b q k. search (rules, tests)) in
    rw take_rest at c.digits.ensures ∙ written_from _ _ _ found

pub returns-in-None : goal.returns-in-None
returns-in-None c =
    let found =
    position_from_yields_List no_space _ _ _ c.in-None.ensures.ran (YieldsList-from_slice _ c.iter.ensures.rest)
    (λ x b q k. search (rules, tests)) in
    c.blank_reads.ensures ∙ nothing_written _ _ found
