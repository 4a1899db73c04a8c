-- `factor` meets its contract: `position` finds the first row that x is before, or that x is before none. Assumes nothing.
use mathlib.Core.Path.{◌≡◌, ◌∙◌}
use Prim.Native.Nat.{◌-◌, ◌≤◌, ◌<◌}
use native.Mathlib.Omega.{arith}
use lib.ListN.{length}
use borrow.Author.Tests.{tests}
use Rattle.std.specs.Prelude.{MatchOption}
use Rattle.std.specs.List.{AllWithin, HoldsAt, slice_get}
use Rattle.std.specs.Option.{option_map_or}
use Rattle.std.proofs.Common.{rules}
use Rattle.std.proofs.lemmas.Iterator.{YieldsList-from_slice, IsFirst-from_position}
use Rattle.tables.specs.Tables.{row, at, at_row}
use Rattle.tables.proofs.Order.{before_first, up_to, before_none}
use Rattle.tables.proofs.factors.factor.Goals.{After-position}
use Rattle.tables.proofs.factors.factor.Goals as goal

found : (c : After-position)
    → MatchOption c.position.result (AllWithin (λ r. at r ≤ c.args.x) c.args.rows.now 0 (length c.args.rows.now)) (λ place.
    (place < length c.args.rows.now)
    × HoldsAt (λ r. c.args.x < at r) c.args.rows.now place
    × AllWithin (λ r. at r ≤ c.args.x) c.args.rows.now 0 place)
found c =
    IsFirst-from_position _ _ _ (λ r. c.args.x < at r) (λ r. at r ≤ c.args.x) c.position.ensures.ran
    (YieldsList-from_slice _ c.iter.ensures.rest) (λ r q k. search (rules, tests)) (λ r q k. search (rules, tests))

pub returns-in-Some-eq0 : goal.returns-in-Some-eq0
returns-in-Some-eq0 c =
    let first = rw (c.in-Some-eq0.is, c.in-Some-eq0.field-0-test) at (found (goal.at.returns-in-Some-eq0 c).After-position) in
    c.at_row.ensures ∙ before_first _ _ _ first.0 (first.1 (row 0 0))

pub returns-in-Some : goal.returns-in-Some
returns-in-Some c =
    let first = rw c.in-Some.is at (found (goal.at.returns-in-Some c).After-position) in
    c.on_line.ensures
    ∙ up_to _ _ _ _ _ (omega (arith, c.in-Some.high-test.1)) first.0 (first.1 (row 0 0)) (λ k l. first.2 k (row 0 0) (omega arith) l)

pub returns-in-None : goal.returns-in-None
returns-in-None c =
    let none = rw c.in-None.is at (found (goal.at.returns-in-None c).After-position) in
    let rows = c.args.rows.now in
    let last : c.map_or.result ≡ option_map_or (at_row c.args.unit) (slice_get rows (length rows - 1)) 0 = search rules in
    last ∙ before_none _ _ _ (λ k l. none k (row 0 0) (omega arith) l)
