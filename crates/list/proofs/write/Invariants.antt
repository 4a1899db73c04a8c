-- `list::write` meets its contract. The loop's invariant: whatever the amounts are that are given, the first `at` of them are read, and
-- their numbers stand at the front. Assumes nothing.
use mathlib.Core.List.{List, ◌++◌}
use Prim.Native.Nat.{ℕ}
use lib.ListN.{drop}
use Rattle.std.specs.Prelude.{Option}
use Rattle.list.specs.Measures.{GivenBy}
use Rattle.list.proofs.Numbers.{Front}
use Rattle.list.proofs.write.Given as goal

abbrev pub invariant-loop-at : goal.invariant-loop-at
invariant-loop-at g l =
    (amounts : List (Option ℕ)) → GivenBy (goal.F-post g l.amount) l.count amounts
    → Front amounts l.fn.fields (l.number-items ++ drop l.count l.fn.fields) l.at
