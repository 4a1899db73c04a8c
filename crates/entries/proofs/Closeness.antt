-- Demand 3 of whatever fields give: an accepted member has the facts that the theorem asks for. So it has a row for each age, and each row
-- its numbers. Assumes nothing.
use mathlib.Core.Path.{◌≡◌, refl}
use mathlib.Core.List.{List, [], ◌∷◌}
use Prim.Native.Nat.{ℕ, ◌*◌}
use native.Mathlib.Omega.{arith}
use lib.ListN.{length}
use Rattle.std.specs.Prelude.{Ok}
use Rattle.fields.specs.declared.read.Counts.{Counts}
use Rattle.fields.specs.Quantities.{Quantities, quantities_of}
use Rattle.fields.specs.Limits.{per_row}
use Rattle.fields.specs.Readable.{Readable}
use Rattle.fields.proofs.Counting.{Few, few}
use Rattle.fields.proofs.Onward.{through}
use Rattle.member.specs.Member.{checked_of}
use Rattle.member.proofs.Laws.{accepted}
use Rattle.stages.specs.declared.intervals.Row.{Row}
use Rattle.stages.specs.Run.{Report, member_result, result_of}
use Rattle.tolerance.specs.Demand.{Demand3}
use Rattle.tolerance.proofs.Demand3.{demand_3}
use Rattle.entries.specs.Answers.{numbers_of_rows}

pub close : (q : Quantities) → Few q → (report scratch : ℕ) (given : Report) → result_of q report scratch ≡ Ok given → Demand3 q given
close q few report scratch given e =
    let run = through (checked_of q report scratch) (λ m. member_result m q.ages) e in
    let known = accepted q report scratch run.given_is in
    demand_3 q report scratch few known.facts given (rw known.is at run.next_is)

-- ---- the rows of an accepted run

pub row_count : (counts : Counts) (numbers : List ℕ) {q : Quantities} → quantities_of counts numbers ≡ q → Readable counts numbers
    → (report scratch : ℕ) (given : Report) → result_of q report scratch ≡ Ok given → length given.rows ≡ length q.ages
row_count counts numbers {q} is readable report scratch given gives =
    (close q (few counts numbers is readable) report scratch given gives).linked.rows_count

pub rows_length : (rows : List Row) → length (numbers_of_rows rows) ≡ per_row * length rows
unfolding numbers_of_rows
rows_length [] = refl
rows_length (row ∷ rows) = omega (arith, rows_length rows)
