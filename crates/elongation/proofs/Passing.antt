-- The sheet's own rows, one by one; and what is known of a card that passes all its checks: its fields fit, X of the first path is no more
-- than the series takes, and the buffer has room. Assumes nothing.
use mathlib.Core.Bool.{true}
use mathlib.Core.Path.{◌≡◌, refl}
use Prim.Native.Nat.{ℕ, ◌≤◌}
use native.Mathlib.Omega.{arith}
use lib.ListN.{length}
use Rattle.std.specs.Prelude.{Ok, Err}
use Rattle.fields.specs.declared.refusal.Refusal.TheVariants.{Pretensioned}
use Rattle.fields.specs.Outcomes.{onward}
use Rattle.fields.specs.Quantities.{Quantities, is_pretensioned}
use Rattle.fields.specs.Limits.{most_friction}
use Rattle.checks.specs.Rows.{checked, checked_by}
use Rattle.checks.proofs.Cascade.{row_by_row, one_row, in_parts}
use Rattle.member.specs.Checking.{BelowHours}
use Rattle.member.specs.Constants.{friction_of}
use Rattle.member.specs.Member.{codes_to_hours}
use Rattle.member.proofs.Laws.{to_hours}
use Rattle.elongation.specs.Sheet.{below_hours, sheet_rows}

-- "13 when the card is pretensioned", ahead of the rows of the duct and the room
pub kind_refuses : (q : Quantities) (room : ℕ) → is_pretensioned q ≡ true
    → Err Pretensioned ≡ checked_by {A = Unit {0}} (below_hours q room) tt
unfolding checked checked_by
kind_refuses q room e = rw e refl

-- those to "hours", and those below
pub below_hours_last : (q : Quantities) (room : ℕ)
    → checked_by {A = Unit {0}} (sheet_rows q room) tt
    ≡ onward (checked_by {A = Unit {0}} (codes_to_hours q) tt) (λ held. checked_by {A = Unit {0}} (below_hours q room) tt)
below_hours_last q room = in_parts (codes_to_hours q) (below_hours q room) (tt {0}) (tt {0})

pub record Passed (q : Quantities) (room : ℕ) : Type 0 where
  pub below_hours : BelowHours q
  pub friction_most : friction_of q q.path ≤ most_friction
  pub has_room : length q.path ≤ room

pub passed : {A : Type 0} (q : Quantities) (room : ℕ) (value : A) {given : A} → checked_by (sheet_rows q room) value ≡ Ok given
    → Passed q room
passed q room value e =
    let above = to_hours q (below_hours q room) value e in
    let given = above.below in
    record {
      below_hours = above.fields.below_hours;
      friction_most = grind (arith, row_by_row, one_row, given);
      has_room = grind (arith, row_by_row, one_row, given);
    }
