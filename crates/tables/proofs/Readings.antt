-- The readings of a share, told by the rows that the code has in hand: its rows at days stand in order, and the row at the last place is
-- the last of them. Assumes nothing.
use mathlib.Core.Path.{◌≡◌, sym, ◌∙◌}
use mathlib.Core.List.{List, [], ◌∷◌}
use Prim.Native.Nat.{ℕ, suc, ◌≤◌, ◌<◌}
use native.Mathlib.Omega.{arith}
use borrow.Author.Tests.{lt-ltb, le-ltb}
use Rattle.ticks.specs.Ticks.{T}
use Rattle.tables.specs.declared.Row.{Row}
use Rattle.tables.specs.Tables.{row, at, at_row, on_line, along, reading, to_one}
use Rattle.tables.specs.Conditions.{row_at, day_row_count, DayRows}
use Rattle.tables.proofs.Rows.{last_at}
use Rattle.tables.proofs.Order.{to_last, on_its_line, before_last, from_last}

module _ {days : List Row} (d : DayRows days) (x : ℕ) where
  -- between the rows at two neighbouring places
  pub line_read : (place next : ℕ) → next ≡ suc place → next < day_row_count → at (row_at days place) ≤ x → x < at (row_at days next)
      → on_line T x (row_at days place) (row_at days next) ≡ reading T days x
  line_read place next e there from to = on_its_line T x days place next d.in_order e (omega (arith, d.count)) from to

  module _ (life : ℕ) where
    -- before one of the rows at days the end of life does not matter
    pub days_read : (place : ℕ) → place < day_row_count → x < at (row_at days place) → reading T days x ≡ reading T (to_one days life) x
    days_read place there to =
        let early = to_last days place d.in_order (omega (arith, d.count)) in
        sym (before_last T x (row life 100 ∷ []) days (omega arith))

    module _ (from : at (row_at days 11) ≤ x) where
      -- from the last of them on a share goes to 1.00
      goes_to_one : reading T (to_one days life) x ≡ along T x (row_at days 11) (row life 100 ∷ [])
      goes_to_one =
          let last = last_at days 11 (omega (arith, d.count)) in
          rw last (from_last T x (row life 100 ∷ []) days d.in_order (rw last at from))

      pub end_read : x < life → on_line T x (row_at days 11) (row life 100) ≡ reading T (to_one days life) x
      unfolding along
      end_read to = sym (goes_to_one ∙ rw (lt-ltb x life to))

      pub one_read : life ≤ x → at_row T (row life 100) ≡ reading T (to_one days life) x
      unfolding along
      one_read past = sym (goes_to_one ∙ rw (le-ltb x life past))

pub ruleset share_read = (days_read, end_read, one_read)
