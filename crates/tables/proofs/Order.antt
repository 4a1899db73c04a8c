-- Where the walk along all rows ends: at the first row that x is before, and at the last one where there is none. Of rows in order it
-- is known from two neighbouring rows that x lies between; rows behind one that x is before do not matter, and past the last row the walk
-- goes on from it. By recursion along the rows. That rows stand in order is a test that computes. Assumes nothing.
use mathlib.Core.Path.{◌≡◌, refl, sym}
use mathlib.Core.Bool.{cond}
use mathlib.Core.List.{List, [], ◌∷◌, ◌++◌}
use Prim.Native.Nat.{ℕ, zero, suc, ◌-◌, ◌≤◌, ◌<◌}
use native.Mathlib.Nat.{le_refl, le_trans}
use native.Mathlib.Omega.{arith}
use lib.Dec.{T, ltb, leb→le}
use lib.ListN.{length}
use borrow.Author.Tests.{lt-ltb, le-ltb}
use Rattle.std.specs.Option.{option_map_or}
use Rattle.std.specs.List.{slice_get}
use Rattle.tables.specs.declared.Row.{Row}
use Rattle.tables.specs.Tables.{at, at_row, on_line, along, reading}
use Rattle.tables.specs.Conditions.{row_at, joined_from, no_later, ordered}
use Rattle.tables.proofs.Rows.{here, after, placed, Passed, last_from, last_of, last_at}

not_later : (low high : Row) (rows : List Row) → T (joined_from no_later low (high ∷ rows)) → at low ≤ at high
not_later low high rows t = leb→le (at low) (at high) (here no_later low high rows t)

-- no row stands behind a later one
in_order : (low : Row) (rows : List Row) (early late : ℕ) → T (joined_from no_later low rows) → early ≤ late → late < length (low ∷ rows)
    → at (row_at (low ∷ rows) early) ≤ at (row_at (low ∷ rows) late)
in_order low rows zero zero t e h = le_refl (at low)
in_order low rows (suc early) zero t e h = absurd (omega arith)
in_order low [] early (suc late) t e h = absurd (omega arith)
in_order low (high ∷ rows) zero (suc late) t e h =
    le_trans (not_later low high rows t) (in_order high rows zero late (after no_later low high rows t) (omega arith) (omega arith))
in_order low (high ∷ rows) (suc early) (suc late) t e h =
    in_order high rows early late (after no_later low high rows t) (omega arith) (omega arith)

-- and none behind the last
pub to_last : (rows : List Row) (place : ℕ) → T (ordered rows) → place < length rows → at (row_at rows place) ≤ at (last_of rows)
to_last [] place t h = absurd t
to_last (first ∷ rows) place t h =
    let last = last_at (first ∷ rows) (length rows) refl in
    rw (← last) (in_order first rows place (length rows) t (omega arith) (omega arith))

module _ (unit x : ℕ) where
  along_line : (low : Row) (rows : List Row) (place : ℕ) → place < length rows → ((k : ℕ) → k < place → at (row_at rows k) ≤ x)
      → x < at (row_at rows place) → along unit x low rows ≡ on_line unit x (row_at (low ∷ rows) place) (row_at rows place)
  unfolding along
  along_line low [] place h passed to = absurd (omega arith)
  along_line low (high ∷ rows) zero h passed to = rw (lt-ltb x (at high) to)
  along_line low (high ∷ rows) (suc place) h passed to =
      rw (le-ltb x (at high) (passed 0 (omega arith)))
      (along_line high rows place (omega arith) (λ k l. passed (suc k) (omega arith)) to)

  -- ---- by the first row that x is before, whether rows stand in order or not

  pub before_first : (rows : List Row) → 0 < length rows → x < at (row_at rows 0) → at_row unit (row_at rows 0) ≡ reading unit rows x
  unfolding reading
  before_first [] some to = absurd (omega arith)
  before_first (first ∷ rows) some to = rw (lt-ltb x (at first) to)

  pub up_to : (rows : List Row) (place next : ℕ) → next ≡ suc place → next < length rows → x < at (row_at rows next)
      → ((k : ℕ) → k < next → at (row_at rows k) ≤ x) → on_line unit x (row_at rows place) (row_at rows next) ≡ reading unit rows x
  unfolding reading
  up_to [] place next e h to passed = absurd (omega arith)
  up_to (first ∷ rows) place next e h to passed =
      rw (e, le-ltb x (at first) (passed 0 (omega arith)))
      (sym (along_line first rows place (omega arith) (λ k l. passed (suc k) (omega arith)) (rw e at to)))

  along_all : (low : Row) (rows : List Row) → ((k : ℕ) → k < length rows → at (row_at rows k) ≤ x)
      → option_map_or (at_row unit) (slice_get (low ∷ rows) (length rows)) 0 ≡ along unit x low rows
  unfolding along
  along_all low [] passed = refl
  along_all low (high ∷ rows) passed =
      rw (le-ltb x (at high) (passed 0 (omega arith))) (along_all high rows (λ k l. passed (suc k) (omega arith)))

  pub before_none : (rows : List Row) → ((k : ℕ) → k < length rows → at (row_at rows k) ≤ x)
      → option_map_or (at_row unit) (slice_get rows (length rows - 1)) 0 ≡ reading unit rows x
  unfolding reading
  before_none [] passed = refl
  before_none (first ∷ rows) passed =
      let last : suc (length rows) - 1 ≡ length rows = omega arith in
      rw (last, le-ltb x (at first) (passed 0 (omega arith))) (along_all first rows (λ k l. passed (suc k) (omega arith)))

  -- ---- by rows in order

  -- on the line between two neighbouring rows
  pub on_its_line : (rows : List Row) (place next : ℕ) → T (ordered rows) → next ≡ suc place → next < length rows
      → at (row_at rows place) ≤ x → x < at (row_at rows next)
      → on_line unit x (row_at rows place) (row_at rows next) ≡ reading unit rows x
  on_its_line [] place next t e h from to = absurd t
  on_its_line (first ∷ rows) place next t e h from to =
      up_to (first ∷ rows) place next e h to (λ k l. le_trans (in_order first rows k place t (omega arith) (omega arith)) from)

  passed_from : (low : Row) (rows : List Row) → T (joined_from no_later low rows) → at (last_from low rows) ≤ x
      → Passed x (low ∷ rows)
  passed_from low [] t from = (from, tt)
  passed_from low (high ∷ rows) t from =
      let rest = passed_from high rows (after no_later low high rows t) from in
      (le_trans (not_later low high rows t) rest.0, rest)

  module _ (more : List Row) where
    along_before : (low : Row) (rows : List Row) → at low ≤ x → x < at (last_from low rows)
        → along unit x low (rows ++ more) ≡ along unit x low rows
    unfolding along
    along_before low [] from to = absurd (omega arith)
    along_before low (high ∷ rows) from to =
        placed (λ value. value ≡ cond (ltb x (at high)) (on_line unit x low high) (along unit x high rows))
        x (at high) (on_line unit x low high) (along unit x high (rows ++ more))
        (λ near. rw (lt-ltb x (at high) near))
        (λ past. rw (le-ltb x (at high) past) (along_before high rows past to))

    -- before the last of the rows, `more` rows behind them do not matter
    pub before_last : (rows : List Row) → x < at (last_of rows) → reading unit (rows ++ more) x ≡ reading unit rows x
    unfolding reading
    before_last [] to = absurd (omega arith)
    before_last (first ∷ rows) to =
        placed (λ value. value ≡ cond (ltb x (at first)) (at_row unit first) (along unit x first rows))
        x (at first) (at_row unit first) (along unit x first (rows ++ more))
        (λ near. rw (lt-ltb x (at first) near))
        (λ past. rw (le-ltb x (at first) past) (along_before first rows past to))

    along_on : (low : Row) (rows : List Row) → Passed x rows
        → along unit x low (rows ++ more) ≡ along unit x (last_from low rows) more
    unfolding along
    along_on low [] p = refl
    along_on low (high ∷ rows) p = rw (le-ltb x (at high) p.0) (along_on high rows p.1)

    -- from the last of the rows on, the walk goes along `more`
    pub from_last : (rows : List Row) → T (ordered rows) → at (last_of rows) ≤ x
        → reading unit (rows ++ more) x ≡ along unit x (last_of rows) more
    unfolding reading
    from_last [] t from = absurd t
    from_last (first ∷ rows) t from =
        let passed = passed_from first rows t from in
        rw (le-ltb x (at first) passed.0) (along_on first rows passed.1)
