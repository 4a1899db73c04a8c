-- Of the fields that are left to be held to their ranges: the first, and those behind it; fewer are none. Assumes nothing.
use mathlib.Core.Path.{◌≡◌}
use mathlib.Core.List.{List, [], ◌∷◌}
use Prim.Native.Nat.{ℕ, ◌+◌, ◌≤◌, ◌<◌}
use native.Mathlib.Numerals.{add-one}
use lib.ListN.{length, get_or, drop, drop_of_length-le}
use lib.Seq.{drop-cons}
use Rattle.std.specs.Prelude.{Ok}
use Rattle.fields.specs.Sizes.{most_fields}
use Rattle.fields.specs.Limits.{within}
use Rattle.checks.specs.Rows.{at, checked}
use Rattle.checks.specs.Ranged.{Elements, ranges_held}
use Rattle.checks.proofs.Rows.{before, first}

module _ (ranges : List (ℕ × ℕ × ℕ)) (k : ℕ) where
  abbrev next : ℕ × ℕ × ℕ
  next = get_or ranges k (0, 0, 0)

  left_is : k < length ranges → drop k ranges ≡ next ∷ drop (k + 1) ranges
  left_is h = rw add-one (drop-cons ranges k (0, 0, 0) h)

  pub next_within : k < length ranges → Elements (drop k ranges) → next.0 < most_fields
  next_within h all = (rw (left_is h) at all).0

  pub later_within : k < length ranges → Elements (drop k ranges) → Elements (drop (k + 1) ranges)
  later_within h all = (rw (left_is h) at all).1

  pub next_held : (numbers : List ℕ) → k < length ranges
      → checked (ranges_held numbers (drop k ranges))
      ≡ before (checked (at (next.0 + 1) (within next.1 next.2 (get_or numbers next.0 0)) ∷ []))
      (checked (ranges_held numbers (drop (k + 1) ranges)))
  unfolding ranges_held
  next_held numbers h = rw (left_is h) (first _ (ranges_held numbers (drop (k + 1) ranges)))

  pub all_held : (numbers : List ℕ) → length ranges ≤ k → checked (ranges_held numbers (drop k ranges)) ≡ Ok tt
  unfolding ranges_held checked
  all_held numbers h = rw (drop_of_length-le ranges {i = k} h)

pub ruleset ranges_along = (next_within, later_within, next_held, all_held)
