-- The rows of the duct one by one, and what a second path says that is there, or is not. Assumes nothing.
use mathlib.Core.Path.{◌≡◌, refl}
use mathlib.Core.Bool.{Bool, true, false, cond}
use mathlib.Core.List.{List, [], ◌∷◌}
use Prim.Native.Nat.{◌+◌, ◌≤◌}
use native.Mathlib.Omega.{arith}
use lib.ListN.{length}
use borrow.Author.Tests.{ltb-false}
use Rattle.std.specs.Prelude.{Some, None, Ok}
use Rattle.fields.specs.declared.segments.Segment.{Segment}
use Rattle.fields.specs.Outcomes.{OrRefusal, onward}
use Rattle.fields.specs.Quantities.{Quantities, is_pretensioned, has_second_path}
use Rattle.checks.specs.Rows.{CheckRow, checked, checked_by, kind_row, second_path_row, friction_row, path_lengths_row}
use Rattle.checks.proofs.Cascade.{row_by_row}
use Rattle.member.specs.declared.path.Path.{Path}
use Rattle.member.specs.declared.path.Paths.{Paths}
use Rattle.member.specs.Constants.{path_friction, path_length, friction_of}
use Rattle.member.specs.Member.{path_of, paths_of, duct_rows}

abbrev alone : CheckRow → OrRefusal (Unit {0})
alone row = checked_by (row ∷ []) tt

no_length : (path : List Segment) → length path ≤ 0 → path ≡ []
no_length [] h = refl
no_length (segment ∷ segments) h = absurd (omega arith)

module _ (q : Quantities) where
  abbrev kinds : OrRefusal (Unit {0})
  kinds = alone (kind_row (is_pretensioned q) (length q.path))

  abbrev second_kinds : OrRefusal (Unit {0})
  second_kinds = alone (second_path_row (is_pretensioned q) (length q.second_path))

  abbrev frictions : List Segment → OrRefusal (Unit {0})
  frictions path = alone (friction_row (friction_of q path))

  abbrev lengths : OrRefusal (Unit {0})
  lengths = alone (path_lengths_row (has_second_path q) (path_length q.path + path_length q.second_path) q.tendon_length)

  pub one_by_one : {A : Type 0} (value : A)
      → checked_by (duct_rows q) value
      ≡ onward kinds (λ _. onward second_kinds (λ _. onward (frictions q.path) (λ _. onward (frictions q.second_path)
      (λ _. onward lengths (λ _. Ok value)))))
  unfolding checked_by
  one_by_one value =
      let from_lengths = path_lengths_row (has_second_path q) (path_length q.path + path_length q.second_path) q.tendon_length ∷ [] in
      let from_second = friction_row (friction_of q q.second_path) ∷ from_lengths in
      let from_first = friction_row (friction_of q q.path) ∷ from_second in
      let from_second_kind = second_path_row (is_pretensioned q) (length q.second_path) ∷ from_first in
      rw (
        row_by_row (kind_row (is_pretensioned q) (length q.path)) from_second_kind value,
        row_by_row (second_path_row (is_pretensioned q) (length q.second_path)) from_first value,
        row_by_row (friction_row (friction_of q q.path)) from_second value,
        row_by_row (friction_row (friction_of q q.second_path)) from_lengths value,
        row_by_row (path_lengths_row (has_second_path q) (path_length q.path + path_length q.second_path) q.tendon_length) [] value,
      )

  -- ---- a second path that is there

  second_in : (has : Bool) {second : Path} → cond has (Some (path_of q q.second_path)) None ≡ Some second → second ≡ path_of q q.second_path
  second_in true e = cc
  second_in false e = cc

  pub second_is : {paths : Paths} {second : Path} → paths ≡ paths_of q → paths.second ≡ Some second → second ≡ path_of q q.second_path
  second_is are e = second_in (has_second_path q) (rw are at e)

  -- ---- and one that is not

  none_in : (has : Bool) → cond has (Some (path_of q q.second_path)) None ≡ None → has ≡ false
  none_in true none = cc
  none_in false none = refl

  pub not_there : {paths : Paths} → paths ≡ paths_of q → paths.second ≡ None → has_second_path q ≡ false
  not_there are none = none_in (has_second_path q) (rw are at none)

  no_segment : has_second_path q ≡ false → q.second_path ≡ []
  no_segment none = no_length q.second_path (ltb-false 0 (length q.second_path) none)

  pub no_friction : has_second_path q ≡ false → frictions q.second_path ≡ Ok tt
  unfolding checked_by checked path_friction
  no_friction none = rw (no_segment none) refl

  pub no_lengths : has_second_path q ≡ false → lengths ≡ Ok tt
  unfolding checked_by checked
  no_lengths none = rw none refl

-- what the function that makes them cites
pub ruleset duct_made = (one_by_one, not_there, no_friction, no_lengths)
