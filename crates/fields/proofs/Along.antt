-- Parts of the fields, each of so many: how many they are, the first of them and those behind it, and those that are cut out of more
-- fields. Along the counts. Assumes nothing.
use mathlib.Core.Path.{◌≡◌, refl, ap, ◌∙◌}
use mathlib.Core.List.{List, [], ◌∷◌, ◌++◌}
use Prim.Native.Nat.{ℕ, zero, suc, ◌+◌, ◌-◌, ◌*◌, ◌/◌, ◌<◌, ◌≤◌}
use native.Mathlib.Nat.{zero-add}
use native.Mathlib.Omega.{arith}
use lib.ListN.{length, take, drop, length-drop}
use lib.Seq.{drop-drop}
use Rattle.std.proofs.Math.Nat.{add-sub_cancel_left, mul-suc, mul-div_cancel_left, div-eq_of_lt, div-eq-sub-div}
use Rattle.std.proofs.lemmas.List.{drop-take, length-take-le}
use Rattle.fields.specs.Quantities.{parts_from}
use Rattle.fields.specs.Along.{parts_of, Front}

pub parts_length : {A : Type 0} (width : ℕ) (part_at : List ℕ → A) (count : ℕ) (fields : List ℕ)
    → length (parts_from width part_at count fields) ≡ count
unfolding parts_from
parts_length width part_at zero fields = refl
parts_length width part_at (suc count) fields = ap suc (parts_length width part_at count (drop width fields))

-- some parts, and others behind them
pub parts_append : {A : Type 0} (width : ℕ) (part_at : List ℕ → A) (one other : ℕ) (fields : List ℕ)
    → parts_from width part_at one fields ++ parts_from width part_at other (drop (width * one) fields)
    ≡ parts_from width part_at (one + other) fields
unfolding parts_from
parts_append width part_at zero other fields =
    let none : width * 0 ≡ 0 = omega arith in
    rw (none, zero-add other)
parts_append width part_at (suc one) other fields =
    let on : width * suc one ≡ width + width * one = mul-suc width one ∙ (omega arith) in
    let more : suc one + other ≡ suc (one + other) = omega arith in
    rw (on, more, ← drop-drop, ← parts_append width part_at one other (drop width fields))

module _ {A : Type 0} (width : ℕ) (part_at : List ℕ → A) where
  pub none_left : (fields : List ℕ) → length fields < width → parts_of width part_at fields ≡ []
  unfolding parts_from
  none_left fields few = rw (div-eq_of_lt few)

  pub first_left : (fields : List ℕ) → 0 < width → width ≤ length fields
      → parts_of width part_at fields ≡ part_at fields ∷ parts_of width part_at (drop width fields)
  unfolding parts_from
  first_left fields some enough =
      let more : length fields / width ≡ suc ((length fields - width) / width) = div-eq-sub-div some enough ∙ (omega arith) in
      rw (more, length-drop)

  module _ (front : Front width part_at) where
    taken : (count : ℕ) (fields : List ℕ)
        → parts_from width part_at count (take (width * count) fields) ≡ parts_from width part_at count fields
    unfolding parts_from
    taken zero fields = refl
    taken (suc count) fields =
        let more : width * suc count ≡ width + width * count = mul-suc width count ∙ (omega arith) in
        rw (
          more,
          front (width + width * count) fields (omega arith),
          drop-take width (width * count) fields,
          taken count (drop width fields),
        )

    pub parts_in : (first count : ℕ) (fields : List ℕ) → 0 < width → first + width * count ≤ length fields
        → parts_of width part_at (take (first + width * count - first) (drop first fields))
        ≡ parts_from width part_at count (drop first fields)
    parts_in first count fields some room =
        let long : length (take (width * count) (drop first fields)) ≡ width * count =
        length-take-le (width * count) (drop first fields) (simp length-drop (omega arith)) in
        rw (add-sub_cancel_left first (width * count), long, mul-div_cancel_left count some) (taken count (drop first fields))
