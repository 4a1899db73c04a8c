-- The fields of a line, one after the other: the numbers of the first `done` fields stand at the front of the buffer, all of them
-- read, and a turn of the loop adds the next. Assumes nothing.
use mathlib.Core.Path.{◌≡◌, refl, sym, ap, ◌∙◌}
use mathlib.Core.Bool.{Bool, true, false, and-eq-true_iff}
use mathlib.Core.List.{List, [], ◌∷◌, ◌++◌, append-nil}
use Prim.Native.Nat.{ℕ, zero, suc, ◌+◌, ◌-◌, ◌*◌, ◌≤◌, ◌<◌}
use native.Mathlib.Nat.{zero-add, add-zero, suc-add}
use native.Mathlib.Omega.{arith}
use lib.Dec.{leb, eqb}
use lib.ListN.{length, get_or, take, drop, set, length-append, length-drop, length-set}
use lib.Seq.{drop-drop, take-append-le, drop-append-le}
use borrow.Author.Tests.{leb-true, eq-eqb, ne_eqb}
use Rattle.std.specs.Prelude.{Option, Some, None}
use Rattle.line.specs.declared.Blank.{Blank}
use Rattle.fields.specs.Outcomes.{numbers_in, all_read, over}
use Rattle.fields.proofs.Buffers.{set_behind}
use Rattle.fields.proofs.Laws.{numbers_append}
use Rattle.fields.specs.Quantities.{columns}
use Rattle.line.specs.Lines.{field_of, blank_reads, amounts_of, line_feed, line_length, is_shaped, is_right, line_numbers}

-- ---- amounts

pub amounts_length : (blank : Option Blank) (count field : ℕ) (bytes : List ℕ) → length (amounts_of blank count field bytes) ≡ count
unfolding amounts_of
amounts_length blank zero field bytes = refl
amounts_length blank (suc count) field bytes = ap suc (amounts_length blank count (suc field) (drop columns bytes))

pub amounts_append : (blank : Option Blank) (a b field : ℕ) (bytes : List ℕ)
    → amounts_of blank (a + b) field bytes ≡ amounts_of blank a field bytes ++ amounts_of blank b (field + a) (drop (columns * a) bytes)
unfolding amounts_of
amounts_append blank zero b field bytes = rw (zero-add, add-zero)
amounts_append blank (suc a) b field bytes =
    let next : suc field + a ≡ field + suc a = omega arith in
    let far : columns + columns * a ≡ columns * suc a = omega arith in
    rw (suc-add)
    (ap (λ (l : List (Option ℕ)). field_of (blank_reads blank field) (take columns bytes) ∷ l)
    (amounts_append blank a b (suc field) (drop columns bytes)
    ∙ ap (λ (l : List ℕ). amounts_of blank a (suc field) (drop columns bytes) ++ amounts_of blank b (suc field + a) l)
    (drop-drop (columns * a) columns bytes)
    ∙ ap (λ (k : ℕ). amounts_of blank a (suc field) (drop columns bytes) ++ amounts_of blank b (suc field + a) (drop k bytes)) far
    ∙ ap (λ (k : ℕ). amounts_of blank a (suc field) (drop columns bytes) ++ amounts_of blank b k (drop (columns * suc a) bytes)) next))

-- more bytes behind a line's change none of its amounts
pub amounts_front : (blank : Option Blank) (back : List ℕ) (count field : ℕ) (front : List ℕ) → columns * count ≤ length front
    → amounts_of blank count field (front ++ back) ≡ amounts_of blank count field front
unfolding amounts_of
amounts_front blank back zero field front h = refl
amounts_front blank back (suc count) field front h =
    let long : columns ≤ length front = omega arith in
    rw (take-append-le columns front back, drop-append-le columns front back)
    (rw (amounts_front blank back count (suc field) (drop columns front) (omega (arith, length-drop columns front))))

pub shaped_long : (count : ℕ) (bytes : List ℕ) → is_shaped count bytes ≡ true → line_length count ≤ length bytes
shaped_long count bytes shaped =
    leb-true (line_length count) (length bytes)
    ((and-eq-true_iff (leb (line_length count) (length bytes)) (eqb (get_or bytes (columns * count) 0) line_feed)).0 shaped).0

-- ---- the loop over a line's fields

-- the line is all there and ends where it should; `done` of its fields are read, and their numbers stand at the front of the buffer
pub record Front (blank : Option Blank) (bytes : List ℕ) (count field : ℕ) (old now : List ℕ) (done : ℕ) : Type 0 where
  pub room : count ≤ length old
  pub shaped : is_shaped count bytes ≡ true
  pub long : columns * count < length bytes
  pub within : done ≤ count
  pub same : length now ≡ length old
  pub read : length (numbers_in (amounts_of blank done field bytes)) ≡ done
  pub is : now ≡ over (numbers_in (amounts_of blank done field bytes)) old

pub begins : (blank : Option Blank) (bytes : List ℕ) (count field : ℕ) (old : List ℕ) → count ≤ length old
    → is_shaped count bytes ≡ true → Front blank bytes count field old old 0
unfolding amounts_of numbers_in
begins blank bytes count field old room shaped =
    let whole = shaped_long count bytes shaped in
    record { room = room; shaped = shaped; long = omega arith; within = omega arith; same = refl; read = refl; is = refl }

-- what the reader of a line leaves
pub record LineRead (blank : Option Blank) (bytes : List ℕ) (count field : ℕ) (old now : List ℕ) (right : Bool) : Type 0 where
  pub value : is_right blank count field bytes ≡ right
  pub fields_after : now ≡ over (line_numbers blank count field bytes) old

module _ {blank : Option Blank} {bytes : List ℕ} {count field : ℕ} {old now : List ℕ} {done : ℕ}
    (f : Front blank bytes count field old now done) where
  abbrev front : List ℕ
  front = numbers_in (amounts_of blank done field bytes)

  numbers_split : (more : ℕ) → numbers_in (amounts_of blank (done + more) field bytes)
      ≡ front ++ numbers_in (amounts_of blank more (field + done) (drop (columns * done) bytes))
  numbers_split more =
      ap numbers_in (amounts_append blank done more field bytes)
      ∙ numbers_append (amounts_of blank done field bytes) (amounts_of blank more (field + done) (drop (columns * done) bytes))
      (f.read ∙ sym (amounts_length blank done field bytes))

  -- once it is known what all fields read
  ends : {right : Bool} → numbers_in (amounts_of blank count field bytes) ≡ front → all_read (amounts_of blank count field bytes) ≡ right
      → LineRead blank bytes count field old now right
  ends all e =
      let numbers : line_numbers blank count field bytes ≡ front = rw f.shaped all in
      record { value = rw f.shaped e; fields_after = f.is ∙ ap (λ (l : List ℕ). over l old) (sym numbers) }

  pub turn : (number : ℕ) → done < count
      → field_of (blank_reads blank (field + done)) (take columns (drop (columns * done) bytes)) ≡ Some number
      → Front blank bytes count field old (set now done number) (done + 1)
  unfolding amounts_of numbers_in
  turn number h e =
      let r = f.room in
      let all : numbers_in (amounts_of blank (done + 1) field bytes) ≡ front ++ (number ∷ []) = numbers_split 1 ∙ rw e in
      let len : length (front ++ (number ∷ [])) ≡ done + 1 =
      length-append front (number ∷ []) ∙ ap (λ (k : ℕ). k + 1) f.read in
      record {
        room = f.room;
        shaped = f.shaped;
        long = f.long;
        within = omega arith;
        same = length-set now done number ∙ f.same;
        read = ap length all ∙ len;
        is =
            ap (λ (l : List ℕ). set l done number) f.is
            ∙ set_behind front old number done f.read (omega arith)
            ∙ ap (λ (l : List ℕ). over l old) (sym all);
      }

  -- a field that is wrong ends what is read, and the line is wrong
  pub wrong_field : done < count → field_of (blank_reads blank (field + done)) (take columns (drop (columns * done) bytes)) ≡ None
      → LineRead blank bytes count field old now false
  unfolding amounts_of numbers_in
  wrong_field h e =
      let rest : count ≡ done + suc (count - done - 1) = omega arith in
      let all : numbers_in (amounts_of blank count field bytes) ≡ front =
      ap (λ (k : ℕ). numbers_in (amounts_of blank k field bytes)) rest ∙ numbers_split (suc (count - done - 1))
      ∙ rw (e, append-nil) in
      let some : length (numbers_in (amounts_of blank count field bytes)) ≡ length (amounts_of blank count field bytes) → ⊥ =
      λ q. (let l = ap length all in let m = amounts_length blank count field bytes in let z = f.read in omega arith) in
      ends all (ne_eqb _ _ some)

  pub all_fields : count ≤ done → LineRead blank bytes count field old now true
  all_fields h =
      let w = f.within in
      let e : count ≡ done = omega arith in
      let all : numbers_in (amounts_of blank count field bytes) ≡ front = ap (λ (k : ℕ). numbers_in (amounts_of blank k field bytes)) e in
      ends all (eq-eqb _ _ (ap length all ∙ f.read ∙ sym e ∙ sym (amounts_length blank count field bytes)))
