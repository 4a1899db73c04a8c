-- Laws of lines for a card into which a field is put, before the line feed of the last of some lines. The lines before it are read as they
-- were, on a card that ends before that place too, since no line feed is put in; and the last is wrong or missing as it was, or has the
-- field's number behind the others. Further, which number a line's first field has does not matter behind the field that may be blank.
-- Assumes nothing.
use mathlib.Core.Path.{◌≡◌, refl, fun_ext}
use mathlib.Core.Bool.{Bool, true, false, cond, ◌&&◌, not}
use mathlib.Core.List.{List, [], ◌∷◌, ◌++◌, append_assoc, append-nil}
use Prim.Native.Nat.compare
use Prim.Native.Nat.{ℕ, zero, suc, ◌+◌, ◌*◌, ◌≤◌, ◌<◌, min}
use native.Mathlib.Omega.{arith}
use lib.Dec.{eqb}
use lib.ListN.{length, get_or, drop, length-append, length-drop, get_or-append, get_or-eq_default}
use lib.Seq.{drop-append-le, drop-append-add, get_or-append_right}
use borrow.Author.Tests.{eqb-true}
use Rattle.std.proofs.lemmas.List.Folds.{list_all_at}
use Rattle.std.specs.List.{list_all}
use Rattle.std.specs.Prelude.{Option, Some, None, Ok, Err}
use Rattle.line.specs.declared.Blank.{Blank}
use Rattle.fields.specs.Quantities.{columns}
use Rattle.fields.specs.Outcomes.{numbers_in, all_read}
use Rattle.fields.proofs.Laws.{numbers_append}
use Rattle.line.specs.Lines.{field_of, line_feed, line_length, amounts_of, is_shaped, Lines, behind, read_lines}
use Rattle.line.specs.Conditions.{bytes_on}
use Rattle.line.proofs.Amounts.{amounts_front, shaped_long}
use Rattle.line.proofs.BlankField.{number_written, amounts_parts, rest_parts}

-- ---- the number of the first field

module _ (blank : Blank) where
  amounts_numbered : (count field other : ℕ) (bytes : List ℕ) → blank.field < field → blank.field < other
      → amounts_of (Some blank) count field bytes ≡ amounts_of (Some blank) count other bytes
  unfolding amounts_of
  amounts_numbered zero field other bytes h k = refl
  amounts_numbered (suc count) field other bytes h k = grind (arith, amounts_numbered count (suc field) (suc other) (drop columns bytes))

  pub lines_numbered : (counts : List ℕ) (line field other : ℕ) (bytes : List ℕ) → blank.field < field → blank.field < other
      → read_lines (Some blank) counts line field bytes ≡ read_lines (Some blank) counts line other bytes
  unfolding read_lines
  lines_numbered [] line field other bytes h k = refl
  lines_numbered (count ∷ counts) line field other bytes h k =
      rw (
        amounts_numbered count field other bytes h k,
        fun_ext (λ (rest : List ℕ). lines_numbered counts (suc line) (field + count) (other + count) rest (omega arith) (omega arith)),
      )

-- ---- line feeds

-- a line that is not all there has none where it should end
shaped_by_feed : (count : ℕ) (bytes : List ℕ) → is_shaped count bytes ≡ eqb (get_or bytes (columns * count) 0) line_feed
shaped_by_feed count bytes = grind (arith, get_or-eq_default bytes 0 {n = columns * count})

abbrev pub no_line_feed : List ℕ → Bool
no_line_feed bytes = list_all (λ byte. not (eqb byte line_feed)) bytes

none_at : (bytes : List ℕ) (k : ℕ) → no_line_feed bytes ≡ true → eqb (get_or bytes k 0) line_feed ≡ false
none_at bytes k none = grind (arith, list_all_at (λ (byte : ℕ). not (eqb byte line_feed)) bytes k 0, get_or-eq_default bytes 0)

-- what stands before a place and behind it; where that is not reached nothing stands behind it
abbrev pub At : ℕ → List ℕ → List ℕ → Type 0
At place front back = length front ≡ min place (length front + length back)

module _ (mid : List ℕ) (filled : length mid ≡ columns) (none : no_line_feed mid ≡ true) (front back : List ℕ) where
  -- lines that end before the place, and the line whose fields end there
  shaped_before : (place count : ℕ) → At place front back → line_length count ≤ place
      → is_shaped count (front ++ (mid ++ back)) ≡ is_shaped count (front ++ back)
  shaped_before place count at h =
      rw (shaped_by_feed count (front ++ (mid ++ back)), shaped_by_feed count (front ++ back))
      (grind (arith, none_at mid, get_or-append {A = ℕ}, get_or-append_right {A = ℕ}, get_or-eq_default {A = ℕ}))

  shaped_at : (count : ℕ) → length front ≤ columns * count
      → is_shaped (count + 1) (front ++ (mid ++ back)) ≡ is_shaped count (front ++ back)
  shaped_at count h =
      rw (shaped_by_feed (count + 1) (front ++ (mid ++ back)), shaped_by_feed count (front ++ back))
      (grind (arith, get_or-append_right {A = ℕ}))

-- ---- a number more

-- the same line is wrong or missing; or a number stands behind the others, and the same bytes are left over
pub record OneMore (number : ℕ) (now before : Lines) : Type 0 where
  pub rest : now.rest ≡ before.rest
  pub numbers : {left : List ℕ} → before.rest ≡ Ok left → now.numbers ≡ before.numbers ++ (number ∷ [])

module _ (number line : ℕ) where
  both_wrong : (one other : List ℕ)
      → OneMore number (record { numbers = one; rest = Err line }) (record { numbers = other; rest = Err line })
  both_wrong one other = record { rest = refl; numbers = λ e. cc }

  -- a line of the same shape both times; and whose fields are all read both times, or are not
  in_shape : (shaped right right' : Bool) (numbers numbers' rest rest' : List ℕ) (now before : List ℕ → Lines)
      → (shaped ≡ true → OneMore number (behind numbers (cond right (Ok rest) (Err line)) now)
      (behind numbers' (cond right' (Ok rest') (Err line)) before))
      → OneMore number (behind (cond shaped numbers []) (cond (shaped && right) (Ok rest) (Err line)) now)
      (behind (cond shaped numbers' []) (cond (shaped && right') (Ok rest') (Err line)) before)
  in_shape true right right' numbers numbers' rest rest' now before more = more refl
  in_shape false right right' numbers numbers' rest rest' now before more = both_wrong [] []

  if_read : (read : Bool) (numbers numbers' rest rest' : List ℕ) (now before : List ℕ → Lines)
      → (read ≡ true → OneMore number (record { numbers = numbers ++ (now rest).numbers; rest = (now rest).rest })
      (record { numbers = numbers' ++ (before rest').numbers; rest = (before rest').rest }))
      → OneMore number (behind numbers (cond read (Ok rest) (Err line)) now) (behind numbers' (cond read (Ok rest') (Err line)) before)
  if_read true numbers numbers' rest rest' now before more = more refl
  if_read false numbers numbers' rest rest' now before more = both_wrong numbers numbers'

all_read_behind : (amounts : List (Option ℕ)) (number : ℕ) → all_read (amounts ++ (Some number ∷ [])) ≡ all_read amounts
unfolding numbers_in
all_read_behind [] number = refl
all_read_behind (Some n ∷ amounts) number = simp compare.suc-suc (all_read_behind amounts number)
all_read_behind (None ∷ amounts) number = simp compare.zero-suc

module _ (blank : Option Blank) (count number : ℕ) (mid : List ℕ) (filled : length mid ≡ columns) (is : field_of None mid ≡ Some number)
    (none : no_line_feed mid ≡ true) where
  pub one_more : (xs : List ℕ) (line field : ℕ) (front back : List ℕ) → At (bytes_on xs + columns * count) front back
      → OneMore number (read_lines blank (xs ++ ((count + 1) ∷ [])) line field (front ++ (mid ++ back)))
      (read_lines blank (xs ++ (count ∷ [])) line field (front ++ back))
  unfolding read_lines numbers_in
  one_more [] line field front back at =
      rw (shaped_at mid filled none front back count (omega arith))
      (in_shape number line (is_shaped count (front ++ back)) _ _ _ _ _ _ _ _ (λ shaped.
      let long = shaped_long count (front ++ back) shaped in
      let both = length-append front back in
      let amounts = amounts_of blank count field front in
      let full : length front ≡ columns * count = omega arith in
      let last : line_length count ≡ length front + line_length 0 = omega arith in
      rw (
        amounts_parts front mid back count 0 full filled blank field,
        number_written _ number mid is,
        amounts_front blank back count field front (omega arith),
        rest_parts front mid back count 0 full filled,
        last,
        drop-append-add front back (line_length 0),
        all_read_behind amounts number,
      )
      (if_read number line (all_read amounts) _ _ _ _ _ _ (λ read. record {
        rest = refl;
        numbers = λ _.
            simp append-nil
            (numbers_append amounts (Some number ∷ []) (eqb-true (length (numbers_in amounts)) (length amounts) read));
      }))))
  one_more (x ∷ xs) line field front back at =
      rw (shaped_before mid filled none front back (bytes_on (x ∷ xs) + columns * count) x at (omega arith))
      (in_shape number line (is_shaped x (front ++ back)) _ _ _ _ _ _ _ _ (λ shaped.
      let long = shaped_long x (front ++ back) shaped in
      let both = length-append front back in
      let near : line_length x ≤ length front = omega arith in
      let left = drop (line_length x) front in
      let later = one_more xs (suc line) (field + x) left back (omega (arith, length-drop (line_length x) front)) in
      rw (
        amounts_front blank (mid ++ back) x field front (omega arith),
        amounts_front blank back x field front (omega arith),
        drop-append-le (line_length x) front (mid ++ back),
        drop-append-le (line_length x) front back,
      )
      (if_read number line (all_read (amounts_of blank x field front)) _ _ _ _ _ _ (λ _. record {
        rest = later.rest;
        numbers = λ e. rw (later.numbers e, append_assoc);
      }))))
