-- Lines one after the other: groups of them chain, and a turn of the loop over them reads the next. Assumes nothing.
use mathlib.Core.Path.{◌≡◌, refl, sym, ap, ◌∙◌}
use mathlib.Core.Bool.{Bool, true, false, and-eq-true_iff}
use mathlib.Core.List.{List, [], ◌∷◌, ◌++◌, append_assoc, append-nil}
use Prim.Native.Nat.{ℕ, zero, suc, ◌+◌, ◌-◌, ◌*◌, ◌≤◌, ◌<◌}
use native.Mathlib.Nat.{zero-add, add-zero, add_assoc, add_comm, mul-zero, mul-suc, le_of_suc-le-suc}
use native.Mathlib.Numerals.{add-one}
use native.Mathlib.Omega.{arith}
use lib.ListN.{length, get_or, take, drop, replicate, length-append, length-drop}
use lib.Seq.{drop-drop, take-suc, split_at}
use borrow.Author.Tests.{eqb-true}
use borrow.Rule.Slice.PartMut.{mid_of, put_mid}
use Rattle.std.specs.Prelude.{Option, Result, Ok, Err}
use Rattle.fields.specs.Outcomes.{numbers_in, all_read, over}
use Rattle.fields.proofs.Buffers.{length_over, written_behind}
use Rattle.line.specs.declared.Blank.{Blank}
use Rattle.line.specs.declared.lines.Unread.{Unread}
use Rattle.line.specs.Lines.{line_length, amounts_of, is_shaped, is_right, line_numbers, Lines, and_then, behind, read_lines}
use Rattle.line.specs.Conditions.{fields_on, bytes_on, line_from, lines_from, Behind}
use Rattle.line.proofs.Amounts.{amounts_length, shaped_long}

-- ---- a line that is right

right_line : (blank : Option Blank) (count field : ℕ) (bytes : List ℕ) → is_right blank count field bytes ≡ true
    → (line_length count ≤ length bytes) × (length (line_numbers blank count field bytes) ≡ count)
right_line blank count field bytes h =
    let amounts = amounts_of blank count field bytes in
    let right = (and-eq-true_iff (is_shaped count bytes) (all_read amounts)).0 h in
    let shaped : is_shaped count bytes ≡ true = right.0 in
    let numbers : line_numbers blank count field bytes ≡ numbers_in amounts = rw shaped in (
      shaped_long count bytes shaped,
      ap length numbers
          ∙ eqb-true (length (numbers_in amounts)) (length amounts) right.1
          ∙ amounts_length blank count field bytes,
    )

-- ---- lines that are right, and those behind them

pub fields_append : (xs ys : List ℕ) → fields_on (xs ++ ys) ≡ fields_on xs + fields_on ys
fields_append [] ys = sym (zero-add (fields_on ys))
fields_append (x ∷ xs) ys = let h = fields_append xs ys in omega arith

pub bytes_append : (xs ys : List ℕ) → bytes_on (xs ++ ys) ≡ bytes_on xs + bytes_on ys
bytes_append [] ys = sym (zero-add (bytes_on ys))
bytes_append (x ∷ xs) ys = let h = bytes_append xs ys in omega arith

pub record Right (counts bytes : List ℕ) (lines : Lines) (rest : List ℕ) : Type 0 where
  pub rest_is : rest ≡ drop (bytes_on counts) bytes
  pub long : bytes_on counts ≤ length bytes
  pub read : length lines.numbers ≡ fields_on counts

module _ (blank : Option Blank) (count : ℕ) (counts : List ℕ) (line field : ℕ) (bytes rest : List ℕ) where
  abbrev later : Lines
  later = read_lines blank counts (suc line) (field + count) (drop (line_length count) bytes)

  cons_right : (right : Bool) → is_right blank count field bytes ≡ right
      → (read_lines blank (count ∷ counts) line field bytes).rest ≡ Ok rest
      → (later.rest ≡ Ok rest → Right counts (drop (line_length count) bytes) later rest)
      → Right (count ∷ counts) bytes (read_lines blank (count ∷ counts) line field bytes) rest
  unfolding read_lines
  cons_right true q e behind =
      let right = right_line blank count field bytes q in
      let long : line_length count ≤ length bytes = right.0 in
      let first : length (line_numbers blank count field bytes) ≡ count = right.1 in
      let r = behind (rw q at e) in
      let left = length-drop (line_length count) bytes in
      let behind_long = r.long in
      let read = r.read in
      let both = length-append (line_numbers blank count field bytes) later.numbers in
      rw q
      (record {
        rest_is = r.rest_is ∙ drop-drop (bytes_on counts) (line_length count) bytes;
        long = omega arith;
        read = omega arith;
      })
  cons_right false q e behind =
      let no : ◌≡◌ {A = Result (List ℕ) ℕ} (Err line) (Ok rest) = rw q at e in absurd (let z : ⊥ = cc in z)

pub lines_right : (blank : Option Blank) (counts : List ℕ) (line field : ℕ) (bytes rest : List ℕ)
    → (read_lines blank counts line field bytes).rest ≡ Ok rest → Right counts bytes (read_lines blank counts line field bytes) rest
unfolding read_lines
lines_right blank [] line field bytes rest e =
    let same : bytes ≡ rest = cc in record { rest_is = sym same; long = omega arith; read = refl }
lines_right blank (count ∷ counts) line field bytes rest e =
    cons_right blank count counts line field bytes rest (is_right blank count field bytes) refl e
    (lines_right blank counts (suc line) (field + count) (drop (line_length count) bytes) rest)

-- numbers in front of some lines and later ones
prepended : (first numbers : List ℕ) (rest : Result (List ℕ) ℕ) (more : List ℕ → Lines)
    → record { numbers = first ++ (behind numbers rest more).numbers; rest = (behind numbers rest more).rest }
    ≡ behind (first ++ numbers) rest more
prepended first numbers (Ok rest) more =
    ap (λ (l : List ℕ). record { numbers = l; rest = (more rest).rest }) (sym (append_assoc first numbers (more rest).numbers))
prepended first numbers (Err line) more = refl

module _ (blank : Option Blank) (count : ℕ) (xs ys : List ℕ) (line field : ℕ) (bytes : List ℕ) where
  cons_append : (right : Bool) → is_right blank count field bytes ≡ right
      → read_lines blank (xs ++ ys) (suc line) (field + count) (drop (line_length count) bytes)
      ≡ and_then (read_lines blank xs (suc line) (field + count) (drop (line_length count) bytes))
      (read_lines blank ys (suc line + length xs) (field + count + fields_on xs))
      → read_lines blank (count ∷ xs ++ ys) line field bytes
      ≡ and_then (read_lines blank (count ∷ xs) line field bytes)
      (read_lines blank ys (line + suc (length xs)) (field + (count + fields_on xs)))
  unfolding read_lines
  cons_append true q behind_first =
      let next : suc line + length xs ≡ line + suc (length xs) = omega arith in
      rw (q, behind_first, next, add_assoc) (prepended (line_numbers blank count field bytes)
      (read_lines blank xs (suc line) (field + count) (drop (line_length count) bytes)).numbers
      (read_lines blank xs (suc line) (field + count) (drop (line_length count) bytes)).rest
      (read_lines blank ys (line + suc (length xs)) (field + (count + fields_on xs))))
  cons_append false q behind_first = rw q

-- behind some lines stand the later ones, unless one is wrong or missing
pub read_lines_append : (blank : Option Blank) (xs ys : List ℕ) (line field : ℕ) (bytes : List ℕ)
    → read_lines blank (xs ++ ys) line field bytes
    ≡ and_then (read_lines blank xs line field bytes) (read_lines blank ys (line + length xs) (field + fields_on xs))
unfolding read_lines
read_lines_append blank [] ys line field bytes = rw (add-zero line, add-zero field)
read_lines_append blank (count ∷ xs) ys line field bytes =
    cons_append blank count xs ys line field bytes (is_right blank count field bytes) refl
    (read_lines_append blank xs ys (suc line) (field + count) (drop (line_length count) bytes))

-- ---- lines of the same count

pub take_replicate : (n most count : ℕ) → n ≤ most → take n (replicate most count) ≡ replicate n count
take_replicate zero most count h = refl
take_replicate (suc n) zero count h = absurd (omega arith)
take_replicate (suc n) (suc most) count h = ap (λ (l : List ℕ). count ∷ l) (take_replicate n most count (le_of_suc-le-suc h))

pub fields_replicate : (n count : ℕ) → fields_on (replicate n count) ≡ count * n
fields_replicate zero count = sym (mul-zero count)
fields_replicate (suc n) count = rw (fields_replicate n count, mul-suc) (add_comm count (count * n))

pub bytes_replicate : (n count : ℕ) → bytes_on (replicate n count) ≡ line_length count * n
bytes_replicate zero count = sym (mul-zero (line_length count))
bytes_replicate (suc n) count = rw (bytes_replicate n count, mul-suc) (add_comm (line_length count) (line_length count * n))

-- ---- reading on

-- behind a wrong or missing line no other is read
pub stops_there : (xs ys : List ℕ) (unread : Unread) {line : ℕ} → (lines_from unread xs).rest ≡ Err line
    → lines_from unread (xs ++ ys) ≡ record { numbers = (lines_from unread xs).numbers; rest = Err line }
stops_there xs ys unread e = read_lines_append unread.blank xs ys unread.line unread.field unread.bytes.now ∙ rw e refl

module _ {xs : List ℕ} {old now : Unread} (there : Behind (lines_from old xs) xs old now) where
  -- what some lines give and later ones behind them
  pub from_there : (ys : List ℕ) → lines_from old (xs ++ ys)
      ≡ record { numbers = (lines_from old xs).numbers ++ (lines_from now ys).numbers; rest = (lines_from now ys).rest }
  from_there ys =
      read_lines_append old.blank xs ys old.line old.field old.bytes.now
      ∙ rw (there.rest, sym there.line, sym there.field, sym there.blank) refl

  pub right_there : Right xs old.bytes.now (lines_from old xs) now.bytes.now
  right_there = lines_right old.blank xs old.line old.field old.bytes.now now.bytes.now there.rest

  pub goes_on : {ys : List ℕ} {new : Unread} → Behind (lines_from now ys) ys now new
      → Behind (lines_from old (xs ++ ys)) (xs ++ ys) old new
  goes_on {ys = ys} then =
      let lines = length-append xs ys in
      let fields = fields_append xs ys in
      let line_before = there.line in
      let field_before = there.field in
      let line_now = then.line in
      let field_now = then.field in
      record {
        rest = ap (λ (l : Lines). l.rest) (from_there ys) ∙ then.rest;
        line = omega arith;
        field = omega arith;
        blank = then.blank ∙ there.blank;
      }

alone : (numbers : List ℕ) (rest : Result (List ℕ) ℕ)
    → behind numbers rest (λ bytes. record { numbers = []; rest = Ok bytes }) ≡ record { numbers = numbers; rest = rest }
alone numbers (Ok rest) = ap (λ (l : List ℕ). record { numbers = l; rest = Ok rest }) (append-nil numbers)
alone numbers (Err line) = refl

one_line : (unread : Unread) (count : ℕ) → lines_from unread (count ∷ []) ≡ line_from unread count
unfolding read_lines
one_line unread count = alone _ _

stops : (unread : Unread) (count : ℕ) (counts : List ℕ) {line : ℕ} → (line_from unread count).rest ≡ Err line
    → lines_from unread (count ∷ counts) ≡ record { numbers = (line_from unread count).numbers; rest = Err line }
unfolding read_lines
stops unread count counts e = rw e

-- ---- the loop over lines

-- `done` lines are right, and their numbers stand at the front of the buffer
pub record LinesFront (counts : List ℕ) (old now : Unread) (was fields : List ℕ) (done read : ℕ) : Type 0 where
  pub room : fields_on counts ≤ length was
  pub within : done ≤ length counts
  pub there : Behind (lines_from old (take done counts)) (take done counts) old now
  pub read_is : read ≡ fields_on (take done counts)
  pub read_fits : read ≤ length was
  pub same : length fields ≡ length was
  pub is : fields ≡ over (lines_from old (take done counts)).numbers was

pub no_lines : (counts : List ℕ) (old : Unread) (was : List ℕ) → fields_on counts ≤ length was → LinesFront counts old old was was 0 0
unfolding read_lines
no_lines counts old was room = record {
  room = room;
  within = omega arith;
  there = record { rest = refl; line = omega arith; field = omega arith; blank = refl };
  read_is = refl;
  read_fits = omega arith;
  same = refl;
  is = refl;
}

module _ {counts : List ℕ} {old now : Unread} {was fields : List ℕ} {done read : ℕ}
    (f : LinesFront counts old now was fields done read) where
  module _ (more : done < length counts) where
    abbrev count : ℕ
    count = get_or counts done 0

    pub fits : read + count ≤ fields_on counts
    fits =
        let whole : fields_on counts ≡ fields_on (take done counts) + (count + fields_on (drop (suc done) counts)) =
        ap fields_on (split_at counts done 0 more) ∙ fields_append (take done counts) (count ∷ drop (suc done) counts) in
        let is = f.read_is in
        omega arith

    -- the next line, read into the rest of the buffer
    module _ (after : List ℕ) (written : after ≡ over (line_from now count).numbers (mid_of read (length fields - read) fields)) where
      abbrev buffer : List ℕ
      buffer = put_mid read (length fields - read) fields after

      buffer_is : buffer ≡ over ((lines_from old (take done counts)).numbers ++ (line_from now count).numbers) was
      buffer_is =
          written_behind (lines_from old (take done counts)).numbers (line_from now count).numbers was fields after read
          (f.read_is ∙ sym (right_there f.there).read) f.is written

      pub next_line : {new : Unread} → Behind (line_from now count) (count ∷ []) now new
          → LinesFront counts old new was buffer (done + 1) (read + count)
      next_line then =
          let taken : take (done + 1) counts ≡ take done counts ++ (count ∷ []) = rw (add-one, take-suc counts done 0) in
          let next = rw (sym (one_line now count)) at then in
          let there = goes_on f.there next in
          let one = fields_append (take done counts) (count ∷ []) in
          let fit = fits in
          let is = f.read_is in
          let room = f.room in
          let lines : lines_from old (take (done + 1) counts)
          ≡ record {
            numbers = (lines_from old (take done counts)).numbers ++ (line_from now count).numbers;
            rest = (line_from now count).rest;
          } =
          ap (lines_from old) taken ∙ from_there f.there (count ∷ [])
          ∙ ap
          (λ (l : Lines). record { numbers = (lines_from old (take done counts)).numbers ++ l.numbers; rest = l.rest })
          (one_line now count) in
          let long = length-append (lines_from old (take done counts)).numbers (line_from now count).numbers in
          let passed = (right_there f.there).read in
          let read_now = ap (λ (l : Lines). length l.numbers) (sym (one_line now count)) ∙ (right_there next).read in
          record {
            room = f.room;
            within = omega arith;
            there = rw taken there;
            read_is = rw taken (omega arith);
            read_fits = omega arith;
            same = ap length buffer_is ∙ length_over _ was (omega arith);
            is = buffer_is ∙ ap (λ (l : Lines). over l.numbers was) (sym lines);
          }

      pub wrong_line : {line : ℕ} → (line_from now count).rest ≡ Err line
          → ((lines_from old counts).rest ≡ Err line) × (buffer ≡ over (lines_from old counts).numbers was)
      wrong_line {line = line} e =
          let lines : lines_from old counts
          ≡ record { numbers = (lines_from old (take done counts)).numbers ++ (line_from now count).numbers; rest = Err line } =
          ap (lines_from old) (split_at counts done 0 more) ∙ from_there f.there (count ∷ drop (suc done) counts)
          ∙ ap
          (λ (l : Lines). record { numbers = (lines_from old (take done counts)).numbers ++ l.numbers; rest = l.rest })
          (stops now count (drop (suc done) counts) e) in
          (ap (λ (l : Lines). l.rest) lines, buffer_is ∙ ap (λ (l : Lines). over l.numbers was) (sym lines))
