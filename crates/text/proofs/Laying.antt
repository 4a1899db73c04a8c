-- A number is laid out from its last column to its first: the columns that are still due and what stands behind them make the whole.
-- Numbers of a line follow each other, each behind those that are done. Assumes nothing.
use mathlib.Core.Path.{◌≡◌, refl, sym, ap, ◌∙◌}
use mathlib.Core.List.{List, [], ◌∷◌, ◌++◌, append_assoc, append-nil}
use Prim.Native.Nat.{ℕ, zero, suc, ◌+◌, ◌-◌, ◌*◌, ◌/◌, ◌≤◌, ◌<◌}
use native.Mathlib.Numerals.{add-one}
use native.Mathlib.Omega.{arith}
use lib.ListN.{length, get_or, take, drop, set, length-append}
use borrow.Rule.Slice.PartMut.{mid_of, put_mid}
use Rattle.std.proofs.lemmas.List.{drop-set, length-take-le, take_all, take_more}
use Rattle.fields.specs.Quantities.{columns}
use Rattle.fields.specs.Outcomes.{over}
use Rattle.fields.proofs.Buffers.{written_behind, set_behind}
use Rattle.line.specs.Lines.{line_feed, line_length}
use Rattle.text.specs.Columns.{digit_or_space, first_columns, in_columns, all_in_columns, line_of, Holds}
use Rattle.text.specs.Conditions.{Counted}

-- a text that a buffer begins with lies within it
pub counted : {text : List ℕ} {bytes : ℕ} {buffer old : List ℕ} → Holds text bytes buffer old → Counted bytes buffer
counted {text} {bytes} {buffer} {old} holds =
    let bytes_are = holds.bytes_are in
    let whole = ap length holds.buffer_is ∙ length-append text (drop (length text) old) in
    let within : bytes ≤ length buffer = omega arith in
    (within, sym (length-take-le bytes buffer within))

pub columns_length : (column rest : ℕ) → length (first_columns column rest) ≡ column
unfolding first_columns
columns_length zero rest = refl
columns_length (suc column) rest =
    length-append (first_columns column (rest / 10)) (digit_or_space rest column ∷ [])
    ∙ (let before = columns_length column (rest / 10) in omega arith)

-- ---- a number

-- a part whose columns from `column` on are laid out, where `rest` is left of the number
pub record Laid (number : ℕ) (old part : List ℕ) (column rest : ℕ) : Type 0 where
  pub text : first_columns column rest ++ drop column part ≡ over (in_columns number) old

pub none_laid : (number : ℕ) (old : List ℕ) → Laid number old old columns number
none_laid number old = record { text = rw (columns_length columns number) }

module _ {number : ℕ} {old part : List ℕ} {column rest : ℕ} (laid : Laid number old part column rest) where
  pub one_more : 0 < column → column ≤ length part
      → Laid number old (set part (column - 1) (digit_or_space rest (column - 1))) (column - 1) (rest / 10)
  unfolding first_columns
  one_more some room =
      let next : column ≡ suc (column - 1) = omega arith in
      let here : column - 1 < length part = omega arith in
      record {
        text = rw (drop-set part (column - 1) (digit_or_space rest (column - 1)), add-one)
            (sym (append_assoc (first_columns (column - 1) (rest / 10)) (digit_or_space rest (column - 1) ∷ []) (drop (suc (column - 1)) part))
            ∙ (rw next at laid.text));
      }

  pub all_laid : column ≤ 0 → part ≡ over (in_columns number) old
  unfolding first_columns
  all_laid none = let first : column ≡ 0 = omega arith in rw first at laid.text

-- ---- a line

pub all_length : (numbers : List ℕ) → length (all_in_columns numbers) ≡ columns * length numbers
unfolding all_in_columns
all_length [] = refl
all_length (number ∷ numbers) =
    let first = columns_length columns number in
    let later = all_length numbers in
    length-append (in_columns number) (all_in_columns numbers) ∙ (omega arith)

pub line_length_is : (numbers : List ℕ) → length (line_of numbers) ≡ line_length (length numbers)
line_length_is numbers = let all = all_length numbers in length-append (all_in_columns numbers) (line_feed ∷ []) ∙ (omega arith)

all_append : (xs : List ℕ) (y : ℕ) → all_in_columns (xs ++ (y ∷ [])) ≡ all_in_columns xs ++ in_columns y
unfolding all_in_columns
all_append [] y = append-nil (in_columns y)
all_append (x ∷ xs) y = rw (all_append xs y) (sym (append_assoc (in_columns x) (all_in_columns xs) (in_columns y)))

-- a part that begins with the first numbers of a line, so many of them
pub record Begun (numbers old part : List ℕ) (done : ℕ) : Type 0 where
  pub part_is : part ≡ over (all_in_columns (take done numbers)) old

pub none_begun : (numbers old : List ℕ) → Begun numbers old old 0
unfolding all_in_columns
none_begun numbers old = record { part_is = refl }

module _ {numbers old part : List ℕ} {done : ℕ} (begun : Begun numbers old part done) where
  pub one_number_more : done < length numbers → (after : List ℕ)
      → after ≡ over (in_columns (get_or numbers done 0)) (mid_of (columns * done) (length part - columns * done) part)
      → Begun numbers old (put_mid (columns * done) (length part - columns * done) part after) (done + 1)
  one_number_more more after written =
      let before = take done numbers in
      let at : columns * done ≡ length (all_in_columns before) =
      sym (all_length before ∙ ap (λ (n : ℕ). columns * n) (length-take-le done numbers (omega arith))) in
      record {
        part_is = rw (take_more numbers done 0, all_append)
            (written_behind (all_in_columns before) (in_columns (get_or numbers done 0)) old part after (columns * done) at begun.part_is written);
      }

  -- the line feed ends it
  pub ended : length numbers ≤ done → line_length (length numbers) ≤ length old
      → Holds (line_of numbers) (columns * length numbers + 1) (set part (columns * length numbers) line_feed) old
  ended all room =
      let whole : take done numbers ≡ numbers = take_all done numbers all in
      let count = all_length numbers in
      record {
        bytes_are = sym (line_length_is numbers);
        buffer_is = ap (λ (l : List ℕ). set l (columns * length numbers) line_feed) (rw whole at begun.part_is)
            ∙ set_behind (all_in_columns numbers) old line_feed (columns * length numbers) count (omega arith);
      }
