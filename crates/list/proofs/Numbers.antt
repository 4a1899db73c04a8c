-- The numbers of some fields, read one after the other into a buffer: where they are begun, one more, and a refused field. The numbers of
-- the first fields stand at the buffer's front, none of these is refused, and the rest is as it was; a field more is one number more. And
-- fields read in two parts, the second into what is left of the buffer, where the first is read whole. Assumes nothing.
use mathlib.Core.Path.{◌≡◌, refl, sym, ap, ◌∙◌}
use mathlib.Core.List.{List, [], ◌∷◌, ◌++◌, append-nil}
use Prim.Native.Nat.{ℕ, suc, ◌+◌, ◌-◌, ◌≤◌, ◌<◌}
use native.Mathlib.Numerals.{add-one}
use native.Mathlib.Omega.{arith}
use lib.ListN.{length, get_or, take, drop, set, length-append, length-set}
use lib.Seq.{take-suc, length-take-le, split_at}
use borrow.Rule.Slice.PartMut.{mid_of, put_mid}
use Rattle.std.specs.Prelude.{Option, Some, None, Result, Ok, Err, MatchResult, IsErrAnd}
use Rattle.std.proofs.lemmas.Bool.Decides.{nat_tests}
use Rattle.fields.specs.Outcomes.{numbers_in, over}
use Rattle.fields.proofs.Laws.{numbers_append}
use Rattle.fields.proofs.Buffers.{length_over, written_behind, set_behind}
use Rattle.list.specs.Measures.{Written}

-- ---- field by field

-- the first `at` fields are read, and their numbers stand at the front
pub record Front (amounts : List (Option ℕ)) (old now : List ℕ) (at : ℕ) : Type 0 where
  pub within : at ≤ length amounts
  pub same : length now ≡ length old
  pub all : length (numbers_in (take at amounts)) ≡ at
  pub is : now ≡ over (numbers_in (take at amounts)) old

pub begun : (amounts : List (Option ℕ)) (old : List ℕ) → Front amounts old old 0
unfolding numbers_in
begun amounts old = record { within = omega arith; same = refl; all = refl; is = refl }

module _ {amounts : List (Option ℕ)} {old now : List ℕ} {at : ℕ} (f : Front amounts old now at) where
  abbrev done : List ℕ
  done = numbers_in (take at amounts)

  behind : (ys : List (Option ℕ)) → numbers_in (take at amounts ++ ys) ≡ done ++ numbers_in ys
  behind ys = numbers_append (take at amounts) ys (f.all ∙ sym (length-take-le at amounts f.within))

  -- the next field, as it is read
  module _ {amount : Option ℕ} (more : at < length amounts) (next : get_or amounts at None ≡ amount) where
    pub one_more : (n : ℕ) → at < length old → amount ≡ Some n → Front amounts old (set now at n) (at + 1)
    unfolding numbers_in
    one_more n room e =
        let numbers : numbers_in (take (at + 1) amounts) ≡ done ++ (n ∷ []) =
        rw (add-one, take-suc amounts at None more, next, e) (behind (Some n ∷ [])) in
        record {
          within = omega arith;
          same = length-set now at n ∙ f.same;
          all = ap length numbers ∙ length-append done (n ∷ []) ∙ ap (λ (k : ℕ). k + 1) f.all;
          is =
              ap (λ (l : List ℕ). set l at n) f.is
              ∙ set_behind done old n at f.all room
              ∙ ap (λ (l : List ℕ). over l old) (sym numbers);
        }

    pub stopped : amount ≡ None → Written amounts old now (Err at)
    unfolding numbers_in
    stopped e =
        let numbers : numbers_in amounts ≡ done =
        ap numbers_in (split_at amounts at None more)
        ∙ ap (λ (a : Option ℕ). numbers_in (take at amounts ++ (a ∷ drop (suc at) amounts))) (next ∙ e)
        ∙ behind (None ∷ drop (suc at) amounts) ∙ append-nil done in
        record { reading_is = grind (arith, nat_tests); buffer_is = f.is ∙ ap (λ (l : List ℕ). over l old) (sym numbers) }

-- ---- part by part

numbers_within : (amounts : List (Option ℕ)) → length (numbers_in amounts) ≤ length amounts
unfolding numbers_in
numbers_within [] = omega arith
numbers_within (Some n ∷ amounts) = let h = numbers_within amounts in omega arith
numbers_within (None ∷ amounts) = omega arith

numbers_cut : (xs ys : List (Option ℕ)) → length (numbers_in xs) < length xs → numbers_in (xs ++ ys) ≡ numbers_in xs
unfolding numbers_in
numbers_cut [] ys h = absurd (omega arith)
numbers_cut (Some n ∷ xs) ys h = ap (λ (l : List ℕ). n ∷ l) (numbers_cut xs ys (omega arith))
numbers_cut (None ∷ xs) ys h = refl

-- what was answered, of fields that stand behind so many
abbrev pub behind_those : ℕ → Result Unit ℕ → Result Unit ℕ
behind_those at (Ok tt) = Ok tt
behind_those at (Err read) = Err (at + read)

-- which is what the code answers, whose closure says how many fields then are read
pub behind_is : (at : ℕ) (reading answer : Result Unit ℕ) {gives : ℕ → ℕ → Type 0}
    → MatchResult reading (λ done. answer ≡ Ok done) (λ read. IsErrAnd answer (gives read))
    → ((read place : ℕ) → gives read place → place ≡ at + read) → answer ≡ behind_those at reading
behind_is at (Ok tt) answer given placed = given
behind_is at (Err read) (Ok tt) given placed = absurd given
behind_is at (Err read) (Err place) given placed = ap Err (placed read place given)

module _ (xs : List (Option ℕ)) (old : List ℕ) {now : List ℕ} where
  pub kept : {reading : Result Unit ℕ} → Written xs old now reading → length xs ≤ length old → length now ≡ length old
  kept w h = let within = numbers_within xs in ap length w.buffer_is ∙ length_over (numbers_in xs) old (omega arith)

  -- a field of the first part is refused
  pub cut : (ys : List (Option ℕ)) {read : ℕ} → Written xs old now (Err read) → Written (xs ++ ys) old now (Err read)
  cut ys {read} w =
      let refused : length (numbers_in xs) < length xs = grind (arith, nat_tests, numbers_within) in
      let numbers : numbers_in (xs ++ ys) ≡ numbers_in xs = numbers_cut xs ys refused in
      record {
        reading_is = grind (arith, nat_tests, length-append);
        buffer_is = w.buffer_is ∙ ap (λ (l : List ℕ). over l old) (sym numbers);
      }

  -- none is, and the second part is read behind it
  pub joined : (ys : List (Option ℕ)) (at : ℕ) {part : List ℕ} {reading : Result Unit ℕ}
      → Written xs old now (Ok tt) → length xs ≡ at → Written ys (mid_of at (length now - at) now) part reading
      → Written (xs ++ ys) old (put_mid at (length now - at) now part) (behind_those at reading)
  joined ys at {part} {reading} w long v =
      let all : length (numbers_in xs) ≡ length xs = grind (arith, nat_tests) in
      let numbers : numbers_in (xs ++ ys) ≡ numbers_in xs ++ numbers_in ys = numbers_append xs ys all in
      record {
        reading_is = grind (arith, nat_tests, length-append);
        buffer_is =
            written_behind (numbers_in xs) (numbers_in ys) old now part at (omega arith) w.buffer_is v.buffer_is
            ∙ ap (λ (l : List ℕ). over l old) (sym numbers);
      }
