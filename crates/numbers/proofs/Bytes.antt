-- A number's eight bytes as the library has them, and the loops over a host's numbers, a turn at a time, over plain lists. Writing: the
-- buffer begins with the bytes of the numbers so far, eight for each. Reading: the doubles so far stand for the list's first numbers.
-- Assumes nothing.
use mathlib.Core.Path.{◌≡◌, refl, sym, ap, ◌∙◌}
use mathlib.Core.List.{List, [], ◌∷◌, ◌++◌, map, map-append, append_assoc, append-nil}
use Prim.Native.Nat.{ℕ, zero, suc, ◌+◌, ◌-◌, ◌*◌, ◌/◌, ◌≤◌, ◌<◌}
use native.Mathlib.Numerals.{add-one}
use native.Mathlib.Nat.{le_of_suc-le-suc, not-suc-le-zero, div-div-eq-div-mul}
use native.Mathlib.Omega.{arith}
use lib.Ieee.{Float, nan}
use lib.ListN.{length, get_or, take, drop, set, length-append, length-drop, length-map, length-set}
use lib.Seq.{take-suc, length-take-le, drop-cons, drop-drop, set_at, take-append_seam, drop-append_seam}
use borrow.Rule.Slice.PartMut.{put_mid}
use Rattle.std.specs.Int.{w64, to_le_bytes, from_le_bytes}
use Rattle.std.specs.Simd.{first_chunks}
use Rattle.fields.specs.Outcomes.{over}
use Rattle.fields.proofs.Buffers.{length_over}
use Rattle.numbers.specs.Numbers.{bytes_per_number, byte_values, number_of, bytes_of, bytes_of_numbers, written, numbers_from}
use Rattle.numbers.specs.ReadDoubles.{stands_for}

-- ---- a number's bytes

pub bytes_are : (number : ℕ) → to_le_bytes w64 number ≡ bytes_of bytes_per_number number
unfolding bytes_of
bytes_are number = simp div-div-eq-div-mul

pub number_is : (bytes : List ℕ) → length bytes ≡ bytes_per_number → from_le_bytes w64 bytes ≡ number_of bytes
unfolding number_of
number_is [] whole = absurd (omega arith)
number_is (a ∷ []) whole = absurd (omega arith)
number_is (a ∷ b ∷ []) whole = absurd (omega arith)
number_is (a ∷ b ∷ c ∷ []) whole = absurd (omega arith)
number_is (a ∷ b ∷ c ∷ d ∷ []) whole = absurd (omega arith)
number_is (a ∷ b ∷ c ∷ d ∷ e ∷ []) whole = absurd (omega arith)
number_is (a ∷ b ∷ c ∷ d ∷ e ∷ f ∷ []) whole = absurd (omega arith)
number_is (a ∷ b ∷ c ∷ d ∷ e ∷ f ∷ g ∷ []) whole = absurd (omega arith)
number_is (a ∷ b ∷ c ∷ d ∷ e ∷ f ∷ g ∷ h ∷ []) whole = omega arith
number_is (a ∷ b ∷ c ∷ d ∷ e ∷ f ∷ g ∷ h ∷ i ∷ more) whole = absurd (omega arith)

-- the numbers of a list, eight bytes each
chunk_at : (count read : ℕ) (list : List ℕ) → read < count
    → get_or (first_chunks bytes_per_number count list) read [] ≡ take bytes_per_number (drop (bytes_per_number * read) list)
chunk_at zero read list h = absurd (not-suc-le-zero h)
chunk_at (suc count) zero list h = refl
chunk_at (suc count) (suc read) list h =
    let on : bytes_per_number + bytes_per_number * read ≡ bytes_per_number * suc read = omega arith in
    chunk_at count read (drop bytes_per_number list) (le_of_suc-le-suc h)
    ∙ ap (take bytes_per_number) (drop-drop (bytes_per_number * read) bytes_per_number list ∙ ap (λ (n : ℕ). drop n list) on)

pub number_at : (list : List ℕ) (read : ℕ) {chunks : List (List ℕ)}
    → chunks ≡ first_chunks bytes_per_number (length list / bytes_per_number) list
    → bytes_per_number * read + bytes_per_number ≤ length list
    → from_le_bytes w64 (get_or chunks read []) ≡ number_of (take bytes_per_number (drop (bytes_per_number * read) list))
number_at list read is h =
    rw (is, chunk_at (length list / bytes_per_number) read list (omega arith))
    (number_is (take bytes_per_number (drop (bytes_per_number * read) list))
    (length-take-le bytes_per_number (drop (bytes_per_number * read) list) (simp length-drop (omega arith))))

-- ---- writing

bytes_length : (count number : ℕ) → length (bytes_of count number) ≡ count
unfolding bytes_of
bytes_length zero number = refl
bytes_length (suc count) number = ap suc (bytes_length count (number / byte_values))

pub bytes_of_numbers_length : (numbers : List ℕ) → length (bytes_of_numbers numbers) ≡ bytes_per_number * length numbers
unfolding bytes_of_numbers
bytes_of_numbers_length [] = refl
bytes_of_numbers_length (number ∷ numbers) =
    let one = bytes_length bytes_per_number number in
    let others = bytes_of_numbers_length numbers in
    rw (length-append (bytes_of bytes_per_number number) (bytes_of_numbers numbers)) (omega arith)

bytes_behind : (numbers : List ℕ) (number : ℕ)
    → bytes_of_numbers (numbers ++ (number ∷ [])) ≡ bytes_of_numbers numbers ++ bytes_of bytes_per_number number
unfolding bytes_of_numbers
bytes_behind [] number = simp append-nil
bytes_behind (first ∷ numbers) number =
    rw (bytes_behind numbers number)
    (sym (append_assoc (bytes_of bytes_per_number first) (bytes_of_numbers numbers) (bytes_of bytes_per_number number)))

pub record Stored (numbers before buffer : List ℕ) (done : ℕ) : Type 0 where
  pub within : done ≤ length numbers
  pub same : length buffer ≡ length before
  pub is : buffer ≡ written (take done numbers) before

pub stored_none : (numbers before : List ℕ) → Stored numbers before before 0
unfolding bytes_of_numbers
stored_none numbers before = record { within = omega arith; same = refl; is = refl }

-- more, written behind what is done
over_behind : (done more old : List ℕ) (at : ℕ) → at ≡ length done
    → put_mid at (length more) (over done old) more ≡ over (done ++ more) old
over_behind done more old at e = rw (e, take-append_seam, drop-append_seam, drop-drop, length-append, append_assoc)

module _ (numbers before buffer : List ℕ) (done : ℕ) (room : bytes_per_number * length numbers ≤ length before)
    (stored : Stored numbers before buffer done) where
  pub stored_more : (part : List ℕ) → done < length numbers → part ≡ bytes_of bytes_per_number (get_or numbers done 0)
      → let at = bytes_per_number * done in
      Stored numbers before (put_mid at (at + bytes_per_number - at) buffer part) (done + 1)
  stored_more part h e =
      let at = bytes_per_number * done in
      let row = bytes_of bytes_per_number (get_or numbers done 0) in
      let front = bytes_of_numbers (take done numbers) in
      let front_is : length front ≡ at =
      bytes_of_numbers_length (take done numbers)
      ∙ ap (λ (n : ℕ). bytes_per_number * n) (length-take-le done numbers (omega arith)) in
      let eight : at + bytes_per_number - at ≡ length row =
      let long = bytes_length bytes_per_number (get_or numbers done 0) in
      omega arith in
      let is : put_mid at (at + bytes_per_number - at) buffer part ≡ written (take (done + 1) numbers) before =
      rw (eight, e, stored.is, over_behind front row before at (sym front_is), ← bytes_behind (take done numbers) (get_or numbers done 0))
      (ap (λ (l : List ℕ). written l before) (sym (rw (add-one, take-suc numbers done 0)))) in
      let more : length (bytes_of_numbers (take (done + 1) numbers)) ≡ bytes_per_number * (done + 1) =
      bytes_of_numbers_length (take (done + 1) numbers)
      ∙ ap (λ (n : ℕ). bytes_per_number * n) (length-take-le (done + 1) numbers (omega arith)) in
      record {
        within = omega arith;
        same = ap length is ∙ length_over (bytes_of_numbers (take (done + 1) numbers)) before (omega arith);
        is = is;
      }

-- ---- reading

-- one number more
numbers_behind : (count : ℕ) (list : List ℕ)
    → numbers_from (suc count) list
    ≡ numbers_from count list ++ (number_of (take bytes_per_number (drop (bytes_per_number * count) list)) ∷ [])
unfolding numbers_from
numbers_behind zero list = refl
numbers_behind (suc count) list =
    let on : bytes_per_number + bytes_per_number * count ≡ bytes_per_number * suc count = omega arith in
    ap (λ (l : List ℕ). number_of (take bytes_per_number list) ∷ l)
    (numbers_behind count (drop bytes_per_number list)
    ∙ ap (λ (l : List ℕ). numbers_from count (drop bytes_per_number list) ++ (number_of (take bytes_per_number l) ∷ []))
    (drop-drop (bytes_per_number * count) bytes_per_number list ∙ ap (λ (n : ℕ). drop n list) on))

pub numbers_length : (count : ℕ) (list : List ℕ) → length (numbers_from count list) ≡ count
unfolding numbers_from
numbers_length zero list = refl
numbers_length (suc count) list = ap suc (numbers_length count (drop bytes_per_number list))

pub record Decoded (list : List ℕ) (before doubles : List Float) (read : ℕ) : Type 0 where
  pub within : read ≤ length before
  pub same : length doubles ≡ length before
  pub is : doubles ≡ map stands_for (numbers_from read list) ++ drop read before

pub decoded_none : (list : List ℕ) (before : List Float) → Decoded list before before 0
unfolding numbers_from
decoded_none list before = record { within = omega arith; same = refl; is = refl }

module _ (list : List ℕ) (before doubles : List Float) (read : ℕ) (decoded : Decoded list before doubles read) where
  pub decoded_more : (number : ℕ) (double : Float) → read < length before
      → number ≡ number_of (take bytes_per_number (drop (bytes_per_number * read) list)) → double ≡ stands_for number
      → Decoded list before (set doubles read double) (read + 1)
  decoded_more number double h n d =
      let front = map stands_for (numbers_from read list) in
      let front_is : length front ≡ read = length-map (numbers_from read list) stands_for ∙ numbers_length read list in
      record {
        within = omega arith;
        same = length-set doubles read double ∙ decoded.same;
        is =
            ap (λ (l : List Float). set l read double)
            (decoded.is ∙ ap (λ (l : List Float). front ++ l) (drop-cons before read nan (omega arith)))
            ∙ set_at front (get_or before read nan) (drop (suc read) before) double read front_is
            ∙ ap (λ (x : Float). front ++ (x ∷ drop (suc read) before)) (d ∙ ap stands_for n)
            ∙ sym (rw (add-one, numbers_behind read list, map-append, append_assoc));
      }
