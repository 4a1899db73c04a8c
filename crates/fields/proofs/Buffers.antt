-- A buffer written over from its front: its length; a part of it, lent from the end of what is done on, written over and come back; and a
-- number set there. Assumes nothing.
use mathlib.Core.Path.{◌≡◌, ap, ◌∙◌}
use mathlib.Core.List.{List, [], ◌∷◌, ◌++◌, append_assoc, append-nil}
use Prim.Native.Nat.{ℕ, suc, ◌-◌, ◌≤◌, ◌<◌}
use native.Mathlib.Omega.{arith}
use lib.ListN.{length, get_or, take, drop, set, length-append, length-drop, drop_of_length-le}
use lib.Seq.{drop-cons, set_at, take-append_seam, drop-append_seam, drop-drop}
use Rattle.std.proofs.lemmas.List.{take_rest}
use borrow.Rule.Slice.PartMut.{mid_of, put_mid}
use Rattle.fields.specs.Outcomes.{over}

pub length_over : (new old : List ℕ) → length new ≤ length old → length (over new old) ≡ length old
length_over new old h = simp (length-append, length-drop) (omega arith)

returned : (buffer part : List ℕ) (at : ℕ) → put_mid at (length buffer - at) buffer part ≡ take at buffer ++ part
returned buffer part at =
    rw (drop_of_length-le (drop at buffer) {i = length buffer - at} (simp length-drop (omega arith)), append-nil)

over_behind : (done more old : List ℕ) (at : ℕ) → at ≡ length done
    → take at (over done old) ++ over more (drop at (over done old)) ≡ over (done ++ more) old
over_behind done more old at e = rw (e, take-append_seam, drop-append_seam, drop-drop, length-append, append_assoc)

-- more, written behind what is done, by way of `&mut buffer[at..]`
pub written_behind : (done more old buffer part : List ℕ) (at : ℕ) → at ≡ length done → buffer ≡ over done old
    → part ≡ over more (mid_of at (length buffer - at) buffer)
    → put_mid at (length buffer - at) buffer part ≡ over (done ++ more) old
written_behind done more old buffer part at e is part_is =
    rw (returned buffer part at, part_is, take_rest, is) (over_behind done more old at e)

-- one number more, set behind what is done
pub set_behind : (done old : List ℕ) (x at : ℕ) → length done ≡ at → at < length old
    → set (over done old) at x ≡ over (done ++ (x ∷ [])) old
set_behind done old x at e h =
    let one : length (done ++ (x ∷ [])) ≡ suc (length done) = length-append done (x ∷ []) ∙ (omega arith) in
    ap (λ (l : List ℕ). set (done ++ l) at x) (drop-cons old (length done) 0 (omega arith))
    ∙ set_at done (get_or old (length done) 0) (drop (suc (length done)) old) x at e
    ∙ rw (one, append_assoc)
