-- Rows in a buffer: room for one behind some place, and the rows of the scratch up to some place in the report, to which one more goes by
-- way of the part from that place on. Assumes nothing.
use mathlib.Core.Path.{◌≡◌, refl, sym, ap, ◌∙◌}
use mathlib.Core.List.{List, ◌++◌}
use Prim.Native.Nat.{ℕ, ◌+◌, ◌-◌, ◌*◌, ◌≤◌}
use native.Mathlib.Omega.{arith}
use lib.ListN.{length, take, drop, length-append, length-drop}
use lib.Seq.{length-take-le, take-add, take-append_seam, drop-append_seam, drop-drop}
use borrow.Rule.Slice.PartMut.{mid_of, put_mid}
use Rattle.std.proofs.lemmas.List.{take_rest}
use Rattle.fields.specs.Limits.{per_row, scratch_room}
use Rattle.fields.specs.Outcomes.{over}
use Rattle.fields.proofs.Buffers.{length_over, written_behind}

-- room for a row behind some place is room in the part from that place on
pub part_room : (buffer : List ℕ) (at : ℕ) → at + per_row ≤ length buffer → per_row ≤ length (mid_of at (length buffer - at) buffer)
part_room buffer at h = rw (take_rest buffer at) (simp length-drop (omega arith))

-- of the rows of so many ages those before the one with this number are in the report, and those from it on are left
pub record Reported (ages : ℕ) (rows left old report : List ℕ) (number : ℕ) : Type 0 where
  pub all : length rows ≡ scratch_room ages
  pub left_is : left ≡ drop (per_row * number) rows
  pub within : per_row * number ≤ length rows
  pub written : report ≡ over (take (per_row * number) rows) old
  pub room : length rows ≤ length old

module _ {ages : ℕ} {rows left old report : List ℕ} {number : ℕ} (p : Reported ages rows left old report number) where
  abbrev at : ℕ
  at = per_row * number

  kept : length report ≡ length old
  kept =
      let w = p.within in
      let r = p.room in
      rw p.written (length_over (take at rows) old (rw (length-take-le at rows w) (omega arith)))

  module _ (row rest : List ℕ) (next : left ≡ row ++ rest) (whole : length row ≡ per_row) where
    rows_left : drop at rows ≡ row ++ rest
    rows_left = sym p.left_is ∙ next

    enough : at + per_row ≤ length rows
    enough =
        let w = p.within in
        omega (arith, sym (length-drop at rows) ∙ ap length rows_left ∙ length-append row rest, whole)

    pub room_to_write : at + per_row ≤ length report
    room_to_write = let e = enough in let r = p.room in omega (arith, kept)

    abbrev report_then : List ℕ
    report_then = put_mid at (length report - at) report (over row (mid_of at (length report - at) report))

    rows_then : take at rows ++ row ≡ take (at + per_row) rows
    rows_then =
        ap (λ (l : List ℕ). take at rows ++ l)
        (sym (ap (take per_row) rows_left ∙ ap (λ (n : ℕ). take n (row ++ rest)) (sym whole) ∙ take-append_seam row rest))
        ∙ sym (take-add at per_row rows)

    rest_is : rest ≡ drop (at + per_row) rows
    rest_is =
        sym (drop-append_seam row rest) ∙ ap (λ (n : ℕ). drop n (row ++ rest)) whole ∙ ap (drop per_row) (sym rows_left)
        ∙ drop-drop per_row at rows

    pub one_more : Reported ages rows rest old report_then (number + 1)
    one_more =
        let w = p.within in
        let e = enough in
        let more : per_row * (number + 1) ≡ at + per_row = omega arith in
        record {
          all = p.all;
          left_is = rw more rest_is;
          within = omega arith;
          written =
              rw more
              (written_behind (take at rows) row old report _ at (sym (length-take-le at rows w)) p.written refl
              ∙ ap (λ (l : List ℕ). over l old) rows_then);
          room = p.room;
        }
