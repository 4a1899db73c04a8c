-- `read_line` meets its contract. The loop's invariant is `Front`: the fields passed are read, and their numbers stand at the front of
-- the buffer. Assumes nothing.
use mathlib.Core.Path.{◌≡◌, refl, sym, ap, ◌∙◌}
use mathlib.Core.List.{List}
use Prim.Native.Nat.{ℕ, ◌+◌, ◌-◌, ◌*◌, ◌<◌}
use native.Mathlib.Omega.{arith}
use lib.ListN.{length, take, drop, length-take}
use lib.Seq.{drop-drop}
use Rattle.std.specs.Prelude.{Option}
use Rattle.std.proofs.lemmas.List.{take_rest, take-append-drop, set-append_left, set-get_or}
use Rattle.fields.specs.Quantities.{columns}
use Rattle.line.specs.Lines.{field_of}
use Rattle.line.proofs.Amounts.{begins, turn, wrong_field, all_fields}
use Rattle.line.proofs.read_line.Goals as goal

field_read : {part there : List ℕ} (reads : Option ℕ) {read : Option ℕ} → part ≡ there → read ≡ field_of reads (take columns part)
    → field_of reads (take columns there) ≡ read
field_read reads same is = rw (← same) (sym is)

-- the part behind some of what it begins with
part_behind : {part : List ℕ} (bytes : List ℕ) (at more to : ℕ) → part ≡ drop at bytes → at + more ≡ to
    → take (length part - more) (drop more part) ≡ drop to bytes
part_behind {part = part} bytes at more to is e =
    take_rest part more ∙ ap (drop more) is ∙ drop-drop more at bytes ∙ ap (λ (k : ℕ). drop k bytes) e

pub loop-done-init : goal.loop-done-init
loop-done-init c = record {
  part_is = refl;
  front = rw take-append-drop (begins _ _ _ _ _ (omega arith) (sym c.is_shaped.ensures ∙ c.if-not-is_shaped.false));
}

pub loop-done-preserved : goal.loop-done-preserved
loop-done-preserved c =
    let loop = c.loop-done in
    let more : loop.done < length loop.number-items = omega arith in
    record {
      part_is = part_behind _ (columns * loop.done) columns (columns * (loop.done + 1)) loop.invariant.part_is (omega arith);
      front =
          rw (← set-append_left loop.number-items)
          (turn loop.invariant.front _ (omega (arith, length-take {A = ℕ}))
          (field_read _ loop.invariant.part_is c.read_field.ensures ∙ c.in-Some.is));
    }

pub returns-in-None : goal.returns-in-None
returns-in-None c =
    let loop = c.loop-done in
    let wrong =
    wrong_field loop.invariant.front (omega (arith, length-take {A = ℕ}))
    (field_read _ loop.invariant.part_is c.read_field.ensures ∙ c.in-None.is) in
    record { value = sym wrong.value; fields_after = rw set-get_or wrong.fields_after }

pub returns : goal.returns
returns c =
    let loop = c.loop-done in
    let all = all_fields loop.invariant.front (omega (arith, length-take {A = ℕ})) in
    record { value = sym all.value; fields_after = all.fields_after }
