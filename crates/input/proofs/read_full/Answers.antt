-- What a turn puts behind the bytes so far is what it takes from the reader.
use Rattle.std.proofs.Common.{◌≡◌, ℕ, ◌+◌, ◌≤◌, List, ◌++◌, rules, length, take, sym, ap, ◌∙◌, subst, le_refl, drop, drop_at, length-take-le}
use Rattle.std.proofs.lemmas.Slice.{take-put_mid_below}
use Rattle.std.proofs.KnownBytes.{Consumes-trans}
use Rattle.std.specs.Io.KnownBytes.{Consumes}
use borrow.Rule.Slice.PartMut.{put_mid, post_of}
use lib.Seq.{take-add, take-append-le}
use Rattle.input.proofs.read_full.Goals as goal

-- a part's first bytes behind those in front of it
grown : (at room n : ℕ) (buffer part : List ℕ) → at ≤ length buffer → n ≤ length part
    → take at buffer ++ take n part ≡ take (at + n) (put_mid at room buffer part)
grown at room n buffer part within fits =
    let filled = put_mid at room buffer part in
    let behind : take n (drop at filled) ≡ take n part =
    ap (take n) (drop_at (take at buffer) (part ++ post_of at room buffer) at (length-take-le at buffer within))
    ∙ take-append-le n part (post_of at room buffer) fits in
    let front : take at filled ≡ take at buffer = take-put_mid_below _ _ _ _ _ (le_refl _) within in
    sym (take-add at n filled ∙ ap (λ l. l ++ take n (drop at filled)) front ∙ ap (λ l. take at buffer ++ l) behind)

pub loop-done-preserved : goal.loop-done-preserved
loop-done-preserved g c =
    let taken = Consumes-trans _ _ _ _ _ c.loop-done.invariant.2 c.in-Ok.ensures.bytes.0 in (
      search rules,
      search rules,
      subst (Consumes _ _) (grown _ _ _ _ _ c.loop-done.invariant.1 c.in-Ok.ensures.bound.0) taken,
    )
