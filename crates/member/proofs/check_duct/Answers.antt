-- The lengths of two paths are small enough to be added; and without a second path the rows that look at one hold. Assumes nothing.
use mathlib.Core.Path.{◌≡◌, ap, sym, ◌∙◌}
use Prim.Native.Nat.{◌*◌, ◌≤◌}
use native.Mathlib.Omega.{arith}
use Rattle.fields.specs.Limits.{most_length, most_segments}
use Rattle.fields.proofs.Counting.{few_segments, few_second_segments}
use Rattle.member.specs.declared.path.Path.{Path}
use Rattle.member.specs.declared.path.Paths.{Paths}
use Rattle.member.specs.Constants.{path_length}
use Rattle.member.specs.Member.{paths_of}
use Rattle.member.proofs.Along.{length_most}
use Rattle.member.proofs.Duct.{second_is}
use Rattle.member.proofs.check_duct.Goals as goal

pub overflow_add-first : goal.overflow_add-first
overflow_add-first c =
    let fields = c.fields in
    let q = c.ranged.inside.fields.now in
    let one : path_length q.path ≤ most_length * most_segments = length_most (record {
      few = few_segments fields.inside.counts fields.inside.numbers.now fields.view_is fields.invariant;
      segments_fit = c.ranged.invariant.segments_fit;
    }) in
    let other : path_length q.second_path ≤ most_length * most_segments = length_most (record {
      few = few_second_segments fields.inside.counts fields.inside.numbers.now fields.view_is fields.invariant;
      segments_fit = c.ranged.invariant.second_fit;
    }) in
    let are : c.paths-paths.result ≡ paths_of q = c.paths-paths.ensures ∙ ap paths_of (sym c.ranged.view_is) in
    let first : c.paths-paths.result.first.length ≡ path_length q.path = ap (λ (p : Paths). p.first.length) are in
    let second : c.in-Some.second.length ≡ path_length q.second_path = ap (λ (p : Path). p.length) (second_is q are c.in-Some.is) in
    rw (first, second) (omega (arith, one, other))
