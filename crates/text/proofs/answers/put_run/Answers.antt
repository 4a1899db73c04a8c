-- What the answer prints is what the run's result does: a refusal's line, or the line before the ages and theirs behind it. Assumes
-- nothing.
use mathlib.Core.Path.{◌≡◌}
use Prim.Native.Nat.{◌*◌}
use native.Mathlib.Omega.{arith}
use lib.ListN.{length, take}
use Rattle.std.proofs.lemmas.List.{length-take-le}
use Rattle.fields.specs.Limits.{per_row}
use Rattle.fields.proofs.Counting.{age_count}
use Rattle.entries.proofs.Closeness.{row_count}
use Rattle.text.proofs.Texts.{holds_then, ages_fit, run_printed}
use Rattle.text.proofs.answers.put_run.Goals as goal

pub put_ages-requires : goal.put_ages-requires
put_ages-requires c =
    let count = age_count _ _ c.fields.view_is in
    let few = c.fields.invariant.ages_most in
    let whole : length (take (per_row * c.fields.inside.counts.ages) c.run_fields.new.report) ≡ per_row * c.fields.inside.counts.ages =
    length-take-le (per_row * c.fields.inside.counts.ages) c.run_fields.new.report (omega arith) in
    ages_fit _ (omega arith) (omega arith) c.requires c.put_before-at.ensures

pub returns-in-Ok : goal.returns-in-Ok
returns-in-Ok c =
    let ran = c.in-Ok.ensures in
    run_printed c.args.fields.now _ _ _ (row_count _ _ c.fields.view_is c.fields.invariant _ _) ran.answered ran.report_is
    (rw (age_count _ _ c.fields.view_is) (holds_then c.put_before-at.ensures c.put_ages.ensures))
