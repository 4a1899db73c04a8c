-- The part holds the lines of the ages so far, and the other ages and their rows are left. Assumes nothing.
use Rattle.std.specs.Iterator.Adapters.{enumerate_source, enumerate_count, zip_first, zip_second}
use Rattle.std.specs.Slice.Iter.{chunks_exact_rest, chunks_exact_size}
use Rattle.fields.specs.Along.{ages_of}
use Rattle.text.proofs.Texts.{Lined}
use Rattle.text.proofs.answers.put_ages.Given as goal

abbrev pub invariant-loop-passed : goal.invariant-loop-passed
invariant-loop-passed l =
    let ages = zip_first (enumerate_source l.passed-iterator) in
    let rows = zip_second (enumerate_source l.passed-iterator) in
    Lined l.fields.ages l.rows l.initial.part l.part l.at (ages_of ages.fields.now) (chunks_exact_rest rows) (chunks_exact_size rows)
    (enumerate_count l.passed-iterator)
