-- The invariant is `Progress`: the rows of the ages before stand in the scratch, and the ages that are left decide the rest. Assumes
-- nothing.
use Rattle.fields.specs.Along.{ages_of}
use Rattle.entries.proofs.Running.{Progress}
use Rattle.entries.proofs.ages.run_ages.Given as goal

abbrev pub invariant-loop-passed : goal.invariant-loop-passed
invariant-loop-passed l =
    let iterator = l.passed-iterator in
    Progress l.m.member (ages_of l.initial.ages.fields.now) l.initial.stress l.initial.scratch l.scratch l.stress l.start iterator.count
    (ages_of iterator.iter.fields.now)
