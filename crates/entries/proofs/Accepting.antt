-- An accepted member has what the arithmetic of the run asks of it, and so have its ages. Assumes nothing.
use mathlib.Core.Path.{refl, sym, subst, ◌≡◌}
use mathlib.Core.List.{List}
use Prim.Native.Nat.{ℕ, ◌≤◌}
use native.Mathlib.Omega.{arith}
use lib.ListN.{length}
use Rattle.std.specs.Prelude.{Ok}
use Rattle.fields.specs.declared.segments.Segment.{Segment}
use Rattle.fields.specs.Quantities.{Quantities}
use Rattle.fields.specs.Limits.{most_segments, most_friction}
use Rattle.fields.proofs.Counting.{Few}
use Rattle.member.specs.declared.Member.{Member}
use Rattle.member.specs.Constants.{friction_of}
use Rattle.member.specs.Member.{path_of, cure_of, concrete_of, member_of, checked_of}
use Rattle.member.specs.Facts.{SegmentsFit, Facts}
use Rattle.member.proofs.Bounds.{creep_most, shrinkage_most, path_most}
use Rattle.member.proofs.Duct.{second_is}
use Rattle.member.proofs.Laws.{accepted}
use Rattle.stages.specs.Conditions.{PathBounded, Bounded}
use Rattle.stages.specs.Run.{member_result, result_of}
use Rattle.entries.specs.Answers.{Answer, Ran}
use Rattle.entries.specs.Conditions.{AgesFit, RoomForRows}

-- a path
path_bounded : (q : Quantities) {path : List Segment} → length path ≤ most_segments → SegmentsFit path → friction_of q path ≤ most_friction
    → PathBounded (path_of q path)
path_bounded q few fit most = record { friction_most = most; length_fits = omega (arith, path_most fit) }

of_facts : (q : Quantities) (report scratch : ℕ) → Few q → Facts q report scratch → Bounded (member_of q)
unfolding member_of
of_facts q report scratch few facts =
    let head = facts.head in
    let section = head.section in
    record {
      transfer = omega arith;
      strength = head.ultimate_least;
      strength_most = head.ultimate_most;
      jacking_fits = omega arith;
      deflector_fits = omega arith;
      slip_most = head.slip_most;
      length = omega arith;
      length_fits = omega arith;
      es_fits = omega arith;
      eci = omega arith;
      eci_fits = omega arith;
      ec = omega arith;
      ec_fits = omega arith;
      inertia = omega arith;
      eccentricity_fits = omega arith;
      own_weight_fits = head.own_weight_most;
      first_path = path_bounded q few.segments facts.segments_fit facts.friction_most;
      second_path = λ second there.
          subst PathBounded (sym (second_is q refl there)) (path_bounded q few.second facts.second_fit facts.second_friction_most);
      kappa_fits = facts.kappa_most;
      creep_fits = omega (arith, creep_most (cure_of q.cure) (concrete_of q.concrete) q.Ec q.volume_to_surface q.transfer);
      shrinkage_fits = omega (arith, shrinkage_most (concrete_of q.concrete) q.Ec q.volume_to_surface);
    }

pub bounded : (q : Quantities) (report scratch : ℕ) {m : Member} → checked_of q report scratch ≡ Ok m → Few q → Bounded m
bounded q report scratch checked few =
    let known = accepted q report scratch checked in rw known.is (of_facts q report scratch few known.facts)

module _ (q : Quantities) (report scratch : List ℕ) (m : Member) (checked : checked_of q (length report) (length scratch) ≡ Ok m) where
  pub ages_fit : AgesFit m q.ages
  unfolding member_of
  ages_fit =
      let known = accepted q (length report) (length scratch) checked in
      rw known.is (record { rise = known.facts.ages_rise; moments_fit = known.facts.moments_fit })

  pub room : RoomForRows (length q.ages) report scratch
  room =
      let facts = (accepted q (length report) (length scratch) checked).facts in
      record { report_room_fits = facts.report_room_fits; scratch_room_fits = facts.scratch_room_fits }

  -- what its run answers is what the quantities give
  pub answers : {answer : Answer} {report_then scratch_then : List ℕ}
      → Ran (member_result m q.ages) answer report_then report scratch_then scratch
      → Ran (result_of q (length report) (length scratch)) answer report_then report scratch_then scratch
  answers ran = rw checked ran
