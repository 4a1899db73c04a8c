-- The two ends of an interval of the member, in ticks and in fractions: the shares done between them, the rise of the logarithm and
-- the moments at both. The clocks go on with the hour, so that what is known of the tables holds of the ends. Assumes nothing.
use Prim.Native.Nat.{ℕ, ◌-◌, ◌≤◌}
use native.Mathlib.Nat.{le_trans}
use native.Mathlib.Omega.{arith}
use lib.Dec.{lit≤}
use Rattle.fraction.specs.Fraction.{whole, ◌⊖◌}
use Rattle.logarithm.specs.Logarithm.{logarithm, service_life}
use Rattle.coefficient.specs.Coefficients.{since_transfer, since_curing, since_tensioning}
use Rattle.coefficient.proofs.Laws.{since_tensioning_least, since_tensioning_most}
use Rattle.fields.specs.Quantities.{Quantities}
use Rattle.member.specs.Member.{member_of, hours_of}
use Rattle.member.specs.Facts.{Facts}
use Rattle.stages.specs.declared.ends.End.{End as TicksEnd}
use Rattle.stages.specs.Run.{relaxation_logarithm, end_at as ticks_end_at}
use Rattle.tolerance.specs.Method.{Choice, End, end_at, transfer_end}
use Rattle.tolerance.proofs.Rounded.{Rounded}
use Rattle.tolerance.proofs.Logarithms.{Logs, Interval, interval}
use Rattle.tolerance.proofs.Shares.{Share, creep_share_between, shrinkage_share_between}
use Rattle.tolerance.proofs.Bounds.{moment_rounded, moment_rises}

pub record Between (δ : ℕ) (ticks_start ticks_end : TicksEnd) (start end : End) : Type 0 where
  pub g : Rounded (whole 1) ticks_start.g start.g
  pub later_g : Rounded (whole 1) ticks_end.g end.g
  pub g_rises : ticks_start.g ≤ ticks_end.g
  pub creep : Share (ticks_end.creep - ticks_start.creep) (end.creep ⊖ start.creep)
  pub shrinkage : Share (ticks_end.shrinkage - ticks_start.shrinkage) (end.shrinkage ⊖ start.shrinkage)
  pub logarithm : Interval δ ticks_start.logarithm ticks_end.logarithm start.logarithm end.logarithm

module _ {q : Quantities} {report scratch : ℕ} (facts : Facts q report scratch) {δ : ℕ} {choice : Choice}
    (logs : Logs δ choice) where
  -- the ends of an interval that goes on to an hour within the service life
  pub between : (moments added hour later : ℕ) → moments ≤ added → hour ≤ later → later ≤ service_life
      → Between δ (ticks_end_at (member_of q) moments hour) (ticks_end_at (member_of q) added later)
      (end_at choice q moments hour) (end_at choice q added later)
  unfolding member_of
  between moments added hour later more on life = record {
    g = moment_rounded facts moments;
    later_g = moment_rounded facts added;
    g_rises = moment_rises facts moments added more;
    creep = creep_share_between (since_transfer (hours_of q) service_life) (since_transfer (hours_of q) hour)
        (since_transfer (hours_of q) later) (omega arith);
    shrinkage = shrinkage_share_between (since_curing (hours_of q) service_life) (since_curing (hours_of q) hour)
        (since_curing (hours_of q) later) (omega arith);
    logarithm = interval logs (since_tensioning (hours_of q) hour).0 (since_tensioning (hours_of q) later).0
        (since_tensioning_least (hours_of q) hour) (omega arith) (since_tensioning_most (hours_of q) later life);
  }

  -- relaxation from hour 1 to transfer
  pub before_transfer :
      Interval δ (logarithm 1) (relaxation_logarithm (member_of q) q.transfer) (choice.log 1) (transfer_end choice q).logarithm
  unfolding member_of
  before_transfer =
      interval logs 1 (since_tensioning (hours_of q) q.transfer).0 (lit≤ tt) (since_tensioning_least (hours_of q) q.transfer)
      (since_tensioning_most (hours_of q) q.transfer (le_trans facts.head.transfer_most (lit≤ tt)))
