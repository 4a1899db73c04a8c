-- A reply slice under 64 bytes is looked at first; else the run of what the reader gives is answered. Assumes nothing.
use Rattle.stratelyn.proofs.Hosting.{run_finite, acceptance_hosted}
use Rattle.stratelyn.proofs.Serving.{unserved, served}
use Rattle.stratelyn.proofs.run.serve.Goals as goal

pub returns-then-reply-lt-REPLY_BYTES : goal.returns-then-reply-lt-REPLY_BYTES
returns-then-reply-lt-REPLY_BYTES g c =
    rw c.number.ensures (unserved _ (g.met.R.Reader.accepted _) _ _ _ c.if-reply-lt-REPLY_BYTES.true)

pub accept-requires : goal.accept-requires
accept-requires g c = record {
  reply_room = c.if-reply-lt-REPLY_BYTES.false;
  not_nan = run_finite _ c.in-Ok.ensures.answered;
}

pub returns-in-Ok : goal.returns-in-Ok
returns-in-Ok g c =
    served _ (g.met.R.Reader.accepted _) _ _ _ c.if-reply-lt-REPLY_BYTES.false
    (acceptance_hosted _ c.in-Ok.ensures c.accept.ensures.replied c.accept.ensures.last_value)
