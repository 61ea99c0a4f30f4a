-- The answers that wait may be sent; and the session keeps its invariant.
use Rattle.serving.proofs.MaySend.{safe_sending}
use Rattle.serving.proofs.SessionInvariant.{kill_safe, may_send, on_break, on_send}
use Rattle.serving.proofs.session.Session.flush_replies.Goals as goal

pub send-requires-clause-may : goal.send-requires-clause-may
send-requires-clause-may g c =
    rw c.waiting.ensures (may_send g.D.Disk.keeps _ _ c.self.invariant.run c.if-self.false c.know_recovery.ensures.no_doubt c.know_recovery.ensures.now)

pub send-requires-clause-safe : goal.send-requires-clause-safe
send-requires-clause-safe g c = kill_safe g.D.Disk.keeps _ _ c.self.invariant.run c.know_recovery.ensures.no_doubt c.know_recovery.ensures.now

pub send-requires-clause-sending : goal.send-requires-clause-sending
send-requires-clause-sending g c = safe_sending g.D.Disk.keeps _ _ _ _ (send-requires-clause-may g c)

pub invariant_of-self : goal.invariant_of-self
invariant_of-self g c =
    let sent = rw c.waiting.ensures at c.in-Ok.ensures.sent in
    record { run = on_send g.D.Disk.keeps _ _ c.self.invariant.run _ _ _ c.if-self.false c.clear.ensures sent c.in-Ok.ensures.at c.len-self-inside.ensures.len; bench = c.self.invariant.bench }

pub invariant_of-self-in-Err : goal.invariant_of-self-in-Err
invariant_of-self-in-Err g c =
    let sent = rw c.waiting.ensures at c.in-Err.ensures.begun in
    record { run = on_break g.D.Disk.keeps _ _ c.self.invariant.run _ _ c.if-self.false sent c.in-Err.ensures.at; bench = c.self.invariant.bench }
