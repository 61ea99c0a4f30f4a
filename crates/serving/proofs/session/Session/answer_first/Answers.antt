-- The message is answered, and its line completed; and the session keeps its invariant.
use Rattle.std.proofs.Common.{refl}
use Rattle.scheduler.proofs.MachineSteps.{answer_step}
use Rattle.serving.proofs.AnsweredLine.{is_answered_so, none_answered}
use Rattle.serving.proofs.SessionInvariant.{holds_of, on_answer, on_machine}
use Rattle.serving.proofs.session.Session.answer_first.Goals as goal

pub invariant_of-self : goal.invariant_of-self
invariant_of-self g c =
    let old = c.self.inside.core in
    let new = c.answer-first.new.self in
    let so = is_answered_so g.D.Disk.keeps old new c.answer-first.result
    (answer_step g.D.Disk.keeps old new c.know_recovery.ensures.no_doubt c.know_recovery.ensures.now c.answer-first.ensures.geometry c.answer-first.ensures.untouched
    c.answer-first.result c.answer-first.ensures.state_after) _ (holds_of g.D.Disk.keeps _ _ c.self.invariant.run) in
    record {
      run = on_machine g.D.Disk.keeps _ _ c.self.invariant.run _ _ (none_answered g.D.Disk.keeps _ _ c.answer-first.result c.in_default.not-Some so _) refl refl;
      bench = c.self.invariant.bench;
    }

pub invariant_of-self-2 : goal.invariant_of-self-2
invariant_of-self-2 g c =
    let old = c.self.inside.core in
    let new = c.answer-first.new.self in
    let so = is_answered_so g.D.Disk.keeps old new c.answer-first.result
    (answer_step g.D.Disk.keeps old new c.know_recovery.ensures.no_doubt c.know_recovery.ensures.now c.answer-first.ensures.geometry c.answer-first.ensures.untouched
    c.answer-first.result c.answer-first.ensures.state_after) _ (holds_of g.D.Disk.keeps _ _ c.self.invariant.run) in
    record {
      run = on_answer g.D.Disk.keeps _ _ c.self.invariant.run _ _ _ _ (rw c.in-Some.is at so) c.count.ensures c.answer.ensures.lines c.answer.ensures.slots;
      bench = c.self.invariant.bench;
    }
