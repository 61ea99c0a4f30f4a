-- Where no line is unanswered, none is outstanding; so a line may be read, unless reading has ended.
use Rattle.std.proofs.Common.{ap, arith, subst, sym, true≢false, ◌∙◌}
use Rattle.std.specs.Prelude.{is_none}
use Rattle.serving.specs.Session.{NoneUnanswered, SessionView}
use Rattle.serving.proofs.IsAtRest.{none_outstanding}
use Rattle.serving.proofs.SessionInvariant.{has_slots}
use Rattle.serving.proofs.session.Session.wait_for_line.Goals.{else-may_read-via-then-may_read+else-read_next, else-may_read-via-else-may_read}
use Rattle.serving.proofs.session.Session.wait_for_line.Goals as goal

pub returns-else-may_read-clause-waited : goal.returns-else-may_read-clause-waited
returns-else-may_read-clause-waited g c _ =
    let outstanding = none_outstanding g.D.Disk.keeps _ _ c.self.invariant.run (subst NoneUnanswered (sym c.self.view_is) c.requires.none_unanswered) in
    let some = has_slots g.D.Disk.keeps _ _ c.self.invariant.run in
    elim c.else-may_read.branch [
      | else-may_read-via-then-may_read+else-read_next w ↦
          rw w.self-is (λ none. true≢false (sym (w.read_next.ensures.reads ∙ ap is_none none) ∙ w.if-read_next.false))
      | else-may_read-via-else-may_read w ↦
          rw w.self-is (λ none. true≢false (sym (c.may_read.ensures.1 (
            ap (λ (p : SessionView). p.read_end) c.self.view_is ∙ none,
            omega (arith, outstanding, some, c.slots.ensures, ap (λ (p : SessionView). p.reorder_buffer.slots) c.self.view_is),
          )) ∙ w.if-may_read.false))
    ]
