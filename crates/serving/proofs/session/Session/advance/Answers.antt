-- Where the session has caught up, each line is retired. Else nothing was logged or answered, and the session is at rest.
use Rattle.std.proofs.Common.{◌≡◌, Bool, false, ap, arith, sym, ◌∙◌}
use Rattle.std.specs.Prelude.{◌&&◌, not}
use Rattle.reorder_buffer.specs.ReorderBuffer.{ReorderBufferView}
use Rattle.serving.specs.DispatchesTo.{asks_for_checkpoint}
use Rattle.serving.proofs.StepsAhead.{goes_or_rests, has_gone_on, moved_ahead, reason_is}
use Rattle.serving.proofs.IsAtRest.{comes_to_rest}
use Rattle.serving.proofs.session.Session.advance.Goals.{else-matches-via-then-matches+else-not-caught_up, else-matches-via-else-matches, then-moved, else-moved+in-Busy, else-moved+in_default}
use Rattle.serving.proofs.session.Session.advance.Goals as goal

pub returns-clause-idle : goal.returns-clause-idle
returns-clause-idle g c idle =
    let sent = c.in_ok-activity.ensures.idle idle in (
      (
        elim c.else-matches.branch [
          | else-matches-via-then-matches+else-not-caught_up w ↦ ap (λ (b : ReorderBufferView). b.lines) sent.lines ∙ c.has_caught_up-caught_up.ensures w.if-not-caught_up.false
          | else-matches-via-else-matches w ↦ c.know_rest.ensures c.dispatch_and_collect-why.result
              (let none : c.in_ok-moved.moved ≡ false = elim c.if-moved.branch [
                | then-moved v ↦ sym v.value-is ∙ w.if-matches.false
                | else-moved+in-Busy v ↦ v.if-moved.false
                | else-moved+in_default v ↦ v.if-moved.false
              ] in
              comes_to_rest _ _ _ _ c.asks_for_checkpoint-is_asked_for.result
              (λ asked. c.asks_for_checkpoint-is_asked_for.ensures ∙ ap (λ (b : Bool). not b && asks_for_checkpoint c.dispatch_and_collect-why.result) none ∙ asked)
              c.dispatch_and_collect-why.ensures.ended (c.in_ok-moved.ensures.none none) c.in_ok-moved.ensures.last sent)
        ],
        sent.flushed,
      ),
      sent.pieces_left,
    )

pub returns-clause-goes_on : goal.returns-clause-goes_on
returns-clause-goes_on g c _ = has_gone_on _ _ _ _ c.dispatch_and_collect-why.ensures.moves c.in_ok-activity.activity c.in_ok-moved.moved
    c.in_ok-moved.ensures.steps c.in_ok-moved.ensures.none c.in_ok-activity.ensures.steps
    (goes_or_rests _ _ c.in_ok-activity.activity c.in_ok-activity.ensures.goes_on
    (λ idle. let sent = c.in_ok-activity.ensures.idle idle in (sent.keeps, sent.trigger)))

pub returns-clause-steps : goal.returns-clause-steps
returns-clause-steps g c =
    omega (arith, moved_ahead _ _ c.dispatch_and_collect-why.ensures.moves, c.in_ok-moved.ensures.steps, c.in_ok-activity.ensures.steps)

pub flush_then_wait-requires : goal.flush_then_wait-requires
flush_then_wait-requires g c = record {
  reason = reason_is _ _ c.dispatch_and_collect-why.result c.dispatch_and_collect-why.ensures.ended c.dispatch_and_collect-why.ensures.due
      c.in_ok-moved.moved c.in_ok-moved.ensures.none _ c.asks_for_checkpoint-is_asked_for.ensures;
}
