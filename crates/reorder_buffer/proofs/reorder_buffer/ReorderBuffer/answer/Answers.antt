-- The line that changes is that of the ticket.
use Rattle.std.proofs.Common.{List, ap, map, set, subst, sym, ◌∙◌}
use Rattle.std.proofs.lemmas.List.{length-set}
use Rattle.reorder_buffer.proofs.Order.{answered_in_order}
use Rattle.reorder_buffer.proofs.Lines.{lines_of-answered}
use Rattle.reorder_buffer.specs.ReorderBuffer.{Line, complete_one, AreConsecutive, ReorderBufferView, lines_of}
use Rattle.reorder_buffer.proofs.reorder_buffer.ReorderBuffer.answer.Goals as goal

pub invariant_of-self : goal.invariant_of-self
invariant_of-self c =
    let was = c.self.invariant in
    let ticketed = c.self.inside.ticketed.items in
    let changed = ap (λ (l : Line). set ticketed c.in-Some.k l) c.complete_line.ensures
    ∙ sym (c.in-Some.ensures.1 c.args.reply c.index_mut.result.now c.index_mut.ensures.value) in
    record {
      room = was.room;
      room_beside = was.room_beside;
      most = was.most;
      among = was.among ∙ sym (length-set ticketed c.in-Some.k c.complete_line.new.line);
      consecutive = subst (λ (l : List Line). AreConsecutive l) (sym changed)
          (was.consecutive.0, answered_in_order c.args.ticket c.args.reply was.consecutive.0 ticketed was.consecutive.1);
    }

pub returns-in-Some-clause-lines : goal.returns-in-Some-clause-lines
returns-in-Some-clause-lines c =
    let ticketed = c.self.inside.ticketed.items in
    let changed = ap (λ (l : Line). set ticketed c.in-Some.k l) c.complete_line.ensures
    ∙ sym (c.in-Some.ensures.1 c.args.reply c.index_mut.result.now c.index_mut.ensures.value) in
    ap (λ (l : List Line). lines_of c.self.inside.kinds.items l) changed ∙ lines_of-answered c.args.ticket c.args.reply c.self.inside.kinds.items ticketed
    ∙ ap (λ (v : ReorderBufferView). map (complete_one c.args.ticket c.args.reply) v.lines) c.self.view_is

pub returns-in_default-clause-lines : goal.returns-in_default-clause-lines
returns-in_default-clause-lines c =
    ap (λ (v : ReorderBufferView). v.lines) (sym c.self.view_is)
    ∙ ap (λ (l : List Line). lines_of c.self.inside.kinds.items l) (sym (c.in_default.ensures c.args.reply))
    ∙ lines_of-answered c.args.ticket c.args.reply c.self.inside.kinds.items c.self.inside.ticketed.items
    ∙ ap (λ (v : ReorderBufferView). map (complete_one c.args.ticket c.args.reply) v.lines) c.self.view_is
