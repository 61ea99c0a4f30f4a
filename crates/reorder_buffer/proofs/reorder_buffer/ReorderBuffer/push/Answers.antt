-- A line more is a kind more, and where it has a ticket, a line more beside the kinds.
use Rattle.std.proofs.lemmas.Grind.{common_steps}
use Rattle.std.proofs.Common.{◌≡◌, ◌<◌, ◌≤◌, ◌++◌, ◌∷◌, [], List, ap, arith, length, refl, subst, sym, ◌∙◌}
use Rattle.std.specs.VecDeque.{deque_capacity}
use Rattle.std.proofs.lemmas.List.{length_push}
use Rattle.reorder_buffer.specs.ReorderBuffer.{Line, AreConsecutive, Ticketed, LineKind, OutOfRangeKind, ReorderBufferView, NoMessageKind, ticketed_among, with_tickets}
use Rattle.reorder_buffer.specs.View.{IsReorderBuffer, buffer_view}
use Rattle.reorder_buffer.specs.declared.reorder_buffer.ReorderBuffer.TheInside.{Inside}
use Rattle.reorder_buffer.proofs.Order.{ticket_in}
use Rattle.reorder_buffer.proofs.Lines.{ticketed_among-append, fewer_are_ticketed, length-lines, lines_of-append, lines_of-plain, tickets_of_lines}
use Rattle.reorder_buffer.proofs.reorder_buffer.ReorderBuffer.push.Goals as goal

-- there is room for a kind where there is for a line, and a line without a ticket is a kind more
module _ (k : Inside) (was : IsReorderBuffer k) {v : ReorderBufferView} (is : buffer_view k ≡ v) where
  room : length v.lines < v.slots → length k.kinds.items < k.slots
  room few =
      let lines = length-lines k.kinds.items k.ticketed.items k.slots v is was.among in
      let same = ap (λ (v : ReorderBufferView). v.slots) is in
      omega (arith, lines, same, few)

  fits : length v.lines < v.slots → length k.kinds.items < deque_capacity k.kinds
  fits few = omega (arith, was.room, room few)

  one_kind_more : (n : Inside) (kind : LineKind) → ticketed_among (kind ∷ []) ≡ 0 → length v.lines < v.slots → n.kinds.items ≡ k.kinds.items ++ kind ∷ []
      → k.slots ≤ deque_capacity n.kinds → IsReorderBuffer (record k { kinds = n.kinds })
  one_kind_more n kind no_ticket few items capacity =
      let more = ap (λ (l : List LineKind). length l) items ∙ length_push k.kinds.items kind in
      let ticketed = ap (λ (l : List LineKind). ticketed_among l) items ∙ ticketed_among-append k.kinds.items (kind ∷ []) in
      record {
        room = capacity;
        room_beside = was.room_beside;
        most = omega (arith, more, room few);
        among = omega (arith, ticketed, no_ticket, was.among);
        consecutive = was.consecutive;
      }

pub push_back_reserved-requires : goal.push_back_reserved-requires
push_back_reserved-requires c = let ok = c.self.inside.kinds.ok in omega (arith, fits c.self.inside c.self.invariant c.self.view_is c.requires.room, ok)

pub push_back_reserved-requires-in-OutOfRange : goal.push_back_reserved-requires-in-OutOfRange
push_back_reserved-requires-in-OutOfRange c = let ok = c.self.inside.kinds.ok in omega (arith, fits c.self.inside c.self.invariant c.self.view_is c.requires.room, ok)

pub push_back_reserved-requires-in-Pending : goal.push_back_reserved-requires-in-Pending
push_back_reserved-requires-in-Pending c = let ok = c.self.inside.kinds.ok in omega (arith, fits c.self.inside c.self.invariant c.self.view_is c.requires.room, ok)

pub push_back_reserved-requires-in-Pending-2 : goal.push_back_reserved-requires-in-Pending-2
push_back_reserved-requires-in-Pending-2 c =
    let k = c.self.inside in
    let was = c.self.invariant in
    let ok = k.ticketed.ok in
    omega (arith, was.room_beside, was.among, room k was c.self.view_is c.requires.room, ok, fewer_are_ticketed k.kinds.items)

pub invariant_of-self : goal.invariant_of-self
invariant_of-self c = one_kind_more c.self.inside c.self.invariant c.self.view_is (record c.self.inside { kinds = c.push_back_reserved.new.self }) NoMessageKind refl c.requires.room
    c.push_back_reserved.ensures.items (let was = c.self.invariant in omega (arith, was.room, c.push_back_reserved.ensures.capacity))

pub invariant_of-self-in-OutOfRange : goal.invariant_of-self-in-OutOfRange
invariant_of-self-in-OutOfRange c =
    let pushed = c.push_back_reserved-in-OutOfRange in
    one_kind_more c.self.inside c.self.invariant c.self.view_is (record c.self.inside { kinds = pushed.new.self }) OutOfRangeKind refl c.requires.room
    pushed.ensures.items (let was = c.self.invariant in omega (arith, was.room, pushed.ensures.capacity))

pub returns-in-NoMessage-clause-lines : goal.returns-in-NoMessage-clause-lines
returns-in-NoMessage-clause-lines c = grind (arith, common_steps, lines_of-plain)

pub returns-in-OutOfRange-clause-lines : goal.returns-in-OutOfRange-clause-lines
returns-in-OutOfRange-clause-lines c = grind (arith, common_steps, lines_of-plain)

pub invariant_of-self-in-Pending : goal.invariant_of-self-in-Pending
invariant_of-self-in-Pending c =
    let k = c.self.inside in
    let was = c.self.invariant in
    let pushed = c.push_back_reserved-in-Pending.ensures in
    let beside = c.push_back_reserved-in-Pending-2.ensures in
    let more = ap (λ (l : List LineKind). length l) pushed.items ∙ length_push k.kinds.items Ticketed in
    let kinds = ap (λ (l : List LineKind). ticketed_among l) pushed.items ∙ ticketed_among-append k.kinds.items (Ticketed ∷ []) in
    let ticketed = ap (λ (l : List Line). length l) beside.items ∙ length_push k.ticketed.items c.args.line in
    let of = ticket_in c.args.line c.in-Pending.is in record {
      room = omega (arith, was.room, pushed.capacity);
      room_beside = omega (arith, was.room_beside, beside.capacity);
      most = omega (arith, more, room k was c.self.view_is c.requires.room);
      among = omega (arith, kinds, ticketed, was.among);
      consecutive = subst (λ (l : List Line). AreConsecutive l) (sym {A = List Line} beside.items)
          (subst (λ (l : List Line). AreConsecutive (l ++ c.args.line ∷ []))
          (ap (λ (v : ReorderBufferView). with_tickets v.lines) (sym c.self.view_is) ∙ tickets_of_lines k.kinds.items k.ticketed.items was.consecutive.0 was.among was.consecutive.1)
          (c.requires.order of.0 of.1));
    }

pub returns-in-Pending-clause-lines : goal.returns-in-Pending-clause-lines
returns-in-Pending-clause-lines c = grind (arith, common_steps, lines_of-append)
