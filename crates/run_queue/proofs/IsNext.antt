-- What is known of the message that is dispatched next.
use Rattle.std.proofs.Common.{arith}
use Rattle.std.proofs.lemmas.Grind.{common_steps}
use Rattle.std.proofs.Common.{◌≡◌, Bool, true, List, [], ◌∷◌, ◌++◌, Some}
use Rattle.std.specs.List.{list_any}
use Rattle.std.proofs.lemmas.Option.{none-some}
use Rattle.run_queue.specs.RunQueue.{RunQueueView, first_dispatchable, has_slot, IsNext}
use Rattle.run_queue.specs.declared.queued_message.QueuedMessage.{QueuedMessage}

-- the message that is dispatched next is one of those that wait
waits_from : (room : Bool) (held earlier later : List QueuedMessage) (t : QueuedMessage) → first_dispatchable room held earlier later ≡ Some t
    → list_any (has_slot t.slot) later ≡ true
waits_from room held earlier [] t h = absurd (none-some t h)
waits_from room held earlier (u ∷ later) t h = grind (arith, common_steps, waits_from room held (earlier ++ u ∷ []) later t)

pub next_waits : (q : RunQueueView) (t : QueuedMessage) → IsNext q t → list_any (has_slot t.slot) q.waiting ≡ true
next_waits q t h = waits_from h.0 q.held [] q.waiting t h.1
