-- Where nothing waits and nothing is held, each line has its answer. Where nothing is held, and nothing that waits may be dispatched though
-- a place is free and the log has room, nothing waits.
use Rattle.std.proofs.Common.{◌≡◌, ℕ, Bool, false, List, [], ◌∷◌, ◌++◌, Option, Some, None, refl, ap, sym, ◌∙◌, subst, inl, inr, ⊎_elim, append-nil}
use Rattle.std.specs.Prelude.{IsPermutation}
use Rattle.std.specs.List.{Contains}
use Rattle.std.proofs.lemmas.Bool.{true≢false}
use Rattle.std.proofs.lemmas.List.Sorted.{Contains-permutation}
use Rattle.affinity.specs.declared.geometry.Geometry.{Geometry}
use Rattle.histories.proofs.AnsweredFirst.{run_in_order, run_replies}
use Rattle.histories.proofs.Elements.{contains_in, in_contained, IsIn, in_right}
use Rattle.histories.proofs.Idle.{none_in_flight, none_logged, none_ran}
use Rattle.histories.proofs.SerialHistories.{none_lost}
use Rattle.histories.specs.CoreState.{Entry, Replied, entries, IsIdle}
use Rattle.histories.specs.Events.{Event}
use Rattle.histories.specs.MachineState.{MachineState}
use Rattle.histories.specs.IsSerialHistory.{ticket_replies}
use Rattle.histories.specs.Runs.{IsLegal, answered_messages, arrived, end_state, logged_messages}
use Rattle.scheduler.specs.DeviceEvents.{events_of}
use Rattle.scheduler.specs.Machine.{MachineView, machine_of}
use Rattle.protocol.specs.Grammar.{message_of}
use Rattle.protocol.specs.declared.messages.Msg.{Msg}
use Rattle.protocol.specs.declared.replies.Reply.{Reply}
use Rattle.reorder_buffer.specs.ReorderBuffer.{can_retire}
use Rattle.scheduler.specs.CoreView.{core_state_of}
use Rattle.serving.specs.Lines.{AreKnown, IsKnown, Line, Pending, NoneIsTo, admitted, admitted_in, next_ticket, ticketed}
use Rattle.serving.specs.Progress.{ServingProgress}
use Rattle.serving.specs.Runs.{RunsBetween}
use Rattle.serving.proofs.Tickets.{ticketed-append}

-- ---- a pending line

-- the message of a line without an answer: it took this ticket, and no reply is to it
record Awaits (replies : List (ℕ × Reply)) (arriving : List Entry) (ticket : ℕ) : Type 0 where
  pub message : Msg
  pub arrived_so : IsIn (ticket, message) arriving
  pub none_to : NoneIsTo replies ticket

module _ (g : Geometry) (replies : List (ℕ × Reply)) (ticket : ℕ) (rest : List Line) where
  first_awaits : (n : ℕ) (o : Option Msg) (behind : List Msg) → IsKnown g replies n o (Pending ticket)
      → Awaits replies (ticketed n (admitted_in g o ++ behind)) ticket
  first_awaits n None behind k = absurd k
  first_awaits n (Some m) behind k =
      record { message = m; arrived_so = rw k.0 (inl (λ i. (k.1 i, m))); none_to = k.2 }

  awaits : (n : ℕ) (ls : List (List ℕ)) (before : List Line) → AreKnown g replies n ls (before ++ Pending ticket ∷ rest)
      → Awaits replies (ticketed n (admitted g ls)) ticket
  awaits n [] [] k = absurd k
  awaits n [] (known ∷ before) k = absurd k
  awaits n (l ∷ ls) [] k = first_awaits n (message_of l) (admitted g ls) k.0
  awaits n (l ∷ ls) (known ∷ before) k =
      let one = admitted_in g (message_of l) in
      let later = awaits (next_ticket n one) ls before k.1 in
      let arrived_so = in_right (ticket, later.message) (ticketed n one) _ later.arrived_so in
      record { message = later.message; arrived_so = rw (ticketed-append n one (admitted g ls)) arrived_so; none_to = later.none_to }

-- ---- all is answered

-- the reply to a message that was answered
reply_of : (as' : List Replied) (e : Entry) → IsIn e (entries as') → (reply : Reply) × IsIn (e.0, reply) (ticket_replies as')
reply_of [] e is = absurd is
reply_of (a ∷ as') e is = ⊎_elim
    (λ (same : e ≡ (a.0, a.1)). (a.2, inl (λ i. ((same i).0, a.2))))
    (λ later. let h = reply_of as' e later in (h.0, inr h.1)) is

-- where nothing waits and nothing is held at both ends of a run, the messages that arrived in it are those that it answered
came_and_answered : (g : Geometry) (old : MachineState) (events : List Event) → IsLegal g old events → IsIdle old.core → IsIdle (end_state old events).core
    → IsPermutation (arrived events) (entries (answered_messages old events))
came_and_answered g old events legal idle ends =
    let now = (end_state old events).core in
    let logged_is : logged_messages old events ≡ answered_messages old events =
    ap (λ l. l ++ logged_messages old events) (sym (none_logged old.core idle)) ∙ run_in_order g old events legal
    ∙ ap (λ l. answered_messages old events ++ l) (none_logged now ends) ∙ append-nil (answered_messages old events) in
    let rest : entries now.ran ++ (now.in_flight ++ now.waiting) ≡ [] = λ i. entries (none_ran now ends i) ++ (none_in_flight now ends i ++ ends.none_waits i) in
    subst (IsPermutation (arrived events)) ((λ i. entries (logged_is i) ++ rest i) ∙ append-nil (entries (answered_messages old events)))
    (none_lost g old events legal idle)

-- so each message that arrived in it has its reply
has_reply : {keeps : Type 0} {start now : MachineView} {arriving : List Entry} {replies : List (ℕ × Reply)} → IsIdle (core_state_of start.core)
    → IsIdle (core_state_of now.core) → RunsBetween keeps start now arriving replies → (e : Entry) → IsIn e arriving → (reply : Reply) × Contains replies (e.0, reply)
has_reply {start} {now} idle idle_now r e is =
    let g = start.core.geometry in
    let events = events_of r.device_events in
    let w = machine_of start in
    let ended : IsIdle (end_state w events).core = subst (λ (v : MachineState). IsIdle v.core) (sym r.leads.ends) idle_now in
    let came = subst (IsIn e) (sym r.arrived_are) is in
    let found = reply_of (answered_messages w events) e
    (in_contained _ e (Contains-permutation (arrived events) (entries (answered_messages w events)) e (came_and_answered g w events r.leads.legal idle ended) (contains_in _ e came))) in
    (found.0, contains_in _ (e.0, found.0) (subst (IsIn (e.0, found.0)) (run_replies g w events r.leads.legal ∙ r.reply_pairs_are) found.1))

module _ {keeps : Type 0} {start now : MachineView} (idle : IsIdle (core_state_of start.core)) (idle_now : IsIdle (core_state_of now.core)) where
  not_pending : {input unread : Option (List ℕ)} {drained : Bool} {before written : Option (List ℕ)} (ticket : ℕ) (rest : List Line)
      → ServingProgress keeps start now (Pending ticket ∷ rest) input unread drained before written → ⊥
  not_pending ticket rest h =
      let a = awaits start.core.geometry h.serving.reply_pairs ticket rest start.core.next h.consumed h.sent_lines h.serving.known in
      let r = has_reply idle idle_now h.serving.segment (ticket, a.message) a.arrived_so in
      a.none_to r.0 r.1

  -- Where nothing waits and nothing is held, and the first line has no answer, there is none.
  pub no_line : {input unread : Option (List ℕ)} {drained : Bool} {before written : Option (List ℕ)} (lines : List Line)
      → ServingProgress keeps start now lines input unread drained before written → can_retire lines ≡ false → lines ≡ []
  no_line [] h last = refl
  no_line (Pending ticket ∷ rest) h last = absurd (not_pending ticket rest h)
  no_line (line ∷ rest) h last = absurd (true≢false last)
