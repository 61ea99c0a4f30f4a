-- What was sent is on the device: what a crash after event k leaves holds all that was logged by then, and each line that was written for
-- a message with a ticket is of a message that was logged.
use Rattle.std.proofs.Common.{◌≡◌, ℕ, zero, suc, ◌+◌, ◌≤◌, true, List, [], ◌∷◌, ◌++◌, Option, Some, None, refl, ap, sym, ◌∙◌, subst, length, take, drop, map, inl, inr, ⊎_elim, append_assoc, arith}
use Rattle.std.specs.List.{AllByRecursion, Contains}
use Rattle.std.proofs.lemmas.Bool.{true≢false}
use Rattle.std.proofs.lemmas.List.{length-append, length-map, take_all}
use Rattle.affinity.specs.declared.geometry.Geometry.{Geometry}
use Rattle.recovery.proofs.NotRefused.{is_not_refused, has_header}
use Rattle.disk.proofs.CrashImagesAre.{counts_now}
use Rattle.disk.specs.CrashImages.{IsCrashImage, left_since}
use Rattle.disk.specs.Device.{moment_number}
use Rattle.histories.proofs.AnsweredFirst.{run_replies}
use Rattle.histories.proofs.Arrivals.{run_ascending}
use Rattle.histories.proofs.Crashes.{went_first}
use Rattle.histories.proofs.Elements.{contains_in, holds_of, in_contained, IsIn, in_left, in_right}
use Rattle.histories.proofs.SerialHistories.{answered_came, left_in_order, logged_begins, one_message, still_serial}
use Rattle.histories.specs.Events.{Event, recorded}
use Rattle.histories.specs.MachineState.{MachineState}
use Rattle.histories.specs.IsSerialHistory.{ticket_replies}
use Rattle.histories.specs.Runs.{answered_messages, arrived, arrives, end_state, logged_messages}
use Rattle.histories.specs.CoreState.{Entry, Replied, entry, IsIdle}
use Rattle.scheduler.specs.Machine.{MachineView, machine_of}
use Rattle.scheduler.specs.DeviceEvents.{DeviceEvent, RecoversForRun, device_after, events_of}
use Rattle.protocol.specs.Grammar.{message_of}
use Rattle.protocol.specs.declared.messages.Msg.{Msg}
use Rattle.protocol.specs.declared.replies.Reply.{Reply}
use Rattle.meaning.specs.Step.{state_after_all}
use Rattle.meaning.specs.State.{State}
use Rattle.scheduler.specs.CoreView.{CoreView, core_state_of}
use Rattle.serving.specs.Runs.{HasRunLines}
use Rattle.serving.specs.HasServed.{HasServed}
use Rattle.serving.specs.Ends.{committed_in}
use Rattle.serving.specs.Lines.{Completed, AreKnown, IsKnown, Line, NoMessage, OutOfRange, Pending, admitted, admitted_in, has_answer, next_ticket, answer_text, ticketed}
use Rattle.serving.specs.History.{AreInHistory, RecoversToHistory, IsInHistory}
use Rattle.serving.specs.HoldsSent.{HoldsSent}
use Rattle.serving.specs.Progress.{IsServing}
use Rattle.serving.proofs.HaveSerialReplies.{as_many}
use Rattle.serving.proofs.Tickets.{ticketed-append}

-- ---- what a crash leaves

arrived_parted : (events : List Event) (k : ℕ) → arrived (take k events) ++ arrived (drop k events) ≡ arrived events
arrived_parted events zero = refl
arrived_parted [] (suc k) = refl
arrived_parted (event ∷ events) (suc k) =
    append_assoc (arrives event.step event.outcome) (arrived (take k events)) (arrived (drop k events))
    ∙ ap (λ es. arrives event.step event.outcome ++ es) (arrived_parted events k)

module _ {keeps : Type 0} {start : MachineView} {new : CoreView} {input : Option (List ℕ)} {consumed : List (List ℕ)}
    (idle : IsIdle (core_state_of start.core)) (none : start.core.doubt ≡ []) (r : HasRunLines keeps start new input consumed) where
  abbrev g : Geometry
  g = start.core.geometry

  abbrev w : MachineState
  w = machine_of start

  abbrev device_events : List DeviceEvent
  device_events = r.segment.device_events

  abbrev events : List Event
  events = events_of device_events

  -- What recovers to a state of the run since event k holds all that was logged by then.
  holds_since : (k : ℕ) (c : List ℕ) → RecoversForRun g w events k c → RecoversToHistory g (committed_in start.core) (arrived events) (logged_messages w (take k events)) c
  holds_since k c s =
      let after = s.left.after in
      let found = left_in_order g r.segment.leads.legal idle none s.left.is_log in
      let some = take found.0 (end_state w (take after events)).core.ran in
      let first = went_first w events k after s.left.since in
      let whole = ap (λ (l : List Replied). l ++ some) first.1 ∙ append_assoc (logged_messages w (take k events)) first.0 some in
      let all = arrived_parted events after in
      let serial = rw (all, whole) at (still_serial g (committed_in start.core) (arrived (take after events)) (arrived (drop after events))
      (logged_messages w (take after events) ++ some) (rw all (run_ascending g w events r.segment.leads.legal)) found.1) in
      record {
        more = first.0 ++ some;
        serial = serial;
        recovers = s.is ∙ ap (λ (x : State). Some x) s.left.state
            ∙ ap (λ (ms : List Msg). Some (state_after_all g (committed_in start.core) ms)) (found.2 ∙ ap recorded whole);
      }

  -- What a crash leaves since event k ended holds all that was logged by then.
  pub holds_logged : keeps → (k : ℕ) (c : List ℕ) → k ≤ length device_events
      → left_since new.medium (moment_number (device_after start.core.medium (take k device_events))) c
      → RecoversToHistory g (committed_in start.core) (ticketed start.core.next (admitted g consumed)) (logged_messages w (take k events)) c
  holds_logged kept k c le since =
      rw r.segment.arrived_are at (holds_since k c (r.crash kept k c le since))

  -- What a crash leaves at the end of the run holds all that was logged.
  pub holds_all : keeps → (c : List ℕ) → IsCrashImage new.medium c
      → RecoversToHistory g (committed_in start.core) (ticketed start.core.next (admitted g consumed)) (logged_messages w events) c
  holds_all kept c leaves =
      let n = length device_events in
      let at_end : device_after start.core.medium (take n device_events) ≡ new.medium =
      ap (λ (ss : List DeviceEvent). device_after start.core.medium ss) (take_all n device_events (omega arith)) ∙ r.segment.leads.device in
      let long : length events ≤ n = omega (arith, length-map device_events (λ (s : DeviceEvent). s.event)) in
      rw (take_all n events long) at (holds_logged kept n c (omega arith) (rw at_end (counts_now new.medium (moment_number new.medium) c (omega arith) leaves)))

-- ---- the lines

module _ (g : Geometry) (replies : List (ℕ × Reply)) (log : List Replied) (whole : List Entry)
    (logged : (ticket : ℕ) (m : Msg) (reply : Reply) → IsIn (ticket, m) whole → Contains replies (ticket, reply) → Contains log (ticket, m, reply)) where
  one_kept : (n : ℕ) (o : Option Msg) (ls : List (List ℕ)) (line : Line)
      → ((e : Entry) → IsIn e (ticketed n (admitted_in g o ++ admitted g ls)) → IsIn e whole)
      → IsKnown g replies n o line → has_answer line ≡ true → IsInHistory g log n o (answer_text line)
  one_kept n None ls NoMessage among k is = refl
  one_kept n (Some m) ls OutOfRange among k is = inl (k, refl)
  one_kept n (Some m) ls (Pending t) among k is = absurd (true≢false (sym is))
  one_kept n (Some m) ls (Completed t reply) among k is =
      inr (k.0, (reply, refl, logged n m reply (among (n, m) (rw k.0 (inl refl))) (rw k.1 at k.2)))
  one_kept n o ls line among k is = absurd k

  are_kept : (n : ℕ) (ls : List (List ℕ)) (sent_lines unsent : List Line) → ((e : Entry) → IsIn e (ticketed n (admitted g ls)) → IsIn e whole)
      → AreKnown g replies n ls (sent_lines ++ unsent) → AllByRecursion (λ line. has_answer line ≡ true) sent_lines → AreInHistory g log n ls (map answer_text sent_lines)
  are_kept n ls [] unsent among k all = tt
  are_kept n [] (line ∷ sent_lines) unsent among k all = absurd k
  are_kept n (l ∷ ls) (line ∷ sent_lines) unsent among k all =
      let ms = admitted_in g (message_of l) in (
        one_kept n (message_of l) ls line among k.0 all.0,
        are_kept (next_ticket n ms) ls sent_lines unsent
            (λ e is. among e (rw (ticketed-append n ms (admitted g ls)) (in_right e (ticketed n ms) (ticketed (next_ticket n ms) (admitted g ls)) is)))
            k.1 all.1,
      )

-- the message behind a pair of a ticket and a reply
said_of : (as' : List Replied) (p : ℕ × Reply) → IsIn p (ticket_replies as') → (m : Msg) × IsIn (p.0, m, p.1) as'
said_of [] p is = absurd is
said_of (a ∷ as') p is = ⊎_elim
    (λ (e : p ≡ (a.0, a.2)). (a.1, inl (λ i. ((e i).0, a.1, (e i).1))))
    (λ later. let h = said_of as' p later in (h.0, inr h.1)) is

module _ {keeps : Type 0} {start now : MachineView} {consumed : List (List ℕ)} {sent_lines unsent : List Line}
    (idle : IsIdle (core_state_of start.core)) (s : IsServing keeps start now consumed sent_lines unsent) where
  abbrev serving_log : List Replied
  serving_log = logged_messages (machine_of start) (events_of s.segment.device_events)

  -- If the run gave a reply to a message's ticket, the message was logged with that reply.
  was_logged : (ticket : ℕ) (m : Msg) (reply : Reply) → IsIn (ticket, m) (ticketed start.core.next (admitted start.core.geometry consumed))
      → Contains s.reply_pairs (ticket, reply) → Contains serving_log (ticket, m, reply)
  was_logged ticket m reply asks told =
      let g = start.core.geometry in
      let w = machine_of start in
      let p = s.segment in
      let events = events_of p.device_events in
      let came = arrived events in
      let one = said_of (answered_messages w events) (ticket, reply)
      (subst (IsIn (ticket, reply)) (sym (run_replies g w events p.leads.legal ∙ p.reply_pairs_are)) (in_contained s.reply_pairs (ticket, reply) told)) in
      let its : IsIn (ticket, one.0) came =
      in_contained came (ticket, one.0)
      (holds_of (λ (a : Replied). Contains came (entry a)) (answered_messages w events) (answered_came g w events p.leads.legal idle) (ticket, one.0, reply) one.1) in
      let same : one.0 ≡ m = ap (λ (e : Entry). e.1)
      (one_message came (run_ascending g w events p.leads.legal) (ticket, one.0) (ticket, m) its
      (subst (IsIn (ticket, m)) (sym p.arrived_are) asks) refl) in
      contains_in serving_log (ticket, m, reply)
      (subst (λ (l : List Replied). IsIn (ticket, m, reply) l) (sym (logged_begins g w events p.leads.legal idle))
      (in_left (ticket, m, reply) (answered_messages w events) (end_state w events).core.logged
      (subst (λ (m' : Msg). IsIn (ticket, m', reply) (answered_messages w events)) same one.1)))

  -- Each line that was sent is in the history of what the run logged (`AreInHistory`).
  pub serving_kept : AreInHistory start.core.geometry serving_log start.core.next consumed (map answer_text sent_lines)
  serving_kept = are_kept start.core.geometry s.reply_pairs serving_log
      (ticketed start.core.next (admitted start.core.geometry consumed)) was_logged start.core.next consumed sent_lines unsent (λ e is. is) s.known s.answered

module _ {keeps : Type 0} {start : MachineView} {new : CoreView} {unsent : List Line} {input before written : Option (List ℕ)}
    (idle : IsIdle (core_state_of start.core)) (h : HasServed keeps start new unsent input before written) where
  abbrev run_log : List Replied
  run_log = logged_messages (machine_of start) (events_of h.run.segment.device_events)

  -- No more consumed lines have no answer than these slots, where no more lines are unsent.
  pub few_answered : (slots : ℕ) → length unsent ≤ slots → length h.consumed ≤ length (map answer_text h.sent_lines) + slots
  few_answered slots few =
      let all = as_many start.core.geometry h.run.reply_pairs start.core.next h.consumed (h.sent_lines ++ unsent) h.known in
      omega (arith, all, length-append {A = Line}, length-map h.sent_lines answer_text)

  -- Each line that was written is in the history of what the run logged (`AreInHistory`).
  pub written_are_kept : AreInHistory start.core.geometry run_log start.core.next h.consumed (map answer_text h.sent_lines)
  written_are_kept = serving_kept idle (record { reply_pairs = h.run.reply_pairs; segment = h.run.segment; known = h.known; answered = h.have_answers })

  -- Whatever a crash leaves at the end of the run holds what was written.
  pub holds_sent : (slots : ℕ) → length unsent ≤ slots → start.core.doubt ≡ [] → keeps → (c : List ℕ) → IsCrashImage new.medium c
      → HoldsSent start.core.geometry (committed_in start.core) slots start.core.next input before written c
  holds_sent slots few none kept c leaves =
      let g = start.core.geometry in
      let held = holds_all idle none h.run kept c leaves in
      let state = state_after_all g (committed_in start.core) (recorded (run_log ++ held.more)) in
      record {
        consumed = h.consumed;
        first = h.run.first;
        lines = map answer_text h.sent_lines;
        output = h.output;
        few = few_answered slots few;
        history = run_log;
        kept = written_are_kept;
        holds = held;
        header = has_header g c state leaves.bytes held.recovers;
        not_refused = is_not_refused g c state leaves.bytes held.recovers;
      }
