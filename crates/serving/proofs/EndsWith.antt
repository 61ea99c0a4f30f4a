-- What a server has written when it ends, compared with the serial server.
use Rattle.std.proofs.Common.{◌≡◌, ◌≢◌, ℕ, ◌<◌, ◌≤◌, Bool, true, false, List, [], ◌∷◌, ◌++◌, Option, Some, None, ap, sym, ◌∙◌, subst, length, map, take, inr, ⊎_elim, append_assoc, append-nil, arith}
use Rattle.std.specs.Prelude.{IfSome, Ok, Err}
use Rattle.std.specs.Io.KnownBytes.{IsAtEnd}
use Rattle.std.proofs.lemmas.Bool.{true≢false}
use Rattle.std.proofs.lemmas.List.Elements.{recursion_from_All}
use Rattle.std.proofs.lemmas.Option.{none-some, same_Some}
use Rattle.affinity.specs.declared.geometry.Geometry.{Geometry}
use Rattle.scheduler.proofs.HasRun.{left_since_event}
use Rattle.histories.proofs.Arrivals.{answered_by_ticket, arrived_by_ticket, committed_by_ticket}
use Rattle.histories.proofs.Idle.{idle_sound}
use Rattle.histories.proofs.Elements.{IsIn}
use Rattle.histories.specs.MachineState.{MachineState}
use Rattle.histories.specs.IsSoundCoreState.{IsSoundCoreState}
use Rattle.histories.specs.CoreState.{Entry, IsIdle}
use Rattle.histories.specs.Runs.{arrived}
use Rattle.protocol.proofs.FirstLines.{lines-first}
use Rattle.protocol.specs.Lines.{lines}
use Rattle.protocol.specs.FirstLine.{LosesLineStart, behind_first_line}
use Rattle.protocol.specs.declared.replies.Reply.{Reply}
use Rattle.meaning.specs.TicketOrder.{by_ticket, messages_of, serial_replies}
use Rattle.meaning.specs.Output.{AnswersWholeLines, IsBeginning, WritesOutput, joined, output_lines, state_after_lines, with_newlines}
use Rattle.meaning.specs.Progress.{AreTaken, TakesLines}
use Rattle.meaning.specs.Step.{state_after_all}
use Rattle.meaning.specs.State.{State}
use Rattle.scheduler.specs.CoreView.{RecoversNow, core_state_of}
use Rattle.serving.specs.Runs.{AreFirst}
use Rattle.serving.specs.HasServed.{HasServed}
use Rattle.serving.specs.Ends.{AreServed, EndsWith, IsQuiesced, committed_in}
use Rattle.serving.specs.Exchange.{exchange}
use Rattle.serving.specs.Progress.{ServingProgress, IsServing}
use Rattle.serving.specs.Session.{IsReadEnd}
use Rattle.serving.specs.Lines.{Line, admitted, next_ticket, answer_text, ticketed}
use Rattle.scheduler.specs.Machine.{MachineView, machine_of}
use Rattle.scheduler.specs.DeviceEvents.{events_of}
use Rattle.serving.specs.declared.server.ServeFault.TheVariants as faults
use Rattle.serving.specs.declared.session.ReadEnd.TheVariants as ends_of_reading
use Rattle.serving.proofs.Outstanding.{idle_again}
use Rattle.serving.proofs.HaveSerialReplies.{HaveSerialReplies, all_lines_answered, asked_leads_there, sent_lines_are_serial, ticket_earlier}
use Rattle.serving.proofs.Tickets.{messages-ticketed, next_from}

module _ (keeps : Type 0) (start now : MachineView) (idle : IsIdle (core_state_of start.core)) where
  abbrev g : Geometry
  g = start.core.geometry

  abbrev x : State
  x = committed_in start.core

  pub sound : IsSoundCoreState g (core_state_of start.core)
  sound = idle_sound (core_state_of start.core) idle g

  -- ---- of a run

  module _ {consumed : List (List ℕ)} {sent_lines unsent : List Line} (s : IsServing keeps start now consumed sent_lines unsent) where
    by_line : by_ticket (arrived (events_of s.segment.device_events)) ≡ ticketed start.core.next (admitted g consumed)
    by_line = arrived_by_ticket g (machine_of start) (events_of s.segment.device_events) s.segment.leads.legal ∙ s.segment.arrived_are

    serial_pairs : HaveSerialReplies g s.reply_pairs x start.core.next (ticketed start.core.next (admitted g consumed))
    serial_pairs p is = inr (subst (λ (es : List Entry). IsIn p (serial_replies g x es)) by_line
        (answered_by_ticket g (machine_of start) (events_of s.segment.device_events) s.segment.leads.legal sound idle p
        (subst (IsIn p) (sym s.segment.reply_pairs_are) is)))

    -- Each ticket that was answered comes before the next one to be given.
    pub ticket_before : (p : ℕ × Reply) → IsIn p s.reply_pairs → p.0 < next_ticket start.core.next (admitted g consumed)
    ticket_before p is = ⊎_elim
        (λ (lt : p.0 < start.core.next). let from = next_from start.core.next (admitted g consumed) in omega (arith, lt, from))
        (λ here. ticket_earlier g x start.core.next (admitted g consumed) p here)
        (serial_pairs p is)

    leads : IsIdle (core_state_of now.core) → committed_in now.core ≡ state_after_lines g x consumed
    leads ends =
        let e = s.segment.leads.ends in
        ap (λ (w : MachineState). w.core.committed) (sym e)
        ∙ committed_by_ticket g (machine_of start) (events_of s.segment.device_events) s.segment.leads.legal sound idle (subst (λ (w : MachineState). IsIdle w.core) (sym e) ends)
        ∙ ap (λ (es : List Entry). state_after_all g x (messages_of es)) by_line
        ∙ ap (state_after_all g x) (messages-ticketed start.core.next (admitted g consumed))
        ∙ asked_leads_there g x consumed

    begins : (more : List (List ℕ)) → map answer_text sent_lines ≡ take (length sent_lines) (output_lines g x (consumed ++ more))
    begins more = sent_lines_are_serial g s.reply_pairs more unsent x start.core.next consumed sent_lines serial_pairs s.known s.answered

  -- where each line that was consumed is answered
  served : {consumed : List (List ℕ)} {sent_lines : List Line} → IsServing keeps start now consumed sent_lines [] → IsIdle (core_state_of now.core)
      → AreServed g x (committed_in now.core) consumed (joined (map answer_text sent_lines))
  served {consumed} {sent_lines} s ends =
      record { output = ap joined (all_lines_answered g s.reply_pairs x start.core.next consumed sent_lines (serial_pairs s) s.known s.answered); state = leads s ends }

  -- ---- the ends

  pub ends_whole : {input unread : Option (List ℕ)} {ended : Bool} {before written : Option (List ℕ)} → ServingProgress keeps start now [] input unread ended before written
      → now.core.failed ≡ false → IsAtEnd unread → EndsWith start.core now.core (exchange input unread before written) (Ok tt)
  ends_whole {input = None} h works at_end = (idle_again idle h, works, at_end, tt)
  ends_whole {input = Some input} {unread = None} h works at_end = absurd (none-some h.takes.0 h.takes.1)
  ends_whole {input = Some input} {unread = Some bs} h works at_end =
      let ends = idle_again idle h in
      let rest = h.takes.0 in
      let none : rest ≡ [] = sym (same_Some bs rest h.takes.1) ∙ at_end in
      let all : lines input ≡ h.consumed = h.takes.2.to_come ∙ ap (λ l. h.consumed ++ lines l) none ∙ append-nil h.consumed in
      (ends, works, at_end, (joined (map answer_text h.sent_lines), h.output, rw all (served h.serving ends)))

  pub ends_at_read : {input unread before written : Option (List ℕ)} (remaining : Option (List ℕ)) → ServingProgress keeps start now [] input unread false before written
      → now.core.failed ≡ false → IfSome unread (λ bs. LosesLineStart bs remaining) → EndsWith start.core now.core (exchange input remaining before written) (Err faults.Read)
  ends_at_read {input = None} remaining h works lost = (idle_again idle h, works, tt)
  ends_at_read {input = Some input} {unread = None} remaining h works lost = absurd (none-some h.takes.0 h.takes.1)
  ends_at_read {input = Some input} {unread = Some bs} remaining h works lost =
      let ends = idle_again idle h in
      let t : AreTaken input h.takes.0 false h.consumed = h.takes.2 in
      let parts : input ≡ with_newlines h.consumed ++ lost.got ++ lost.rest =
      ⊎_elim (λ e. absurd (true≢false (sym e)))
      (λ whole. whole ∙ ap (λ z. with_newlines h.consumed ++ z) (sym (same_Some bs h.takes.0 h.takes.1) ∙ lost.parts)
      ∙ sym (append_assoc (with_newlines h.consumed) lost.got lost.rest)) t.whole in
      let k = served h.serving ends in
      let output : AnswersWholeLines g x remaining input (joined (map answer_text h.sent_lines)) =
      search (parts, lost.left_is, recursion_from_All (λ b. b ≢ 10) lost.got lost.within_line, k.output, t) in
      (ends, works, (joined (map answer_text h.sent_lines), h.output, record { output = output; state = k.state }))

  pub ends_exhausted : {input unread before written : Option (List ℕ)} {ended : Bool} (remaining : Option (List ℕ))
      → ServingProgress keeps start now [] input unread ended before written → now.core.failed ≡ false
      → IsReadEnd g now.core unread ended remaining ends_of_reading.TicketsExhausted → EndsWith start.core now.core (exchange input remaining before written) (Err faults.Exhausted)
  ends_exhausted {input = None} remaining h works why = (idle_again idle h, works, why.0, tt)
  ends_exhausted {input = Some input} {unread = None} remaining h works why = absurd (none-some h.takes.0 h.takes.1)
  ends_exhausted {input = Some input} {unread = Some bs} remaining h works why =
      let ends = idle_again idle h in
      let line = why.1.0 in
      let found = why.1.2.1 in
      let same = same_Some bs h.takes.0 h.takes.1 in
      let parts : lines input ≡ h.consumed ++ line ∷ lines (behind_first_line bs) =
      h.takes.2.to_come ∙ ap (λ z. h.consumed ++ lines z) (sym same) ∙ ap (λ z. h.consumed ++ z) (lines-first bs found.more)
      ∙ ap (λ z. h.consumed ++ z ∷ lines (behind_first_line bs)) (sym found.line_is) in
      (ends, works, why.0, (joined (map answer_text h.sent_lines), h.output, search (parts, served h.serving ends, why.1.3, why.1.4)))

  -- the first lines of the input are answered
  pub first_answered : {unsent : List Line} {input unread : Option (List ℕ)} {ended : Bool} {before written : Option (List ℕ)}
      → ServingProgress keeps start now unsent input unread ended before written → WritesOutput input before written (IsBeginning g x)
  first_answered {input = None} h = tt
  first_answered {input = Some input} h =
      let all = begins h.serving (lines h.takes.0)
      ∙ ap (λ ls. take (length h.sent_lines) (output_lines g x ls)) (sym h.takes.2.to_come) in
      (joined (map answer_text h.sent_lines), h.output, (length h.sent_lines, ap joined all))

  pub ends_at_device : {unsent : List Line} {input unread : Option (List ℕ)} {ended : Bool} {before written : Option (List ℕ)}
      → ServingProgress keeps start now unsent input unread ended before written → now.core.failed ≡ true → IsQuiesced now.core
      → EndsWith start.core now.core (exchange input unread before written) (Err faults.Device)
  ends_at_device h failed wound_up = (failed, wound_up, first_answered h)

  pub first_taken : (input unread : Option (List ℕ)) (ended : Bool) (consumed : List (List ℕ)) → TakesLines input unread ended consumed → AreFirst input consumed
  first_taken None unread ended consumed t = tt
  first_taken (Some input) unread ended consumed t = (lines t.0, t.2.to_come)

  unfoldable pub has_served : {unsent : List Line} {input unread : Option (List ℕ)} {ended : Bool} {before written : Option (List ℕ)}
      → (now.core.failed ≡ false → now.core.doubt ≡ []) → (keeps → RecoversNow now.core) → length unsent ≤ start.core.slots
      → ServingProgress keeps start now unsent input unread ended before written → HasServed keeps start now.core unsent input before written
  has_served {input} {unread} {ended} none recovers few h = record {
    consumed = h.consumed;
    run = record {
      first = first_taken input unread ended h.consumed h.takes;
      hands = now.hands;
      reply_pairs = h.serving.reply_pairs;
      segment = h.serving.segment;
      crash = left_since_event h.serving.segment.leads sound none recovers;
    };
    sent_lines = h.sent_lines;
    known = h.serving.known;
    have_answers = h.serving.answered;
    output = h.output;
    few = few;
  }
