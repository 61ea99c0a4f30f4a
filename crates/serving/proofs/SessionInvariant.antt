-- A session keeps its invariant: one lemma for each kind of step, and what follows from the invariant.
use Rattle.std.proofs.Common.{◌≡◌, ◌≢◌, ◌≤◌, ◌<◌, ◌+◌, ℕ, Bool, true, false, List, [], ◌∷◌, ◌++◌, Option, Some, None, refl, ap, sym, ◌∙◌, subst, length, map, drop, replicate, zero, suc, append_assoc, append-nil, arith}
use Rattle.std.proofs.lemmas.List.{length-append, length-map}
use Rattle.std.specs.Prelude.{IfSome, IsTrue, MatchBool}
use Rattle.std.specs.Io.KnownBytes.{Appends, IsAtEnd}
use Rattle.affinity.specs.declared.geometry.Geometry.{Geometry}
use Rattle.atomic_table.specs.Seated.{TableId}
use Rattle.std.proofs.lemmas.Bool.{true≢false}
use Rattle.affinity.proofs.Elements.{all_join}
use Rattle.histories.specs.MachineState.{MachineState, full_hands}
use Rattle.histories.specs.Events.{arrive}
use Rattle.histories.proofs.FullHands.{last_none_out}
use Rattle.histories.proofs.Idle.{none_in_flight}
use Rattle.histories.specs.CoreState.{Entry, IsIdle}
use Rattle.scheduler.specs.DeviceEvents.{events_of}
use Rattle.scheduler.specs.Machine.{MachineView, machine_of}
use Rattle.scheduler.specs.Hands.{hand_of as hand_in}
use Rattle.parcel.specs.JobRun.{JobView}
use Rattle.histories.specs.declared.outcomes.ArriveRefusal.TheVariants as arrivals
use Rattle.histories.specs.declared.outcomes.Outcome.TheVariants.{ArriveRefused}
use Rattle.protocol.specs.Grammar.{message_of}
use Rattle.protocol.specs.FirstLine.{GivesLine, HasWholeFirstLine, PassesLine}
use Rattle.message.specs.BufferedOutput.{all_output}
use Rattle.protocol.specs.declared.messages.Msg.{Msg}
use Rattle.protocol.specs.declared.replies.Reply.{Reply}
use Rattle.scheduler.specs.CoreView.{CoreView, RecoversNow, core_state_of}
use Rattle.serving.specs.Progress.{ServingProgress}
use Rattle.meaning.specs.Output.{joined}
use Rattle.serving.specs.Lines.{HaveAnswers, Line, Pending, complete_one, has_answer, answer_text}
use Rattle.serving.specs.DispatchesTo.{NoneInFlight}
use Rattle.serving.specs.TakesLine.{IsTaken}
use Rattle.reorder_buffer.specs.ReorderBuffer.{AreConsecutive, ReorderBufferView, can_retire, retired_text, with_tickets}
use Rattle.serving.specs.Checkpoints.{trigger_after}
use Rattle.serving.specs.Runs.{HandsHaveJobs, IsInternal, RunsBetween, lent_hand, machine_with_jobs}
use Rattle.serving.specs.declared.checkpoints.CheckpointTrigger.{CheckpointTrigger}
use Rattle.serving.specs.SessionInvariant.{Waits, SessionProgress, HasEndedReading, SessionInvariant, SessionInvariantFrom, ServingSince, ReadsOrHasEnded, IsSent}
use Rattle.serving.specs.Session.{IsReadEnd, SessionView, machine}
use Rattle.message.specs.AppendsBeginning.{AppendsBeginning}
use Rattle.disk.specs.Device.{Medium}
use Rattle.protocol.proofs.Newlines.{newlines}
use Rattle.serving.specs.Kill.{IsKillSafe}
use Rattle.serving.specs.MaySend.{MaySend}
use Rattle.serving.specs.Start.{Start, start_machine}
use Rattle.serving.specs.declared.session.ReadEnd.{ReadEnd}
use Rattle.serving.specs.declared.session.ReadEnd.TheVariants as ends_of_reading
use Rattle.workers.specs.Seats.{DispatchSeatView}
use Rattle.serving.proofs.SentLines.{Sends, sends_on, texts_both}
use Rattle.serving.proofs.TicketOrder.{next_follows}
use Rattle.serving.proofs.Outstanding.{idle_again}
use Rattle.serving.proofs.EndsWith.{has_served}
use Rattle.serving.proofs.Slots.{finds_a_slot}
use Rattle.serving.proofs.KeepsSent.{safe_since}
use Rattle.serving.proofs.Newlines.{in_answers}
use Rattle.serving.proofs.AnsweredLine.{IsAnswered}
use Rattle.serving.proofs.Segments.{still_failed}
use Rattle.serving.proofs.ServingSince.{answered_since, breaks_since, line_since, long_line_since, quiet_since, sends_since}
use Rattle.serving.proofs.TornSend.{all_appended, written_begins}
use Rattle.serving.proofs.Tickets.{passes_next}

-- ---- lines that are sent, completed or retired

-- Where a further answer waits, what was sent is as before.
sent_on : (b : Bool) (reply_buffer bytes more : List ℕ) (whole sent : Option (List ℕ)) → bytes ≡ reply_buffer ++ more → IsSent b reply_buffer whole sent
    → IsSent b bytes whole sent
sent_on true reply_buffer bytes more whole sent added h =
    (h.0, h.1 ++ more, added ∙ ap (λ (l : List ℕ). l ++ more) h.2 ∙ append_assoc h.0 h.1 more, h.3)
sent_on false reply_buffer bytes more whole sent added h = h

-- where no send has failed, all that was sent is whole
pub all_sent : (b : Bool) (reply_buffer : List ℕ) (whole sent : Option (List ℕ)) → b ≡ false → IsSent b reply_buffer whole sent → sent ≡ whole
all_sent true reply_buffer whole sent works h = absurd (true≢false works)
all_sent false reply_buffer whole sent works h = h

-- where no send has failed
pub sent_so : (b : Bool) (reply_buffer : List ℕ) (sent : Option (List ℕ)) → b ≡ false → IsSent b reply_buffer sent sent
sent_so true reply_buffer sent works = absurd (true≢false works)
sent_so false reply_buffer sent works = refl

-- With the answers that wait written after what was sent, their lines are sent.
abbrev sends_waiting : (waiting lines : List Line) (reply_buffer : List ℕ) (sent : Option (List ℕ)) → HaveAnswers waiting → reply_buffer ≡ joined (map answer_text waiting)
    → Sends (waiting ++ lines) lines sent (all_output sent reply_buffer)
sends_waiting waiting lines reply_buffer sent answered is = record {
  sent_lines = waiting;
  were = refl;
  have_answers = answered;
  output = subst (Appends sent (all_output sent reply_buffer)) is (all_appended sent reply_buffer);
}

-- A line that has its answer stays as it is when a message is answered.
is_left : (ticket : ℕ) (reply : Reply) (line : Line) → has_answer line ≡ true → complete_one ticket reply line ≡ line
is_left ticket reply (Pending t) answered = absurd (true≢false (sym answered))
is_left ticket reply line answered = refl

are_left : (ticket : ℕ) (reply : Reply) (waiting lines : List Line) → HaveAnswers waiting
    → map (complete_one ticket reply) (waiting ++ lines) ≡ waiting ++ map (complete_one ticket reply) lines
are_left ticket reply [] lines answered = refl
are_left ticket reply (line ∷ waiting) lines answered =
    ap (λ (x : Line). x ∷ map (complete_one ticket reply) (waiting ++ lines)) (is_left ticket reply line answered.0)
    ∙ ap (λ (l : List Line). line ∷ l) (are_left ticket reply waiting lines answered.1)

-- the oldest line, if it has its answer, and the lines after it
pub record Fronts (lines rest : List Line) : Type 0 where
  pub line : Line
  pub were : lines ≡ line ∷ rest
  pub answered : has_answer line ≡ true
  pub retires : retired_text lines ≡ answer_text line

fronts : (lines rest : List Line) → rest ≡ drop 1 lines → can_retire lines ≡ true → Fronts lines rest
fronts [] rest is next = absurd (true≢false (sym next))
fronts (line ∷ lines) rest is next = record { line = line; were = ap (λ (l : List Line). line ∷ l) (sym is); answered = next; retires = refl }

-- With the answers that wait taken as written, the lines that are not sent are those of the reorder buffer.
unfoldable pub to_reorder_buffer : {keeps : Type 0} {s : Start} {p : SessionView} {unread : Option (List ℕ)} {drained : Bool} (h : SessionProgress keeps s p unread drained)
    → ServingProgress keeps (start_machine s) (machine p) p.reorder_buffer.lines s.input unread drained s.before
    (all_output h.whole p.reply_buffer)
to_reorder_buffer {p} h = sends_on (sends_waiting h.waiting p.reorder_buffer.lines p.reply_buffer h.whole h.have_answers h.reply_buffer_is) h.progress

-- the same answers wait, where as many lines more are outstanding as the reorder buffer has more
abbrev waits_on : {reply_buffer : List ℕ} {n m : ℕ} {old new : ReorderBufferView} → Waits reply_buffer n old → m + length old.lines ≡ n + length new.lines → m ≤ new.slots → Waits reply_buffer m new
waits_on w more few =
    let counted = w.counted in
    record { waiting = w.waiting; have_answers = w.have_answers; reply_buffer_is = w.reply_buffer_is; counted = omega (arith, counted, more); bounded = few }

-- ---- what is in flight

-- no hand has a job where nothing is lent at any place
pub all_empty : (n : ℕ) → full_hands (map hand_in (map lent_hand (replicate n None))) ≡ 0
all_empty zero = refl
all_empty (suc n) = all_empty n

-- Where nothing was in flight at the start of a run, and no job is in flight now, no message is.
pub none_out : {keeps : Type 0} {start : MachineView} {core : CoreView} {lent : List (Option JobView)} {arriving : List Entry} {reply_pairs : List (ℕ × Reply)}
    → IsIdle (core_state_of start.core) → RunsBetween keeps start (machine_with_jobs core lent) arriving reply_pairs → NoneInFlight lent → core.in_flight ≡ []
none_out {start} {core} {lent} idle r none_lent =
    let none : full_hands (machine_of (machine_with_jobs core lent)).hands ≡ 0 =
    ap (λ (l : List (Option JobView)). full_hands (map hand_in (map lent_hand l))) none_lent ∙ all_empty (length lent) in
    ap (λ (w : MachineState). w.core.in_flight) (sym r.leads.ends)
    ∙ last_none_out start.core.geometry (machine_of start) (events_of r.device_events) r.leads.legal (none_in_flight (core_state_of start.core) idle)
    (ap (λ (w : MachineState). full_hands w.hands) r.leads.ends ∙ none)

-- ---- the invariant

module _ (keeps : Type 0) where
  module _ (s : Start) (p : SessionView) where
    -- The reason why no more is read stays true while the next ticket stays the same and a failed device stays failed.
    why_on : (core : CoreView) (unread : Option (List ℕ)) (drained : Bool) (read_end : ReadEnd) → core.next ≡ p.core.next → (p.core.failed ≡ true → core.failed ≡ true)
        → IsReadEnd s.core.geometry p.core unread drained p.remaining read_end → IsReadEnd s.core.geometry core unread drained p.remaining read_end
    why_on core unread drained ends_of_reading.EndOfInput next failed h = h
    why_on core unread drained ends_of_reading.ReadFailed next failed h = h
    why_on core unread drained ends_of_reading.TicketsExhausted next failed h = (next ∙ h.0, h.1)
    why_on core unread drained ends_of_reading.DeviceFailed next failed h = failed h

    -- session q, with the input as in session p: as much unread, drained and remaining
    abbrev reading_at : SessionView → SessionView
    reading_at q = record q { unread = p.unread; drained = p.drained; remaining = p.remaining }

    reads_on : (q : SessionView) → q.core.next ≡ p.core.next → (p.core.failed ≡ true → q.core.failed ≡ true)
        → ((unread : Option (List ℕ)) (drained : Bool) → SessionProgress keeps s p unread drained → SessionProgress keeps s (reading_at q) unread drained)
        → (read_end : Option ReadEnd) → ReadsOrHasEnded keeps s p read_end → ReadsOrHasEnded keeps s (reading_at q) read_end
    reads_on q next failed progress None h = progress p.unread p.drained h
    reads_on q next failed progress (Some read_end) h =
        search (progress h.unread h.drained h.progress_at_end, why_on q.core h.unread h.drained read_end next failed h.why)

    -- how far the session has come, whether it still reads or not
    pub progress_at_end : (read_end : Option ReadEnd) → ReadsOrHasEnded keeps s p read_end → (unread : Option (List ℕ)) × (drained : Bool) × SessionProgress keeps s p unread drained
    progress_at_end None h = (p.unread, p.drained, h)
    progress_at_end (Some read_end) h = (h.unread, h.drained, h.progress_at_end)

  -- ---- what follows from the invariant

  -- what follows for each start for which the invariant holds
  pub ask : {P : Type 0} (o : Option Start) (p : SessionView) → SessionInvariantFrom keeps o p → ((s : Start) → SessionInvariant keeps s p → P) → P
  ask None p u follows = absurd u
  ask (Some s) p u follows = follows s u

  pub holds_of : (o : Option Start) (p : SessionView) → SessionInvariantFrom keeps o p → HandsHaveJobs (machine p)
  holds_of o p u = ask o p u (λ s u. u.holds)

  pub knows_of : (o : Option Start) (p : SessionView) → SessionInvariantFrom keeps o p → IsTrue p.ended → IsAtEnd p.remaining
  knows_of o p u = ask o p u (λ s u. u.knows)

  pub idle_of : (o : Option Start) (p : SessionView) → SessionInvariantFrom keeps o p → p.reorder_buffer.lines ≡ [] → IsIdle (core_state_of p.core)
  idle_of o p u none = ask o p u (λ s u.
      let k = progress_at_end s p p.read_end u.reads in
      idle_again u.idle (simp none at (to_reorder_buffer k.2)))

  -- There is a slot.
  pub has_slots : (o : Option Start) (p : SessionView) → SessionInvariantFrom keeps o p → 0 < p.reorder_buffer.slots
  has_slots o p u = ask o p u (λ s u.
      let fits = u.fits in
      let some = u.some_slot in
      omega (arith, fits, some))

  -- ---- steps

  -- from a session p that satisfies its invariant, whatever its start
  module _ (o : Option Start) (p : SessionView) (u : SessionInvariantFrom keeps o p) where
    -- Session q satisfies the invariant, if it does so for each start for which p does.
    goes_to : (q : SessionView) → ((s : Start) → SessionInvariant keeps s p → SessionInvariant keeps s q) → SessionInvariantFrom keeps o q
    goes_to q progress = from o u
      where
        from : (o : Option Start) → SessionInvariantFrom keeps o p → SessionInvariantFrom keeps o q
        from None u = absurd u
        from (Some s) u = progress s u

    -- The machine has moved, but no message has arrived or was answered.
    pub on_machine : (core : CoreView) (dispatch_seat : DispatchSeatView) {trigger : CheckpointTrigger}
        → IsInternal keeps p.trigger trigger (machine p) (machine_with_jobs core dispatch_seat.lent)
        → dispatch_seat.bench ≡ p.dispatch_seat.bench → length dispatch_seat.lent ≡ length p.dispatch_seat.lent
        → SessionInvariantFrom keeps o (record p { core = core; dispatch_seat = dispatch_seat; trigger = trigger })
    on_machine core dispatch_seat {trigger} k bench places =
        let q : SessionView = record p { core = core; dispatch_seat = dispatch_seat; trigger = trigger } in
        goes_to q (λ s u. assumption (
          k.holds,
          places ∙ u.places ∙ ap (λ (z : _). z.slots) (sym bench),
          subst (λ (z : TableId). 0 < z.slots) (sym bench) u.some_place,
          reads_on s p q (passes_next k.segment) (still_failed k.segment) (λ unread drained h. search (quiet_since h.since k, h)) p.read_end u.reads,
          u,
        ))

    -- A message is answered, its line in the reorder buffer is completed, and it is counted if it is a change that was carried out.
    pub on_answer : (core : CoreView) (reorder_buffer : ReorderBufferView) {trigger : CheckpointTrigger} (ticket : ℕ) (reply : Reply)
        → IsAnswered keeps (machine p) (machine_with_jobs core p.dispatch_seat.lent) (Some (ticket, reply)) → trigger ≡ trigger_after p.trigger reply
        → reorder_buffer.lines ≡ map (complete_one ticket reply) p.reorder_buffer.lines → reorder_buffer.slots ≡ p.reorder_buffer.slots
        → SessionInvariantFrom keeps o (record p { core = core; reorder_buffer = reorder_buffer; trigger = trigger })
    on_answer core reorder_buffer {trigger} ticket reply k count is slots =
        let q : SessionView = record p { core = core; reorder_buffer = reorder_buffer; trigger = trigger } in
        goes_to q (λ s u. assumption (
          slots ∙ u.fits,
          k.0,
          reads_on s p q (passes_next k.1) (still_failed k.1) (λ unread drained h. rw count (record {
            waits = waits_on h.waits (omega (arith, ap length is, length-map p.reorder_buffer.lines (complete_one ticket reply))) (omega (arith, h.bounded, slots));
            whole = h.whole;
            output = h.output;
            since = rw (are_left ticket reply h.waiting p.reorder_buffer.lines h.have_answers, ← is) at (answered_since h.since k.1 (k.2 p.trigger));
          })) p.read_end u.reads,
          u,
        ))

    -- The oldest line of the reorder buffer is retired: its answer waits to be sent.
    on_add_text : (buffer : ReorderBufferView) (bytes : List ℕ) → buffer.lines ≡ drop 1 p.reorder_buffer.lines → can_retire p.reorder_buffer.lines ≡ true
        → bytes ≡ p.reply_buffer ++ retired_text p.reorder_buffer.lines → buffer.slots ≡ p.reorder_buffer.slots
        → SessionInvariantFrom keeps o (record p { reorder_buffer = buffer; reply_buffer = bytes })
    on_add_text buffer bytes is next added slots =
        let f = fronts p.reorder_buffer.lines buffer.lines is next in
        let one = f.line ∷ [] in
        let q : SessionView = record p { reorder_buffer = buffer; reply_buffer = bytes } in
        goes_to q (λ s u. assumption (
          slots ∙ u.fits,
          reads_on s p q refl (λ x. x) (λ unread drained h. record {
            waits = record {
              waiting = h.waiting ++ one;
              have_answers = all_join (λ line. has_answer line ≡ true) h.waiting one h.have_answers (f.answered, tt);
              reply_buffer_is = added ∙ ap (λ (l : List ℕ). l ++ retired_text p.reorder_buffer.lines) h.reply_buffer_is
                  ∙ ap (λ (l : List ℕ). joined (map answer_text h.waiting) ++ l) (f.retires ∙ sym (append-nil (answer_text f.line))) ∙ sym (texts_both h.waiting one);
              counted = omega (arith, h.counted, ap length f.were, length-append h.waiting one);
              bounded = omega (arith, h.bounded, slots);
            };
            whole = h.whole;
            output = sent_on p.output_failed p.reply_buffer bytes _ h.whole p.sent added h.output;
            since = rw (f.were, ← append_assoc h.waiting one buffer.lines) at h.since;
          }) p.read_end u.reads,
          u,
        ))

    -- The oldest line is retired if it has its answer, and else nothing changes.
    pub on_retire_front : (buffer : ReorderBufferView) (bytes : List ℕ) (retired : Bool) → retired ≡ can_retire p.reorder_buffer.lines
        → MatchBool retired (bytes ≡ p.reply_buffer ++ retired_text p.reorder_buffer.lines) (bytes ≡ p.reply_buffer)
        → MatchBool retired (buffer.lines ≡ drop 1 p.reorder_buffer.lines) (buffer ≡ p.reorder_buffer) → buffer.slots ≡ p.reorder_buffer.slots
        → SessionInvariantFrom keeps o (record p { reorder_buffer = buffer; reply_buffer = bytes })
    on_retire_front buffer bytes true next added dropped slots = on_add_text buffer bytes dropped (sym next) added slots
    on_retire_front buffer bytes false next added dropped slots =
        rw (dropped, added) u

    -- All answers that wait are sent.
    pub on_send : (reply_buffer : List ℕ) (sent : Option (List ℕ)) {sent_at : Medium} (n : ℕ) → p.output_failed ≡ false → reply_buffer ≡ []
        → Appends p.sent sent p.reply_buffer → sent_at ≡ p.core.medium → n ≡ length p.reorder_buffer.lines
        → SessionInvariantFrom keeps o (record p { reply_buffer = reply_buffer; sent = sent; sent_at = sent_at; outstanding = n })
    on_send reply_buffer sent {sent_at} n works none appends at are =
        let q : SessionView = record p { reply_buffer = reply_buffer; sent = sent; sent_at = sent_at; outstanding = n } in
        goes_to q (λ s u. assumption (
          reads_on s p q refl (λ x. x) (λ unread drained h. record {
            waits = record {
              waiting = [];
              have_answers = tt;
              reply_buffer_is = none;
              counted = omega (arith, are);
              bounded = omega (arith, are, h.counted, h.bounded);
            };
            whole = sent;
            output = sent_so p.output_failed reply_buffer sent works;
            since = rw at (sends_since u.idle (record {
              sent_lines = h.waiting;
              were = refl;
              have_answers = h.have_answers;
              output = rw (all_sent p.output_failed p.reply_buffer h.whole p.sent works h.output, h.reply_buffer_is) at appends;
            }) h.since);
          }) p.read_end u.reads,
          u,
        ))

    -- The answers could not be sent, but for a beginning of them: the output has failed.
    pub on_break : (sent : Option (List ℕ)) (sent_at : Medium) → p.output_failed ≡ false → AppendsBeginning p.sent sent p.reply_buffer → sent_at ≡ p.core.medium
        → SessionInvariantFrom keeps o (record p { sent = sent; sent_at = sent_at; output_failed = true })
    on_break sent sent_at works begins at =
        let q : SessionView = record p { sent = sent; sent_at = sent_at; output_failed = true } in
        goes_to q (λ s u. assumption (
          reads_on s p q refl (λ x. x) (λ unread drained h.
              let torn = subst (λ (w : Option (List ℕ)). AppendsBeginning w sent p.reply_buffer) (all_sent p.output_failed p.reply_buffer h.whole p.sent works h.output) begins in
              let left = written_begins s.before h.whole sent p.reply_buffer (joined (map answer_text h.progress.sent_lines)) (length h.waiting) s.core.slots h.progress.output
              true torn (omega (arith, ap (λ (l : List ℕ). newlines l) h.reply_buffer_is, in_answers h.waiting)) (omega (arith, h.counted, h.bounded, u.fits)) in
              record {
                waits = h.waits;
                whole = h.whole;
                output = torn;
                since = rw at (breaks_since u.idle (sends_waiting h.waiting p.reorder_buffer.lines p.reply_buffer h.whole h.have_answers h.reply_buffer_is)
                    left.0 left.1 (omega (arith, left.2)) h.since);
              }) p.read_end u.reads,
          u,
        ))

  -- The answers that wait may be sent, given what `know_recovery` ensures of the core.
  pub may_send : (o : Option Start) (p : SessionView) → SessionInvariantFrom keeps o p → p.output_failed ≡ false → (p.core.failed ≡ false → p.core.doubt ≡ [])
      → (keeps → RecoversNow p.core) → MaySend keeps o p.sent p.core p.reply_buffer
  may_send None p u output_works none recovers = absurd u
  may_send (Some s) p u output_works none recovers =
      let k = progress_at_end s p p.read_end u.reads in
      let h = k.2 in
      record {
        idle = u.idle;
        none_in_doubt = u.none_in_doubt;
        next = h.waiting;
        rest = p.reorder_buffer.lines;
        served = has_served keeps (start_machine s) (machine p) u.idle none recovers
            (omega (arith, length-append h.waiting p.reorder_buffer.lines, h.counted, h.bounded, u.fits))
            (rw (← all_sent p.output_failed p.reply_buffer h.whole p.sent output_works h.output) at h.progress);
        have_answers = h.have_answers;
        bytes_are = h.reply_buffer_is;
      }

  -- A kill has lost nothing of what was sent, given what `know_recovery` ensures of the core.
  pub kill_safe : (o : Option Start) (p : SessionView) → SessionInvariantFrom keeps o p → (p.core.failed ≡ false → p.core.doubt ≡ [])
      → (keeps → RecoversNow p.core) → IsKillSafe keeps o p.sent p.sent_at p.core
  kill_safe None p u none recovers = absurd u
  kill_safe (Some s) p u none recovers =
      let h = (progress_at_end s p p.read_end u.reads).2 in
      safe_since u.idle u.none_in_doubt none recovers (omega (arith, length-append h.waiting p.reorder_buffer.lines, h.counted, h.bounded, u.fits)) h.since

  -- ---- lines that are read

  -- A session that still reads: how far it has come since its start.
  pub reading : (s : Start) (p : SessionView) → p.read_end ≡ None → SessionInvariant keeps s p → SessionProgress keeps s p p.unread p.drained
  reading s p is u = subst (λ (o : Option ReadEnd). ReadsOrHasEnded keeps s p o) is u.reads

  module _ (p : SessionView) (core : CoreView) (reorder_buffer : ReorderBufferView) (n : ℕ) (unread : Option (List ℕ)) (drained ended holds_line : Bool)
      (remaining : Option (List ℕ)) (none : p.read_end ≡ None) (slots : reorder_buffer.slots ≡ p.reorder_buffer.slots)
      (more : n + length p.reorder_buffer.lines ≡ p.outstanding + length reorder_buffer.lines) (few : n ≤ p.reorder_buffer.slots) (knows : IsTrue ended → IsAtEnd remaining) where
    abbrev next : SessionView
    next = record p { core = core; reorder_buffer = reorder_buffer; outstanding = n; unread = unread; drained = drained; ended = ended; remaining = remaining; holds_line = holds_line }

    bounded_next : n ≤ reorder_buffer.slots
    bounded_next = omega (arith, few, slots)

    reads_next : (s : Start) → SessionInvariant keeps s p → HandsHaveJobs (machine next) → SessionProgress keeps s next unread drained → SessionInvariant keeps s next
    reads_next s u holds progress_at_end = assumption (
      slots ∙ u.fits,
      subst (λ (x : Option ReadEnd). ReadsOrHasEnded keeps s next x) (sym none) progress_at_end,
      u,
    )

    module _ (known : Line) (pushed : reorder_buffer.lines ≡ p.reorder_buffer.lines ++ known ∷ []) (going : p.drained ≡ false) (closes : HasWholeFirstLine p.unread drained) where
      on_read : (o : Option Start) → SessionInvariantFrom keeps o p → HandsHaveJobs (machine next)
          → ((s : Start) (unsent : List Line) (whole : Option (List ℕ)) → IsIdle (core_state_of s.core)
          → ServingSince keeps s p.trigger (machine p) unsent p.unread p.drained whole p.sent_at p.sent
          → ServingSince keeps s p.trigger (machine next) (unsent ++ known ∷ []) unread drained whole p.sent_at p.sent)
          → SessionInvariantFrom keeps o next
      on_read o u holds read = goes_to o p u next (λ s u.
          let h = reading s p none u in
          reads_next s u holds (record {
            waits = waits_on h.waits more bounded_next;
            whole = h.whole;
            output = h.output;
            since = rw (append_assoc h.waiting p.reorder_buffer.lines (known ∷ []), ← pushed) at (read s _ h.whole u.idle h.since);
          }))

      -- A line is read.
      pub on_line : (o : Option Start) (line : List ℕ) → SessionInvariantFrom keeps o p → IsTaken keeps (machine p) (machine next) (message_of line) known
          → IfSome p.unread (λ bs. GivesLine line bs unread) → SessionInvariantFrom keeps o next
      on_line o line u t found = on_read o u t.holds (λ s unsent whole idle h. line_since h idle going closes line t found)

      -- A line that is too long is read: it counts as no message.
      pub on_long_line : (o : Option Start) → SessionInvariantFrom keeps o p → IsTaken keeps (machine p) (machine next) None known
          → IfSome p.unread (λ bs. PassesLine bs unread) → SessionInvariantFrom keeps o next
      on_long_line o u t found = on_read o u t.holds (λ s unsent whole idle h. long_line_since h idle going closes t found)

    -- No more is read for this reason.
    pub on_read_end : (o : Option Start) (read_end : ReadEnd) → SessionInvariantFrom keeps o p → IsInternal keeps p.trigger p.trigger (machine p) (machine next)
        → reorder_buffer.lines ≡ p.reorder_buffer.lines
        → IsReadEnd p.core.geometry core p.unread p.drained remaining read_end → SessionInvariantFrom keeps o (record next { read_end = Some read_end })
    on_read_end o read_end u k same why = goes_to o p u (record next { read_end = Some read_end }) (λ s u.
        let h = reading s p none u in
        let reads : HasEndedReading keeps s (record next { read_end = Some read_end }) read_end = record {
          unread = p.unread;
          drained = p.drained;
          progress_at_end = record {
            waits = waits_on h.waits more bounded_next;
            whole = h.whole;
            output = h.output;
            since = simp (← same) at (quiet_since h.since k);
          };
          why = subst (λ (y : Geometry). IsReadEnd y core p.unread p.drained remaining read_end) h.progress.serving.segment.leads.geometry why;
        } in
        assumption (slots ∙ u.fits, k.holds, reads, u))

  -- The next ticket comes after those of the reorder buffer.
  pub follows : (o : Option Start) (p : SessionView) → p.read_end ≡ None → SessionInvariantFrom keeps o p
      → AreConsecutive (with_tickets p.reorder_buffer.lines ++ Pending p.core.next ∷ [])
  follows o p none u = ask o p u (λ s u. next_follows (to_reorder_buffer (reading s p none u)).serving)

  -- Where fewer lines are outstanding than there are slots, the reorder buffer has room for a further one.
  pub has_place : (o : Option Start) (p : SessionView) → SessionInvariantFrom keeps o p → p.outstanding < p.reorder_buffer.slots → length p.reorder_buffer.lines < p.reorder_buffer.slots
  has_place o p u room = ask o p u (λ s u.
      let counted = (progress_at_end s p p.read_end u.reads).2.counted in
      omega (arith, counted, room))

  -- Where the reorder buffer has room for a line, its message isn't refused for want of a slot.
  pub has_slot : (o : Option Start) (p : SessionView) (m : Msg) → p.read_end ≡ None → SessionInvariantFrom keeps o p → length p.reorder_buffer.lines < p.reorder_buffer.slots
      → (arrive p.core.geometry (core_state_of p.core) m).0 ≢ ArriveRefused arrivals.Full
  has_slot o p m none u room = ask o p u (λ s u.
      let fits = u.fits in
      finds_a_slot m u.idle (to_reorder_buffer (reading s p none u)) (omega (arith, room, fits)))

-- ---- where it begins

pub begins_at : (keeps : Type 0) (o : Option Start) (s : Start) (p : SessionView) → o ≡ Some s → SessionInvariant keeps s p → SessionInvariantFrom keeps o p
begins_at keeps o s p is u = subst (λ (o : Option Start). SessionInvariantFrom keeps o p) (sym is) u

pub begun : {keeps : Type 0} {o : Option Start} {s : Start} {p : SessionView} → o ≡ Some s → SessionInvariantFrom keeps o p → SessionInvariant keeps s p
begun {keeps} {p} is u = subst (λ (o : Option Start). SessionInvariantFrom keeps o p) is u
