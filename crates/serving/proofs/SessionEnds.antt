-- A session that reads no more, and what it promises in the end.
use Rattle.std.proofs.Common.{arith, ◌≡◌, ◌≢◌, ◌<◌, ℕ, Bool, true, false, List, [], Option, Some, None, refl, ap, sym, ◌∙◌, subst, length, map, replicate}
use Rattle.std.specs.Prelude.{Result, Ok, Err, IfOk, IfSome, OnErr, OnOk}
use Rattle.std.specs.Io.KnownBytes.{Appends}
use Rattle.message.proofs.AppendsBeginning.{begins_all, begins_longer}
use Rattle.message.proofs.BufferedOutput.{none_waits}
use Rattle.message.specs.BufferedOutput.{all_output}
use Rattle.message.specs.AppendsBeginning.{AppendsBeginning}
use Rattle.std.proofs.lemmas.Bool.{true≢false}
use Rattle.std.proofs.lemmas.List.{length-replicate}
use Rattle.disk.specs.Device.{Medium}
use Rattle.histories.proofs.Idle.{idle_sound}
use Rattle.histories.specs.CoreState.{IsIdle}
use Rattle.scheduler.specs.Machine.{MachineView}
use Rattle.parcel.specs.JobRun.{JobView}
use Rattle.scheduler.specs.CoreView.{CoreView, RecoversNow, core_state_of}
use Rattle.serving.specs.Ends.{EndsWith, IsQuiesced, committed_in}
use Rattle.serving.specs.Exchange.{Exchange, exchange}
use Rattle.serving.specs.Progress.{ServingProgress}
use Rattle.serving.specs.DispatchesTo.{NoneInFlight}
use Rattle.serving.specs.Lines.{Line, answer_text}
use Rattle.affinity.specs.declared.geometry.Geometry.{Geometry}
use Rattle.meaning.proofs.OutputLemmas.{begins_whole}
use Rattle.meaning.specs.Output.{IsBeginning, WritesOutput, joined, serial_output}
use Rattle.meaning.specs.State.{State}
use Rattle.reorder_buffer.specs.ReorderBuffer.{can_retire}
use Rattle.oplog.specs.Recovery.{records_in}
use Rattle.serving.specs.Serve.{HasRunWith, FailsWithoutWorkers, ServePromise}
use Rattle.serving.specs.Runs.{HandsHaveJobs, machine_with_jobs}
use Rattle.serving.specs.SessionEnds.{EndsBy, EndsOrDeclines, HasFinished, IsServed, end_of, reported}
use Rattle.serving.specs.SessionInvariant.{SessionProgress, HasEndedReading, SessionInvariant, SessionInvariantFrom, ReadsOrHasEnded, IsSent}
use Rattle.serving.specs.Session.{SessionView, machine}
use Rattle.serving.specs.Kill.{IsKillSafe}
use Rattle.serving.specs.Start.{Start, start_machine, CanBegin}
use Rattle.serving.specs.declared.checkpoints.CheckpointTrigger.{CheckpointTrigger}
use Rattle.serving.specs.declared.session.ReadEnd.{ReadEnd}
use Rattle.serving.specs.declared.session.ReadEnd.TheVariants as ends_of_reading
use Rattle.serving.specs.declared.server.ServeFault.{ServeFault}
use Rattle.serving.specs.declared.server.ServeFault.TheVariants as faults
use Rattle.protocol.proofs.Newlines.{newlines}
use Rattle.serving.proofs.Newlines.{in_answers}
use Rattle.serving.proofs.ServePromise.{ProgressInTime, no_memory_ran, runs_to_device, runs_to_last_ticket, runs_to_read, runs_to_write, runs_whole}
use Rattle.serving.proofs.KeepsSent.{safe_since}
use Rattle.serving.proofs.SentLines.{sends_on}
use Rattle.serving.proofs.ServingSince.{starts_since}
use Rattle.serving.proofs.Start.{holds_at_start}
use Rattle.serving.proofs.TornSend.{sent_begins, written_begins}
use Rattle.serving.proofs.EndsWith.{ends_at_device, ends_at_read, ends_exhausted, ends_whole, first_answered}
use Rattle.serving.proofs.SessionInvariant.{all_sent, begins_at, sent_so, none_out, progress_at_end, to_reorder_buffer}

-- ---- what it promises

module _ (before whole sent : Option (List ℕ)) (waiting text : List ℕ) (grown : Appends before whole text) where
  serially : (g : Geometry) (start : State) (b : Bool) → IsSent b waiting whole sent → (input : Option (List ℕ))
      → WritesOutput input before (all_output whole waiting) (IsBeginning g start) → IfSome input (λ bytes. AppendsBeginning before sent (serial_output g start bytes))
  serially g start b h None first = tt
  serially g start b h (Some bytes) first =
      let all = begins_whole g start bytes first.0 first.2 in
      begins_longer before sent first.0 all.0 (serial_output g start bytes) all.1 (begins_all text waiting first.0 before whole sent grown first.1 (sent_begins b waiting whole sent h))

-- What a server promises at its end: of the run that led there (given what `know_recovery` ensures of the core), and of that end.
pub record PromisesAll (keeps : Type 0) (every : ℕ) (start : MachineView) (new : CoreView) (x : Exchange) (result : Result (Unit {0}) ServeFault)
    : Type 0 where
  pub run : (new.failed ≡ false → new.doubt ≡ []) → (keeps → RecoversNow new) → HasRunWith keeps every start new x.input x.before x.written result
  pub ends : EndsWith start.core new x result

module _ {keeps : Type 0} {s : Start} {p : SessionView} (u : SessionInvariant keeps s p) where
  abbrev start : MachineView
  start = start_machine s

  abbrev now : MachineView
  now = machine p

  -- how far the server has come, with the answers that wait taken as written
  all_written : {unread : Option (List ℕ)} {drained : Bool} (h : SessionProgress keeps s p unread drained)
      → ProgressInTime keeps s.every start now p.reorder_buffer.lines s.input unread drained s.before (all_output h.whole p.reply_buffer)
  unfolding to_reorder_buffer sends_on
  all_written h = record { progress = to_reorder_buffer h; in_time = (p.trigger, h.in_time) }

  -- the same, with all that was sent as its output, where the output works and no answer waits
  written : {unsent : List Line} {unread : Option (List ℕ)} {drained : Bool} → SessionProgress keeps s p unread drained → p.reorder_buffer.lines ≡ unsent → p.output_failed ≡ false
      → p.reply_buffer ≡ [] → ProgressInTime keeps s.every start now unsent s.input unread drained s.before p.sent
  written h is output_works flushed =
      rw (is, flushed, none_waits h.whole, ← all_sent p.output_failed p.reply_buffer h.whole p.sent output_works h.output) at (all_written h)

  module _ (k : IsServed p) where
    all_lines_answered : {unread : Option (List ℕ)} {drained : Bool} → SessionProgress keeps s p unread drained
        → ProgressInTime keeps s.every start now [] s.input unread drained s.before p.sent
    all_lines_answered h = written h k.all_retired k.output_works k.flushed

    at_end : HasEndedReading keeps s p ends_of_reading.EndOfInput → PromisesAll keeps s.every start p.core (exchange s.input p.remaining s.before p.sent) (Ok tt)
    at_end h =
        let g = all_lines_answered h.progress_at_end in
        let e = ends_whole keeps start now u.idle g.progress k.works h.why.0 in
        record { run = λ no_doubt recovers. runs_whole u.idle no_doubt recovers g h.why.0; ends = (e.0, e.1, h.why.1, e.3) }

    at_fault : HasEndedReading keeps s p ends_of_reading.ReadFailed → PromisesAll keeps s.every start p.core (exchange s.input p.remaining s.before p.sent) (Err faults.Read)
    at_fault h =
        let g = all_lines_answered h.progress_at_end in
        record {
          run = λ no_doubt recovers. runs_to_read u.idle no_doubt recovers g;
          ends = ends_at_read keeps start now u.idle p.remaining
              (subst (λ (b : Bool). ServingProgress keeps start now [] s.input h.unread b s.before p.sent) h.why.0 g.progress) k.works h.why.1;
        }

    exhausted : HasEndedReading keeps s p ends_of_reading.TicketsExhausted → PromisesAll keeps s.every start p.core (exchange s.input p.remaining s.before p.sent) (Err faults.Exhausted)
    exhausted h =
        let g = all_lines_answered h.progress_at_end in
        record {
          run = λ no_doubt recovers. runs_to_last_ticket u.idle no_doubt recovers g;
          ends = ends_exhausted keeps start now u.idle p.remaining g.progress k.works h.why;
        }

  -- ---- where something has failed

  module _ (none_lent : NoneInFlight p.dispatch_seat.lent) (answered : p.core.logged ≡ []) where
    wound_up : {unsent : List Line} {unread before torn : Option (List ℕ)} {drained : Bool} → ServingProgress keeps start now unsent s.input unread drained before torn
        → IsQuiesced p.core
    wound_up h =
        record { none_in_flight = none_out u.idle h.serving.segment none_lent; none_logged = answered }

    device_ends : p.core.failed ≡ true → p.output_failed ≡ false → p.reply_buffer ≡ [] → can_retire p.reorder_buffer.lines ≡ false
        → PromisesAll keeps s.every start p.core (exchange s.input p.remaining s.before p.sent) (Err faults.Device)
    device_ends failed output_works flushed last =
        let h = (progress_at_end keeps s p p.read_end u.reads).2 in
        let g = written h refl output_works flushed in
        record {
          run = λ no_doubt recovers. runs_to_device u.idle no_doubt recovers g last (omega (arith, h.counted, h.bounded, u.fits));
          ends = ends_at_device keeps start now u.idle g.progress failed (wound_up g.progress);
        }

    write_ends : (p.core.failed ≡ false → p.core.ran ≡ []) → PromisesAll keeps s.every start p.core (exchange s.input p.remaining s.before p.sent) (Err faults.Write)
    write_ends ran =
        let h = (progress_at_end keeps s p p.read_end u.reads).2 in
        let text = joined (map answer_text h.progress.sent_lines) in
        let begins = written_begins s.before h.whole p.sent p.reply_buffer text (length h.waiting) s.core.slots h.progress.output p.output_failed h.output
        (omega (arith, ap (λ (l : List ℕ). newlines l) h.reply_buffer_is, in_answers h.waiting)) (omega (arith, h.counted, h.bounded, u.fits)) in
        record {
          run = λ no_doubt recovers. runs_to_write u.idle no_doubt recovers (all_written h) begins.1 (omega (arith, h.counted, h.bounded, u.fits, begins.2));
          ends = (
            wound_up h.progress,
            ran,
            serially s.before h.whole p.sent p.reply_buffer text h.progress.output s.core.geometry (committed_in s.core)
                p.output_failed h.output s.input (first_answered keeps start now u.idle (to_reorder_buffer h)),
          );
        }

  stopped : {read_end : ReadEnd} → p.read_end ≡ Some read_end → HasEndedReading keeps s p read_end
  stopped is = subst (λ (o : Option _). ReadsOrHasEnded keeps s p o) is u.reads

  -- A session that has ended with this result promises what a server does.
  pub promises_by : (result : Result (Unit {0}) ServeFault) → EndsBy p result
      → PromisesAll keeps s.every start p.core (exchange s.input p.remaining s.before p.sent) result
  promises_by (Ok tt) e = at_end e.0 (stopped e.1)
  promises_by (Err faults.Read) e = at_fault e.0 (stopped e.1)
  promises_by (Err faults.Exhausted) e = exhausted e.0 (stopped e.1)
  promises_by (Err faults.Device) e = device_ends e.0 e.1 e.2 e.3 e.4 e.5
  promises_by (Err faults.Write) e = write_ends e.0 e.1 e.2
  promises_by result e = absurd e

-- A session is as at its start: nothing was read or sent since, and its core has not changed.
pub record IsAtStart (s : Start) (p : SessionView) : Type 0 where
  pub core : p.core ≡ s.core
  pub input : p.remaining ≡ s.input
  pub before : p.sent ≡ s.before

-- A session that is as at its start promises what a server does that had no memory.
declined : {keeps : Type 0} {s : Start} {p : SessionView} → IsIdle (core_state_of s.core) → IsAtStart s p
    → PromisesAll keeps s.every (start_machine s) p.core (exchange s.input p.remaining s.before p.sent) (Err faults.OutOfMemory)
declined {keeps} {s} {p} idle at =
    rw (at.core, at.input, at.before)
    (record { run = λ no_doubt recovers. no_memory_ran keeps s.core s.places s.every idle no_doubt recovers s.input s.before; ends = (refl, refl, refl) })

-- A session promises what a server does if it has ended, or is as at its start.
promises_or_declines : {keeps : Type 0} {s : Start} {old p : SessionView} → SessionInvariant keeps s p → IsAtStart s old → (result : Result (Unit {0}) ServeFault)
    → EndsOrDeclines old p result → PromisesAll keeps s.every (start_machine s) p.core (exchange s.input p.remaining s.before p.sent) result
promises_or_declines {s} u at (Err faults.OutOfMemory) e = declined u.idle (subst (IsAtStart s) (sym e) at)
promises_or_declines u at result e = promises_by u result e

-- The same, with what is known of the session's end given for `now`, which equals it.
pub promises_from : {keeps : Type 0} {s : Start} {old p now : SessionView} → SessionInvariant keeps s p → p ≡ now → IsAtStart s old
    → (result : Result (Unit {0}) ServeFault) → EndsOrDeclines old now result
    → PromisesAll keeps s.every (start_machine s) p.core (exchange s.input p.remaining s.before p.sent) result
promises_from {old} u is at result e = promises_or_declines u at result (subst (λ (p : SessionView). EndsOrDeclines old p result) (sym is) e)

-- Where each line that was read is answered and nothing has failed, the session ends with what is reported for its `read_end`.
ended_for : (p : SessionView) → IsServed p → (read_end : ReadEnd) → read_end ≢ ends_of_reading.DeviceFailed → p.read_end ≡ Some read_end → EndsBy p (end_of read_end)
ended_for p served ends_of_reading.DeviceFailed possible is = absurd (possible refl)
ended_for p served read_end possible is = (served, is)

empties_for : (read_end : ReadEnd) (P : Type 0) → (read_end ≡ ends_of_reading.EndOfInput → P) → OnOk (end_of read_end) P
empties_for ends_of_reading.EndOfInput P emptied = emptied refl
empties_for read_end P emptied = tt

-- A session that has answered every line returns the result for the reason why it stopped reading (`read_end`).
pub ends_finished : (keeps : Type 0) (p : SessionView) (read_end : ReadEnd) → HasFinished keeps p read_end
    → EndsBy p (end_of read_end) × OnOk (end_of read_end) (keeps → records_in p.core.geometry p.core.medium.now ≡ [])
ends_finished keeps p read_end f =
    (ended_for p f.served read_end f.possible f.read_end_is, empties_for read_end (keeps → records_in p.core.geometry p.core.medium.now ≡ []) f.emptied)

-- Where reading ended by a failure of the device, the device has failed.
pub ended_by_device : (keeps : Type 0) (o : Option Start) (p : SessionView) → SessionInvariantFrom keeps o p → p.read_end ≡ Some ends_of_reading.DeviceFailed → p.core.failed ≡ true
ended_by_device keeps None p u is = absurd u
ended_by_device keeps (Some s) p u is = (stopped u is).why

-- With all workers started, a session ends with what is reported (`EndsBy`); if one could not be started, the session is as it was.
reported_so : (old p : SessionView) (F : Type 0) (r : Result (Result (Unit {0}) ServeFault) F) → IfOk r (λ end. EndsBy p end) → OnErr r (p ≡ old)
    → EndsOrDeclines old p (reported r)
reported_so old p F (Ok (Err faults.OutOfMemory)) ends same = absurd ends
reported_so old p F (Ok end) ends same = ends
reported_so old p F (Err f) ends same = same

emptied_so : (P F : Type 0) (r : Result (Result (Unit {0}) ServeFault) F) → IfOk r (λ end. OnOk end P) → OnOk (reported r) P
emptied_so P F (Ok end) emptied = emptied
emptied_so P F (Err f) emptied = tt

module _ (p : SessionView) (P Q F : Type 0) (r : Result (Result (Unit {0}) ServeFault) F) (gives : IfOk r (λ end. EndsBy p end × OnOk end P × Q)) where
  both : (q : Result (Result (Unit {0}) ServeFault) F) → IfOk q (λ end. EndsBy p end × OnOk end P × Q)
      → IfOk q (λ end. EndsBy p end) × IfOk q (λ end. OnOk end P)
  both (Ok end) h = (h.0, h.1)
  both (Err f) h = (tt, tt)

  pub ends_or_declines : (old : SessionView) → OnErr r (p ≡ old) → (result : Result (Unit {0}) ServeFault) → result ≡ reported r
      → EndsOrDeclines old p result
  ends_or_declines old not_begun result is = rw is (reported_so old p F r (both r gives).0 not_begun)

  pub emptied_at_end : (result : Result (Unit {0}) ServeFault) → result ≡ reported r → OnOk result P
  emptied_at_end result is = rw is (emptied_so P F r (both r gives).1)

-- Where there are workers, what ends a session is never `NoWorkers`.
pub refuses_none : (workers : ℕ) → workers ≢ 0 → (old p : SessionView) (result : Result (Unit {0}) ServeFault) → EndsOrDeclines old p result → FailsWithoutWorkers workers result
refuses_none workers some old p (Err faults.NoWorkers) e = absurd e
refuses_none workers some old p result e = some

-- `ServePromise` stays true for an equal number of workers and an equal rest of the input.
pub serves_as : {keeps : Type 0} {core : CoreView} {back : CoreView × Result (Unit {0}) ServeFault} {input before written remaining rest : Option (List ℕ)}
    {places workers every : ℕ} → places ≡ workers → remaining ≡ rest → ServePromise keeps places every core back (exchange input remaining before written)
    → ServePromise keeps workers every core back (exchange input rest before written)
serves_as as_many same h = rw (as_many, same) at h

-- ---- where it begins

pub holds_first : (core : CoreView) (lent : List (Option JobView)) (n : ℕ) → lent ≡ replicate n None → IsIdle (core_state_of core) → HandsHaveJobs (machine_with_jobs core lent)
holds_first core lent n none idle = rw none (holds_at_start core n (idle_sound (core_state_of core) idle core.geometry))

-- A session that has not begun: no answer waits, all of the input is unread, nothing of it was read, and no job is lent.
pub record IsUnused (places : ℕ) (input : Option (List ℕ)) (p : SessionView) : Type 0 where
  pub none_waits : p.reply_buffer ≡ []
  pub none_outstanding : p.outstanding ≡ 0
  pub output_works : p.output_failed ≡ false
  pub reads : p.read_end ≡ None
  pub all : p.unread ≡ input
  pub none_read : p.drained ≡ false
  pub not_ended : p.ended ≡ false
  pub slots : p.dispatch_seat.bench.slots ≡ places
  pub none_lent : p.dispatch_seat.lent ≡ replicate places None
  pub some_place : 0 < places

-- Where none of the records is counted yet, the trigger is that of a start.
same_trigger : (t : CheckpointTrigger) → t.answered_since ≡ 0 → t ≡ record { every = t.every; answered_since = 0 }
same_trigger t none i = record { every = t.every; answered_since = none i }

-- A call that may begin satisfies the invariant.
pub first_at : (keeps : Type 0) {o : Option Start} {p : SessionView} {places : ℕ} {input : Option (List ℕ)} → CanBegin o p.core places p.trigger input p.sent p.sent_at p.reorder_buffer
    → IsUnused places input p → SessionInvariantFrom keeps o p
first_at keeps {o} {p} {places} {input} r unused =
    let s : Start = record { core = p.core; places = places; every = p.trigger.every; input = input; before = p.sent } in
    begins_at keeps o s p r.start_is (record {
      start = record { idle = r.idle; none_in_doubt = r.none_in_doubt };
      fits = r.fits;
      some_slot = r.some_slot;
      holds = holds_first p.core p.dispatch_seat.lent places unused.none_lent r.idle;
      places = ap (λ (l : List (Option JobView)). length l) unused.none_lent ∙ length-replicate places None ∙ sym unused.slots;
      some_place = subst (λ (n : ℕ). 0 < n) (sym unused.slots) unused.some_place;
      knows = λ e. absurd (true≢false (sym e ∙ unused.not_ended));
      reads = rw unused.reads (record {
        waits = record {
          waiting = [];
          have_answers = tt;
          reply_buffer_is = unused.none_waits;
          counted = omega (arith, ap length r.none, unused.none_outstanding);
          bounded = omega (arith, unused.none_outstanding);
        };
        whole = p.sent;
        output = sent_so p.output_failed p.reply_buffer p.sent unused.output_works;
        since = rw (unused.none_lent, r.none, unused.none_read, unused.all, r.at_start, same_trigger p.trigger r.none_counted) (starts_since keeps s);
      });
    })

-- Where nothing has happened since the start, a kill has lost nothing.
pub safe_at_start : {keeps : Type 0} {o : Option Start} {s : Start} {sent_at : Medium} → o ≡ Some s → sent_at ≡ s.core.medium → IsIdle (core_state_of s.core)
    → s.core.failed ≡ false → (s.core.failed ≡ false → s.core.doubt ≡ []) → (keeps → RecoversNow s.core) → IsKillSafe keeps o s.before sent_at s.core
safe_at_start {keeps} {s} is at idle works none recovers = rw (is, at) (safe_since idle (none works) none recovers (omega arith) (starts_since keeps s))
