-- What was sent was on the device when the last send began: so much stays true while events follow and lines are read, and begins anew with
-- each send. So a kill at any moment since then has lost none of it.
use Rattle.std.proofs.Common.{arith, ◌≡◌, ◌≤◌, ◌+◌, ℕ, Bool, false, List, [], ◌++◌, Option, ap, sym, refl, ◌∙◌, length, map, take, append-nil}
use Rattle.std.specs.Io.KnownBytes.{Appends}
use Rattle.std.proofs.KnownBytes.{Appends-nil}
use Rattle.std.proofs.lemmas.List.{length-append, length-map, take-append-le, take-map, take_all}
use Rattle.disk.specs.Device.{Medium}
use Rattle.histories.specs.CoreState.{IsIdle}
use Rattle.scheduler.specs.DeviceEvents.{DeviceEvent, device_after, events_of}
use Rattle.scheduler.specs.Machine.{MachineView}
use Rattle.meaning.specs.Output.{joined}
use Rattle.scheduler.specs.CoreView.{RecoversNow, core_state_of}
use Rattle.serving.specs.Ends.{committed_in}
use Rattle.serving.specs.Kill.{IsKillSafeFrom}
use Rattle.serving.specs.Lines.{Line, answer_text}
use Rattle.serving.specs.Start.{Start, start_machine}
use Rattle.serving.specs.Progress.{IsServing}
use Rattle.serving.specs.Restart.{WritesBeginning}
use Rattle.serving.specs.SessionInvariant.{KeepsSent, ServingSince}
use Rattle.serving.specs.declared.checkpoints.CheckpointTrigger.{CheckpointTrigger}
use Rattle.serving.proofs.MaySend.{still_in_history}
use Rattle.serving.proofs.HoldsSent.{holds_logged, serving_kept}
use Rattle.serving.proofs.KeepsPromise.{keeps_written}
use Rattle.serving.proofs.RecoversWritten.{bytes_recover}
use Rattle.serving.proofs.HaveSerialReplies.{as_many}
use Rattle.serving.proofs.EndsWith.{has_served}

-- ---- what stays true

module _ {s : Start} {sent_at : Medium} {sent : Option (List ℕ)} {consumed : List (List ℕ)} {sent_lines : List Line} {device_events : List DeviceEvent}
    (k : KeepsSent s sent_at sent consumed sent_lines device_events) where
  -- The first events are the same when more events follow.
  same_first : (more : List DeviceEvent) → take k.number (device_events ++ more) ≡ take k.number device_events
  same_first more = take-append-le k.number device_events more k.within

  same_events : (more : List DeviceEvent) → take k.number (events_of (device_events ++ more)) ≡ take k.number (events_of device_events)
  same_events more =
      take-map (λ (e : DeviceEvent). e.event) k.number (device_events ++ more) ∙ ap events_of (same_first more)
      ∙ sym (take-map (λ (e : DeviceEvent). e.event) k.number device_events)

  -- More events follow, and more lines are read.
  pub keeps_on : (more : List DeviceEvent) (lines : List (List ℕ)) → KeepsSent s sent_at sent (consumed ++ lines) sent_lines (device_events ++ more)
  keeps_on more lines = record {
    number = k.number;
    within = omega (arith, k.within, length-append device_events more);
    at_send = ap (device_after s.core.medium) (same_first more) ∙ k.at_send;
    answers = k.answers;
    logged = rw (same_events more) (still_in_history s.core.geometry _ s.core.next consumed lines k.answers k.logged);
    unanswered = k.unanswered;
    all = k.all;
    all_is = k.all_is;
    begun = k.begun;
    few = k.few;
  }

  -- More events follow.
  pub keeps_quiet : (more : List DeviceEvent) → KeepsSent s sent_at sent consumed sent_lines (device_events ++ more)
  keeps_quiet more = rw (append-nil consumed) at (keeps_on more [])

-- ---- where it begins

-- Nothing was sent, at the start of a call.
pub keeps_first : (s : Start) → KeepsSent s s.core.medium s.before [] [] []
keeps_first s = record {
  number = 0;
  within = omega arith;
  at_send = refl;
  answers = [];
  logged = tt;
  unanswered = s.core.slots;
  all = s.before;
  all_is = Appends-nil s.before;
  begun = ([], Appends-nil s.before, ([], [], refl, Appends-nil s.before), omega arith);
  few = omega arith;
}

-- Lines are sent, all those that the run has answered now, or begun to be sent: then these are kept.
module _ {keeps : Type 0} {s : Start} {now : MachineView} {consumed : List (List ℕ)} {answered unsent sent_lines : List Line}
    (idle : IsIdle (core_state_of s.core)) (h : IsServing keeps (start_machine s) now consumed answered unsent) where
  pub keeps_now : (sent : Option (List ℕ)) (left : ℕ) (all : Option (List ℕ)) → Appends s.before all (joined (map answer_text answered))
      → WritesBeginning s.core.slots left s.before sent all → length sent_lines + s.core.slots ≤ length answered + left
      → KeepsSent s now.core.medium sent consumed sent_lines h.segment.device_events
  keeps_now sent left all is begun few =
      let events = h.segment.device_events in
      let n = length events in
      record {
        number = n;
        within = omega arith;
        at_send = ap (device_after s.core.medium) (take_all n events (omega arith)) ∙ h.segment.leads.device;
        answers = map answer_text answered;
        logged = rw (take_all n (events_of events) (omega (arith, length-map events (λ (e : DeviceEvent). e.event)))) (serving_kept idle h);
        unanswered = left;
        all = all;
        all_is = is;
        begun = begun;
        few = omega (arith, few, length-map answered answer_text);
      }

-- ---- what a kill leaves

-- Given what `know_recovery` ensures of the core: whatever a crash left of the device since the last send began has what was sent.
module _ {keeps : Type 0} {s : Start} {now : MachineView} {unsent : List Line} {unread : Option (List ℕ)} {drained : Bool} {whole sent : Option (List ℕ)}
    {sent_at : Medium} (idle : IsIdle (core_state_of s.core)) (none : s.core.doubt ≡ []) (no_doubt : now.core.failed ≡ false → now.core.doubt ≡ [])
    (recovers : keeps → RecoversNow now.core) where
  pub safe_since : {trigger : CheckpointTrigger} → length unsent ≤ s.core.slots → ServingSince keeps s trigger now unsent unread drained whole sent_at sent
      → IsKillSafeFrom keeps s sent sent_at now.core
  unfolding has_served
  safe_since few h kept c since =
      let k = h.kept in
      let run = (has_served keeps (start_machine s) now idle no_doubt recovers few h.progress).run in
      let held = holds_logged idle none run kept k.number c k.within (rw k.at_send since) in
      let all = as_many s.core.geometry h.progress.serving.reply_pairs s.core.next h.progress.consumed (h.progress.sent_lines ++ unsent) h.progress.serving.known in
      keeps_written s.core.geometry s.core.slots (committed_in s.core) c s.input s.before sent (
        k.unanswered,
        k.all,
        k.begun,
        bytes_recover s.core.next h.progress.consumed k.answers run.first k.all_is
            (omega (arith, all, length-append {A = Line}, few, k.few)) k.logged held,
      )
