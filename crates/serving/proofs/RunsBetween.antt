-- Segments of a run, one after the other.
use Rattle.std.proofs.Common.{◌≡◌, ℕ, List, ◌++◌, ap, ◌∙◌}
use Rattle.std.proofs.lemmas.List.{map-append}
use Rattle.histories.specs.Runs.{answered, arrived}
use Rattle.histories.specs.CoreState.{Entry}
use Rattle.protocol.specs.declared.replies.Reply.{Reply}
use Rattle.scheduler.proofs.HasRun.{events_join, lead_on}
use Rattle.scheduler.specs.Machine.{MachineView}
use Rattle.scheduler.specs.DeviceEvents.{DeviceEvent, events_of}
use Rattle.serving.specs.Runs.{RunsBetween}

unfoldable pub passes_on : {keeps : Type 0} {old mid new : MachineView} {arriving more : List Entry} {reply_pairs others : List (ℕ × Reply)}
    → RunsBetween keeps old mid arriving reply_pairs → RunsBetween keeps mid new more others → RunsBetween keeps old new (arriving ++ more) (reply_pairs ++ others)
passes_on h k =
    let j = events_join h.leads k.leads in
    let both : events_of (h.device_events ++ k.device_events) ≡ events_of h.device_events ++ events_of k.device_events = map-append (λ (s : DeviceEvent). s.event) h.device_events k.device_events in
    record {
      device_events = h.device_events ++ k.device_events;
      leads = lead_on h.leads k.leads;
      arrived_are = ap arrived both ∙ j.arrived_is ∙ (λ i. h.arrived_are i ++ k.arrived_are i);
      reply_pairs_are = ap answered both ∙ j.answered_is ∙ (λ i. h.reply_pairs_are i ++ k.reply_pairs_are i);
    }

-- The same segment, of which equal arrivals and replies are told.
abbrev pub told_as : {keeps : Type 0} {old new : MachineView} {arriving come : List Entry} {reply_pairs given : List (ℕ × Reply)}
    → RunsBetween keeps old new arriving reply_pairs → arriving ≡ come → reply_pairs ≡ given → RunsBetween keeps old new come given
told_as h come given = record {
  device_events = h.device_events;
  leads = h.leads;
  arrived_are = h.arrived_are ∙ come;
  reply_pairs_are = h.reply_pairs_are ∙ given;
}
