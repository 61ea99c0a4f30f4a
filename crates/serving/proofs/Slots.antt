-- How many messages the core has slots for, and that a message finds a slot.
use Rattle.std.proofs.Common.{◌≡◌, ◌≢◌, ℕ, ◌<◌, Bool, List, [], ◌∷◌, Option, refl, ap, sym, ◌∙◌, length, arith}
use Rattle.histories.proofs.IsSoundCoreState.{event_slots}
use Rattle.affinity.specs.declared.geometry.Geometry.{Geometry}
use Rattle.histories.specs.Events.{Event, arrive}
use Rattle.histories.specs.MachineState.{MachineState}
use Rattle.histories.specs.Runs.{IsLegal, end_state}
use Rattle.histories.specs.CoreState.{Entry, IsIdle}
use Rattle.histories.specs.declared.outcomes.ArriveRefusal.TheVariants as arrivals
use Rattle.histories.specs.declared.outcomes.Outcome.TheVariants as outcomes
use Rattle.scheduler.specs.Machine.{MachineView, machine_of}
use Rattle.scheduler.specs.DeviceEvents.{events_of}
use Rattle.protocol.specs.declared.messages.Msg.{Msg}
use Rattle.protocol.specs.declared.replies.Reply.{Reply}
use Rattle.scheduler.specs.CoreView.{core_state_of}
use Rattle.serving.proofs.Outstanding.{few_inside}
use Rattle.serving.proofs.IsReadEnd.{shows}
use Rattle.serving.specs.Progress.{ServingProgress}
use Rattle.serving.specs.Lines.{Line}
use Rattle.serving.specs.Runs.{RunsBetween}

-- ---- the number of slots stays the same

run_slots : (g : Geometry) (old : MachineState) (events : List Event) → IsLegal g old events → (end_state old events).core.slots ≡ old.core.slots
run_slots g old [] legal = refl
run_slots g old (event ∷ events) legal =
    run_slots g event.state_after events legal.1 ∙ event_slots g old event legal.0

pub passes_slots : {keeps : Type 0} {old new : MachineView} {arriving : List Entry} {reply_pairs : List (ℕ × Reply)} → RunsBetween keeps old new arriving reply_pairs
    → new.core.slots ≡ old.core.slots
passes_slots {old} p =
    ap (λ (w : MachineState). w.core.slots) (sym p.leads.ends) ∙ run_slots old.core.geometry (machine_of old) (events_of p.device_events) p.leads.legal

-- ---- a slot for the next

-- Where fewer lines are unsent than the core has slots, a message isn't refused for want of a slot.
pub finds_a_slot : {keeps : Type 0} {start now : MachineView} {unsent : List Line} {input unread : Option (List ℕ)} {ended : Bool} {before written : Option (List ℕ)}
    (m : Msg) → IsIdle (core_state_of start.core) → ServingProgress keeps start now unsent input unread ended before written
    → length unsent < start.core.slots → (arrive now.core.geometry (core_state_of now.core) m).0 ≢ outcomes.ArriveRefused arrivals.Full
finds_a_slot {now} m idle h few =
    let most = few_inside idle h in
    let same = passes_slots h.serving.segment in
    λ is. let full = shows now.core.geometry (core_state_of now.core) m is in omega (arith, most, same, few, full)
