-- Runs whose events are timely, one after the other; and why a checkpoint begins.
use Rattle.std.proofs.Common.{◌≡◌, ◌<◌, ◌+◌, ℕ, zero, suc, Bool, true, false, List, [], ◌∷◌, ◌++◌, Some, None, Result, Ok, Err, arith, ap, inl, inr, length, refl, sym, subst, ◌∙◌, ⊎_elim}
use Rattle.std.specs.Prelude.{◌⊎◌, ◌&&◌, ◌||◌, not, count_by, if◌then◌else◌, is_some, nat_lt, OnOk}
use Rattle.std.specs.List.{list_any}
use Rattle.std.proofs.lemmas.Bool.{lt-ltb}
use Rattle.std.proofs.lemmas.List.{map-append}
use Rattle.std.proofs.lemmas.Option.{none-some}
use Rattle.std.proofs.Math.Bool.{and-false, or-true}
use Rattle.affinity.specs.declared.geometry.Geometry.{Geometry}
use Rattle.histories.proofs.Idle.{none_in_flight, none_ran}
use Rattle.histories.specs.CoreState.{CoreState, Entry, IsIdle, Replied, held}
use Rattle.histories.specs.Eligible.{changes, has_room, is_conflict_free, lacks_only_room, unlogged_changes}
use Rattle.histories.specs.Events.{Event, grant_refusal, point_refusal}
use Rattle.histories.specs.MachineState.{MachineState}
use Rattle.histories.specs.Runs.{end_state}
use Rattle.histories.specs.declared.outcomes.Outcome.{Outcome}
use Rattle.histories.specs.declared.outcomes.Outcome.TheVariants as outcomes
use Rattle.histories.specs.declared.outcomes.PointRefusal.{PointRefusal}
use Rattle.histories.specs.declared.outcomes.PointRefusal.TheVariants as points
use Rattle.protocol.specs.declared.replies.Reply.{Reply}
use Rattle.scheduler.specs.Calls.{IsCheckpointStep, IsNoGrant}
use Rattle.scheduler.specs.CoreView.{CoreView, core_state_of}
use Rattle.scheduler.specs.DeviceEvents.{DeviceEvent, events_of}
use Rattle.scheduler.specs.Machine.{MachineView, machine_of}
use Rattle.serving.specs.Checkpoints.{AreTimely, IsDue, trigger_after_event}
use Rattle.serving.specs.Runs.{RunsBetween}
use Rattle.serving.specs.declared.checkpoints.CheckpointTrigger.{CheckpointTrigger}

-- ---- runs

behind : (trigger mid last : CheckpointTrigger) (w : MachineState) (events more : List Event) → AreTimely trigger w events mid
    → AreTimely mid (end_state w events) more last → AreTimely trigger w (events ++ more) last
behind trigger mid last w [] more h k = subst (λ (t : CheckpointTrigger). AreTimely t w more last) h k
behind trigger mid last w (event ∷ events) more h k =
    (h.0, behind (trigger_after_event trigger event.outcome) mid last event.state_after events more h.1 k)

-- A segment follows another one.
pub in_time_on : {keeps : Type 0} {start old new : MachineView} {arriving more : List Entry} {reply_pairs others : List (ℕ × Reply)}
    (trigger mid last : CheckpointTrigger) (h : RunsBetween keeps start old arriving reply_pairs) (k : RunsBetween keeps old new more others)
    → AreTimely trigger (machine_of start) (events_of h.device_events) mid
    → AreTimely mid (machine_of old) (events_of k.device_events) last
    → AreTimely trigger (machine_of start) (events_of (h.device_events ++ k.device_events)) last
in_time_on {start} trigger mid last h k first next =
    let both : events_of (h.device_events ++ k.device_events) ≡ events_of h.device_events ++ events_of k.device_events =
    map-append (λ (s : DeviceEvent). s.event) h.device_events k.device_events in
    subst (λ (events : List Event). AreTimely trigger (machine_of start) events last) (sym both)
    (behind trigger mid last (machine_of start) (events_of h.device_events) (events_of k.device_events) first
    (subst (λ (w : MachineState). AreTimely mid w (events_of k.device_events) last) (sym h.leads.ends) next))

-- ---- why a checkpoint begins

module _ (g : Geometry) (w : CoreState) (none : held w ≡ []) where
  abbrev alone : CoreState
  alone = record w { waiting = [] }

  idle_alone : IsIdle alone
  idle_alone = record { none_waits = refl; none_held = none }

  none_unlogged : unlogged_changes w ≡ 0
  none_unlogged = λ i. count_by (λ (e : Entry). changes e.1) (none_in_flight alone idle_alone i) + count_by (λ (a : Replied). changes a.1) (none_ran alone idle_alone i)

  -- with room in the log, and nothing held, no message lacks only room
  none_lacks : 0 < w.room → (es : List Entry) → list_any (lacks_only_room g w) es ≡ false
  none_lacks room [] = refl
  none_lacks room (e ∷ es) =
      let roomy : has_room w e ≡ true = ap (λ n. not (changes e.1) || nat_lt n w.room) none_unlogged
      ∙ ap (λ b. not (changes e.1) || b) (lt-ltb 0 w.room room) ∙ or-true (not (changes e.1)) in
      ap (λ b. (is_conflict_free g w e && not b) || list_any (lacks_only_room g w) es) roomy
      ∙ ap (λ b. b || list_any (lacks_only_room g w) es) (and-false (is_conflict_free g w e)) ∙ none_lacks room es

  no_room : grant_refusal g w ≡ outcomes.NoRoom → (room : ℕ) → w.room ≡ room → room ≡ 0
  no_room why zero is = refl
  no_room why (suc k) is =
      let other : ◌≡◌ {A = Outcome} outcomes.NoRoom outcomes.NoneEligible = sym why
      ∙ ap (λ b. if b then outcomes.NoRoom else outcomes.NoneEligible) (none_lacks (omega (arith, is)) w.waiting) in
      cc

none_held : (failed running : Bool) (entries : List Entry)
    → (if failed then Some points.Failed else if running then Some points.Running else if nat_lt 0 (length entries) then Some points.Held else None) ≡ None
    → entries ≡ []
none_held true running entries e = absurd (none-some points.Failed (sym e))
none_held false true entries e = absurd (none-some points.Running (sym e))
none_held false false [] e = refl
none_held false false (entry ∷ entries) e =
    absurd (none-some points.Held (sym e ∙ ap (λ b. if b then Some points.Held else None) (lt-ltb 0 (length (entry ∷ entries)) (omega arith))))

module _ (trigger : CheckpointTrigger) (core : CoreView)
    (reason : IsDue trigger core.pieces_left ⊎ IsNoGrant core.geometry (core_state_of core) (core_state_of core) outcomes.NoRoom) where
  -- with nothing held, a checkpoint is due, or the log has no room
  pub due_or_full : held (core_state_of core) ≡ [] → IsDue trigger core.pieces_left ⊎ (core.room ≡ 0)
  due_or_full none = ⊎_elim inl
      (λ (full : IsNoGrant core.geometry (core_state_of core) (core_state_of core) outcomes.NoRoom).
      inr (no_room core.geometry (core_state_of core) none full.reason core.room refl)) reason

  -- so it is where a checkpoint has begun
  pub begins_for_reason : (new : CoreState) (made : Type 0) (r : Result (Unit {0}) PointRefusal)
      → IsCheckpointStep (core_state_of core) new (point_refusal (core_state_of core)) made r → OnOk r (IsDue trigger core.pieces_left ⊎ (core.room ≡ 0))
  begins_for_reason new made (Ok _) step = due_or_full (none_held core.failed (is_some core.pieces_left) (held (core_state_of core)) step.0)
  begins_for_reason new made (Err _) step = tt
