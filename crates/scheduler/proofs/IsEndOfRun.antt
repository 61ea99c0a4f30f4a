-- What a core leaves when a run has ended holds all that was answered in it.
use Rattle.std.proofs.Common.{◌≡◌, ℕ, false, List, [], ◌++◌, ap, sym, ◌∙◌, length, arith}
use Rattle.std.proofs.lemmas.List.{drop_all, take_all}
use Rattle.affinity.specs.declared.geometry.Geometry.{Geometry}
use Rattle.disk.specs.CrashImages.{IsCrashImage}
use Rattle.checkpoint.specs.Journal.{RecoversWithPrefix}
use Rattle.histories.proofs.AnsweredFirst.{answered_left}
use Rattle.histories.proofs.Idle.{none_logged}
use Rattle.histories.specs.Crash.{in_doubt}
use Rattle.histories.specs.Events.{Event, recorded}
use Rattle.histories.specs.MachineState.{MachineState}
use Rattle.histories.specs.CoreState.{IsIdle}
use Rattle.histories.specs.IsSoundCoreState.{IsSoundCoreState}
use Rattle.histories.specs.Incarnations.{HoldsAnswered, Ran}
use Rattle.histories.specs.Runs.{IsLegal, end_state}
use Rattle.scheduler.proofs.MachineSteps.{some_of}
use Rattle.scheduler.proofs.HasRun.{RecoversSince, recovers_for_run}
use Rattle.scheduler.specs.Machine.{MachineView, machine_of}
use Rattle.scheduler.specs.DeviceEvents.{RecoversForRun}
use Rattle.scheduler.specs.declared.hands.HandContent.{HandContent}
use Rattle.scheduler.specs.CoreView.{CoreView, RecoversNow, core_state_of}

module _ (start : MachineView) (new : CoreView) (hands : List HandContent) (events : List Event)
    (legal : IsLegal start.core.geometry (machine_of start) events) (sound : IsSoundCoreState start.core.geometry (core_state_of start.core))
    (ends : end_state (machine_of start) events ≡ machine_of (record { core = new; hands = hands })) (same : new.geometry ≡ start.core.geometry)
    (none : new.failed ≡ false → new.doubt ≡ []) (recovers : RecoversNow new) (c : List ℕ) (left : IsCrashImage new.medium c) where
  abbrev g : Geometry
  g = start.core.geometry

  abbrev w : MachineState
  w = machine_of start

  base : RecoversWithPrefix g (end_state w events).core.committed (in_doubt (end_state w events).core []) c
  base = rw (ends, ← same) (some_of new.geometry (core_state_of new).committed new.failed new.doubt [] c none (recovers c left))

  since : RecoversSince g w events (length events) c
  since = record {
    at = length events;
    since = omega arith;
    within = omega arith;
    recovers = rw (take_all (length events) events (omega arith), drop_all (length events) events (omega arith)) base;
  }

  pub ended_so : RecoversForRun g w events (length events) c
  ended_so = recovers_for_run g w events (length events) c legal sound since

  pub holds_answered : IsIdle (core_state_of start.core)
      → (h : RecoversForRun g w events (length events) c) × HoldsAnswered (Ran w events (length events)) h.left.log
  holds_answered idle =
      let l = ended_so.left in
      let k = answered_left g legal l.since l.is_log in
      (ended_so, (k.0, ap (λ ms. recorded ms ++ l.log) (sym (none_logged (core_state_of start.core) idle)) ∙ k.1))
