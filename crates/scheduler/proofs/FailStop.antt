-- Once the device has failed, no call of it is made: it stays as it is, and has failed once.
use Rattle.std.proofs.Common.{◌≡◌, zero, suc, ◌+◌, Bool, true, false, List, [], ◌∷◌, refl, ◌∙◌, arith}
use Rattle.std.specs.Prelude.{cond}
use Rattle.affinity.specs.declared.geometry.Geometry.{Geometry}
use Rattle.disk.specs.Device.{Medium}
use Rattle.histories.proofs.Failures.{failure_fails, failure_lasts, works_on}
use Rattle.histories.specs.Events.{Event, touches_device}
use Rattle.histories.specs.MachineState.{MachineState}
use Rattle.histories.specs.CoreState.{CoreState}
use Rattle.histories.specs.Runs.{IsLegal, end_state}
use Rattle.histories.specs.declared.outcomes.Step.{Step}
use Rattle.histories.specs.declared.outcomes.Step.TheVariants as steps
use Rattle.scheduler.specs.DeviceEvents.{AgreeWithDevice, DeviceEvent, IsFailStop, device_after, events_of}

-- no step of a failed core touches the device
none_touched : (w : CoreState) (step : Step) → w.failed ≡ true → touches_device w step ≡ false
none_touched w (steps.Log n) failed = rw failed refl
none_touched w steps.Point failed = rw failed refl
none_touched w steps.Cut failed = rw failed refl
none_touched w steps.Piece failed = rw failed refl
none_touched w steps.Flip failed = rw failed refl
none_touched w step failed = refl

module _ (g : Geometry) where
  -- a core that has failed stays so
  pub run_fails : (old : MachineState) (events : List Event) → IsLegal g old events → old.core.failed ≡ true → (end_state old events).core.failed ≡ true
  run_fails old [] legal failed = failed
  run_fails old (event ∷ events) legal failed = run_fails event.state_after events legal.1 (failure_lasts g old event legal.0 failed).failed

  left_alone : (w : MachineState) (m : Medium) (device_events : List DeviceEvent) → IsLegal g w (events_of device_events)
      → AgreeWithDevice w m device_events → w.core.failed ≡ true → device_after m device_events ≡ m
  left_alone w m [] legal agrees failed = refl
  left_alone w m (s ∷ device_events) legal agrees failed =
      left_alone s.event.state_after s.medium device_events legal.1 agrees.2 (failure_lasts g w s.event legal.0 failed).failed
      ∙ agrees.1 (none_touched w.core s.event.step failed)

  pub fail_stop : (w : MachineState) (m : Medium) (device_events : List DeviceEvent) → IsLegal g w (events_of device_events)
      → AgreeWithDevice w m device_events → IsFailStop w m device_events
  fail_stop w m device_events legal agrees zero failed = left_alone w m device_events legal agrees failed
  fail_stop w m [] legal agrees (suc k) failed = refl
  fail_stop w m (s ∷ device_events) legal agrees (suc k) failed = fail_stop s.event.state_after s.medium device_events legal.1 agrees.2 k failed

  -- The count of failures grows by one if the core has failed in the end, and else it doesn't.
  abbrev CountsOnce : Medium → Medium → Bool → Type 0
  CountsOnce old new failed = new.faults ≡ old.faults + cond failed 1 0

  pub fails_once : (w : MachineState) (m : Medium) (device_events : List DeviceEvent) → IsLegal g w (events_of device_events)
      → AgreeWithDevice w m device_events → w.core.failed ≡ false
      → CountsOnce m (device_after m device_events) (end_state w (events_of device_events)).core.failed
  fails_once w m [] legal agrees works = rw works (omega arith)
  fails_once w m (s ∷ device_events) legal agrees works =
      elim s.event.device_failed as (λ b. s.event.device_failed ≡ b → CountsOnce m s.medium b
      → CountsOnce m (device_after m (s ∷ device_events)) (end_state w (events_of (s ∷ device_events))).core.failed) [
        | true ↦ λ fails counted.
            let failed = failure_fails g w s.event legal.0 fails in
            rw (left_alone s.event.state_after s.medium device_events legal.1 agrees.2 failed, run_fails s.event.state_after (events_of device_events) legal.1 failed)
            counted
        | false ↦ λ none counted.
            let rest = fails_once s.event.state_after s.medium device_events legal.1 agrees.2 (works_on g w s.event legal.0 none works) in
            omega (arith, rest, counted)
      ] refl agrees.0
