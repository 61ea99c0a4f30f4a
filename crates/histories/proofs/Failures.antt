-- A device's failure is reported, and it lasts.
use Rattle.std.proofs.Common.{◌≡◌, true, false, List, ◌∷◌, [], ◌++◌, refl, sym, ◌∙◌, true≢false}
use Rattle.std.proofs.lemmas.List.{append-nil}
use Rattle.affinity.specs.declared.geometry.Geometry.{Geometry}
use Rattle.meaning.specs.Step.{reply_to}
use Rattle.histories.specs.CoreState.{Entry, Replied}
use Rattle.histories.specs.MachineState.{MachineState}
use Rattle.histories.specs.Events.{Event, IsAllowed}
use Rattle.histories.specs.Failures.{StaysFailed, reports_failure}
use Rattle.histories.proofs.Ways.{Passed, Way, Nothing, Arrives, Grants, Backs, Logs, Answers, Points, Fails, ways}

-- An event reports that the device failed exactly where it did.
pub failure_reported : (g : Geometry) (old : MachineState) (event : Event) → IsAllowed g old event → event.device_failed ≡ reports_failure event.outcome
failure_reported g old event allowed = by (ways g old event allowed)
  where
    by : {event : Event} {p : Passed} → Way g old event p → event.device_failed ≡ reports_failure event.outcome
    by (Nothing s o quiet) = sym quiet.2
    by (Points s o room pieces_left works quiet fits) = sym quiet.2
    by (Fails s o doubt works quiet doubts) = sym quiet.2
    by _ = refl

-- After such an event the core has failed,
pub failure_fails : (g : Geometry) (old : MachineState) (event : Event) → IsAllowed g old event → event.device_failed ≡ true
    → event.state_after.core.failed ≡ true
failure_fails g old event allowed = by (ways g old event allowed)
  where
    by : {event : Event} {p : Passed} → Way g old event p → event.device_failed ≡ true → event.state_after.core.failed ≡ true
    by (Fails s o doubt works quiet doubts) device_failed = refl
    by _ device_failed = absurd (true≢false (sym device_failed))

-- but after no other one does it fail,
pub works_on : (g : Geometry) (old : MachineState) (event : Event) → IsAllowed g old event → event.device_failed ≡ false → old.core.failed ≡ false
    → event.state_after.core.failed ≡ false
works_on g old event allowed = by (ways g old event allowed)
  where
    by : {event : Event} {p : Passed} → Way g old event p → event.device_failed ≡ false → old.core.failed ≡ false → event.state_after.core.failed ≡ false
    by (Fails s o doubt works quiet doubts) none_fails fine = absurd (true≢false none_fails)
    by _ none_fails fine = fine

-- and it stays failed.
pub failure_lasts : (g : Geometry) (old : MachineState) (event : Event) → IsAllowed g old event → old.core.failed ≡ true
    → StaysFailed old.core event.state_after.core
failure_lasts g old event allowed failed = by (ways g old event allowed)
  where
    stays : (in_flight : List Entry) (ran logged back : List Replied) → ran ≡ old.core.ran ++ back
        → StaysFailed old.core (record old.core { in_flight = in_flight; ran = ran; logged = logged })
    stays in_flight ran logged back is = record {
      failed = failed;
      waiting = refl;
      back = back;
      ran = is;
      committed = refl;
      doubt = refl;
      room = refl;
      next = refl;
      pieces_left = refl;
    }

    by : {event : Event} {p : Passed} → Way g old event p → StaysFailed old.core event.state_after.core
    by (Arrives m works fits) = absurd (true≢false (sym failed ∙ works))
    by (Grants hand found works free first) = absurd (true≢false (sym failed ∙ works))
    by (Logs n works) = absurd (true≢false (sym failed ∙ works))
    by (Points s o room pieces_left works quiet fits) = absurd (true≢false (sym failed ∙ works))
    by (Fails s o doubt works quiet doubts) = absurd (true≢false (sym failed ∙ works))
    by (Backs i ticket found result one_out) =
        let a : Replied = (found.0.0, found.0.1, reply_to g old.core.committed found.0.1) in
        stays found.1 (old.core.ran ++ a ∷ []) old.core.logged (a ∷ []) refl
    by (Answers a rest front) = stays old.core.in_flight old.core.ran rest [] (sym (append-nil old.core.ran))
    by _ = stays old.core.in_flight old.core.ran old.core.logged [] (sym (append-nil old.core.ran))
