-- What is in flight sees the committed state at its place as it was, whatever else comes.
use Rattle.std.proofs.Common.{◌≡◌, ap, sym, subst, ◌∙◌}
use Rattle.std.specs.List.{Contains}
use Rattle.affinity.specs.Path.{are_related}
use Rattle.affinity.specs.declared.geometry.Geometry.{Geometry}
use Rattle.histories.proofs.Elements.{in_contained}
use Rattle.histories.proofs.InFlight.{event_sees}
use Rattle.histories.specs.Events.{Event, IsAllowed}
use Rattle.histories.specs.MachineState.{MachineState}
use Rattle.histories.specs.IsSoundCoreState.{IsSoundCoreState}
use Rattle.histories.specs.CoreState.{Entry, CoreState}
use Rattle.protocol.specs.Messages.{path_of}
use Rattle.parcel.proofs.SerialRuns.{serial_run}
use Rattle.parcel.specs.Fits.{IsRunnable}
use Rattle.parcel.specs.JobRun.{JobView, IsJobRun, IsSerialStepOf}
use Rattle.parcel.specs.Shown.{Shows}
use Rattle.parcel.specs.declared.job.Done.{Done}
use Rattle.meaning.proofs.AgreeOn.{agree-sym, agree-trans}
use Rattle.meaning.proofs.Commute.{reads_only}
use Rattle.meaning.specs.Step.{next_state, reply_to}
use Rattle.meaning.specs.Subtrees.{AgreeOn}
use Rattle.scheduler.specs.Jobs.{IsJobOf, IsResultOf}

-- what a message in flight can read of the committed state stays
event_leaves : (g : Geometry) (e : Entry) (old : MachineState) (event : Event) → IsAllowed g old event → IsSoundCoreState g old.core
    → Contains old.core.in_flight e → AgreeOn g (are_related (path_of g e.1)) event.state_after.core.committed old.core.committed
event_leaves g e old event allowed sound there = event_sees g old event e allowed sound (in_contained old.core.in_flight e there)

pub ran_gives : (g : Geometry) (w : CoreState) (job : JobView) (done : Done) → IsJobOf g w job → IsJobRun job done → IsResultOf g w done
ran_gives g w job done is ran = subst (λ (h : Geometry). IsResultOf h w done) is.geometry (record {
  in_flight = subst (λ e. Contains w.in_flight e) (λ i. (sym ran.ticket i, sym ran.message i)) is.in_flight;
  runnable = subst (λ m. IsRunnable job.geometry m done.parcels) (sym ran.message) ran.runnable;
  reply = serial.reply ∙ ap (reply_to job.geometry w.committed) (sym ran.message);
  standing = job.standing;
  shows = subst (λ m. Shows job.geometry (path_of job.geometry m) job.standing done.parcels (next_state job.geometry w.committed m)) (sym ran.message) serial.shows;
})
  where
    serial : IsSerialStepOf job done w.committed
    serial = serial_run job done w.committed ran is.lent

pub job_stays : (g : Geometry) (old : MachineState) (event : Event) (job : JobView) → IsAllowed g old event → IsSoundCoreState g old.core → IsJobOf g old.core job
    → Contains event.state_after.core.in_flight (job.ticket, job.message) → IsJobOf g event.state_after.core job
job_stays g old event job allowed sound is there = record {
  geometry = is.geometry;
  in_flight = there;
  lent = agree-trans is.lent
      (subst (λ (h : Geometry). AgreeOn h (are_related (path_of h job.message)) old.core.committed event.state_after.core.committed) (sym is.geometry)
      (agree-sym (event_leaves g (job.ticket, job.message) old event allowed sound is.in_flight)));
}

pub result_stays : (g : Geometry) (old : MachineState) (event : Event) (done : Done) → IsAllowed g old event → IsSoundCoreState g old.core → IsResultOf g old.core done
    → Contains event.state_after.core.in_flight (done.ticket, done.message) → IsResultOf g event.state_after.core done
result_stays g old event done allowed sound is there = record {
  in_flight = there;
  runnable = is.runnable;
  reply = is.reply ∙ same.0;
  standing = is.standing;
  shows = agree-trans is.shows same.1;
}
  where
    same : (reply_to g old.core.committed done.message ≡ reply_to g event.state_after.core.committed done.message)
        × AgreeOn g (are_related (path_of g done.message)) (next_state g old.core.committed done.message) (next_state g event.state_after.core.committed done.message)
    same = reads_only g (are_related (path_of g done.message)) old.core.committed event.state_after.core.committed done.message
        (agree-sym (event_leaves g (done.ticket, done.message) old event allowed sound is.in_flight)) (λ q r. r)
