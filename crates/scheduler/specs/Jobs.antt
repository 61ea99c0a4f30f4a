-- Statement for engineers: Which jobs a core dispatches, and which results it takes back.
use Rattle.std.specs.Prelude.{◌≡◌}
use Rattle.std.specs.List.{Contains}
use Rattle.affinity.specs.declared.geometry.Geometry.{Geometry}
use Rattle.histories.specs.CoreState.{CoreState}
use Rattle.protocol.specs.Messages.{path_of}
use Rattle.parcel.specs.Fits.{IsRunnable}
use Rattle.parcel.specs.JobRun.{JobView}
use Rattle.parcel.specs.Shown.{Shows}
use Rattle.parcel.specs.LentJob.{IsLentOf}
use Rattle.parcel.specs.declared.job.Done.{Done}
use Rattle.parcel.specs.declared.parts.Standing.{Standing}
use Rattle.meaning.specs.Step.{next_state, reply_to}

-- The job is of a message in flight. Its parcels are what the committed state has at the message's place and below, its standing what that
-- has above.
pub record IsJobOf (g : Geometry) (w : CoreState) (job : JobView) : Type 0 where
  pub geometry : job.geometry ≡ g
  pub in_flight : Contains w.in_flight (job.ticket, job.message)
  pub lent : IsLentOf job w.committed

-- The message is in flight, and `done` is its result if it runs in the committed state: the reply, and the parcels after it. A result
-- has no standing of its own, so `standing` is some standing with which these parcels show the state after it.
pub record IsResultOf (g : Geometry) (w : CoreState) (done : Done) : Type 0 where
  pub in_flight : Contains w.in_flight (done.ticket, done.message)
  pub runnable : IsRunnable g done.message done.parcels
  pub reply : done.reply ≡ reply_to g w.committed done.message
  pub standing : Standing
  pub shows : Shows g (path_of g done.message) standing done.parcels (next_state g w.committed done.message)
