-- Statement for operators: What it is to run a message on the parcels of its place.
use Rattle.std.specs.Prelude.{◌≡◌, ℕ}
use Rattle.affinity.specs.Path.{Path}
use Rattle.affinity.specs.declared.geometry.Geometry.{Geometry}
use Rattle.protocol.specs.declared.messages.Msg.{Msg}
use Rattle.protocol.specs.declared.replies.Reply.{Reply}
use Rattle.protocol.specs.Messages.{path_of}
use Rattle.meaning.specs.State.{State}
use Rattle.meaning.specs.Step.{reply_to, next_state}
use Rattle.parcel.specs.Fits.{IsRunnable}
use Rattle.parcel.specs.Shown.{Shows, shown_state}
use Rattle.parcel.specs.declared.parts.Parcels.{Parcels}
use Rattle.parcel.specs.declared.parts.Standing.{Standing}
use Rattle.parcel.specs.declared.job.Done.{Done}

-- what contracts see of a `Job`: a message with its ticket, and what it runs on
pub record JobView : Type 0 where
  pub geometry : Geometry
  pub ticket : ℕ
  pub message : Msg
  pub standing : Standing
  pub parcels : Parcels

-- the place of the message of a job
abbrev pub job_place : JobView → Path
job_place job = path_of job.geometry job.message

-- From state x the serial step of the message gives this reply and state y.
pub record IsSerialStep (g : Geometry) (x : State) (m : Msg) (given : Reply) (y : State) : Type 0 where
  pub reply : given ≡ reply_to g x m
  pub state : y ≡ next_state g x m

-- A message was run on the parcels of its place, with this standing: from the state that they show, its serial step gives this reply and
-- the state that they show after it.
abbrev pub IsStepOn : Geometry → Msg → Standing → Parcels → Reply → Parcels → Type 0
IsStepOn g m t old given new = IsSerialStep g (shown_state g (path_of g m) t old) m given (shown_state g (path_of g m) t new)

-- The job was run: in the state that its parcels and standing show, the reply is that of the serial step, and the parcels show the state
-- after it.
pub record IsJobRun (job : JobView) (done : Done) : Type 0 where
  pub ticket : done.ticket ≡ job.ticket
  pub message : done.message ≡ job.message
  pub runnable : IsRunnable job.geometry job.message done.parcels
  pub step : IsStepOn job.geometry job.message job.standing job.parcels done.reply done.parcels

-- The reply is that of the serial step from the state, and with the standing the parcels show the state after it.
pub record IsSerialStepOf (job : JobView) (done : Done) (x : State) : Type 0 where
  pub reply : done.reply ≡ reply_to job.geometry x job.message
  pub shows : Shows job.geometry (job_place job) job.standing done.parcels (next_state job.geometry x job.message)
