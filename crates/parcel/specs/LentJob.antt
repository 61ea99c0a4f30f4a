-- Statement for engineers: What a job is to the state and the tree that lent it.
use Rattle.meaning.specs.State.{State}
use Rattle.affinity.specs.declared.geometry.Geometry.{Geometry}
use Rattle.affinity.specs.Path.{Path}
use Rattle.parcel.specs.Fits.{Fits, IsKindOf}
use Rattle.parcel.specs.Nodes.{Nodes}
use Rattle.parcel.specs.JobRun.{JobView, IsJobRun, job_place}
use Rattle.parcel.specs.Shown.{Shows}
use Rattle.parcel.specs.Tree.{LendsAt, IsOut, RestoresAt}
use Rattle.parcel.specs.declared.job.Done.{Done}
use Rattle.parcel.specs.declared.parts.Parcels.{Parcels}

-- The job was lent from a state: its parcels and standing show what lies there at the message's place, below it and above it.
abbrev pub IsLentOf : JobView → State → Type 0
IsLentOf job x = Shows job.geometry (job_place job) job.standing job.parcels x

-- The job was made of what a tree lent at the message's place. The tree has the nodes `old` before, and `lent` after it.
abbrev pub LendsJob : JobView → Nodes → Nodes → Type 0
LendsJob job old lent = LendsAt job.geometry (job_place job) job.standing job.parcels old lent

-- The job was made of what a tree lent at the message's place, it was run, and what it left was put back there.
pub record LendsRunsRestores (job : JobView) (done : Done) (old lent new : Nodes) : Type 0 where
  pub taken : LendsJob job old lent
  pub ran : IsJobRun job done
  pub put : RestoresAt job.geometry (job_place job) done.parcels lent new

-- Parcels can be restored at a path: it is out, and they are of its kind and fit there.
pub record CanBeRestored (g : Geometry) (p : Path) (l : Parcels) (n : Nodes) : Type 0 where
  pub out : IsOut p n
  pub kind : IsKindOf p l
  pub fits : Fits g p l
