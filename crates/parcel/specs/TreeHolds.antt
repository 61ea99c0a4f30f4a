-- Statement for engineers: How a tree agrees with the serial server's state while parcels are out at several places.
use Rattle.std.specs.Prelude.{◌≡◌, Bool, true, false, not, ◌||◌, None}
use Rattle.affinity.specs.declared.geometry.Geometry.{Geometry}
use Rattle.affinity.specs.Path.{Path, is_prefix, are_related, IsPath}
use Rattle.meaning.specs.Subtrees.{AgreeOn}
use Rattle.meaning.specs.State.{State, IsState}
use Rattle.parcel.specs.Nodes.{Nodes, tree_state}
use Rattle.parcel.specs.JobRun.{JobView, job_place}
use Rattle.parcel.specs.LentJob.{IsLentOf}

-- the empty set of paths
abbrev pub nowhere : Path → Bool
nowhere q = false

-- a set of paths with one more place and all that lies below it
abbrev pub with_place : Path → (Path → Bool) → Path → Bool
with_place p out q = is_prefix p q || out q

-- A place is unrelated to each path of the set `out`.
abbrev pub IsApart : Path → (Path → Bool) → Type 0
IsApart p out = (q : Path) → out q ≡ true → are_related p q ≡ false

-- The paths of the set `out` are out of the tree, and no others of its geometry. At all others the tree agrees with x, which is a valid
-- state (`IsState`).
pub record TreeHolds (g : Geometry) (out : Path → Bool) (n : Nodes) (x : State) : Type 0 where
  pub agrees : AgreeOn g (λ q. not (out q)) (tree_state g n) x
  pub others : (q : Path) → IsPath g q → n q ≡ None → out q ≡ true
  pub gone : (q : Path) → out q ≡ true → n q ≡ None
  pub state : IsState g x

-- A tree holds x while the parcels of a job are out, and the paths of the set `out`, to which the job's place is unrelated. The job's
-- parcels and standing show x.
pub record IsJobOut (out : Path → Bool) (job : JobView) (n : Nodes) (x : State) : Type 0 where
  pub holds : TreeHolds job.geometry (with_place (job_place job) out) n x
  pub apart : IsApart (job_place job) out
  pub shows : IsLentOf job x
