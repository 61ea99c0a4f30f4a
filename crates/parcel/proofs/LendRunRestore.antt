-- A message that is lent its parcels from a whole tree, runs on them, and gives them back.
use Rattle.std.proofs.Common.{◌≡◌, ℕ, List, [], sym, subst}
use Rattle.affinity.specs.declared.geometry.Geometry.{Geometry}
use Rattle.affinity.specs.declared.kinds.Kind.{Kind}
use Rattle.affinity.specs.Interval.{Interval, IsAffinityOf}
use Rattle.affinity.specs.Path.{Path}
use Rattle.affinity.specs.Place.{path_of_kind}
use Rattle.protocol.specs.declared.messages.Msg.{Msg}
use Rattle.protocol.specs.Messages.{IsMessage, kind, four_numbers, path_of}
use Rattle.parcel.specs.Fits.{Fits, IsKindOf}
use Rattle.parcel.specs.Nodes.{Nodes, tree_state}
use Rattle.parcel.specs.JobRun.{JobView, IsJobRun, IsSerialStep, job_place}
use Rattle.parcel.specs.LentJob.{CanBeRestored, LendsJob, LendsRunsRestores}
use Rattle.parcel.specs.Tree.{IsIn, IsOut, LendsAt, RestoresAt}
use Rattle.parcel.specs.declared.job.Done.{Done}
use Rattle.parcel.specs.declared.parts.Parcels.{Parcels}
use Rattle.parcel.specs.declared.parts.Standing.{Standing}
use Rattle.parcel.proofs.TreeHolds.{ran_goes_back}
use Rattle.parcel.proofs.SerialRuns.{served_step, served_is_in, served_state}
use Rattle.meaning.specs.State.{IsState}
use Rattle.affinity.proofs.Preorder.{path_unique}

-- the affinity that was found by kind and numbers is that of the message
pub placed : {g : Geometry} (m : Msg) {k : Kind} {n : List ℕ} {a : Interval} → k ≡ kind m → n ≡ four_numbers m → IsAffinityOf g (path_of_kind g k n) a → IsAffinityOf g (path_of g m) a
placed {g} m {n} {a} k_is n_is there = subst (λ (l : List ℕ). IsAffinityOf g (path_of_kind g (kind m) l) a) n_is (subst (λ (j : Kind). IsAffinityOf g (path_of_kind g j n) a) k_is there)

module _ {g : Geometry} {m : Msg} {s : Standing} {l : Parcels} {job : JobView} (is : job ≡ record { geometry = g; ticket = 0; message = m; standing = s; parcels = l })
    {a : Interval} (there : IsAffinityOf g (path_of g m) a) {done : Done} (ran : IsJobRun job done) {old lent : Nodes}
    {h : Geometry} (same : g ≡ h) (took : (p : Path) → IsAffinityOf h p a → LendsAt h p s l old lent) where
  -- what was lent, by a geometry equal to the tree's
  lends : LendsJob job old lent
  lends = rw is (subst (λ (i : Geometry). (p : Path) → IsAffinityOf i p a → LendsAt i p s l old lent) (sym same) took (path_of g m) there)

  -- the parcels can be restored after the run
  pub goes_back : CanBeRestored g (path_of g m) done.parcels lent
  goes_back = subst (λ (j : JobView). CanBeRestored j.geometry (job_place j) done.parcels lent) is (ran_goes_back job done old lent lends ran)

  module _ {k : Geometry} (alike : g ≡ k) {r : Parcels} (is_done : r ≡ done.parcels) where
    pub fits_there : (q : Path) → IsAffinityOf k q a → IsKindOf q r → Fits k q r
    fits_there =
        subst (λ (i : Geometry). (q : Path) → IsAffinityOf i q a → IsKindOf q r → Fits i q r) alike
        (λ q at kind_is. subst (λ (x : Parcels). Fits g q x) (sym is_done) (subst (λ (p : Path). Fits g p done.parcels) (path_unique g (path_of g m) q a there at) goes_back.fits))

    -- so restoring them can't be refused
    pub goes : ((q : Path) → IsAffinityOf k q a → IsOut q lent → IsKindOf q r → ⊥) → ⊥
    goes refused = refused (path_of g m) (rw (← alike) there) goes_back.out (rw is_done goes_back.kind)

    -- lend, run and restore
    module _ {new : Nodes} (put : (q : Path) → IsAffinityOf k q a → RestoresAt k q r lent new) where
      served : LendsRunsRestores job done old lent new
      served = record {
        taken = lends;
        ran = ran;
        put = rw (is, ← is_done) (subst (λ (i : Geometry). (q : Path) → IsAffinityOf i q a → RestoresAt i q r lent new) (sym alike) put (path_of g m) there);
      }

      pub stepped : IsSerialStep h (tree_state h old) m done.reply (tree_state h new)
      stepped =
          subst (λ (i : Geometry). IsSerialStep i (tree_state i old) m done.reply (tree_state i new)) same
          (subst (λ (j : JobView). IsSerialStep j.geometry (tree_state j.geometry old) j.message done.reply (tree_state j.geometry new)) is (served_step job done old lent new served))

      pub all_in_again : IsIn h [] old → IsIn h [] new
      all_in_again =
          subst (λ (i : Geometry). IsIn i [] old → IsIn i [] new) same
          (subst (λ (j : JobView). IsIn j.geometry [] old → IsIn j.geometry [] new) is (served_is_in job done old lent new served))

      pub state_again : IsMessage m → IsState h (tree_state h old) → IsState h (tree_state h new)
      state_again =
          subst (λ (i : Geometry). IsMessage m → IsState i (tree_state i old) → IsState i (tree_state i new)) same
          (subst (λ (j : JobView). IsMessage j.message → IsState j.geometry (tree_state j.geometry old) → IsState j.geometry (tree_state j.geometry new)) is
          (served_state job done old lent new served))
