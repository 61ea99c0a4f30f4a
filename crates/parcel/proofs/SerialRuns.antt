-- A run is a serial step of each state that can have lent its job, and of the tree that lent it and takes back what it left.
use Rattle.std.proofs.Common.{◌≡◌, true, false, [], refl, sym, ap, subst, ◌∙◌}
use Rattle.std.specs.Prelude.{◌&&◌, not, None, is_some}
use Rattle.std.proofs.lemmas.Bool.{and_parts, cond-false, or_left, or_right}
use Rattle.affinity.specs.declared.geometry.Geometry.{Geometry}
use Rattle.affinity.specs.Path.{Path, is_prefix, are_related, IsPath}
use Rattle.protocol.specs.Messages.{path_of, IsMessage}
use Rattle.meaning.specs.State.{State, IsState}
use Rattle.meaning.specs.Step.{next_state}
use Rattle.meaning.specs.Subtrees.{AgreeOn, subtree, standing}
use Rattle.meaning.specs.Commute.{outside}
use Rattle.meaning.proofs.AgreeOn.{agree-sym, agree-trans, agree_within, part_from_agree}
use Rattle.meaning.proofs.Commute.{reads_only, changes_only}
use Rattle.meaning.proofs.IsState.{step_kept}
use Rattle.meaning.proofs.SubtreeLaws.{agree_in_and_out}
use Rattle.parcel.specs.Nodes.{Nodes, parcels_nodes, tree_state}
use Rattle.parcel.specs.JobRun.{JobView, IsJobRun, IsSerialStep, IsSerialStepOf}
use Rattle.parcel.specs.LentJob.{IsLentOf, LendsRunsRestores}
use Rattle.parcel.specs.Shown.{shown_state, Shows}
use Rattle.parcel.specs.Tree.{IsIn}
use Rattle.parcel.specs.declared.job.Done.{Done}
use Rattle.parcel.specs.declared.parts.Parcels.{Parcels}
use Rattle.parcel.specs.declared.parts.Standing.{Standing}
use Rattle.parcel.proofs.TreeState.{taken_leaves, put_leaves, put_outside}
use Rattle.parcel.proofs.LendsAndRestores.{restored_is_in}
use Rattle.affinity.proofs.Paths.{begins_split}

pub serial_run : (job : JobView) (done : Done) (x : State) → IsJobRun job done → IsLentOf job x → IsSerialStepOf job done x
serial_run job done x run lent =
    let g = job.geometry in
    let m = job.message in
    let p = path_of g m in
    let same = reads_only g (are_related p) (shown_state g p job.standing job.parcels) x m lent (λ q r. r) in
    record {
      reply = run.step.reply ∙ same.0;
      shows = subst (λ (y : State). AgreeOn g (are_related p) y (next_state g x m)) (sym run.step.state) same.1;
    }

-- At the place and below, the tree has what the run left, and elsewhere what it had before.
pub served_step : (job : JobView) (done : Done) (old lent new : Nodes) → LendsRunsRestores job done old lent new
    → IsSerialStep job.geometry (tree_state job.geometry old) job.message done.reply (tree_state job.geometry new)
served_step job done old lent new h =
    let g = job.geometry in
    let m = job.message in
    let p = path_of g m in
    let x = tree_state g old in
    let run = serial_run job done x h.ran h.taken.shows in
    let there : AgreeOn g (is_prefix p) (tree_state g new) (next_state g x m) =
    agree-trans (agree-sym (h.put.subtree job.standing)) (agree_within (λ q r. or_left (is_prefix p q) (is_prefix q p) r) run.shows) in
    let elsewhere : AgreeOn g (outside p) (tree_state g new) (next_state g x m) =
    agree-trans (put_leaves g p (parcels_nodes done.parcels) lent new h.put.nodes) (agree-trans (taken_leaves g p old lent h.taken.rest) (agree-sym (changes_only g x m))) in
    record { reply = run.reply; state = agree_in_and_out g p (tree_state g new) (next_state g x m) there elsewhere }

pub served_is_in : (job : JobView) (done : Done) (old lent new : Nodes) → LendsRunsRestores job done old lent new → IsIn job.geometry [] old → IsIn job.geometry [] new
served_is_in job done old lent new h whole q path related =
    let g = job.geometry in
    let p = path_of g job.message in
    elim (is_prefix p q) as (λ b. is_prefix p q ≡ b → is_some (new q) ≡ true) [
      | true ↦ λ e. let rest = begins_split p q e in
          subst (λ r. is_some (new r) ≡ true) (sym rest.1) (restored_is_in g p done.parcels lent h.put.nodes h.ran.runnable.fits rest.0 (subst (λ r. IsPath g r) rest.1 path))
      | false ↦ λ e. ap is_some (h.put.nodes q ∙ put_outside p (parcels_nodes done.parcels) lent q e ∙ h.taken.rest q ∙ cond-false (is_prefix p q) None (old q) e) ∙ whole q path refl
    ] refl

pub served_state : (job : JobView) (done : Done) (old lent new : Nodes) → LendsRunsRestores job done old lent new → IsMessage job.message
    → IsState job.geometry (tree_state job.geometry old) → IsState job.geometry (tree_state job.geometry new)
served_state job done old lent new h message is = subst (λ (y : State). IsState job.geometry y) (sym (served_step job done old lent new h).state)
    (step_kept job.geometry (tree_state job.geometry old) job.message is message)

-- ---- to show a state is to have its subtree and its standing

pub shown_subtree : (g : Geometry) (p : Path) (t : Standing) (l : Parcels) (x : State) → Shows g p t l x → subtree g p (shown_state g p t l) ≡ subtree g p x
shown_subtree g p t l x h = part_from_agree g (is_prefix p) (shown_state g p t l) x (agree_within (λ q r. or_left (is_prefix p q) (is_prefix q p) r) h)

pub shown_standing : (g : Geometry) (p : Path) (t : Standing) (l : Parcels) (x : State) → Shows g p t l x → standing g p (shown_state g p t l) ≡ standing g p x
shown_standing g p t l x h =
    part_from_agree g (λ q. is_prefix q p && not (is_prefix p q)) (shown_state g p t l) x
    (agree_within (λ q r. or_right (is_prefix p q) (is_prefix q p) (and_parts (is_prefix q p) (not (is_prefix p q)) r).0) h)
