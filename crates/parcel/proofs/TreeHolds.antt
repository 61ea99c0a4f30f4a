-- What was lent and run can be put back, and a tree agrees with the serial server's state while parcels are out at several places.
use Rattle.std.proofs.Common.{arith, ◌≡◌, Bool, true, false, [], ◌∷◌, refl, sym, ap, subst, ◌∙◌, ⊎_elim}
use Rattle.std.specs.Prelude.{◌||◌, not, Option, None, Some, is_some}
use Rattle.std.proofs.lemmas.Bool.{cond-false, cond-true, false_from_ne_true, not_from_false, not-true, or_cases, or_left, or_parts, or_right, true≢false}
use Rattle.affinity.specs.declared.geometry.Geometry.{Geometry}
use Rattle.affinity.specs.Path.{Path, is_prefix, are_related, IsPath}
use Rattle.affinity.proofs.Paths.{unrelated_below, unrelated_turned, begins_split}
use Rattle.affinity.proofs.PlaceLemmas.{IsPath-path_of_kind}
use Rattle.protocol.specs.declared.messages.Msg.{Msg}
use Rattle.protocol.specs.Messages.{path_of, is_in_range, kind, four_numbers, IsMessage}
use Rattle.meaning.specs.State.{State, IsState}
use Rattle.meaning.specs.Step.{reply_to, next_state}
use Rattle.meaning.specs.Subtrees.{AgreeOn}
use Rattle.meaning.specs.Commute.{outside}
use Rattle.meaning.proofs.AgreeOn.{agree-sym, agree-trans, agree_either, agree_everywhere, agree_within}
use Rattle.meaning.proofs.Commute.{changes_only}
use Rattle.meaning.proofs.IsState.{step_kept}
use Rattle.parcel.specs.Fits.{Fits}
use Rattle.parcel.specs.TreeHolds.{TreeHolds, IsApart, IsJobOut, nowhere, with_place}
use Rattle.parcel.specs.Nodes.{Node, Nodes, parcels_nodes, tree_state}
use Rattle.parcel.specs.JobRun.{JobView, IsJobRun, job_place}
use Rattle.parcel.specs.Shown.{Shows}
use Rattle.parcel.specs.LentJob.{CanBeRestored, LendsJob}
use Rattle.parcel.specs.Tree.{IsIn, HasGap, IsOut, LendsAt, RestoresAt}
use Rattle.parcel.specs.declared.job.Done.{Done}
use Rattle.parcel.specs.declared.parts.Parcels.{Parcels}
use Rattle.parcel.specs.declared.parts.Standing.{Standing}
use Rattle.parcel.proofs.TreeState.{taken_leaves, put_leaves, put_outside}
use Rattle.parcel.proofs.LendsAndRestores.{kind_of, restored_is_in}
use Rattle.parcel.proofs.SerialRuns.{serial_run}

-- ---- the path above

not_there : (o : Option Node) → o ≡ None → is_some o ≡ true → ⊥
not_there None e h = true≢false (sym h)
not_there (Some n) e h = true≢false (sym h ∙ ap is_some e)

-- ---- what was lent and run can be put back

pub lent_is_out : (g : Geometry) (p : Path) (t : Standing) (l : Parcels) (old lent : Nodes) → IsPath g p → LendsAt g p t l old lent → IsOut p lent
lent_is_out g [] t l old lent path h = h.rest []
lent_is_out g (x ∷ p) t l old lent path h = grind arith

pub place_is_path : (g : Geometry) (m : Msg) → is_in_range g m ≡ true → IsPath g (path_of g m)
place_is_path g m h = IsPath-path_of_kind g (kind m) (four_numbers m) h

pub ran_goes_back : (job : JobView) (done : Done) (old lent : Nodes) → LendsJob job old lent → IsJobRun job done
    → CanBeRestored job.geometry (job_place job) done.parcels lent
ran_goes_back job done old lent h ran = record {
  out = lent_is_out job.geometry (job_place job) job.standing job.parcels old lent (place_is_path job.geometry job.message ran.runnable.range) h;
  kind = kind_of job.geometry (job_place job) done.parcels ran.runnable.fits;
  fits = ran.runnable.fits;
}

-- ---- where nothing is out

pub holds_whole : (g : Geometry) (n : Nodes) (x : State) → IsIn g [] n → tree_state g n ≡ x → IsState g x → TreeHolds g nowhere n x
holds_whole g n x whole same is = grind arith

pub whole_holds : (g : Geometry) (n : Nodes) (x : State) → TreeHolds g nowhere n x → IsIn g [] n × (tree_state g n ≡ x)
whole_holds g n x h = grind (arith, agree_everywhere)

-- where two tests pick the same paths
pub holds_alike : (g : Geometry) (out set : Path → Bool) (n : Nodes) (x : State) → ((q : Path) → out q ≡ set q) → TreeHolds g out n x → TreeHolds g set n x
holds_alike g out set n x same h = grind arith

-- ---- a place that is unrelated to all that is out

module _ (g : Geometry) (out : Path → Bool) (p : Path) (apart : IsApart p out) where
  not_out : (q : Path) → are_related p q ≡ true → out q ≡ false
  not_out q related = false_from_ne_true (out q) (λ is. true≢false (sym related ∙ apart q is))

  below_not_out : (q : Path) → is_prefix p q ≡ true → out q ≡ false
  below_not_out q below = not_out q (or_left (is_prefix p q) (is_prefix q p) below)

  pub can_be_lent : (n : Nodes) (x : State) → TreeHolds g out n x → HasGap g p n → ⊥
  can_be_lent n x h gap = true≢false (sym (h.others gap.0 gap.1 gap.3) ∙ not_out gap.0 gap.2)

  pub lent_shows : (t : Standing) (l : Parcels) (n lent : Nodes) (x : State) → TreeHolds g out n x → LendsAt g p t l n lent → Shows g p t l x
  lent_shows t l n lent x h taken = agree-trans taken.shows (agree_within (λ q related. not_from_false (out q) (not_out q related)) h.agrees)

  pub lent_holds : (t : Standing) (l : Parcels) (n lent : Nodes) (x : State) → TreeHolds g out n x → LendsAt g p t l n lent → TreeHolds g (with_place p out) lent x
  lent_holds t l n lent x h taken = record {
    agrees = agree-trans
        (agree_within (λ q r. not_from_false (is_prefix p q) (or_parts (is_prefix p q) (out q) (not-true (is_prefix p q || out q) r)).0) (taken_leaves g p n lent taken.rest))
        (agree_within (λ q r. not_from_false (out q) (or_parts (is_prefix p q) (out q) (not-true (is_prefix p q || out q) r)).1) h.agrees);
    others = λ q path none. elim (is_prefix p q) as (λ b. is_prefix p q ≡ b → (b || out q) ≡ true) [
      | true ↦ λ e. refl
      | false ↦ λ e. h.others q path (sym (taken.rest q ∙ cond-false (is_prefix p q) None (n q) e) ∙ none)
    ] refl;
    gone = λ q is. elim (is_prefix p q) as (λ b. is_prefix p q ≡ b → (b || out q) ≡ true → lent q ≡ None) [
      | true ↦ λ e r. taken.rest q ∙ cond-true (is_prefix p q) None (n q) e
      | false ↦ λ e r. taken.rest q ∙ cond-false (is_prefix p q) None (n q) e ∙ h.gone q r
    ] refl is;
    state = h.state;
  }

  -- ---- that place is out as well, and its parcels come back

  pub place_is_out : (n : Nodes) (x : State) → IsPath g p → TreeHolds g (with_place p out) n x → IsOut p n
  place_is_out n x path h = grind arith

  module _ (m : Msg) (at : path_of g m ≡ p) (t : Standing) (l : Parcels) (n new : Nodes) (x : State) (h : TreeHolds g (with_place p out) n x) (put : RestoresAt g p l n new)
      (fits : Fits g p l) (shows : Shows g p t l (next_state g x m)) (message : IsMessage m) where
    here : AgreeOn g (is_prefix p) (tree_state g new) (next_state g x m)
    here = agree-trans (agree-sym (put.subtree t)) (agree_within (λ q r. or_left (is_prefix p q) (is_prefix q p) r) shows)

    changes : AgreeOn g (outside p) (next_state g x m) x
    changes = subst (λ (r : Path). AgreeOn g (outside r) (next_state g x m) x) at (changes_only g x m)

    elsewhere : AgreeOn g (λ q. not (with_place p out q)) (tree_state g new) (next_state g x m)
    elsewhere =
        let beside : (q : Path) → not (with_place p out q) ≡ true → outside p q
        ≡ true = λ q r. not_from_false (is_prefix p q) (or_parts (is_prefix p q) (out q) (not-true (is_prefix p q || out q) r)).0 in
        agree-trans (agree_within beside (put_leaves g p (parcels_nodes l) n new put.nodes)) (agree-trans h.agrees (agree_within beside (agree-sym changes)))

    either_way : (q : Path) → not (out q) ≡ true → (is_prefix p q || not (with_place p out q)) ≡ true
    either_way q r = elim (is_prefix p q) as (λ b. (b || not (b || out q)) ≡ true) [ true ↦ refl | false ↦ r ]

    back_in : (q : Path) → IsPath g q → is_prefix p q ≡ true → is_some (new q) ≡ true
    back_in q path below =
        let rest = begins_split p q below in
        subst (λ (r : Path). is_some (new r) ≡ true) (sym rest.1) (restored_is_in g p l n put.nodes fits rest.0 (subst (λ (r : Path). IsPath g r) rest.1 path))

    unchanged : (q : Path) → is_prefix p q ≡ false → new q ≡ n q
    unchanged q beside = put.nodes q ∙ put_outside p (parcels_nodes l) n q beside

    pub restored_holds : TreeHolds g out new (next_state g x m)
    restored_holds = record {
      agrees = agree_within either_way (agree_either here elsewhere);
      others = λ q path none. elim (is_prefix p q) as (λ b. is_prefix p q ≡ b → out q ≡ true) [
        | true ↦ λ below. absurd (not_there (new q) none (back_in q path below))
        | false ↦ λ beside. ⊎_elim
            (λ is. absurd (true≢false (sym is ∙ beside)))
            (λ is. is)
            (or_cases (is_prefix p q) (out q) (h.others q path (sym (unchanged q beside) ∙ none)))
      ] refl;
      gone = λ q is. unchanged q (false_from_ne_true (is_prefix p q) (λ below. true≢false (sym is ∙ below_not_out q below))) ∙ h.gone q (or_right (is_prefix p q) (out q) is);
      state = step_kept g x m h.state message;
    }

-- ---- a step elsewhere

pub shows_still : (g : Geometry) (p : Path) (t : Standing) (l : Parcels) (x : State) (m : Msg) → are_related p (path_of g m) ≡ false → Shows g p t l x → Shows g p t l (next_state g x m)
shows_still g p t l x m apart shows = agree-trans shows (agree_within (λ q related. not_from_false (is_prefix (path_of g m) q) (beside q related)) (agree-sym (changes_only g x m)))
  where
    beside : (q : Path) → are_related p q ≡ true → is_prefix (path_of g m) q ≡ false
    beside q related = false_from_ne_true (is_prefix (path_of g m) q) (λ below. true≢false
        (sym related ∙ unrelated_turned q p (unrelated_below (path_of g m) p q (unrelated_turned p (path_of g m) apart) below)))

-- ---- a job that is out, and what it left when it ran

pub job_goes_back : (out : Path → Bool) (job : JobView) (done : Done) (n : Nodes) (x : State) → IsJobOut out job n x → IsJobRun job done → CanBeRestored job.geometry (job_place job) done.parcels n
job_goes_back out job done n x h ran = record {
  out = place_is_out job.geometry out (job_place job) h.apart n x (place_is_path job.geometry job.message ran.runnable.range) h.holds;
  kind = kind_of job.geometry (job_place job) done.parcels ran.runnable.fits;
  fits = ran.runnable.fits;
}

pub job_reply : (out : Path → Bool) (job : JobView) (done : Done) (n : Nodes) (x : State) → IsJobOut out job n x → IsJobRun job done → done.reply ≡ reply_to job.geometry x job.message
job_reply out job done n x h ran = (serial_run job done x ran h.shows).reply

pub job_is_back : {out : Path → Bool} {job : JobView} {done : Done} {n new : Nodes} {x : State} → IsJobOut out job n x → IsJobRun job done → IsMessage job.message
    → RestoresAt job.geometry (job_place job) done.parcels n new → TreeHolds job.geometry out new (next_state job.geometry x job.message)
job_is_back {out} {job} {done} {n} {new} {x} h ran message put =
    restored_holds job.geometry out (job_place job) h.apart job.message refl job.standing done.parcels n new x h.holds put ran.runnable.fits (serial_run job done x ran h.shows).shows message
