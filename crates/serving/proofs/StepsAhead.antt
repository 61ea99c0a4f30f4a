-- How many steps are to come in a session: none of its calls raises that but reading.
use Rattle.std.proofs.Common.{◌≡◌, ℕ, ◌+◌, ◌*◌, ◌<◌, ◌≤◌, Bool, true, false, List, [], ◌∷◌, Option, Some, None, refl, ap, sym, subst, ◌∙◌, inl, inr, ⊎_elim, length, map, get_or, set, arith}
use Rattle.std.specs.Prelude.{◌⊎◌, ◌&&◌, not, Result, Ok, Err, IfNone, IfOk, IfSome, IsFalse, IsTrue, cond, count_by, is_none, is_some, position}
use Rattle.std.proofs.lemmas.Bool.{true≢false}
use Rattle.std.proofs.lemmas.List.{length-append, take-append-drop}
use Rattle.std.proofs.lemmas.List.Quantifiers.{position-Some}
use Rattle.std.proofs.lemmas.List.Sums.{sum_by-cons, sum_by-set}
use Rattle.affinity.specs.declared.geometry.Geometry.{Geometry}
use Rattle.histories.proofs.Lists.{length-picked}
use Rattle.histories.specs.CoreState.{CoreState, Entry, Replied, held}
use Rattle.histories.specs.Eligible.{is_eligible}
use Rattle.histories.specs.MachineState.{Hand, has_job}
use Rattle.histories.specs.Events.{find_in_flight, give_back}
use Rattle.histories.specs.Progress.{points_left}
use Rattle.histories.specs.declared.outcomes.CoreFault.{CoreFault}
use Rattle.scheduler.specs.Hands.{hand_of as hand_in}
use Rattle.parcel.specs.JobRun.{JobView}
use Rattle.scheduler.specs.Calls.{IsLogStep}
use Rattle.serving.specs.Checkpoints.{IsDue}
use Rattle.serving.specs.DispatchesTo.{DispatchesTo, IsBlocked, asks_for_checkpoint}
use Rattle.serving.specs.Runs.{lent_hand}
use Rattle.serving.specs.SessionSteps.{Advanced, Began, CallsForCheckpoint, CanRead, HasGoneOn, HasLoggedNothing, HasMoved, IsBlockedIn, KeepsCoreState, MovedCheckpoint, Rests, StandsStill, TookStep, Waited}
use Rattle.serving.specs.Session.{SessionView, steps_ahead}
use Rattle.serving.specs.declared.checkpoints.CheckpointTrigger.{CheckpointTrigger}
use Rattle.serving.specs.declared.session.Activity.{Activity}
use Rattle.serving.specs.declared.session.Activity.TheVariants as activities
use Rattle.serving.specs.declared.dispatch.Blocked.{Blocked}
use Rattle.serving.specs.declared.dispatch.Blocked.TheVariants as blocked
use Rattle.serving.proofs.IsAtRest.{still_blocked}

-- ---- the jobs that are lent

abbrev weight : Option JobView → ℕ
weight o = cond (is_some o) 1 0

abbrev pub jobs : List (Option JobView) → ℕ
jobs lent = count_by has_job (map hand_in (map lent_hand lent))

has_job_so : (o : Option JobView) → has_job (hand_in (lent_hand o)) ≡ is_some o
has_job_so None = refl
has_job_so (Some job) = refl

jobs_are : (lent : List (Option JobView)) → jobs lent ≡ count_by is_some lent
jobs_are [] = refl
jobs_are (o ∷ lent) = sum_by-cons (λ (h : Hand). cond (has_job h) 1 0) (hand_in (lent_hand o)) (map hand_in (map lent_hand lent))
    ∙ (λ i. cond (has_job_so o i) 1 0 + jobs_are lent i) ∙ sym (sum_by-cons weight o lent)

-- where something else is lent at a place, or nothing any more
jobs-set : (lent : List (Option JobView)) (k : ℕ) (now : Option JobView) → k < length lent → jobs (set lent k now) + weight (get_or lent k None) ≡ jobs lent + weight now
jobs-set lent k now within = omega (arith, sum_by-set weight lent k now None within, jobs_are lent, jobs_are (set lent k now))

none_weighs : (o : Option JobView) → is_none o ≡ true → weight o ≡ 0
none_weighs None e = refl
none_weighs (Some job) e = cc

-- ---- what the calls of the core do

-- how many steps are to come where the core is in this state and these jobs are lent
abbrev pub steps : CoreState → List (Option JobView) → ℕ
steps w lent = 5 * length w.waiting + (3 * length w.in_flight + jobs lent) + 2 * length w.ran + length w.logged

-- A message took a step, or nothing has changed.
abbrev pub HasStepped : CoreState → CoreState → List (Option JobView) → List (Option JobView) → Type 0
HasStepped old new lent after = (steps new after < steps old lent) ⊎ ((new ≡ old) × (after ≡ lent))

nothing_done : (g : Geometry) (old new : CoreState) (lent : List (Option JobView)) (why : Blocked) → IsBlocked g old new lent why → new ≡ old
nothing_done g old new lent blocked.NoPlace is = is.1
nothing_done g old new lent blocked.NoneEligible is = is.same
nothing_done g old new lent blocked.NoRoom is = is.same
nothing_done g old new lent blocked.Failed is = is.1

module _ (g : Geometry) (k : ℕ) (old new : CoreState) (lent after : List (Option JobView)) where
  pub dispatched : (what : Result (Unit {0}) Blocked) → position is_none lent ≡ Some k → DispatchesTo g k old lent new after what
      → HasStepped old new lent after × (new.pieces_left ≡ old.pieces_left)
  dispatched (Ok _) first d =
      let grant = d.1 in
      let at = position-Some is_none lent k None first in
      let fewer = length-picked (is_eligible g old) old.waiting grant.found grant.first in
      rw (grant.state_after, d.2)
      (inl (omega (arith, fewer, length-append {A = Entry}, jobs-set lent k (Some d.0) at.0, none_weighs (get_or lent k None) at.1)), refl)
  dispatched (Err why) first d =
      let same = nothing_done g old new lent why d.0 in
      (inr (same, d.1), ap (λ (w : CoreState). w.pieces_left) same)

  pub returned : (ticket : ℕ) (found : Entry × List Entry) → k < length lent → find_in_flight old ticket ≡ Some found → new ≡ give_back g old found → after ≡ set lent k None
      → (steps new after < steps old lent) × (new.pieces_left ≡ old.pieces_left)
  returned ticket found within first is places =
      rw (is, places) (omega (arith, length-picked _ old.in_flight found first, length-append {A = Replied}, jobs-set lent k None within), refl)

pub logged_some : (g : Geometry) (old new : CoreState) (lent : List (Option JobView)) (n : ℕ) (r : Result ℕ CoreFault) → IsLogStep g old new n r
    → IfOk r (λ count. steps new lent + count ≡ steps old lent)
logged_some g old new lent n (Ok count) s =
    let parts = ap length (sym (take-append-drop n old.ran)) in
    rw s.2 (omega (arith, parts, length-append {A = Replied}))
logged_some g old new lent n (Err e) s = tt

-- ---- how the session moves

pub keeps_ahead : (p q : SessionView) → KeepsCoreState p q → steps_ahead q ≡ steps_ahead p
keeps_ahead p q keeps = λ i. steps (keeps.1 i) (keeps.2 i).lent

keep_on : (p q r : SessionView) → KeepsCoreState p q → KeepsCoreState q r → KeepsCoreState p r
keep_on p q r first later = (later.0 ∙ first.0, later.1 ∙ first.1, later.2 ∙ first.2)

-- no more steps are to come than before
pub moved_ahead : (p q : SessionView) → HasMoved p q → steps_ahead q ≤ steps_ahead p
moved_ahead p q m = ⊎_elim (λ (less : steps_ahead q < steps_ahead p). omega (arith, less))
    (λ (keeps : KeepsCoreState p q). omega (arith, keeps_ahead p q keeps)) m.moved

-- ---- why a checkpoint begins

-- Where nothing but the output has changed, there is the same reason for a checkpoint.
pub calls_still : (p q : SessionView) → KeepsCoreState p q → q.trigger ≡ p.trigger → CallsForCheckpoint q → CallsForCheckpoint p
calls_still p q keeps count reason =
    let pieces_left = ap (λ (w : CoreState). w.pieces_left) keeps.1 in
    ⊎_elim (λ (due : IsDue q.trigger q.core.pieces_left).
    inl (subst (IsDue p.trigger) pieces_left (subst (λ (t : CheckpointTrigger). IsDue t q.core.pieces_left) count due)))
    (λ (full : IsBlockedIn q blocked.NoRoom). inr (still_blocked q p (Some blocked.NoRoom) (sym keeps.0, sym keeps.1, sym keeps.2) full)) reason

module _ (q r : SessionView) (why : Option Blocked) where
  -- Where nothing was logged, there is still the reason for which no message was dispatched.
  pub reason_is : IfSome why (IsBlockedIn q) → IfNone why (IsDue q.trigger q.core.pieces_left) → (moved : Bool) → (IsFalse moved → HasLoggedNothing q r)
      → (asked : Bool) → asked ≡ (not moved && asks_for_checkpoint why) → IsTrue asked → CallsForCheckpoint r
  reason_is is due true nothing asked what asks = absurd (true≢false (sym asks ∙ what))
  reason_is is due false nothing asked what asks = is_kept why is due (nothing refl) (sym what ∙ asks)
    where
      is_kept : (why : Option Blocked) → IfSome why (IsBlockedIn q) → IfNone why (IsDue q.trigger q.core.pieces_left) → HasLoggedNothing q r
          → asks_for_checkpoint why ≡ true → CallsForCheckpoint r
      is_kept None is due same asks = inl (subst (IsDue r.trigger) (sym (ap (λ (w : CoreState). w.pieces_left) same.keeps.1))
          (subst (λ (t : CheckpointTrigger). IsDue t q.core.pieces_left) (sym same.trigger) due))
      is_kept (Some blocked.NoRoom) is due same asks = inr (still_blocked q r (Some blocked.NoRoom) same.keeps is)
      is_kept (Some _) is due same asks = absurd (true≢false (sym asks))

-- ---- an iteration

-- from p by a dispatch to q, from there by what was logged and answered to r, and then to s
module _ (p q r s : SessionView) (dispatch : HasMoved p q) (activity : Activity) where
  -- nothing has changed from p to r
  since_kept : KeepsCoreState p q → HasLoggedNothing q r → HasGoneOn r s activity → HasGoneOn p s activity
  since_kept kept nothing (TookStep less) =
      let few = keeps_ahead p r (keep_on p q r kept nothing.keeps) in TookStep (omega (arith, less, few))
  since_kept kept nothing (MovedCheckpoint (Advanced fewer count room)) =
      let core = keep_on p q r kept nothing.keeps in
      MovedCheckpoint (Advanced (fewer ∙ ap (λ (w : CoreState). points_left w.pieces_left) core.1) (count ∙ nothing.trigger ∙ dispatch.trigger)
      (room ∙ ap (λ (w : CoreState). w.room) core.1))
  since_kept kept nothing (MovedCheckpoint (Began reason none n begun fresh)) =
      let core = keep_on p q r kept nothing.keeps in
      MovedCheckpoint (Began (calls_still p r core (nothing.trigger ∙ dispatch.trigger) reason) (sym (ap (λ (w : CoreState). w.pieces_left) core.1) ∙ none) n begun
      (record { none_held = sym (ap (λ (w : CoreState). held w) core.1) ∙ fresh.none_held; counted = fresh.counted; room = fresh.room }))
  since_kept kept nothing (Waited in_flight flushed none still) =
      Waited in_flight flushed none (keep_on p r s (keep_on p q r kept nothing.keeps) still.0, still.1 ∙ nothing.trigger ∙ dispatch.trigger)
  since_kept kept nothing (CanRead can still) =
      CanRead can (keep_on p r s (keep_on p q r kept nothing.keeps) still.0, still.1 ∙ nothing.trigger ∙ dispatch.trigger)
  since_kept kept nothing (Rests idle still) =
      Rests idle (keep_on p r s (keep_on p q r kept nothing.keeps) still.0, still.1 ∙ nothing.trigger ∙ dispatch.trigger)

  -- a message was dispatched or came back; or nothing has changed so far
  since_before : steps_ahead r ≤ steps_ahead q → steps_ahead s ≤ steps_ahead r → HasLoggedNothing q r → HasGoneOn r s activity → HasGoneOn p s activity
  since_before few later nothing on = ⊎_elim (λ (less : steps_ahead q < steps_ahead p). TookStep (omega (arith, less, few, later)))
      (λ (kept : KeepsCoreState p q). since_kept kept nothing on) dispatch.moved

  pub has_gone_on : (moved : Bool) → steps_ahead r + cond moved 1 0 ≤ steps_ahead q → (IsFalse moved → HasLoggedNothing q r)
      → steps_ahead s ≤ steps_ahead r → HasGoneOn r s activity → HasGoneOn p s activity
  has_gone_on true less nothing few on = let before = moved_ahead p q dispatch in TookStep (omega (arith, less, few, before))
  has_gone_on false less nothing few on = since_before (omega (arith, less)) few (nothing refl) on

-- what is done, or that the session is at rest
pub goes_or_rests : (old new : SessionView) (activity : Activity) → (activity ≡ activities.Busy → HasGoneOn old new activity)
    → (activity ≡ activities.Idle → StandsStill old new) → HasGoneOn old new activity
goes_or_rests old new activities.Busy busy idle = busy refl
goes_or_rests old new activities.Idle busy idle = Rests refl (idle refl)
