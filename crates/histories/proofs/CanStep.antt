-- A step that lowers what is left, as long as anything waits or is held and the device works.
use Rattle.std.proofs.Common.{[], ◌≡◌, ℕ, zero, suc, ◌+◌, ◌<◌, ◌≤◌, Bool, true, false, List, ◌∷◌, Option, Some, None, refl, ap, sym, ◌∙◌, subst, take, length, true≢false, arith}
use Rattle.std.specs.Prelude.{◌&&◌, ◌==◌, cond, count_by, if◌then◌else◌, is_some, set, slice_get}
use Rattle.std.proofs.lemmas.Bool.{eq-eqb, eqb-true}
use Rattle.std.proofs.lemmas.List.{length-take}
use Rattle.std.proofs.lemmas.List.Sums.{sum_by-cons}
use Rattle.std.proofs.lemmas.Nat.{column_fits}
use Rattle.affinity.specs.declared.geometry.Geometry.{Geometry}
use Rattle.image.specs.Pieces.{piece_count}
use Rattle.histories.specs.declared.outcomes.CoreFault.TheVariants as faults
use Rattle.histories.specs.declared.outcomes.Outcome.{Outcome}
use Rattle.histories.specs.declared.outcomes.Outcome.TheVariants as outcomes
use Rattle.histories.specs.declared.outcomes.Step.{Step}
use Rattle.histories.specs.declared.outcomes.Step.TheVariants as steps
use Rattle.histories.specs.CoreState.{Entry, Replied, CoreState}
use Rattle.histories.specs.Eligible.{next_eligible, pick}
use Rattle.histories.specs.MachineState.{Hand, MachineState, Empty, Job, Result, in_core, HandsHold, has_ticket}
use Rattle.histories.specs.Events.{answer, apply_step, back_from, find_in_flight, give_back, grant, grant_to, log, pieces_after, result_in, run_hand, unless_refused}
use Rattle.histories.specs.IsSoundCoreState.{IsSoundCoreState}
use Rattle.histories.specs.Progress.{CanAnswer, CanDispatch, CanEndCheckpoint, CanGoOn, CanLog, CanMakeRoom, CanReturn, CanStep, IsBusy, IsOnline, MayGoOn, NeedsCheckpoint, points_left, steps_at, steps_to_come, work_left}
use Rattle.histories.specs.Runs.{arrives}
use Rattle.histories.specs.declared.outcomes.PointRefusal.{PointRefusal}
use Rattle.histories.proofs.Hands.{hand_free, hand_with}
use Rattle.histories.proofs.CanGoOn.{can_go_on}
use Rattle.histories.proofs.Lists.{pick_first}
use Rattle.histories.proofs.StepsToCome.{event_counts}
use Rattle.histories.proofs.Ways.{worked}

-- What a machine has that can answer everything.
pub record CanWork (g : Geometry) (w : MachineState) : Type 0 where
  pub sound : IsSoundCoreState g w.core
  pub works : w.core.failed ≡ false
  pub holds : HandsHold w
  pub some_hand : 0 < length w.hands

-- n + 2, if no message is eligible
abbrev none_eligible : Geometry → ℕ → CoreState → ℕ
none_eligible g n w = cond (is_some (next_eligible g w)) 0 (n + 2)

module _ (g : Geometry) (n : ℕ) (within : n ≤ piece_count g) where
  at_most : (b : Bool) → cond b 0 (n + 2) ≤ n + 2
  at_most true = omega arith
  at_most false = omega arith

  module _ (w : MachineState) (can : CanWork g w) where
    makes : (s : Step) (o : Outcome) (next : MachineState) → apply_step g n w s ≡ (o, next) → arrives s o ≡ [] → IsOnline n (worked s o next)
        → work_left g n next < work_left g n w → CanStep g n w
    makes s o next does nobody online less = record {
      event = worked s o next;
      allowed = record { to_write = n; at_most = within; does = does };
      none_arrives = nobody;
      none_fails = refl;
      online = online;
      less = less;
    }

    -- a step that takes a message further
    further : (s : Step) (o : Outcome) (next : MachineState) → apply_step g n w s ≡ (o, next) → arrives s o ≡ [] → IsOnline n (worked s o next)
        → 0 < steps_at o → next.core.pieces_left ≡ w.core.pieces_left → CanStep g n w
    further s o next does nobody online some points =
        let counted = event_counts g w (worked s o next) (record { to_write = n; at_most = within; does = does }) in
        let few = ap length nobody in
        let lower : steps_to_come next < steps_to_come w = omega (arith, counted, some, few) in
        let most = at_most (is_some (next_eligible g next.core)) in
        let column = column_fits (n + 4) (steps_to_come next) (n + 4) (steps_to_come w) lower (omega arith) in
        let same = ap points_left points in
        makes s o next does nobody online (omega (arith, column, same, most))

    answers_first : (as' : List Replied) → w.core.logged ≡ as' → 0 < length as' → CanStep g n w
    answers_first [] front some = absurd (omega (arith, some))
    answers_first (a ∷ as') front some =
        further steps.Answer (outcomes.Answered a.0 a.2) (record w { core = record w.core { logged = as' } })
        (ap (λ l. in_core w (answer w.core l)) front) refl (record { no_point = λ e. cc; pieces = λ e. cc }) (omega arith) refl

    logs_first : 0 < length w.core.ran → CanStep g n w
    logs_first some =
        let one = length-take 1 w.core.ran in
        further (steps.Log 1) (outcomes.Logged (length (take 1 w.core.ran))) (record w { core = log g w.core 1 })
        (λ i. in_core w (if can.works i then (outcomes.LogFault faults.Failed, w.core)
        else (outcomes.Logged (length (take 1 w.core.ran)), log g w.core 1))) refl (record { no_point = λ e. cc; pieces = λ e. cc })
        (omega (arith, one, some)) refl

    returns_first : (e : Entry) (es : List Entry) → w.core.in_flight ≡ e ∷ es → CanStep g n w
    returns_first e es front =
        let held_there = can.holds e.0 ∙ ap (count_by (λ (d : Entry). d.0 == e.0)) front in
        let one : cond (e.0 == e.0) 1 0 ≡ 1 = ap {B = ℕ} (λ b. cond b 1 0) (eq-eqb e.0 e.0 refl) in
        let all = sum_by-cons (λ (d : Entry). cond (d.0 == e.0) 1 0) e es in
        let k = hand_with e.0 w.hands (omega (arith, held_there, one, all)) in
        by k.0 k.1 k.2 k.3
      where
        by : (i : ℕ) (hand : Hand) → slice_get w.hands i ≡ Some hand → has_ticket e.0 hand ≡ true → CanStep g n w
        by i Empty at has = absurd (true≢false (sym has))
        by i (Job t) at has =
            further (steps.Run i) outcomes.Ran (record w { hands = set w.hands i (Result t) }) (ap (run_hand w i) at) refl
            (record { no_point = λ e. cc; pieces = λ e. cc }) (omega arith) refl
        by i (Result t) at has =
            let first : find_in_flight w.core t ≡ Some (e, es) = ap (λ l. pick (λ (d : Entry). d.0 == t) l) front
            ∙ pick_first (λ (d : Entry). d.0 == t) e es (eq-eqb e.0 t (sym (eqb-true t e.0 has))) in
            further (steps.Back i) (outcomes.Back e.0) (record { core = give_back g w.core (e, es); hands = set w.hands i Empty })
            (ap (λ h. back_from g w i (result_in w.core h)) at ∙ ap (back_from g w i) first) refl
            (record { no_point = λ e. cc; pieces = λ e. cc }) (omega arith) refl

    grants_first : (found : Option (Entry × List Entry)) → next_eligible g w.core ≡ found → is_some found ≡ true → w.core.in_flight ≡ [] → CanStep g n w
    grants_first None first some none = absurd (true≢false (sym some))
    grants_first (Some found) first some none =
        let k = hand_free w.hands can.some_hand (λ t. can.holds t ∙ ap (count_by (λ (d : Entry). d.0 == t)) none) in
        further steps.Grant (outcomes.Granted k.0 found.0.0)
        (record { core = grant w.core found; hands = set w.hands k.0 (Job found.0.0) })
        (λ i. if can.works i && is_some (k.1 i) then (outcomes.Failed, w) else grant_to g w (k.1 i) (first i)) refl
        (record { no_point = λ e. cc; pieces = λ e. cc }) (omega arith) refl

    -- an online checkpoint begins
    cuts_first : NeedsCheckpoint g w.core → CanStep g n w
    cuts_first needs =
        let new : CoreState = record w.core { room = g.half; pieces_left = Some n } in
        let made = λ (r : Option PointRefusal). unless_refused w.core r (outcomes.Cut, new) in
        let before : none_eligible g n w.core ≡ n + 2 = ap (λ o. cond (is_some o) 0 (n + 2)) needs.none in
        let after : none_eligible g n new ≡ 0 = ap (λ b. cond b 0 (n + 2))
        (subst (λ r. is_some (next_eligible g (made r).1) ≡ true) needs.may_begin (needs.after_cut n)) in
        makes steps.Cut outcomes.Cut (record w { core = new }) (ap (λ r. in_core w (made r)) needs.may_begin) refl
        (record { no_point = λ e. cc; pieces = λ e. refl })
        (omega (arith, before, after))

    -- the next step of a checkpoint in progress
    goes_on : (pieces_left : Option ℕ) → w.core.pieces_left ≡ pieces_left → MayGoOn w.core pieces_left → CanStep g n w
    goes_on None is may = absurd may
    goes_on (Some zero) is may =
        let was = ap points_left is in
        makes steps.Flip outcomes.Flipped (record w { core = record w.core { pieces_left = None } })
        (ap (λ r. in_core w (unless_refused w.core r (outcomes.Flipped, record w.core { pieces_left = None }))) may) refl
        (record { no_point = λ e. cc; pieces = λ e. cc })
        (omega (arith, was))
    goes_on (Some (suc k)) is may =
        let was = ap points_left is in
        let left = ap pieces_after is in
        let after = pieces_after w.core.pieces_left in
        makes steps.Piece (outcomes.Left after) (record w { core = record w.core { pieces_left = Some after } })
        (ap (λ r. in_core w (unless_refused w.core r (outcomes.Left after, record w.core { pieces_left = Some after }))) may) refl
        (record { no_point = λ e. cc; pieces = λ e. cc })
        (omega (arith, was, left))

    pub goes : (in_flight : List Entry) → w.core.in_flight ≡ in_flight → CanGoOn g w.core → CanStep g n w
    goes (e ∷ es) out on = returns_first e es out
    goes [] out (CanReturn some) = let none = ap length out in absurd (omega (arith, some, none))
    goes [] out (CanLog some) = logs_first some
    goes [] out (CanAnswer some) = answers_first w.core.logged refl some
    goes [] out (CanDispatch some) = grants_first (next_eligible g w.core) refl some out
    goes [] out (CanMakeRoom needs) = cuts_first needs
    goes [] out (CanEndCheckpoint may needs) = goes_on w.core.pieces_left refl may

  pub can_step : (w : MachineState) → IsSoundCoreState g w.core → w.core.failed ≡ false → HandsHold w → 0 < length w.hands → IsBusy w.core
      → CanStep g n w
  can_step w sound works holds some_hand busy =
      goes w (record { sound = sound; works = works; holds = holds; some_hand = some_hand }) w.core.in_flight refl (can_go_on g w.core sound works busy)
