-- The ways that an event can go: one case analysis of the steps, which the lemmas on events share.
use Rattle.std.proofs.Common.{◌≡◌, ℕ, zero, suc, ◌+◌, ◌<◌, ◌≤◌, Bool, true, false, List, [], ◌∷◌, ◌++◌, Option, Some, None, refl, ap, sym, ◌∙◌, subst, take, length, arith}
use Rattle.std.specs.Prelude.{◌&&◌, not, if◌then◌else◌, is_none, is_some, nat_lt, nat_le, ◌==◌, MatchBool, get_or, slice_get, set, position}
use Rattle.std.specs.List.{list_any}
use Rattle.std.proofs.lemmas.Bool.{true≢false, ltb-false, leb-false}
use Rattle.std.proofs.lemmas.List.Sums.{count_by-le-length}
use Rattle.std.proofs.lemmas.List.Quantifiers.{position-Some}
use Rattle.std.proofs.lemmas.Option.{slice_get-get_or}
use Rattle.std.proofs.Math.Bool.{and-true}
use Rattle.affinity.specs.declared.geometry.Geometry.{Geometry}
use Rattle.protocol.specs.declared.messages.Msg.{Msg}
use Rattle.protocol.specs.declared.replies.Reply.{Reply}
use Rattle.protocol.specs.Messages.{is_in_range}
use Rattle.histories.specs.declared.outcomes.Step.{Step}
use Rattle.histories.specs.declared.outcomes.Step.TheVariants as steps
use Rattle.histories.specs.declared.outcomes.Outcome.{Outcome}
use Rattle.histories.specs.declared.outcomes.Outcome.TheVariants as outcomes
use Rattle.histories.specs.declared.outcomes.ArriveRefusal.{ArriveRefusal}
use Rattle.histories.specs.declared.outcomes.ArriveRefusal.TheVariants as arrivals
use Rattle.histories.specs.declared.outcomes.CoreFault.TheVariants as faults
use Rattle.histories.specs.declared.outcomes.PointRefusal.{PointRefusal}
use Rattle.histories.specs.declared.outcomes.PointRefusal.TheVariants as points
use Rattle.histories.specs.CoreState.{Entry, Replied, CoreState, held, most_tickets}
use Rattle.histories.specs.Eligible.{changes, lacks_only_room, unlogged_changes, next_eligible}
use Rattle.histories.specs.MachineState.{Hand, MachineState, Empty, Job, Result, in_core, is_empty}
use Rattle.histories.specs.Events.{Event, IsAllowed, IsFault, IsWithoutFault, arrive, grant, give_back, find_in_flight, batch, recorded, log, answer, point_refusal, piece_refusal, flip_refusal, unfinished_refusal, unless_refused, pieces_after, grant_to, run_hand, result_in, back_from, apply_step, fail_step, touches_device}
use Rattle.histories.specs.Runs.{answered_at, logged_at, arrives, answers}
use Rattle.histories.specs.Failures.{DoubtIsPrefixOfRan, reports_failure}
use Rattle.histories.specs.Progress.{steps_at}
use Rattle.histories.proofs.Held.{length_held}
use Rattle.histories.proofs.Lists.{first_few}

-- what passes at an event: the messages that it logs (`gone`), those that arrive (`come`), and the replies that it gives
pub record Passed : Type 0 where
  pub gone : List Replied
  pub come : List Entry
  pub reply_pairs : List (ℕ × Reply)

abbrev pub nothing : Passed
nothing = record { gone = []; come = []; reply_pairs = [] }

abbrev pub passed : CoreState → Step → Outcome → Bool → Passed
passed w s o device_failed = record { gone = logged_at w s device_failed; come = arrives s o; reply_pairs = answers o }

-- The outcome answers no message and takes none further, and it reports that the device failed if it did.
abbrev pub IsQuiet : CoreState → Bool → Outcome → Type 0
IsQuiet w device_failed o = (answered_at w o ≡ []) × (steps_at o ≡ 0) × (reports_failure o ≡ device_failed)

abbrev pub worked : Step → Outcome → MachineState → Event
worked s o new = record { step = s; outcome = o; device_failed = false; state_after = new }

-- the ways that an event can go: nothing changes, or one of the five steps of a message, or its arrival, or a step of a checkpoint, or the device fails
pub data Way (g : Geometry) (old : MachineState) : Event → Passed → Type 0 where
  Nothing : (s : Step) → (o : Outcome) → (quiet : IsQuiet old.core false o) → Way g old (worked s o old) nothing
  Arrives : (m : Msg) → (works : old.core.failed ≡ false) → (fits : length old.core.waiting + length (held old.core) < old.core.slots)
      → Way g old (worked (steps.Arrive m) (outcomes.Ticket old.core.next)
      (record old { core = record old.core { waiting = old.core.waiting ++ (old.core.next, m) ∷ []; next = old.core.next + 1 } }))
      (record { gone = []; come = (old.core.next, m) ∷ []; reply_pairs = [] })
  Grants : (hand : ℕ) → (found : Entry × List Entry) → (works : old.core.failed ≡ false) → (free : slice_get old.hands hand ≡ Some Empty)
      → (first : next_eligible g old.core ≡ Some found) → Way g old (worked steps.Grant (outcomes.Granted hand found.0.0)
      (record { core = grant old.core found; hands = set old.hands hand (Job found.0.0) })) nothing
  Runs : (i ticket : ℕ) → (job : slice_get old.hands i ≡ Some (Job ticket))
      → Way g old (worked (steps.Run i) outcomes.Ran (record old { hands = set old.hands i (Result ticket) })) nothing
  Backs : (i ticket : ℕ) → (found : Entry × List Entry) → (result : slice_get old.hands i ≡ Some (Result ticket))
      → (one_out : find_in_flight old.core ticket ≡ Some found) → Way g old (worked (steps.Back i) (outcomes.Back found.0.0)
      (record { core = give_back g old.core found; hands = set old.hands i Empty })) nothing
  Logs : (n : ℕ) → (works : old.core.failed ≡ false)
      → Way g old (worked (steps.Log n) (outcomes.Logged (length (take n old.core.ran))) (record old { core = log g old.core n }))
      (record { gone = take n old.core.ran; come = []; reply_pairs = [] })
  Answers : (a : Replied) → (rest : List Replied) → (front : old.core.logged ≡ a ∷ rest)
      → Way g old (worked steps.Answer (outcomes.Answered a.0 a.2) (record old { core = record old.core { logged = rest } }))
      (record { gone = []; come = []; reply_pairs = (a.0, a.2) ∷ [] })
  Points : (s : Step) → (o : Outcome) → (room : ℕ) → (pieces_left : Option ℕ) → (works : old.core.failed ≡ false) → (quiet : IsQuiet old.core false o)
      → (fits : unlogged_changes old.core ≤ old.core.room → unlogged_changes old.core ≤ room)
      → Way g old (worked s o (record old { core = record old.core { room = room; pieces_left = pieces_left } })) nothing
  Fails : (s : Step) → (o : Outcome) → (doubt : List Msg) → (works : old.core.failed ≡ false) → (quiet : IsQuiet old.core true o)
      → (doubts : old.core.doubt ≡ [] → DoubtIsPrefixOfRan (record old.core { failed = true; doubt = doubt }))
      → Way g old (record { step = s; outcome = o; device_failed = true; state_after = record old { core = record old.core { failed = true; doubt = doubt } } })
      nothing

either : {A : Type 0} (P : A → Type 0) (b : Bool) (x y : A) → (b ≡ true → P x) → (b ≡ false → P y) → P (if b then x else y)
either P true x y h j = h refl
either P false x y h j = j refl

untouched : (w : CoreState) (s : Step) → touches_device (record w { failed = true }) s ≡ false
untouched w (steps.Arrive m) = refl
untouched w _ = refl

module _ (g : Geometry) (w : MachineState) where
  abbrev At : Step → Outcome × MachineState → Type 0
  At s x = Way g w (worked s x.0 x.1) (passed w.core s x.0 false)

  arrive_ways : (m : Msg) → At (steps.Arrive m) (in_core w (arrive g w.core m))
  arrive_ways m =
      let P = λ (x : Outcome × CoreState). At (steps.Arrive m) (in_core w x) in
      either P w.core.failed _ _ (λ e. no arrivals.Failed) (λ works.
      either P (not (is_in_range g m)) _ _ (λ e. no arrivals.Range) (λ e.
      either P (w.core.next == most_tickets) _ _ (λ e. no arrivals.Exhausted) (λ e.
      either P (nat_le w.core.slots (length w.core.waiting + length (held w.core))) _ _ (λ e. no arrivals.Full) (λ e.
      Arrives m works (leb-false w.core.slots (length w.core.waiting + length (held w.core)) e)))))
    where
      no : (why : ArriveRefusal) → At (steps.Arrive m) (in_core w (outcomes.ArriveRefused why, w.core))
      no why = Nothing (steps.Arrive m) (outcomes.ArriveRefused why) (refl, refl, refl)

  grant_ways : (hand : Option ℕ) (found : Option (Entry × List Entry)) → position is_empty w.hands ≡ hand → next_eligible g w.core ≡ found
      → (w.core.failed && is_some hand) ≡ false → At steps.Grant (grant_to g w hand found)
  grant_ways None found free first e = Nothing steps.Grant outcomes.Idle (refl, refl, refl)
  grant_ways (Some i) None free first e = either (λ o. At steps.Grant (o, w)) (list_any (lacks_only_room g w.core) w.core.waiting) _ _
      (λ e. Nothing steps.Grant outcomes.NoRoom (refl, refl, refl)) (λ e. Nothing steps.Grant outcomes.NoneEligible (refl, refl, refl))
  grant_ways (Some i) (Some found) free first e =
      let place = position-Some is_empty w.hands i Empty free in
      Grants i found (sym (and-true w.core.failed) ∙ e) (slice_get-get_or w.hands i Empty place.0 ∙ ap Some (is_it (get_or w.hands i Empty) place.1)) first
    where
      is_it : (hand : Hand) → is_empty hand ≡ true → hand ≡ Empty
      is_it Empty e = refl
      is_it _ e = absurd (true≢false (sym e))

  run_ways : (i : ℕ) (hand : Option Hand) → slice_get w.hands i ≡ hand → At (steps.Run i) (run_hand w i hand)
  run_ways i (Some (Job ticket)) e = Runs i ticket e
  run_ways i _ e = Nothing (steps.Run i) outcomes.Idle (refl, refl, refl)

  found_ways : (i ticket : ℕ) (found : Option (Entry × List Entry)) → slice_get w.hands i ≡ Some (Result ticket) → find_in_flight w.core ticket ≡ found
      → At (steps.Back i) (back_from g w i found)
  found_ways i ticket None e one_out = Nothing (steps.Back i) outcomes.Idle (refl, refl, refl)
  found_ways i ticket (Some found) e one_out = Backs i ticket found e one_out

  back_ways : (i : ℕ) (hand : Option Hand) → slice_get w.hands i ≡ hand → At (steps.Back i) (back_from g w i (result_in w.core hand))
  back_ways i (Some (Result ticket)) e = found_ways i ticket (find_in_flight w.core ticket) e refl
  back_ways i _ e = Nothing (steps.Back i) outcomes.Idle (refl, refl, refl)

  abbrev logs : ℕ → Bool → Outcome × CoreState
  logs n b = if b then (outcomes.LogFault faults.Failed, w.core) else (outcomes.Logged (length (take n w.core.ran)), log g w.core n)

  log_ways : (n : ℕ) → At (steps.Log n) (in_core w (logs n w.core.failed))
  log_ways n = elim w.core.failed as (λ b. w.core.failed ≡ b → Way g w (worked (steps.Log n) (logs n b).0 (record w { core = (logs n b).1 }))
      (record { gone = if b then [] else take n w.core.ran; come = []; reply_pairs = answers (logs n b).0 })) [
        | true ↦ λ e. Nothing (steps.Log n) (outcomes.LogFault faults.Failed) (refl, refl, refl)
        | false ↦ λ works. Logs n works
      ] refl

  answer_ways : (as' : List Replied) → w.core.logged ≡ as' → At steps.Answer (in_core w (answer w.core as'))
  answer_ways [] e = Nothing steps.Answer outcomes.Idle (refl, refl, refl)
  answer_ways (a ∷ as') e = Answers a as' e

  -- a step of a checkpoint, which may be refused
  module _ (s : Step) (done : Outcome × CoreState) where
    abbrev By : Option PointRefusal → Type 0
    By r = At s (in_core w (unless_refused w.core r done))

    module _ (refuse : (why : PointRefusal) → reports_failure (outcomes.PointRefused why) ≡ false → By (Some why)) where
      -- nothing is in flight or ran where a checkpoint may begin
      begin_ways : (w.core.failed ≡ false → unlogged_changes w.core ≡ 0 → By None) → By (point_refusal w.core)
      begin_ways does =
          either By w.core.failed _ _ (λ e. refuse points.Failed refl) (λ works.
          either By (is_some w.core.pieces_left) _ _ (λ e. refuse points.Running refl) (λ e.
          either By (nat_lt 0 (length (held w.core))) _ _ (λ e. refuse points.Held refl) (λ e.
          let none = ltb-false 0 (length (held w.core)) e in
          let out = count_by-le-length (λ (e : Entry). changes e.1) w.core.in_flight in
          let ran = count_by-le-length (λ (a : Replied). changes a.1) w.core.ran in
          does works (omega (arith, none, length_held w.core, out, ran)))))

      piece_ways : (w.core.failed ≡ false → By None) → By (piece_refusal w.core)
      piece_ways does =
          either By w.core.failed _ _ (λ e. refuse points.Failed refl) (λ works.
          either By (is_none w.core.pieces_left) _ _ (λ e. refuse points.NotRunning refl) (λ e. does works))

      flip_ways : (w.core.failed ≡ false → By None) → By (flip_refusal w.core)
      flip_ways does = either By w.core.failed _ _ (λ e. refuse points.Failed refl) (λ works. ended works w.core.pieces_left)
        where
          ended : w.core.failed ≡ false → (pieces_left : Option ℕ) → By (unfinished_refusal pieces_left)
          ended works None = refuse points.NotRunning refl
          ended works (Some zero) = does works
          ended works (Some (suc n)) = refuse points.Unfinished refl

  step_ways : (n : ℕ) (s : Step) → At s (apply_step g n w s)
  step_ways n (steps.Arrive m) = arrive_ways m
  step_ways n steps.Grant = either (At steps.Grant) (w.core.failed && is_some (position is_empty w.hands)) _ _
      (λ e. Nothing steps.Grant outcomes.Failed (refl, refl, refl)) (grant_ways (position is_empty w.hands) (next_eligible g w.core) refl refl)
  step_ways n (steps.Run i) = run_ways i (slice_get w.hands i) refl
  step_ways n (steps.Back i) = back_ways i (slice_get w.hands i) refl
  step_ways n (steps.Log k) = log_ways k
  step_ways n steps.Answer = answer_ways w.core.logged refl
  step_ways n steps.Point = begin_ways steps.Point _ (λ why e. Nothing steps.Point (outcomes.PointRefused why) (refl, refl, e))
      (λ works none. Points steps.Point outcomes.Pointed g.half w.core.pieces_left works (refl, refl, refl) (λ h. omega (arith, none)))
  step_ways n steps.Cut = begin_ways steps.Cut _ (λ why e. Nothing steps.Cut (outcomes.PointRefused why) (refl, refl, e))
      (λ works none. Points steps.Cut outcomes.Cut g.half (Some n) works (refl, refl, refl) (λ h. omega (arith, none)))
  step_ways n steps.Piece = piece_ways steps.Piece _ (λ why e. Nothing steps.Piece (outcomes.PointRefused why) (refl, refl, e))
      (λ works. Points steps.Piece (outcomes.Left (pieces_after w.core.pieces_left)) w.core.room (Some (pieces_after w.core.pieces_left)) works
      (refl, refl, refl) (λ h. h))
  step_ways n steps.Flip = flip_ways steps.Flip _ (λ why e. Nothing steps.Flip (outcomes.PointRefused why) (refl, refl, e))
      (λ works. Points steps.Flip outcomes.Flipped w.core.room None works (refl, refl, refl) (λ h. h))

  -- the device fails
  abbrev Failed : Step → Outcome × MachineState → Type 0
  Failed s x = Way g w (record { step = s; outcome = x.0; device_failed = true; state_after = x.1 }) (passed w.core s x.0 true)

  fault_ways : (s : Step) → w.core.failed ≡ false → Failed s (in_core w (fail_step w.core s))
  fault_ways (steps.Log n) works =
      let f = first_few n w.core.ran in
      Fails (steps.Log n) (outcomes.LogFault faults.Device) (batch w.core n) works (refl, refl, refl)
      (λ none. record { some = f.0; at_most = f.1; is = ap recorded (sym f.2) })
  fault_ways s works =
      Fails s (outcomes.PointRefused points.Device) w.core.doubt works (refl, refl, refl) (λ none. record { some = 0; at_most = omega arith; is = none })

  touched_works : (s : Step) → touches_device w.core s ≡ true → w.core.failed ≡ false
  touched_works s = elim w.core.failed as (λ b. touches_device (record w.core { failed = b }) s ≡ true → b ≡ false) [
    | true ↦ λ t. absurd (true≢false (sym t ∙ untouched w.core s))
    | false ↦ λ t. refl
  ]

-- Each allowed event goes one of these ways.
pub ways : (g : Geometry) (old : MachineState) (event : Event) → IsAllowed g old event
    → Way g old event (passed old.core event.step event.outcome event.device_failed)
ways g old event h = by event.device_failed h
  where
    by : (b : Bool) → MatchBool b (IsFault old event) (IsWithoutFault g old event)
        → Way g old (record event { device_failed = b }) (passed old.core event.step event.outcome b)
    by true f = subst (Failed g old event.step) (λ i. ((f.core i).0, record { core = (f.core i).1; hands = sym f.hands i }))
        (fault_ways g old event.step (touched_works g old event.step f.touched))
    by false d = subst (At g old event.step) d.does (step_ways g old d.to_write event.step)
