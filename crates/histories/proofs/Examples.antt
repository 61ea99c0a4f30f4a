-- Worked examples, by computing: what a small machine answers to lists of steps, what is logged in them, and what a crash may leave.
use Rattle.std.proofs.Common.{◌≡◌, map, ℕ, zero, suc, true, false, List, [], ◌∷◌, ◌++◌, take, refl, ap, sym, ◌∙◌, get_or, inl, ⊎_elim, arith, lit≤}
use Rattle.std.specs.Prelude.{◌-◌, ◌^◌, None, IsPermutation}
use Rattle.std.proofs.lemmas.Bool.{true≢false}
use Rattle.std.proofs.lemmas.List.Sorted.{Contains-permutation, IsPermutation-middle, length_permutation}
use Rattle.affinity.proofs.GeometryLemmas.{small}
use Rattle.protocol.specs.declared.messages.Block.{Block}
use Rattle.protocol.specs.declared.messages.Msg.{Msg}
use Rattle.protocol.specs.declared.messages.Msg.TheVariants.{MakeVol, Create, Write, Read, Summary as AskSummary, SetLabel, Label as AskLabel}
use Rattle.protocol.specs.declared.replies.Refusal.TheVariants.{Exists}
use Rattle.protocol.specs.declared.replies.Reply.{Reply}
use Rattle.protocol.specs.declared.replies.Reply.TheVariants.{Done, Summary, Refused}
use Rattle.meaning.specs.State.{State, empty}
use Rattle.meaning.specs.TicketOrder.{InOrderIfRelated}
use Rattle.meaning.specs.Step.{state_after_all, next_state}
use Rattle.histories.specs.declared.outcomes.Step.{Step}
use Rattle.histories.specs.declared.outcomes.Step.TheVariants as steps
use Rattle.histories.specs.declared.outcomes.Outcome.{Outcome}
use Rattle.histories.specs.declared.outcomes.Outcome.TheVariants as outcomes
use Rattle.histories.specs.declared.outcomes.ArriveRefusal.TheVariants as arrivals
use Rattle.histories.specs.declared.outcomes.CoreFault.TheVariants as faults
use Rattle.histories.specs.declared.outcomes.PointRefusal.TheVariants as points
use Rattle.histories.specs.CoreState.{Entry, CoreState}
use Rattle.histories.specs.MachineState.{MachineState, Empty, Job, Result, full_hands, HandsHold}
use Rattle.histories.specs.Events.{Event, IsAllowed, apply_step, fail_step, recorded, touches_device}
use Rattle.histories.specs.Runs.{IsLegal, appended_messages, end_state, answered_changes}
use Rattle.histories.specs.Crash.{IsLeftSince, IsLogAfter, in_doubt}
use Rattle.histories.specs.Failures.{DoubtIsPrefixOfRan}
use Rattle.histories.specs.IsSerialHistory.{IsSerialHistory}
use Rattle.histories.specs.Progress.{CanGoOn, CanReturn, CanLog, CanAnswer, CanDispatch, CanMakeRoom, CanEndCheckpoint, EachLeavesLess, kept_back_by, steps_in, steps_to_come, useful_events, work_left}
use Rattle.histories.specs.Incarnations.{Unopened, Ran, IsLeftByIncarnations}
use Rattle.histories.proofs.Elements.{contains_in, holds_of, in_contained}

-- a core just opened
abbrev opened : ℕ → State → CoreState
opened slots x = record {
  waiting = [];
  in_flight = [];
  ran = [];
  logged = [];
  committed = x;
  room = 4;
  next = 0;
  slots = slots;
  failed = false;
  doubt = [];
  pieces_left = None;
}

abbrev one_hand : ℕ → State → MachineState
one_hand slots x = record { core = opened slots x; hands = Empty ∷ [] }

abbrev two_hands : ℕ → State → MachineState
two_hands slots x = record { core = opened slots x; hands = Empty ∷ Empty ∷ [] }

abbrev three_hands : ℕ → State → MachineState
three_hands slots x = record { core = opened slots x; hands = Empty ∷ Empty ∷ Empty ∷ [] }

-- a state with a volume and its first file
abbrev with_file : State
with_file = state_after_all small empty (MakeVol 0 0 ∷ Create 0 0 0 ∷ [])

-- what a machine answers whose cuts have three pieces, where the device doesn't fail
abbrev answers_of : MachineState → List Step → List Outcome
answers_of w [] = []
answers_of w (s ∷ ss) = (apply_step small 3 w s).0 ∷ answers_of (apply_step small 3 w s).1 ss

-- the events of steps during which the device doesn't fail, and the core state after them
abbrev events_of : MachineState → List Step → List Event
events_of w [] = []
events_of w (s ∷ ss) = record { step = s; outcome = (apply_step small 3 w s).0; device_failed = false; state_after = (apply_step small 3 w s).1 }
    ∷ events_of (apply_step small 3 w s).1 ss

abbrev after : MachineState → List Step → MachineState
after w ss = end_state w (events_of w ss)

abbrev appended_of : MachineState → List Step → List Msg
appended_of w ss = appended_messages w (events_of w ss)

-- ---- one message after the other

-- all that is done with one message
abbrev whole : Msg → List Step
whole m = steps.Arrive m ∷ steps.Grant ∷ steps.Run 0 ∷ steps.Back 0 ∷ steps.Log 1 ∷ steps.Answer ∷ []

abbrev done : ℕ → List Outcome
done t = outcomes.Ticket t ∷ outcomes.Granted 0 t ∷ outcomes.Ran ∷ outcomes.Back t ∷ outcomes.Logged 1 ∷ outcomes.Answered t Done ∷ []

a_message_goes_from_step_to_step : answers_of (one_hand 1 empty) (steps.Back 0 ∷ steps.Run 0 ∷ steps.Answer ∷ steps.Arrive AskSummary
    ∷ steps.Grant ∷ steps.Back 0 ∷ steps.Run 0 ∷ steps.Back 0 ∷ steps.Log 1 ∷ steps.Answer ∷ [])
    ≡ outcomes.Idle ∷ outcomes.Idle ∷ outcomes.Idle ∷ outcomes.Ticket 0 ∷ outcomes.Granted 0 0 ∷ outcomes.Idle ∷ outcomes.Ran
    ∷ outcomes.Back 0 ∷ outcomes.Logged 1 ∷ outcomes.Answered 0 (Summary 0 0 0) ∷ []
a_message_goes_from_step_to_step = refl

a_refused_message_is_answered : answers_of (one_hand 1 empty) (whole (MakeVol 0 0) ++ whole (MakeVol 0 0))
    ≡ done 0 ++ outcomes.Ticket 1 ∷ outcomes.Granted 0 1 ∷ outcomes.Ran ∷ outcomes.Back 1 ∷ outcomes.Logged 1
    ∷ outcomes.Answered 1 (Refused Exists) ∷ []
a_refused_message_is_answered = refl

a_refused_message_leaves_no_record : appended_of (one_hand 1 empty) (whole (MakeVol 0 0) ++ whole (MakeVol 0 0)) ≡ MakeVol 0 0 ∷ []
a_refused_message_leaves_no_record = refl

a_point_gives_room : (x y : Block) → answers_of (one_hand 1 empty)
    (whole (MakeVol 0 0) ++ (whole (Create 0 0 0)
    ++ (whole (Create 0 0 1) ++ (whole (Write 0 0 0 0 x)
    ++ (steps.Arrive (Write 0 0 0 1 y) ∷ steps.Grant ∷ steps.Point ∷ steps.Grant ∷ [])))))
    ≡ done 0 ++ (done 1 ++ (done 2 ++ (done 3 ++ (outcomes.Ticket 4 ∷ outcomes.NoRoom ∷ outcomes.Pointed ∷ outcomes.Granted 0 4 ∷ []))))
a_point_gives_room x y = refl

-- ---- messages side by side

a_later_message_waits_for_an_earlier_one : (x y : Block) → answers_of (three_hands 3 with_file)
    (steps.Arrive (Write 0 0 0 0 x) ∷ steps.Arrive (Create 0 0 1) ∷ steps.Arrive (Write 0 0 0 1 y) ∷ steps.Arrive AskSummary
    ∷ steps.Arrive (Read 1 0 0 0) ∷ steps.Grant ∷ steps.Grant ∷ steps.Run 0 ∷ steps.Back 0 ∷ steps.Log 1 ∷ steps.Answer
    ∷ steps.Grant ∷ [])
    ≡ outcomes.Ticket 0 ∷ outcomes.Ticket 1 ∷ outcomes.Ticket 2 ∷ outcomes.ArriveRefused arrivals.Full
    ∷ outcomes.ArriveRefused arrivals.Range ∷ outcomes.Granted 0 0 ∷ outcomes.NoneEligible ∷ outcomes.Ran ∷ outcomes.Back 0
    ∷ outcomes.Logged 1 ∷ outcomes.Answered 0 Done ∷ outcomes.Granted 0 1 ∷ []
a_later_message_waits_for_an_earlier_one x y = refl

two_stripes_side_by_side : (x y : Block) → answers_of (two_hands 3 with_file)
    (steps.Arrive (Write 0 0 0 0 x) ∷ steps.Arrive (Write 0 0 0 1 y) ∷ steps.Grant ∷ steps.Grant ∷ steps.Point ∷ steps.Run 1
    ∷ steps.Back 1 ∷ steps.Log 1 ∷ steps.Answer ∷ steps.Run 0 ∷ steps.Back 0 ∷ steps.Log 4 ∷ steps.Answer ∷ steps.Point ∷ [])
    ≡ outcomes.Ticket 0 ∷ outcomes.Ticket 1 ∷ outcomes.Granted 0 0 ∷ outcomes.Granted 1 1 ∷ outcomes.PointRefused points.Held
    ∷ outcomes.Ran ∷ outcomes.Back 1 ∷ outcomes.Logged 1 ∷ outcomes.Answered 1 Done ∷ outcomes.Ran ∷ outcomes.Back 0
    ∷ outcomes.Logged 1 ∷ outcomes.Answered 0 Done ∷ outcomes.Pointed ∷ []
two_stripes_side_by_side x y = refl

-- Hands with a job or with its result are full, until the message is back.
abbrev two_hands_of_three : (x y : Block) → List Step
two_hands_of_three x y = steps.Arrive (Write 0 0 0 0 x) ∷ steps.Arrive (Write 0 0 0 1 y) ∷ steps.Grant ∷ steps.Grant ∷ steps.Run 1 ∷ []

two_are_full : (x y : Block) → full_hands (after (three_hands 3 with_file) (two_hands_of_three x y)).hands ≡ 2
two_are_full x y = refl

one_is_full_still : (x y : Block) → full_hands (after (three_hands 3 with_file) (two_hands_of_three x y ++ (steps.Back 1 ∷ []))).hands ≡ 1
one_is_full_still x y = refl

-- A message is held, and its place taken, until it is answered.
a_label_beside_a_write : (x : Block) (bytes : List ℕ) → answers_of (two_hands 4 with_file)
    (steps.Arrive (Write 0 0 0 0 x) ∷ steps.Arrive (SetLabel 0 0 bytes) ∷ steps.Arrive (AskLabel 0 0) ∷ steps.Grant ∷ steps.Grant
    ∷ steps.Grant ∷ steps.Run 1 ∷ steps.Back 1 ∷ steps.Grant ∷ steps.Log 1 ∷ steps.Grant ∷ steps.Answer ∷ steps.Grant ∷ [])
    ≡ outcomes.Ticket 0 ∷ outcomes.Ticket 1 ∷ outcomes.Ticket 2 ∷ outcomes.Granted 0 0 ∷ outcomes.Granted 1 1
    ∷ outcomes.Idle ∷ outcomes.Ran ∷ outcomes.Back 1 ∷ outcomes.NoneEligible ∷ outcomes.Logged 1 ∷ outcomes.NoneEligible
    ∷ outcomes.Answered 1 Done ∷ outcomes.Granted 1 2 ∷ []
a_label_beside_a_write x bytes = refl

they_are_logged_as_they_came_back : (x y : Block) → appended_of (two_hands 3 with_file)
    (steps.Arrive (Write 0 0 0 0 x) ∷ steps.Arrive (Write 0 0 0 1 y) ∷ steps.Grant ∷ steps.Grant ∷ steps.Run 1 ∷ steps.Back 1
    ∷ steps.Run 0 ∷ steps.Back 0 ∷ steps.Log 4 ∷ [])
    ≡ Write 0 0 0 1 y ∷ Write 0 0 0 0 x ∷ []
they_are_logged_as_they_came_back x y = refl

they_are_answered_as_they_came_back : (x y : Block) → answers_of (after (two_hands 3 with_file)
    (steps.Arrive (Write 0 0 0 0 x) ∷ steps.Arrive (Write 0 0 0 1 y) ∷ steps.Grant ∷ steps.Grant ∷ steps.Run 1 ∷ steps.Back 1
    ∷ steps.Run 0 ∷ steps.Back 0 ∷ []))
    (steps.Log 1 ∷ steps.Answer ∷ steps.Log 0 ∷ steps.Answer ∷ steps.Log 4 ∷ steps.Answer ∷ [])
    ≡ outcomes.Logged 1 ∷ outcomes.Answered 1 Done ∷ outcomes.Logged 0 ∷ outcomes.Idle ∷ outcomes.Logged 1 ∷ outcomes.Answered 0 Done ∷ []
they_are_answered_as_they_came_back x y = refl

-- The log has room for one record. Changing messages that are in flight or ran count against it; a query needs no room.
abbrev one_record : MachineState
one_record = record { core = record (opened 4 with_file) { room = 1 }; hands = Empty ∷ Empty ∷ Empty ∷ [] }

room_is_kept_for_what_ran : (x y : Block) → answers_of one_record
    (steps.Arrive (Write 0 0 0 0 x) ∷ steps.Arrive (Write 0 0 0 1 y) ∷ steps.Arrive (AskLabel 0 0) ∷ steps.Grant ∷ steps.Grant
    ∷ steps.Grant ∷ steps.Run 0 ∷ steps.Back 0 ∷ steps.Grant ∷ steps.Log 1 ∷ steps.Answer ∷ steps.Grant ∷ steps.Point ∷ [])
    ≡ outcomes.Ticket 0 ∷ outcomes.Ticket 1 ∷ outcomes.Ticket 2 ∷ outcomes.Granted 0 0 ∷ outcomes.Granted 1 2
    ∷ outcomes.NoRoom ∷ outcomes.Ran ∷ outcomes.Back 0 ∷ outcomes.NoRoom ∷ outcomes.Logged 1 ∷ outcomes.Answered 0 Done
    ∷ outcomes.NoRoom ∷ outcomes.PointRefused points.Held ∷ []
room_is_kept_for_what_ran x y = refl

-- The next ticket would be the last one, which is never given; and there is no slot and no hand.
the_last_ticket_is_not_given : answers_of (record { core = record (opened 0 empty) { next = 2 ^ 64 - 1 }; hands = [] })
    (steps.Arrive AskSummary ∷ steps.Arrive (Read 1 0 0 0) ∷ steps.Grant ∷ [])
    ≡ outcomes.ArriveRefused arrivals.Exhausted ∷ outcomes.ArriveRefused arrivals.Range ∷ outcomes.Idle ∷ []
the_last_ticket_is_not_given = refl

-- ---- checkpoints in steps

the_steps_of_a_cut : answers_of (one_hand 1 empty) (steps.Cut ∷ steps.Cut ∷ steps.Flip ∷ steps.Piece ∷ steps.Piece ∷ steps.Piece
    ∷ steps.Piece ∷ steps.Flip ∷ steps.Flip ∷ steps.Piece ∷ [])
    ≡ outcomes.Cut ∷ outcomes.PointRefused points.Running ∷ outcomes.PointRefused points.Unfinished ∷ outcomes.Left 2 ∷ outcomes.Left 1
    ∷ outcomes.Left 0 ∷ outcomes.Left 0 ∷ outcomes.Flipped ∷ outcomes.PointRefused points.NotRunning
    ∷ outcomes.PointRefused points.NotRunning ∷ []
the_steps_of_a_cut = refl

messages_during_a_cut : answers_of (one_hand 1 empty) (whole (MakeVol 0 0) ++ (steps.Cut ∷ whole (Create 0 0 0))
    ++ (steps.Point ∷ steps.Piece ∷ steps.Piece ∷ steps.Piece ∷ steps.Flip ∷ []))
    ≡ done 0 ++ (outcomes.Cut ∷ done 1)
    ++ (outcomes.PointRefused points.Running ∷ outcomes.Left 2 ∷ outcomes.Left 1 ∷ outcomes.Left 0 ∷ outcomes.Flipped ∷ [])
messages_during_a_cut = refl

a_cut_in_progress_is_reported_before_what_is_held : answers_of (one_hand 1 empty)
    (steps.Cut ∷ steps.Arrive AskSummary ∷ steps.Grant ∷ steps.Point ∷ steps.Cut ∷ [])
    ≡ outcomes.Cut ∷ outcomes.Ticket 0 ∷ outcomes.Granted 0 0 ∷ outcomes.PointRefused points.Running
    ∷ outcomes.PointRefused points.Running ∷ []
a_cut_in_progress_is_reported_before_what_is_held = refl

a_point_frees_all_records : (after (one_hand 1 empty) (whole (MakeVol 0 0) ++ (steps.Point ∷ []))).core.room ≡ 4
a_point_frees_all_records = refl

-- there is room for three records: a half takes four, and one was appended since the cut
room_during_a_cut : (after (one_hand 1 empty) (whole (MakeVol 0 0) ++ (steps.Cut ∷ whole (Create 0 0 0)))).core.room ≡ 3
room_during_a_cut = refl

-- ---- a device that fails

-- a machine on which a `makevol` has run and isn't logged yet
abbrev ran_one : MachineState
ran_one = after (one_hand 2 empty) (steps.Arrive (MakeVol 0 0) ∷ steps.Grant ∷ steps.Run 0 ∷ steps.Back 0 ∷ [])

-- that machine, once the device has failed while the message was to be logged
abbrev failed_one : MachineState
failed_one = record { core = (fail_step ran_one.core (steps.Log 1)).1; hands = ran_one.hands }

a_failed_log_tells : (fail_step ran_one.core (steps.Log 1)).0 ≡ outcomes.LogFault faults.Device
a_failed_log_tells = refl

a_failed_core_takes_nothing : answers_of failed_one (steps.Grant ∷ steps.Arrive AskSummary ∷ steps.Answer ∷ steps.Log 1 ∷ steps.Point
    ∷ steps.Cut ∷ steps.Piece ∷ steps.Flip ∷ [])
    ≡ outcomes.Failed ∷ outcomes.ArriveRefused arrivals.Failed ∷ outcomes.Idle ∷ outcomes.LogFault faults.Failed
    ∷ outcomes.PointRefused points.Failed ∷ outcomes.PointRefused points.Failed ∷ outcomes.PointRefused points.Failed
    ∷ outcomes.PointRefused points.Failed ∷ []
a_failed_core_takes_nothing = refl

no_hand_is_empty : answers_of (record { core = failed_one.core; hands = [] }) (steps.Grant ∷ []) ≡ outcomes.Idle ∷ []
no_hand_is_empty = refl

what_was_to_be_logged_is_in_doubt : in_doubt failed_one.core [] ≡ MakeVol 0 0 ∷ []
what_was_to_be_logged_is_in_doubt = refl

a_question_touches_no_device : touches_device (after (one_hand 1 empty) (steps.Arrive AskSummary ∷ steps.Grant ∷ steps.Run 0
    ∷ steps.Back 0 ∷ [])).core (steps.Log 1) ≡ false
a_question_touches_no_device = refl

a_change_touches_the_device : touches_device ran_one.core (steps.Log 1) ≡ true
a_change_touches_the_device = refl

a_cut_with_nothing_to_write_touches_no_device : touches_device (after (one_hand 1 empty) (steps.Cut ∷ steps.Piece ∷ steps.Piece
    ∷ steps.Piece ∷ [])).core steps.Piece ≡ false
a_cut_with_nothing_to_write_touches_no_device = refl

-- ---- legal runs, and what a crash of one may leave

-- the event in which the device failed
abbrev failed_log : Event
failed_log = record { step = steps.Log 1; outcome = outcomes.LogFault faults.Device; device_failed = true; state_after = failed_one }

failing_is_legal : IsLegal small ran_one (failed_log ∷ [])
failing_is_legal = (record { touched = refl; core = refl; hands = refl }, tt)

-- an event like that, but for a log step that has only a query to log
abbrev false_alarm : Event
false_alarm = record { step = steps.Log 1; outcome = outcomes.LogFault faults.Device; device_failed = true; state_after = failed_one }

a_log_that_touches_no_device_doesnt_fail : IsAllowed small (after (one_hand 1 empty) (steps.Arrive AskSummary ∷ steps.Grant
    ∷ steps.Run 0 ∷ steps.Back 0 ∷ [])) false_alarm
    → ⊥
a_log_that_touches_no_device_doesnt_fail h = true≢false (sym h.touched)

-- an event whose outcome reports a failure of the device, which didn't fail
abbrev invented : Event
invented = record { step = steps.Log 1; outcome = outcomes.LogFault faults.Device; device_failed = false; state_after = failed_one }

logged_or_failed : outcomes.Logged 1 ≡ outcomes.LogFault faults.Device → ⊥
logged_or_failed e = cc

a_failure_is_not_invented : IsAllowed small ran_one invented → ⊥
a_failure_is_not_invented h = logged_or_failed (ap (λ x. x.0) h.does)

-- A crash may leave the state without the volume (here: before the log step has ended) or with it (here: after that step has failed).
nothing_was_written : IsLeftSince small ran_one (failed_log ∷ []) 0 empty
nothing_was_written = record {
  after = 0;
  since = lit≤ tt;
  within = lit≤ tt;
  log = [];
  is_log = record { some = 0; at_most = lit≤ tt; is = refl };
  state = refl;
}

the_volume_was_written : IsLeftSince small ran_one (failed_log ∷ []) 1 (next_state small empty (MakeVol 0 0))
the_volume_was_written = record {
  after = 1;
  since = lit≤ tt;
  within = lit≤ tt;
  log = MakeVol 0 0
      ∷ [];
  is_log = record { some = 1; at_most = lit≤ tt; is = refl };
  state = refl;
}

-- A volume is made, an online checkpoint begins, and a file is made. A crash after that leaves both.
abbrev cut_run : List Event
cut_run = events_of (one_hand 1 empty) (whole (MakeVol 0 0) ++ (steps.Cut ∷ whole (Create 0 0 0)))

none_more : (n : ℕ) → take {A = Msg} n [] ≡ []
none_more zero = refl
none_more (suc n) = refl

both_are_left : (ms : List Msg) → IsLogAfter (one_hand 1 empty) cut_run 13 ms → state_after_all small empty ms ≡ with_file
both_are_left ms log = ap (state_after_all small empty) (log.is ∙ ap (λ l. (MakeVol 0 0 ∷ Create 0 0 0 ∷ []) ++ l) (none_more log.some))

what_was_to_be_logged_ran : DoubtIsPrefixOfRan failed_one.core
what_was_to_be_logged_ran = record { some = 1; at_most = lit≤ tt; is = refl }

what_never_ran_is_not_in_doubt : DoubtIsPrefixOfRan (record (opened 1 empty) { doubt = MakeVol 0 0 ∷ [] }) → ⊥
what_never_ran_is_not_in_doubt h = by h.some h.is
  where
    by : (n : ℕ) → MakeVol 0 0 ∷ [] ≡ recorded (take n []) → ⊥
    by zero e = cc
    by (suc n) e = cc

-- ---- what can be done next, and how much is left to do

-- the steps that are left, before each of these steps and after the last
abbrev left_at : MachineState → List Step → List ℕ
left_at w [] = steps_to_come w ∷ []
left_at w (s ∷ ss) = steps_to_come w ∷ left_at (apply_step small 3 w s).1 ss

a_message_takes_five_steps : left_at (one_hand 1 empty) (whole (MakeVol 0 0)) ≡ 0 ∷ 5 ∷ 4 ∷ 3 ∷ 2 ∷ 1 ∷ 0 ∷ []
a_message_takes_five_steps = refl

what_does_nothing_is_no_step : steps_in (events_of (one_hand 1 empty) (steps.Grant ∷ steps.Run 0 ∷ steps.Back 0 ∷ steps.Log 3 ∷ steps.Answer
    ∷ steps.Point ∷ steps.Cut ∷ steps.Arrive AskSummary ∷ [])) ≡ 0
what_does_nothing_is_no_step = refl

-- Two messages are logged in one event.
abbrev two_at_once : (x y : Block) → List Event
two_at_once x y = events_of (two_hands 2 with_file) (steps.Arrive (Write 0 0 0 0 x) ∷ steps.Arrive (Write 0 0 0 1 y) ∷ steps.Grant ∷ steps.Grant
    ∷ steps.Run 1 ∷ steps.Run 0 ∷ steps.Back 0 ∷ steps.Back 1 ∷ steps.Log 2 ∷ steps.Answer ∷ steps.Answer ∷ [])

they_take_ten_steps : (x y : Block) → steps_in (two_at_once x y) ≡ 10
they_take_ten_steps x y = refl

in_nine_events : (x y : Block) → useful_events (two_at_once x y) ≡ 9
in_nine_events x y = refl

-- One slot: while a message has it, something can be done with that message, and no other one arrives.
one_slot : answers_of (one_hand 1 empty) (steps.Arrive (MakeVol 0 0) ∷ steps.Arrive AskSummary ∷ steps.Grant ∷ steps.Run 0 ∷ steps.Back 0
    ∷ steps.Log 1 ∷ steps.Arrive AskSummary ∷ steps.Answer ∷ steps.Arrive AskSummary ∷ [])
    ≡ outcomes.Ticket 0 ∷ outcomes.ArriveRefused arrivals.Full ∷ outcomes.Granted 0 0 ∷ outcomes.Ran ∷ outcomes.Back 0
    ∷ outcomes.Logged 1 ∷ outcomes.ArriveRefused arrivals.Full ∷ outcomes.Answered 0 Done ∷ outcomes.Ticket 1 ∷ []
one_slot = refl

it_can_be_dispatched : CanGoOn small (after (one_hand 1 empty) (take 1 (whole (MakeVol 0 0)))).core
it_can_be_dispatched = CanDispatch refl

it_can_be_given_back : CanGoOn small (after (one_hand 1 empty) (take 2 (whole (MakeVol 0 0)))).core
it_can_be_given_back = CanReturn (lit≤ tt)

it_can_be_logged : CanGoOn small (after (one_hand 1 empty) (take 4 (whole (MakeVol 0 0)))).core
it_can_be_logged = CanLog (lit≤ tt)

it_can_be_answered : CanGoOn small (after (one_hand 1 empty) (take 5 (whole (MakeVol 0 0)))).core
it_can_be_answered = CanAnswer (lit≤ tt)

-- Where nothing waits and nothing is held, there is nothing to do.
nothing_to_do : CanGoOn small (opened 1 empty) → ⊥
nothing_to_do (CanReturn some) = absurd (omega (arith, some))
nothing_to_do (CanLog some) = absurd (omega (arith, some))
nothing_to_do (CanAnswer some) = absurd (omega (arith, some))
nothing_to_do (CanDispatch some) = true≢false (sym some)
nothing_to_do (CanMakeRoom needs) = true≢false (sym needs.after_point)
nothing_to_do (CanEndCheckpoint next needs) = next

-- Since a cut, which is in progress still, as many records came as a half of the log takes, and one more write waits.
abbrev full_log : (x y : Block) → MachineState
full_log x y = after (one_hand 1 with_file) ((steps.Cut ∷ whole (Write 0 0 0 0 x)) ++ (whole (Write 0 0 0 1 y)
    ++ (whole (Write 0 0 0 0 y) ++ (whole (Write 0 0 0 1 x) ++ (steps.Arrive (Write 0 0 0 0 x) ∷ [])))))

-- the steps that end that cut
abbrev end_of_cut : List Step
end_of_cut = steps.Piece ∷ steps.Piece ∷ steps.Piece ∷ steps.Flip ∷ []

a_full_log_during_a_cut : (x y : Block) → answers_of (full_log x y) (steps.Grant ∷ steps.Point ∷ end_of_cut ++ (steps.Grant ∷ steps.Point
    ∷ steps.Grant ∷ []))
    ≡ outcomes.NoRoom ∷ outcomes.PointRefused points.Running ∷ outcomes.Left 2 ∷ outcomes.Left 1 ∷ outcomes.Left 0 ∷ outcomes.Flipped
    ∷ outcomes.NoRoom ∷ outcomes.Pointed ∷ outcomes.Granted 0 4 ∷ []
a_full_log_during_a_cut x y = refl

the_cut_can_go_on : (x y : Block) → CanGoOn small (full_log x y).core
the_cut_can_go_on x y = CanEndCheckpoint refl (record { none = refl; no_room = refl; may_begin = refl; after_point = refl; after_cut = λ n. refl })

the_cut_can_end : (x y : Block) → CanGoOn small (after (full_log x y) (take 3 end_of_cut)).core
the_cut_can_end x y = CanEndCheckpoint refl (record { none = refl; no_room = refl; may_begin = refl; after_point = refl; after_cut = λ n. refl })

then_a_point_makes_room : (x y : Block) → CanGoOn small (after (full_log x y) end_of_cut).core
then_a_point_makes_room x y = CanMakeRoom (record { none = refl; no_room = refl; may_begin = refl; after_point = refl; after_cut = λ n. refl })

-- how much is left to do, before each of these steps and after the last
abbrev work_at : MachineState → List Step → List ℕ
work_at w [] = work_left small 3 w ∷ []
work_at w (s ∷ ss) = work_left small 3 w ∷ work_at (apply_step small 3 w s).1 ss

its_work_gets_less : (x y : Block) → work_at (full_log x y) (end_of_cut ++ (steps.Cut ∷ steps.Grant ∷ steps.Run 0 ∷ steps.Back 0
    ∷ steps.Log 1 ∷ steps.Answer ∷ []))
    ≡ 44 ∷ 43 ∷ 42 ∷ 41 ∷ 40 ∷ 39 ∷ 37 ∷ 30 ∷ 23 ∷ 16 ∷ 9 ∷ []
its_work_gets_less x y = refl

each_of_them_leaves_less : (x y : Block) → EachLeavesLess small 3 (full_log x y)
    (events_of (full_log x y) (steps.Piece ∷ steps.Piece ∷ steps.Piece ∷ steps.Flip ∷ steps.Cut ∷ steps.Grant ∷ []))
each_of_them_leaves_less x y = (lit≤ tt, (lit≤ tt, (lit≤ tt, (lit≤ tt, (lit≤ tt, (lit≤ tt, tt))))))

a_cut_leaves_more : EachLeavesLess small 3 (one_hand 1 empty) (events_of (one_hand 1 empty) (steps.Cut ∷ [])) → ⊥
a_cut_leaves_more h = let less = h.0 in absurd (omega (arith, less))

what_does_nothing_leaves_as_much : EachLeavesLess small 3 (one_hand 1 empty) (events_of (one_hand 1 empty) (steps.Point ∷ [])) → ⊥
what_does_nothing_leaves_as_much h = let less = h.0 in absurd (omega (arith, less))

-- A `summary`, whose place is related to every other one, arrives behind a write.
abbrev behind_a_write : (x : Block) → MachineState
behind_a_write x = after (two_hands 2 with_file) (steps.Arrive (Write 0 0 0 0 x) ∷ steps.Arrive AskSummary ∷ [])

a_summary_waits_for_a_write : (x : Block) → answers_of (behind_a_write x) (steps.Grant ∷ steps.Grant ∷ steps.Run 0 ∷ steps.Grant ∷ steps.Back 0
    ∷ steps.Grant ∷ steps.Log 1 ∷ steps.Grant ∷ steps.Answer ∷ steps.Grant ∷ [])
    ≡ outcomes.Granted 0 0 ∷ outcomes.NoneEligible ∷ outcomes.Ran ∷ outcomes.NoneEligible ∷ outcomes.Back 0 ∷ outcomes.NoneEligible
    ∷ outcomes.Logged 1 ∷ outcomes.NoneEligible ∷ outcomes.Answered 0 Done ∷ outcomes.Granted 0 1 ∷ []
a_summary_waits_for_a_write x = refl

its_steps_are_left : (x : Block) → left_at (behind_a_write x) (steps.Grant ∷ steps.Grant ∷ steps.Run 0 ∷ steps.Back 0 ∷ steps.Log 1 ∷ steps.Answer ∷ [])
    ≡ 10 ∷ 9 ∷ 9 ∷ 8 ∷ 7 ∷ 6 ∷ 5 ∷ []
its_steps_are_left x = refl

-- how many messages keep message e back, before each of these steps and after the last
abbrev keepers_at : MachineState → Entry → List Step → List ℕ
keepers_at w e [] = kept_back_by small w.core e ∷ []
keepers_at w e (s ∷ ss) = kept_back_by small w.core e ∷ keepers_at (apply_step small 3 w s).1 e ss

-- A later write doesn't keep the `summary` back; the earlier ones do until they are answered.
two_writes_keep_a_summary_back : (x y : Block) → keepers_at (after (two_hands 4 with_file) (steps.Arrive (Write 0 0 0 0 x)
    ∷ steps.Arrive (Write 0 0 0 1 y) ∷ steps.Arrive AskSummary ∷ [])) (2, AskSummary) (steps.Arrive (Write 0 0 0 0 y) ∷ steps.Grant
    ∷ steps.Grant ∷ steps.Run 1 ∷ steps.Back 1 ∷ steps.Log 1 ∷ steps.Answer ∷ steps.Run 0 ∷ steps.Back 0 ∷ steps.Log 1 ∷ steps.Answer
    ∷ [])
    ≡ 2 ∷ 2 ∷ 2 ∷ 2 ∷ 2 ∷ 2 ∷ 2 ∷ 1 ∷ 1 ∷ 1 ∷ 1 ∷ 0 ∷ []
two_writes_keep_a_summary_back x y = refl

-- ---- what hands have

ran_and_to_run : (x y : Block) → HandsHold (after (three_hands 3 with_file) (two_hands_of_three x y))
ran_and_to_run x y t = omega arith

no_job_is_lost : HandsHold (record { core = (after (one_hand 1 empty) (take 2 (whole AskSummary))).core; hands = Empty ∷ [] }) → ⊥
no_job_is_lost h = let same = h 0 in absurd (omega (arith, same))

no_job_is_twice : HandsHold (record { core = (after (one_hand 1 empty) (take 2 (whole AskSummary))).core; hands = Job 0 ∷ Result 0 ∷ [] }) → ⊥
no_job_is_twice h = let same = h 0 in absurd (omega (arith, same))

-- ---- serial histories

-- Two writes arrived, to two stripes. The second was done first, and the other one may have been done too, or not.
module _ (x y : Block) where
  abbrev to_two_stripes : List Entry
  to_two_stripes = (0, Write 0 0 0 0 x) ∷ (1, Write 0 0 0 1 y) ∷ []

  turned : IsPermutation to_two_stripes ((1, Write 0 0 0 1 y) ∷ (0, Write 0 0 0 0 x) ∷ [])
  turned = IsPermutation-middle ((0, Write 0 0 0 0 x) ∷ []) (1, Write 0 0 0 1 y) []

  one_is_done : IsSerialHistory small with_file to_two_stripes ((1, Write 0 0 0 1 y, Done) ∷ [])
  one_is_done = record {
    rest = (0, Write 0 0 0 0 x) ∷ [];
    each_once = turned;
    by_ticket = (((λ related. absurd (true≢false (sym related))), tt), (tt, tt));
    in_order = refl;
  }

  both_are_done : IsSerialHistory small with_file to_two_stripes ((1, Write 0 0 0 1 y, Done) ∷ (0, Write 0 0 0 0 x, Done) ∷ [])
  both_are_done = record {
    rest = [];
    each_once = turned;
    by_ticket = (((λ related. absurd (true≢false (sym related))), tt), (tt, tt));
    in_order = refl;
  }

  -- Two writes to one block are done in the order of their tickets,
  abbrev to_one_block : List Entry
  to_one_block = (0, Write 0 0 0 0 x) ∷ (1, Write 0 0 0 0 y) ∷ []

  not_turned : IsSerialHistory small with_file to_one_block ((1, Write 0 0 0 0 y, Done) ∷ (0, Write 0 0 0 0 x, Done) ∷ []) → ⊥
  not_turned h = let less = h.by_ticket.0.0 refl in omega (arith, less)

  -- and the first isn't left out if the second is done.
  none_left_out : IsSerialHistory small with_file to_one_block ((1, Write 0 0 0 0 y, Done) ∷ []) → ⊥
  none_left_out h =
      let first : Entry = (0, Write 0 0 0 0 x) in
      let all = (1, Write 0 0 0 0 y) ∷ h.rest in
      let there = in_contained all first
      (Contains-permutation to_one_block all first h.each_once (contains_in to_one_block first (inl refl))) in
      ⊎_elim (λ (same : first ≡ (1, Write 0 0 0 0 y)). let zero_is_one = ap (λ (e : Entry). e.0) same in omega (arith, zero_is_one))
      (λ behind. let less = holds_of (InOrderIfRelated small (1, Write 0 0 0 0 y)) h.rest h.by_ticket.0 first behind refl in omega (arith, less))
      there

no_message_is_done_twice : IsSerialHistory small empty ((0, AskSummary) ∷ [])
    ((0, AskSummary, Summary 0 0 0) ∷ (0, AskSummary, Summary 0 0 0) ∷ []) → ⊥
no_message_is_done_twice h = let long = length_permutation _ _ h.each_once in omega (arith, long)

what_never_arrived_is_not_done : IsSerialHistory small empty [] ((0, AskSummary, Summary 0 0 0) ∷ []) → ⊥
what_never_arrived_is_not_done h = let long = length_permutation _ _ h.each_once in omega (arith, long)

refused_or_done : Refused Exists ≡ Done → ⊥
refused_or_done e = cc

another_reply_is_none : IsSerialHistory small empty ((0, MakeVol 0 0) ∷ []) ((0, MakeVol 0 0, Refused Exists) ∷ []) → ⊥
another_reply_is_none h = refused_or_done (ap (λ (replies : List (ℕ × Reply)). (get_or replies 0 (0, Done)).1) h.in_order)

-- ---- runs and incarnations

legal_where_no_device_fails : (w : MachineState) (ss : List Step) → IsLegal small w (events_of w ss)
legal_where_no_device_fails w [] = tt
legal_where_no_device_fails w (s ∷ ss) =
    (record { to_write = 3; at_most = lit≤ tt; does = refl }, legal_where_no_device_fails (apply_step small 3 w s).1 ss)

abbrev two_messages : List Event
two_messages = events_of (one_hand 1 empty) (whole (MakeVol 0 0) ++ whole (Create 0 0 0))

a_run_of_two_messages : IsLegal small (one_hand 1 empty) two_messages × (map (λ (e : Event). e.outcome) two_messages ≡ done 0 ++ done 1)
    × (end_state (one_hand 1 empty) two_messages ≡ after (one_hand 1 empty) (whole (MakeVol 0 0) ++ whole (Create 0 0 0)))
a_run_of_two_messages = (legal_where_no_device_fails (one_hand 1 empty) (whole (MakeVol 0 0) ++ whole (Create 0 0 0)), refl, refl)

a_question_is_no_answered_change : answered_changes (one_hand 1 empty)
    (events_of (one_hand 1 empty) (whole AskSummary ++ (whole (MakeVol 0 0) ++ whole (MakeVol 0 0)))) ≡ MakeVol 0 0 ∷ []
a_question_is_no_answered_change = refl

what_is_logged_is_not_answered_yet : answered_changes (one_hand 1 empty)
    (events_of (one_hand 1 empty) (steps.Arrive (MakeVol 0 0) ∷ steps.Grant ∷ steps.Run 0 ∷ steps.Back 0 ∷ steps.Log 1 ∷ [])) ≡ []
what_is_logged_is_not_answered_yet = refl

-- a state with a volume
abbrev with_volume : State
with_volume = next_state small empty (MakeVol 0 0)

-- A volume was made in the first incarnation. The next two ended before anything was logged, one of them before the server was open. In
-- the last one the crash came when a message had run, while it was logged.
file_made_in_the_last_incarnation : IsLeftByIncarnations small
    (Ran (one_hand 1 empty) (events_of (one_hand 1 empty) (whole (MakeVol 0 0))) 6 ∷ Unopened
    ∷ Ran (one_hand 1 with_volume) [] 0
    ∷ Ran (one_hand 1 with_volume) (events_of (one_hand 1 with_volume) (whole (Create 0 0 0))) 4 ∷ [])
    with_file
file_made_in_the_last_incarnation = record {
  logs = (MakeVol 0 0 ∷ []) ∷ [] ∷ [] ∷ (Create 0 0 0 ∷ []) ∷ [];
  are_logs = (
    record {
      idle = record { none_waits = refl; none_held = refl };
      committed = refl;
      legal = legal_where_no_device_fails (one_hand 1 empty) (whole (MakeVol 0 0));
      after = 6;
      since = lit≤ tt;
      within = lit≤ tt;
      is_log = record { some = 0; at_most = lit≤ tt; is = refl };
    },
    (
      refl,
      (
        record {
          idle = record { none_waits = refl; none_held = refl };
          committed = refl;
          legal = tt;
          after = 0;
          since = lit≤ tt;
          within = lit≤ tt;
          is_log = record { some = 0; at_most = lit≤ tt; is = refl };
        },
        (
          record {
            idle = record { none_waits = refl; none_held = refl };
            committed = refl;
            legal = legal_where_no_device_fails (one_hand 1 with_volume) (whole (Create 0 0 0));
            after = 4;
            since = lit≤ tt;
            within = lit≤ tt;
            is_log = record { some = 1; at_most = lit≤ tt; is = refl };
          },
          tt,
        ),
      ),
    ),
  );
  state = refl;
}
