-- Worked examples, by computing: which lines take tickets, what is known of lines, for how many turns a line may wait, and when a
-- message may be dispatched and a checkpoint begin.
use Rattle.std.proofs.Common.{◌≡◌, ◌<◌, ℕ, false, List, [], ◌∷◌, None, map, refl, lit≤, ap, arith, inl, inr, ⊎_elim}
use Rattle.std.specs.Prelude.{codes}
use Rattle.affinity.proofs.GeometryLemmas.{small}
use Rattle.affinity.specs.Geometry.{default_geometry}
use Rattle.image.specs.Pieces.{piece_count}
use Rattle.histories.proofs.Elements.{in_contained}
use Rattle.histories.specs.Events.{Event}
use Rattle.histories.specs.MachineState.{MachineState}
use Rattle.histories.specs.declared.outcomes.Outcome.{Outcome}
use Rattle.histories.specs.declared.outcomes.Outcome.TheVariants as outcomes
use Rattle.histories.specs.declared.outcomes.Step.TheVariants as steps
use Rattle.protocol.specs.Grammar.{kind_named, message_of}
use Rattle.protocol.specs.Words.{number_in_word}
use Rattle.protocol.specs.declared.messages.Msg.TheVariants.{MakeVol, Create, Summary as AskSummary}
use Rattle.protocol.specs.declared.replies.Reply.{Reply}
use Rattle.protocol.specs.declared.replies.Reply.TheVariants.{Done, Summary}
use Rattle.meaning.specs.Output.{joined, output_lines}
use Rattle.meaning.specs.State.{empty}
use Rattle.serving.specs.Checkpoints.{HasTimelyCheckpoints, IsDue}
use Rattle.serving.specs.Lines.{Completed, AreKnown, NoMessage, NoneIsTo, OutOfRange, Pending, admitted, next_ticket, answer_text, ticketed}
use Rattle.serving.specs.Turns.{turns_an_answer}

-- ---- lines

-- two messages in range, one that is out of range, and a line that is no message
abbrev four_lines : List (List ℕ)
four_lines = codes "makevol 0 0" ∷ codes "makevol 9 0" ∷ codes "hello" ∷ codes "summary" ∷ []

messages_in_range_take_tickets : admitted small four_lines ≡ MakeVol 0 0 ∷ AskSummary ∷ []
unfolding message_of kind_named number_in_word
messages_in_range_take_tickets = refl

tickets_follow_one_another : ticketed 7 (MakeVol 0 0 ∷ Create 0 0 0 ∷ AskSummary ∷ []) ≡ (7, MakeVol 0 0) ∷ (8, Create 0 0 0) ∷ (9, AskSummary) ∷ []
tickets_follow_one_another = refl

the_next_ticket : next_ticket 7 (MakeVol 0 0 ∷ AskSummary ∷ []) ≡ 9
the_next_ticket = refl

none_to_seven : NoneIsTo ((8, Summary 1 0 0) ∷ []) 7
none_to_seven reply there = ⊎_elim
    (λ (e : (7, reply) ≡ (8, Summary 1 0 0)). let same : ◌≡◌ {A = ℕ} 7 8 = ap (λ (q : ℕ × Reply). q.0) e in absurd (omega (arith, same)))
    (λ none. absurd none) (in_contained ((8, Summary 1 0 0) ∷ []) (7, reply) there)

-- The second message was answered before the first, whose line still waits for its reply.
one_is_answered : AreKnown small ((8, Summary 1 0 0) ∷ []) 7 four_lines (Pending 7 ∷ OutOfRange ∷ NoMessage ∷ Completed 8 (Summary 1 0 0) ∷ [])
unfolding message_of kind_named number_in_word
one_is_answered = ((refl, refl, none_to_seven), (refl, (tt, ((refl, refl, (0, lit≤ tt, refl)), tt))))

-- No line is completed by a reply that was not given.
not_answered_yet : AreKnown small [] 7 (codes "summary" ∷ []) (Completed 7 (Summary 1 0 0) ∷ []) → ⊥
unfolding message_of kind_named number_in_word
not_answered_yet h = let none = h.0.2.1 in absurd (omega (arith, none))

-- No line is pending whose message was answered.
answered_already : AreKnown small ((7, Summary 1 0 0) ∷ []) 7 (codes "summary" ∷ []) (Pending 7 ∷ []) → ⊥
unfolding message_of kind_named number_in_word
answered_already h = h.0.2 (Summary 1 0 0) (0, lit≤ tt, refl)

-- No line is completed by a reply to the ticket of another message.
not_by_another_ticket : AreKnown small ((8, Done) ∷ []) 7 (codes "makevol 0 0" ∷ []) (Completed 8 Done ∷ []) → ⊥
unfolding message_of kind_named number_in_word
not_by_another_ticket h = cc

-- A line out of range takes no ticket.
no_ticket_out_of_range : AreKnown small [] 7 (codes "makevol 9 0" ∷ []) (Pending 7 ∷ []) → ⊥
unfolding message_of kind_named number_in_word
no_ticket_out_of_range h = cc

-- The answers to these lines are what the serial server writes.
what_they_say : joined (map answer_text (Completed 7 Done ∷ OutOfRange ∷ NoMessage ∷ [])) ≡ codes "done\nerror range\nerror line\n"
what_they_say = refl

the_same_as_the_serial_server : joined (output_lines small empty (codes "makevol 0 0" ∷ codes "makevol 9 0" ∷ codes "hello" ∷ [])) ≡ codes "done\nerror range\nerror line\n"
unfolding message_of kind_named number_in_word
the_same_as_the_serial_server = refl

-- ---- turns

-- at the default geometry, whose images have 20 pieces, with 16 slots
turns_by_default : turns_an_answer (piece_count default_geometry) 16 ≡ 19110
turns_by_default = refl

-- ---- checkpoints that are due

-- events while no checkpoint is in progress
module _ (w : MachineState) (none : w.core.pieces_left ≡ None) where
  abbrev event : Outcome → Event
  event outcome = record { step = steps.Grant; outcome = outcome; device_failed = false; state_after = w }

  is_due : IsDue (record { every = 1; answered_since = 1 }) w.core.pieces_left
  is_due = record { none = none; by_count = λ e. absurd (omega (arith, e)); enough = lit≤ tt }

  -- Where one is due after each record, no message is dispatched once a change is answered.
  none_is_dispatched : HasTimelyCheckpoints 1 w (event (outcomes.Answered 7 Done) ∷ event (outcomes.Granted 0 8) ∷ []) → ⊥
  none_is_dispatched h = h.1.1.0 is_due

  -- Once the checkpoint has begun, the next one is.
  dispatched_behind_the_cut : HasTimelyCheckpoints 1 w (event (outcomes.Answered 7 Done) ∷ event outcomes.Cut ∷ event (outcomes.Granted 0 8) ∷ [])
  dispatched_behind_the_cut = (_, (tt, (inl is_due, (λ due. let enough = due.enough in absurd (omega (arith, enough)), refl))))

  -- A message that changes nothing is not counted.
  a_read_is_not_counted : HasTimelyCheckpoints 1 w (event (outcomes.Answered 7 (Summary 1 0 0)) ∷ event (outcomes.Granted 0 8) ∷ [])
  a_read_is_not_counted = (_, (tt, (λ due. let enough = due.enough in absurd (omega (arith, enough)), refl)))

  -- With 0 none is due by their count.
  none_is_due : HasTimelyCheckpoints 0 w (event (outcomes.Answered 7 Done) ∷ event (outcomes.Granted 0 8) ∷ [])
  none_is_due = (_, (tt, (λ due. due.by_count refl, refl)))

  -- None begins before it is due, while the log has room.
  none_begins_too_early : 0 < w.core.room → HasTimelyCheckpoints 2 w (event (outcomes.Answered 7 Done) ∷ event outcomes.Cut ∷ []) → ⊥
  none_begins_too_early room h = ⊎_elim (λ due. let enough = due.enough in absurd (omega (arith, enough))) (λ full. absurd (omega (arith, room, full))) h.1.1.0

  -- One may begin where the log has none.
  one_begins_for_room : w.core.room ≡ 0 → HasTimelyCheckpoints 0 w (event outcomes.Cut ∷ [])
  one_begins_for_room full = (_, (inr full, refl))
