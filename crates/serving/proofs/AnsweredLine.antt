-- A message that is answered: what changes in its line in the reorder buffer.
use Rattle.std.proofs.Common.{◌≡◌, ℕ, true, false, List, [], ◌∷◌, ◌++◌, Option, Some, None, refl, ap, sym, ◌∙◌, map, inl, append-nil, Bool, ◌⊎◌, inr, ⊎_elim}
use Rattle.std.specs.Prelude.{if◌then◌else◌, ◌==◌}
use Rattle.std.specs.List.{AllByRecursion, Contains}
use Rattle.std.proofs.lemmas.Bool.{eq-eqb, eqb-true, true≢false}
use Rattle.affinity.specs.declared.geometry.Geometry.{Geometry}
use Rattle.histories.proofs.Elements.{contains_in, in_contained, IsIn, in_left, in_right}
use Rattle.histories.specs.declared.outcomes.Outcome.TheVariants as outcomes
use Rattle.histories.specs.declared.outcomes.Step.TheVariants as steps
use Rattle.scheduler.proofs.MachineSteps.{core_holds, core_step}
use Rattle.scheduler.specs.DeviceEvents.{events_of}
use Rattle.scheduler.specs.Machine.{MachineView, machine_of}
use Rattle.scheduler.specs.IsMachineStep.{IsCoreStep}
use Rattle.scheduler.specs.declared.hands.HandContent.{HandContent}
use Rattle.protocol.specs.Grammar.{message_of}
use Rattle.protocol.specs.declared.messages.Msg.{Msg}
use Rattle.protocol.specs.declared.replies.Reply.{Reply}
use Rattle.scheduler.specs.Calls.{answer_outcome}
use Rattle.scheduler.specs.CoreView.{CoreView}
use Rattle.serving.specs.Lines.{Completed, AreKnown, IsKnown, Line, NoMessage, NoneIsTo, OutOfRange, Pending, complete_one, admitted, admitted_in, has_answer, next_ticket, ticketed}
use Rattle.serving.specs.Checkpoints.{AreTimely, trigger_after}
use Rattle.serving.specs.Progress.{ServingProgress}
use Rattle.serving.specs.Runs.{HandsHaveJobs, IsInternal, RunsBetween}
use Rattle.serving.specs.declared.checkpoints.CheckpointTrigger.{CheckpointTrigger}
use Rattle.serving.proofs.RunsBetween.{passes_on, told_as}
use Rattle.serving.proofs.Segments.{core_is_quiet, step_in_time, step_passes}

module _ (g : Geometry) (reply_pairs : List (ℕ × Reply)) (ticket : ℕ) (reply : Reply) where
  abbrev more : List (ℕ × Reply)
  more = reply_pairs ++ (ticket, reply) ∷ []

  still_there : (p : ℕ × Reply) → Contains reply_pairs p → Contains more p
  still_there p h = contains_in more p (in_left p reply_pairs _ (in_contained reply_pairs p h))

  now_there : Contains more (ticket, reply)
  now_there = contains_in more (ticket, reply) (in_right (ticket, reply) reply_pairs ((ticket, reply) ∷ []) (inl refl))

  -- A reply in the longer list was there before, or is the new one.
  in_more : (ps : List (ℕ × Reply)) (p : ℕ × Reply) → IsIn p (ps ++ (ticket, reply) ∷ []) → IsIn p ps ⊎ (p ≡ (ticket, reply))
  in_more [] p is = ⊎_elim (λ e. inr e) (λ none. absurd none) is
  in_more (q ∷ ps) p is = ⊎_elim (λ e. inl (inl e)) (λ rest. ⊎_elim (λ there. inl (inr there)) (λ e. inr e) (in_more ps p rest)) is

  -- If there was no reply to another ticket t, there is none to t now.
  none_still : (t : ℕ) → (t == ticket) ≡ false → NoneIsTo reply_pairs t → NoneIsTo more t
  none_still t other none r there = ⊎_elim
      (λ was. none r (contains_in reply_pairs (t, r) was))
      (λ (e : (t, r) ≡ (ticket, reply)).
      let same : t ≡ ticket = ap (λ (q : ℕ × Reply). q.0) e in true≢false (sym (eq-eqb t ticket same) ∙ other))
      (in_more reply_pairs (t, r) (in_contained more (t, r) there))

  -- What was known of a line that has its answer is still known of it with one reply more.
  known_still : (n : ℕ) (o : Option Msg) (known : Line) → has_answer known ≡ true → IsKnown g reply_pairs n o known → IsKnown g more n o known
  known_still n None NoMessage done k = tt
  known_still n (Some m) OutOfRange done k = k
  known_still n (Some m) (Pending t) done k = absurd (true≢false (sym done))
  known_still n (Some m) (Completed t r) done k = (k.0, k.1, still_there (t, r) k.2)
  known_still n o known done k = absurd k

  -- What is known of any line is known with one reply more, once that is stored in its message's line (`complete_one`).
  known_answered : (n : ℕ) (o : Option Msg) (known : Line) → IsKnown g reply_pairs n o known → IsKnown g more n o (complete_one ticket reply known)
  known_answered n None (Pending t) k = absurd k
  known_answered n (Some m) (Pending t) k = elim (t == ticket) as
      (λ b. (t == ticket) ≡ b → IsKnown g more n (Some m) (if b then Completed t reply else Pending t)) [
        | true ↦ λ e. (k.0, k.1, rw (eqb-true t ticket e) now_there)
        | false ↦ λ e. (k.0, k.1, none_still t e k.2)
      ] refl
  known_answered n o known k = known_still n o known refl k

  each_answered : (n : ℕ) (ls : List (List ℕ)) (lines : List Line) → AreKnown g reply_pairs n ls lines → AreKnown g more n ls (map (complete_one ticket reply) lines)
  each_answered n [] [] k = tt
  each_answered n (l ∷ ls) (known ∷ lines) k =
      (known_answered n (message_of l) known k.0, each_answered (next_ticket n (admitted_in g (message_of l))) ls lines k.1)
  each_answered n ls lines k = absurd k

  pub lines_answered : (n : ℕ) (ls : List (List ℕ)) (sent_lines unsent : List Line) → AllByRecursion (λ line. has_answer line ≡ true) sent_lines
      → AreKnown g reply_pairs n ls (sent_lines ++ unsent) → AreKnown g more n ls (sent_lines ++ map (complete_one ticket reply) unsent)
  lines_answered n ls [] unsent done k = each_answered n ls unsent k
  lines_answered n [] (known ∷ sent_lines) unsent done k = absurd k
  lines_answered n (l ∷ ls) (known ∷ sent_lines) unsent done k = (
    known_still n (message_of l) known done.0 k.0,
    lines_answered (next_ticket n (admitted_in g (message_of l))) ls sent_lines unsent done.1 k.1,
  )

-- A message was answered, and its line in the reorder buffer is completed.
unfoldable pub answered_goes_on : {keeps : Type 0} {start old new : MachineView} {ticket : ℕ} {reply : Reply} {unsent : List Line}
    {input unread : Option (List ℕ)} {ended : Bool} {before written : Option (List ℕ)} → RunsBetween keeps old new [] ((ticket, reply) ∷ [])
    → ServingProgress keeps start old unsent input unread ended before written
    → ServingProgress keeps start new (map (complete_one ticket reply) unsent) input unread ended before written
answered_goes_on {start} {ticket} {reply} {unsent} p h =
    let g = start.core.geometry in
    let arriving = ticketed start.core.next (admitted g h.consumed) in
    let s = h.serving in
    record {
      consumed = h.consumed;
      sent_lines = h.sent_lines;
      takes = h.takes;
      serving = record {
        reply_pairs = s.reply_pairs ++ (ticket, reply) ∷ [];
        segment = told_as (passes_on s.segment p) (append-nil arriving) refl;
        known = lines_answered g s.reply_pairs ticket reply start.core.next h.consumed h.sent_lines unsent s.answered s.known;
        answered = s.answered;
      };
      output = h.output;
    }

-- The message with this ticket was answered with this reply; or (`None`) no message was answered.
abbrev pub IsAnswered : Type 0 → MachineView → MachineView → Option (ℕ × Reply) → Type 0
IsAnswered keeps old new None = (trigger : CheckpointTrigger) → IsInternal keeps trigger trigger old new
IsAnswered keeps old new (Some a) = HandsHaveJobs new × (r : RunsBetween keeps old new [] (a ∷ []))
    × ((trigger : CheckpointTrigger) → AreTimely trigger (machine_of old) (events_of r.device_events) (trigger_after trigger a.1))

pub is_answered_so : (keeps : Type 0) (old new : CoreView) (r : Option (ℕ × Reply)) → IsCoreStep keeps old new steps.Answer (answer_outcome r)
    → (hands : List HandContent) → HandsHaveJobs (record { core = old; hands = hands })
    → IsAnswered keeps (record { core = old; hands = hands }) (record { core = new; hands = hands }) r
is_answered_so keeps old new None k hands h = λ trigger. core_is_quiet steps.Answer outcomes.Idle k refl refl (refl, tt, refl) h
is_answered_so keeps old new (Some a) k hands h =
    let outcome = outcomes.Answered a.0 a.1 in
    let did = core_step keeps old new hands steps.Answer outcome h k in (
      core_holds keeps old new hands steps.Answer outcome h k refl,
      step_passes did,
      λ trigger. step_in_time did trigger tt,
    )

-- where no message was answered
pub none_answered : (keeps : Type 0) (old new : MachineView) (r : Option (ℕ × Reply)) → ((reply_pairs : ℕ × Reply) → r ≡ Some reply_pairs → ⊥)
    → IsAnswered keeps old new r → (trigger : CheckpointTrigger) → IsInternal keeps trigger trigger old new
none_answered keeps old new (Some reply_pairs) not a = absurd (not reply_pairs refl)
none_answered keeps old new None not a = a
