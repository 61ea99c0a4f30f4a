-- A line that is read, and its message, which arrives if it takes a ticket.
use Rattle.std.proofs.Common.{◌≡◌, ◌≢◌, ℕ, true, false, List, [], ◌∷◌, ◌++◌, Option, refl, ap, sym, ◌∙◌, subst, append_assoc, append-nil, arith, Some, None}
use Rattle.std.specs.Prelude.{Result, Ok, Err}
use Rattle.affinity.specs.declared.geometry.Geometry.{Geometry}
use Rattle.histories.proofs.Elements.{in_contained}
use Rattle.histories.specs.Events.{arrive}
use Rattle.histories.specs.CoreState.{CoreState, IsIdle}
use Rattle.histories.specs.declared.outcomes.ArriveRefusal.{ArriveRefusal}
use Rattle.histories.specs.declared.outcomes.ArriveRefusal.TheVariants as arrivals
use Rattle.histories.specs.declared.outcomes.Outcome.{Outcome}
use Rattle.histories.specs.declared.outcomes.Outcome.TheVariants as outcomes
use Rattle.histories.specs.declared.outcomes.Step.TheVariants as steps
use Rattle.scheduler.proofs.MachineSteps.{core_holds, core_step}
use Rattle.scheduler.specs.IsMachineStep.{IsCoreStep}
use Rattle.scheduler.specs.declared.hands.HandContent.{HandContent}
use Rattle.protocol.specs.Messages.{is_in_range}
use Rattle.scheduler.specs.Calls.{arrive_outcome as arrived_so}
use Rattle.scheduler.specs.CoreView.{CoreView, core_state_of}
use Rattle.scheduler.specs.Machine.{MachineView}
use Rattle.protocol.specs.Grammar.{message_of}
use Rattle.protocol.specs.declared.messages.Msg.{Msg}
use Rattle.protocol.specs.declared.replies.Reply.{Reply}
use Rattle.serving.specs.Progress.{IsServing}
use Rattle.serving.specs.Lines.{AreKnown, IsKnown, Line, NoneIsTo, OutOfRange, Pending, admitted, admitted_in, next_ticket, ticketed, Completed, NoMessage}
use Rattle.serving.specs.TakesLine.{IsRefusedLine, IsTaken}
use Rattle.serving.specs.Runs.{HandsHaveJobs, RunsBetween}
use Rattle.serving.proofs.RunsBetween.{passes_on, told_as}
use Rattle.serving.proofs.EndsWith.{ticket_before}
use Rattle.serving.proofs.Segments.{core_is_quiet, step_in_time, step_passes}
use Rattle.serving.proofs.IsReadEnd.{Shows, shows}
use Rattle.serving.proofs.Tickets.{next-append, passes_next, ticketed-append, admitted-append, messages-ticketed}

-- ---- one line more

module _ (g : Geometry) (reply_pairs : List (ℕ × Reply)) (l : List ℕ) (known : Line) where
  pub known_push : (n : ℕ) (ls : List (List ℕ)) (lines : List Line) → AreKnown g reply_pairs n ls lines
      → IsKnown g reply_pairs (next_ticket n (admitted g ls)) (message_of l) known → AreKnown g reply_pairs n (ls ++ l ∷ []) (lines ++ known ∷ [])
  known_push n [] [] k one = (one, tt)
  known_push n (y ∷ ls) (x ∷ lines) k one =
      let m = next_ticket n (admitted_in g (message_of y)) in
      (k.0, known_push m ls lines k.1 (rw (next-append n (admitted_in g (message_of y)) (admitted g ls)) at one))
  known_push n ls lines k one = absurd k

module _ {keeps : Type 0} {start old : MachineView} {consumed : List (List ℕ)} {sent_lines unsent : List Line} (s : IsServing keeps start old consumed sent_lines unsent) where
  abbrev g : Geometry
  g = start.core.geometry

  -- the ticket that the core gives next
  pub next_is : old.core.next ≡ next_ticket start.core.next (admitted g consumed)
  next_is = passes_next s.segment ∙ ap (next_ticket start.core.next) (messages-ticketed start.core.next (admitted g consumed))

  -- A line was read, and its message has arrived, if it takes a ticket.
  unfoldable pub takes_in : (new : MachineView) (line : List ℕ) (known : Line) → RunsBetween keeps old new (ticketed old.core.next (admitted_in g (message_of line))) []
      → IsKnown g s.reply_pairs old.core.next (message_of line) known → IsServing keeps start new (consumed ++ line ∷ []) sent_lines (unsent ++ known ∷ [])
  takes_in new line known p k =
      let arriving = ticketed start.core.next (admitted g consumed) in
      let one = admitted_in g (message_of line) in
      let all : arriving ++ ticketed old.core.next one ≡ ticketed start.core.next (admitted g (consumed ++ line ∷ [])) =
      ap (λ (n : ℕ). arriving ++ ticketed n one) next_is ∙ sym (ticketed-append start.core.next (admitted g consumed) one)
      ∙ ap (λ (ms : List Msg). ticketed start.core.next (admitted g consumed ++ ms)) (sym (append-nil one))
      ∙ ap (ticketed start.core.next) (sym (admitted-append g consumed (line ∷ []))) in
      record {
        reply_pairs = s.reply_pairs;
        segment = told_as (passes_on s.segment p) all (append-nil s.reply_pairs);
        known = rw (append_assoc sent_lines unsent (known ∷ [])) at
            (known_push g s.reply_pairs line known start.core.next consumed (sent_lines ++ unsent) s.known (rw next_is at k));
        answered = s.answered;
      }

-- What is known of a line while there are no replies is known with these replies, too, if none of them is to its ticket n.
pub known_anyway : (g : Geometry) (reply_pairs : List (ℕ × Reply)) (n : ℕ) (o : Option Msg) (known : Line) → NoneIsTo reply_pairs n → IsKnown g [] n o known
    → IsKnown g reply_pairs n o known
known_anyway g reply_pairs n None NoMessage fresh k = k
known_anyway g reply_pairs n (Some m) OutOfRange fresh k = k
known_anyway g reply_pairs n (Some m) (Pending t) fresh k = (k.0, k.1, subst (NoneIsTo reply_pairs) (sym k.1) fresh)
known_anyway g reply_pairs n (Some m) (Completed t r) fresh k = let none = k.2.1 in absurd (omega (arith, none))
known_anyway g reply_pairs n o known fresh k = absurd k

-- After a line is consumed, it is the last of the lines that are not sent.
unfoldable pub serves_taken : {keeps : Type 0} {start old new : MachineView} {consumed : List (List ℕ)} {sent_lines unsent : List Line} {known : Line} (line : List ℕ)
    → IsIdle (core_state_of start.core) → IsTaken keeps old new (message_of line) known → IsServing keeps start old consumed sent_lines unsent
    → IsServing keeps start new (consumed ++ line ∷ []) sent_lines (unsent ++ known ∷ [])
serves_taken {keeps} {start} {old} {new} {known} line idle t s =
    let o = message_of line in
    let is = next_is s in
    let fresh : NoneIsTo s.reply_pairs old.core.next = λ reply there.
    let before = ticket_before keeps start old idle s (old.core.next, reply) (in_contained s.reply_pairs (old.core.next, reply) there) in
    absurd (omega (arith, before, is)) in
    takes_in s new line known
    (told_as t.segment (ap (λ (y : Geometry). ticketed old.core.next (admitted_in y o)) s.segment.leads.geometry) refl)
    (known_anyway start.core.geometry s.reply_pairs old.core.next o known fresh
    (subst (λ (y : Geometry). IsKnown y [] old.core.next o known) s.segment.leads.geometry t.is_known))

-- ---- what follows from a ticket and from a refusal

module _ (keeps : Type 0) (old new : CoreView) (m : Msg) (hands : List HandContent) (h : HandsHaveJobs (record { core = old; hands = hands })) where
  abbrev was : MachineView
  was = record { core = old; hands = hands }

  abbrev now : MachineView
  now = record { core = new; hands = hands }

  with_ticket : (t : ℕ) → IsCoreStep keeps old new (steps.Arrive m) (outcomes.Ticket t) → is_in_range old.geometry m ≡ true → t ≡ old.next
      → IsTaken keeps was now (Some m) (Pending t)
  with_ticket t step fits is_next = let did = core_step keeps old new hands (steps.Arrive m) (outcomes.Ticket t) h step in record {
    holds = core_holds keeps old new hands (steps.Arrive m) (outcomes.Ticket t) h step refl;
    segment = told_as (step_passes did) (rw fits (rw is_next refl)) refl;
    in_time = λ trigger. step_in_time did trigger tt;
    is_known = (fits, is_next, λ reply there. absurd (in_contained [] (t, reply) there));
  }

  out_of_range : IsCoreStep keeps old new (steps.Arrive m) (outcomes.ArriveRefused arrivals.Range) → is_in_range old.geometry m ≡ false
      → IsTaken keeps was now (Some m) OutOfRange
  out_of_range step out =
      let did = core_step keeps old new hands (steps.Arrive m) (outcomes.ArriveRefused arrivals.Range) h step in
      record {
        holds = core_holds keeps old new hands (steps.Arrive m) (outcomes.ArriveRefused arrivals.Range) h step refl;
        segment = told_as (step_passes did) (rw out refl) refl;
        in_time = λ trigger. step_in_time did trigger tt;
        is_known = out;
      }

  refused : (why : ArriveRefusal) → why ≢ arrivals.Range → IsCoreStep keeps old new (steps.Arrive m) (outcomes.ArriveRefused why)
      → (outcomes.ArriveRefused why, core_state_of new) ≡ arrive old.geometry (core_state_of old) m → IsRefusedLine keeps was now m why
  refused why not_range step e = record {
    quiet = λ trigger. core_is_quiet (steps.Arrive m) (outcomes.ArriveRefused why) step refl refl (refl, tt, refl) h;
    refused = sym (ap (λ (x : Outcome × CoreState). x.0) e);
    not_range = not_range;
  }

  shows_of : {o : Outcome} → (o, core_state_of new) ≡ arrive old.geometry (core_state_of old) m → Shows old.geometry (core_state_of old) m o
  shows_of e = shows old.geometry (core_state_of old) m (sym (ap (λ (x : Outcome × CoreState). x.0) e))

  -- By the result of the arrival: the message's line is consumed, or the message is refused.
  abbrev pub ArrivesSo : Result ℕ ArriveRefusal → Type 0
  ArrivesSo (Ok t) = IsTaken keeps was now (Some m) (Pending t)
  ArrivesSo (Err arrivals.Range) = IsTaken keeps was now (Some m) OutOfRange
  ArrivesSo (Err why) = IsRefusedLine keeps was now m why

  pub arrives_so : (r : Result ℕ ArriveRefusal) → IsCoreStep keeps old new (steps.Arrive m) (arrived_so r)
      → (arrived_so r, core_state_of new) ≡ arrive old.geometry (core_state_of old) m → ArrivesSo r
  arrives_so (Ok t) step e = let so = shows_of e in with_ticket t step so.0 so.1
  arrives_so (Err arrivals.Range) step e = out_of_range step (shows_of e)
  arrives_so (Err why) step e = refused why (λ same. cc) step e

pub ticket_is_next : (g : Geometry) (w new : CoreState) (m : Msg) (t : ℕ) → (outcomes.Ticket t, new) ≡ arrive g w m → t ≡ w.next
ticket_is_next g w new m t e = (shows g w m (sym (ap (λ (x : Outcome × CoreState). x.0) e))).1
