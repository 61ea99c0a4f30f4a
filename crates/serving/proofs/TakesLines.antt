-- Lines that are consumed of the input, each with its message.
use Rattle.std.proofs.Common.{◌≡◌, ◌≢◌, ℕ, false, Bool, List, [], ◌∷◌, ◌++◌, Option, Some, None, ap, sym, refl, subst}
use Rattle.std.specs.Prelude.{IfSome, Result, Ok, Err}
use Rattle.std.specs.Io.KnownBytes.{IsAtEnd}
use Rattle.histories.specs.CoreState.{CoreState, IsIdle}
use Rattle.histories.specs.Events.{arrive}
use Rattle.histories.specs.declared.outcomes.ArriveRefusal.{ArriveRefusal}
use Rattle.histories.specs.declared.outcomes.ArriveRefusal.TheVariants as arrivals
use Rattle.histories.specs.declared.outcomes.Outcome.{Outcome}
use Rattle.histories.specs.declared.outcomes.Outcome.TheVariants as outcomes
use Rattle.scheduler.proofs.MachineSteps.{arrive_step}
use Rattle.scheduler.specs.Machine.{MachineView}
use Rattle.scheduler.specs.declared.hands.HandContent.{HandContent}
use Rattle.protocol.specs.Grammar.{message_of}
use Rattle.protocol.specs.FirstLine.{GivesLine, HasWholeFirstLine, PassesLine}
use Rattle.message.specs.Reader.{IsAtEndOf}
use Rattle.protocol.specs.declared.messages.Msg.{Msg}
use Rattle.meaning.proofs.TakesLines.{takes_line, takes_long_line}
use Rattle.scheduler.specs.Calls.{ArrivesByLine, arrive_outcome}
use Rattle.scheduler.specs.CoreView.{CoreView, RecoversNow, core_state_of}
use Rattle.serving.specs.Progress.{ServingProgress}
use Rattle.serving.specs.Lines.{Line, NoMessage, OutOfRange, Pending}
use Rattle.serving.specs.TakesLine.{IsRefusedLine, IsTaken}
use Rattle.serving.specs.Runs.{HandsHaveJobs, IsInternal}
use Rattle.serving.specs.declared.checkpoints.CheckpointTrigger.{CheckpointTrigger}
use Rattle.serving.proofs.TakesLine.{ArrivesSo, arrives_so, serves_taken, ticket_is_next}
use Rattle.serving.proofs.Start.{stays}

-- A line that is no message takes no ticket.
pub takes_none : (keeps : Type 0) (m : MachineView) → HandsHaveJobs m → IsTaken keeps m m None NoMessage
unfolding stays
takes_none keeps m h = record { holds = h; segment = stays keeps m; in_time = λ trigger. refl; is_known = tt }

-- ---- a line that has come to the core

-- The line is consumed, and this is known of it; or its message is refused.
abbrev pub ComesSo : Type 0 → MachineView → MachineView → Option Msg → Result (Option ℕ) ArriveRefusal → Type 0
ComesSo keeps was now o (Ok (Some ticket)) = IsTaken keeps was now o (Pending ticket)
ComesSo keeps was now o (Ok None) = IsTaken keeps was now o NoMessage
ComesSo keeps was now o (Err arrivals.Range) = IsTaken keeps was now o OutOfRange
ComesSo keeps was now o (Err why) = (m : Msg) × (o ≡ Some m) × IsRefusedLine keeps was now m why

module _ (keeps : Type 0) (old new : CoreView) (none : old.failed ≡ false → old.doubt ≡ []) (recovers : keeps → RecoversNow old)
    (geometry : new.geometry ≡ old.geometry) (same : new.medium ≡ old.medium) (hands : List HandContent) (h : HandsHaveJobs (record { core = old; hands = hands })) where
  abbrev was : MachineView
  was = record { core = old; hands = hands }

  abbrev now : MachineView
  now = record { core = new; hands = hands }

  so : (m : Msg) (r : Result ℕ ArriveRefusal) → (arrive_outcome r, core_state_of new) ≡ arrive old.geometry (core_state_of old) m
      → ArrivesSo keeps old new m hands h r
  so m r e = arrives_so keeps old new m hands h r (arrive_step keeps old new none recovers geometry same m r e) e

  comes_so : (o : Option Msg) (r : Result (Option ℕ) ArriveRefusal) → ArrivesByLine old new o r → ComesSo keeps was now o r
  comes_so None r e =
      rw (e.0, e.1) (takes_none keeps was h)
  comes_so (Some m) (Ok None) e = absurd e
  comes_so (Some m) (Ok (Some ticket)) e = so m (Ok ticket) e
  comes_so (Some m) (Err arrivals.Range) e = so m (Err arrivals.Range) e
  comes_so (Some m) (Err why) e = (m, refl, so m (Err why) e)

  pub comes_as : (o : Option Msg) (r s : Result (Option ℕ) ArriveRefusal) → ArrivesByLine old new o r → r ≡ s → ComesSo keeps was now o s
  comes_as o r s e is = rw is at (comes_so o r e)

-- The ticket of its message is the core's next.
pub next_of_line : (old new : CoreView) (o : Option Msg) (ticket : ℕ) → ArrivesByLine old new o (Ok (Some ticket)) → ticket ≡ old.next
next_of_line old new None ticket e = absurd (let other : ◌≡◌ {A = Result (Option ℕ) ArriveRefusal} (Ok (Some ticket)) (Ok None) = e.0 in cc)
next_of_line old new (Some m) ticket e = ticket_is_next old.geometry (core_state_of old) (core_state_of new) m ticket e

-- Where nothing happens, nothing arrives or is answered.
pub still : (keeps : Type 0) (trigger : CheckpointTrigger) (m : MachineView) → HandsHaveJobs m → IsInternal keeps trigger trigger m m
unfolding stays
still keeps trigger m h = record { holds = h; segment = stays keeps m; in_time = refl }

-- ---- the next line

module _ {keeps : Type 0} {start old new : MachineView} {unsent : List Line} {known : Line} {input unread now_unread : Option (List ℕ)} {ended now_ended : Bool}
    {before written : Option (List ℕ)} (idle : IsIdle (core_state_of start.core)) (going : ended ≡ false) (closes : HasWholeFirstLine unread now_ended) where
  -- The next line was found, and is consumed.
  unfoldable pub line_goes_on : (line : List ℕ) → IsTaken keeps old new (message_of line) known → IfSome unread (λ bs. GivesLine line bs now_unread)
      → ServingProgress keeps start old unsent input unread ended before written
      → ServingProgress keeps start new (unsent ++ known ∷ []) input now_unread now_ended before written
  line_goes_on line t found h =
      record {
        consumed = h.consumed ++ line ∷ [];
        sent_lines = h.sent_lines;
        takes = takes_line input h.consumed h.takes going (record { given = found; closed = closes });
        serving = serves_taken line idle t h.serving;
        output = h.output;
      }

  -- The next line was too long: it was skipped, and is consumed as no message.
  unfoldable pub long_line_goes_on : IsTaken keeps old new None known → IfSome unread (λ bs. PassesLine bs now_unread)
      → ServingProgress keeps start old unsent input unread ended before written
      → ServingProgress keeps start new (unsent ++ known ∷ []) input now_unread now_ended before written
  long_line_goes_on t found h =
      let l = takes_long_line unread h.takes going found closes in
      record {
        consumed = h.consumed ++ l.line ∷ [];
        sent_lines = h.sent_lines;
        takes = l.takes;
        serving = serves_taken l.line idle (subst (λ (o : Option Msg). IsTaken keeps old new o known) (sym l.no_message) t) h.serving;
        output = h.output;
      }

-- The input has ended.
pub at_end : (unread now_unread : Option (List ℕ)) → IfSome unread (λ bs. IsAtEndOf bs now_unread) → IsAtEnd unread
at_end None now_unread found = tt
at_end (Some bs) now_unread found = found.none

pub none_left : (unread : Option (List ℕ)) → IfSome unread (λ bs. bs ≡ []) → IsAtEnd unread
none_left None none = tt
none_left (Some bs) none = none

-- Where no message is refused for want of a slot, the message of a line isn't.
pub not_full : (old new : CoreView) (o : Option Msg) → ((m : Msg) → (arrive old.geometry (core_state_of old) m).0 ≢ outcomes.ArriveRefused arrivals.Full)
    → ArrivesByLine old new o (Err arrivals.Full) → ⊥
not_full old new None a_slot e = let other : ◌≡◌ {A = Result (Option ℕ) ArriveRefusal} (Err arrivals.Full) (Ok None) = e.0 in cc
not_full old new (Some m) a_slot e = a_slot m (sym (ap (λ (x : Outcome × CoreState). x.0) e))
