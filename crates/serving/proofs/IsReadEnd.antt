-- What the outcome of an arrival shows, and why no more lines are read.
use Rattle.std.proofs.Common.{◌≡◌, ◌≢◌, ◌≤◌, ℕ, Bool, true, false, List, Option, Some, None, refl, subst, ◌∙◌}
use Rattle.std.specs.Prelude.{IfSome, not, nat_le, ◌==◌}
use Rattle.std.proofs.lemmas.Bool.{cond_both, eqb-true, leb-true, not-false, not-true}
use Rattle.affinity.specs.declared.geometry.Geometry.{Geometry}
use Rattle.histories.specs.Events.{arrive}
use Rattle.histories.specs.CoreState.{CoreState, most_tickets}
use Rattle.histories.specs.declared.outcomes.ArriveRefusal.{ArriveRefusal}
use Rattle.histories.specs.declared.outcomes.ArriveRefusal.TheVariants as arrivals
use Rattle.histories.specs.declared.outcomes.Outcome.{Outcome}
use Rattle.histories.specs.declared.outcomes.Outcome.TheVariants as outcomes
use Rattle.scheduler.specs.Machine.{MachineView}
use Rattle.protocol.specs.Grammar.{message_of}
use Rattle.protocol.specs.Messages.{is_in_range}
use Rattle.protocol.specs.FirstLine.{GivesLine}
use Rattle.protocol.specs.declared.messages.Msg.{Msg}
use Rattle.scheduler.specs.CoreView.{core_state_of}
use Rattle.serving.specs.TakesLine.{IsRefusedLine, read_end_of}
use Rattle.serving.specs.Runs.{unanswered}
use Rattle.serving.specs.Session.{IsReadEnd}
use Rattle.serving.proofs.Tickets.{passes_next}
use Rattle.serving.proofs.Segments.{still_failed}

-- ---- what the outcome of an arrival shows

module _ (g : Geometry) (w : CoreState) (m : Msg) where
  abbrev pub Shows : Outcome → Type 0
  Shows (outcomes.Ticket t) = (is_in_range g m ≡ true) × (t ≡ w.next)
  Shows (outcomes.ArriveRefused arrivals.Failed) = w.failed ≡ true
  Shows (outcomes.ArriveRefused arrivals.Range) = is_in_range g m ≡ false
  Shows (outcomes.ArriveRefused arrivals.Exhausted) = (is_in_range g m ≡ true) × (w.next ≡ most_tickets)
  Shows (outcomes.ArriveRefused arrivals.Full) = w.slots ≤ unanswered w
  Shows _ = ⊥

  abbrev Given : Outcome × CoreState → Type 0
  Given x = Shows x.0

  arrival_shows : Given (arrive g w m)
  arrival_shows =
      cond_both w.failed _ _ Given (λ failed. failed) (λ _.
      cond_both (not (is_in_range g m)) _ _ Given (λ out. not-true (is_in_range g m) out) (λ fits.
      cond_both (w.next == most_tickets) _ _ Given (λ none. (not-false (is_in_range g m) fits, eqb-true w.next most_tickets none)) (λ _.
      cond_both (nat_le w.slots (unanswered w)) _ _ Given (λ full. leb-true w.slots (unanswered w) full) (λ _.
      (not-false (is_in_range g m) fits, refl)))))

  -- of an arrival with this outcome
  pub shows : {o : Outcome} → (arrive g w m).0 ≡ o → Shows o
  shows is = subst Shows is arrival_shows

-- ---- a line whose message is refused

-- If a line was found, it is the first line of what was unread.
pub gives : (line : List ℕ) (unread now_unread : Option (List ℕ)) → IfSome unread (λ bs. GivesLine line bs now_unread)
    → IfSome unread (λ bs. (rest : Option (List ℕ)) × GivesLine line bs rest)
gives line None now_unread found = tt
gives line (Some bs) now_unread found = (now_unread, found)

-- Where the message of a line is refused, and not for want of a slot, reading ends for the reason that goes with the refusal
-- (`read_end_of`).
pub stops_at_refusal : {keeps : Type 0} {old new : MachineView} {m : Msg} {why : ArriveRefusal} (unread remaining : Option (List ℕ)) (drained : Bool) (line : List ℕ)
    → message_of line ≡ Some m → IfSome unread (λ bs. (rest : Option (List ℕ)) × GivesLine line bs rest) → IsRefusedLine keeps old new m why
    → ((arrive old.core.geometry (core_state_of old.core) m).0 ≢ outcomes.ArriveRefused arrivals.Full)
    → IsReadEnd old.core.geometry new.core unread drained remaining (read_end_of why)
stops_at_refusal {why = arrivals.Range} unread remaining drained line is found r fits = absurd (r.not_range refl)
stops_at_refusal {why = arrivals.Full} unread remaining drained line is found r fits = absurd (fits r.refused)
stops_at_refusal {old} {m} {why = arrivals.Exhausted} unread remaining drained line is found r fits =
    let so = shows old.core.geometry (core_state_of old.core) m r.refused in
    (passes_next (r.quiet (record { every = 0; answered_since = 0 })).segment ∙ so.1, (line, m, found, is, so.0))
stops_at_refusal {old} {m} {why = arrivals.Failed} unread remaining drained line is found r fits =
    still_failed (r.quiet (record { every = 0; answered_since = 0 })).segment (shows old.core.geometry (core_state_of old.core) m r.refused)
