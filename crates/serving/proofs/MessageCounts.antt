-- How many messages wait or are held: as many more as arrive, and as many fewer as are answered.
use Rattle.std.proofs.Common.{◌≡◌, ◌+◌, List, [], ◌∷◌, ap, length, arith, ℕ}
use Rattle.std.specs.Prelude.{◌==◌}
use Rattle.std.proofs.lemmas.List.{length-append}
use Rattle.protocol.specs.declared.replies.Reply.{Reply}
use Rattle.histories.proofs.Lists.{length-picked}
use Rattle.affinity.specs.declared.geometry.Geometry.{Geometry}
use Rattle.histories.specs.CoreState.{Replied, CoreState, Entry}
use Rattle.histories.specs.Eligible.{is_eligible}
use Rattle.histories.specs.MachineState.{MachineState}
use Rattle.histories.specs.Events.{Event, give_back}
use Rattle.histories.specs.Runs.{IsLegal, answered, arrived, end_state}
use Rattle.serving.specs.Runs.{unanswered}
use Rattle.histories.proofs.Held.{held_grant, length_held, log_held}
use Rattle.histories.proofs.Ways.{Passed, Way, ways}
use Rattle.histories.proofs.Ways as way

abbrev Counts : CoreState → CoreState → Passed → Type 0
Counts old new p = unanswered new + length p.reply_pairs ≡ unanswered old + length p.come

way_counts : (g : Geometry) (old : MachineState) {event : Event} {p : Passed} → Way g old event p → Counts old.core event.state_after.core p
way_counts g old (way.Arrives m works fits) = omega (arith, length-append old.core.waiting ((old.core.next, m) ∷ []))
way_counts g old (way.Grants hand found works free first) =
    omega (arith, length-picked (is_eligible g old.core) old.core.waiting found first, ap length (held_grant old.core found), length-append {A = Entry})
way_counts g old (way.Backs i ticket found result one_out) =
    let fewer = length-picked (λ d. d.0 == ticket) old.core.in_flight found one_out in
    omega (arith, fewer, length-append {A = Replied}, length_held old.core, length_held (give_back g old.core found))
way_counts g old (way.Logs n works) = omega (arith, ap length (log_held g old.core n))
way_counts g old (way.Answers a rest front) =
    let was : unanswered old.core ≡ unanswered (record old.core { logged = a ∷ rest }) = ap (λ l. unanswered (record old.core { logged = l })) front in
    omega (arith, was)
way_counts g old _ = omega arith

-- What waits or is held at the end and what was answered is what waited or was held in the beginning and what arrived.
pub run_counts : (g : Geometry) (old : MachineState) (events : List Event) → IsLegal g old events
    → unanswered (end_state old events).core + length (answered events) ≡ unanswered old.core + length (arrived events)
run_counts g old [] legal = omega arith
run_counts g old (event ∷ events) legal =
    let moved = way_counts g old (ways g old event legal.0) in
    omega (arith, moved, run_counts g event.state_after events legal.1, length-append {A = ℕ × Reply}, length-append {A = Entry})
