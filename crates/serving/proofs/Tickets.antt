-- The tickets that lines and a run give, one after the other.
use Rattle.std.proofs.Common.{◌≡◌, ℕ, ◌+◌, List, [], ◌∷◌, ◌++◌, refl, ap, sym, ◌∙◌, ◌<◌, ◌≤◌, arith, append_assoc, length}
use Rattle.std.proofs.lemmas.List.{map-append}
use Rattle.affinity.specs.declared.geometry.Geometry.{Geometry}
use Rattle.histories.proofs.Ways.{Passed, Way, ways}
use Rattle.histories.proofs.Ways as way
use Rattle.histories.specs.Events.{Event}
use Rattle.histories.specs.MachineState.{MachineState}
use Rattle.histories.specs.Runs.{IsLegal, arrived, arrives, end_state}
use Rattle.histories.specs.CoreState.{Entry, AreAscending}
use Rattle.scheduler.specs.Machine.{MachineView, machine_of}
use Rattle.scheduler.specs.DeviceEvents.{events_of}
use Rattle.protocol.specs.declared.messages.Msg.{Msg}
use Rattle.protocol.specs.declared.replies.Reply.{Reply}
use Rattle.protocol.specs.Grammar.{message_of}
use Rattle.meaning.specs.TicketOrder.{messages_of}
use Rattle.serving.specs.Lines.{next_ticket, ticketed, admitted, admitted_in}
use Rattle.serving.specs.Runs.{RunsBetween}
use Rattle.std.specs.List.{AllByRecursion}

pub next-append : (n : ℕ) (ms more : List Msg) → next_ticket n (ms ++ more) ≡ next_ticket (next_ticket n ms) more
next-append n [] more = refl
next-append n (m ∷ ms) more = next-append (n + 1) ms more

pub ticketed-append : (n : ℕ) (ms more : List Msg) → ticketed n (ms ++ more) ≡ ticketed n ms ++ ticketed (next_ticket n ms) more
ticketed-append n [] more = refl
ticketed-append n (m ∷ ms) more = ap (λ l. (n, m) ∷ l) (ticketed-append (n + 1) ms more)

-- ---- the next ticket after a run

way_next : (g : Geometry) (old : MachineState) {event : Event} {p : Passed} → Way g old event p
    → event.state_after.core.next ≡ next_ticket old.core.next (messages_of p.come)
way_next g old (way.Arrives m works fits) = refl
way_next g old _ = refl

pub run_next : (g : Geometry) (old : MachineState) (events : List Event) → IsLegal g old events
    → (end_state old events).core.next ≡ next_ticket old.core.next (messages_of (arrived events))
run_next g old [] legal = refl
run_next g old (event ∷ events) legal =
    let come = arrives event.step event.outcome in
    run_next g event.state_after events legal.1
    ∙ ap (λ n. next_ticket n (messages_of (arrived events))) (way_next g old (ways g old event legal.0))
    ∙ sym (next-append old.core.next (messages_of come) (messages_of (arrived events)))
    ∙ ap (next_ticket old.core.next) (sym (map-append (λ (e : Entry). e.1) come (arrived events)))

pub passes_next : {keeps : Type 0} {old new : MachineView} {arriving : List Entry} {reply_pairs : List (ℕ × Reply)} → RunsBetween keeps old new arriving reply_pairs
    → new.core.next ≡ next_ticket old.core.next (messages_of arriving)
passes_next {old} p =
    ap (λ (w : MachineState). w.core.next) (sym p.leads.ends) ∙ run_next old.core.geometry (machine_of old) (events_of p.device_events) p.leads.legal
    ∙ ap (λ (es : List Entry). next_ticket old.core.next (messages_of es)) p.arrived_are

pub messages-ticketed : (n : ℕ) (ms : List Msg) → messages_of (ticketed n ms) ≡ ms
messages-ticketed n [] = refl
messages-ticketed n (m ∷ ms) = ap (λ l. m ∷ l) (messages-ticketed (n + 1) ms)

pub all_after : (n k : ℕ) (ms : List Msg) → n < k → AllByRecursion (λ e. n < e.0) (ticketed k ms)
all_after n k [] less = tt
all_after n k (m ∷ ms) less = (less, all_after n (k + 1) ms (omega (arith, less)))

pub next_from : (n : ℕ) (ms : List Msg) → n ≤ next_ticket n ms
next_from n [] = omega arith
next_from n (m ∷ ms) = let from = next_from (n + 1) ms in omega (arith, from)

pub admitted-append : (g : Geometry) (ls ms : List (List ℕ)) → admitted g (ls ++ ms) ≡ admitted g ls ++ admitted g ms
admitted-append g [] ms = refl
admitted-append g (l ∷ ls) ms =
    ap (λ z. admitted_in g (message_of l) ++ z) (admitted-append g ls ms) ∙ sym (append_assoc (admitted_in g (message_of l)) (admitted g ls) (admitted g ms))

pub length-ticketed : (n : ℕ) (ms : List Msg) → length (ticketed n ms) ≡ length ms
length-ticketed n [] = refl
length-ticketed n (m ∷ ms) = let l = length-ticketed (n + 1) ms in omega (arith, l)

pub ascending : (n : ℕ) (ms : List Msg) → AreAscending (ticketed n ms)
ascending n [] = tt
ascending n (m ∷ ms) = (all_after n (n + 1) ms (omega arith), ascending (n + 1) ms)
