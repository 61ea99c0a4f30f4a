-- There are no more messages in the core than lines that are not answered in the output, since each line that was written was answered.
use Rattle.std.proofs.Common.{◌≡◌, ℕ, ◌+◌, ◌<◌, ◌≤◌, Bool, true, false, List, [], ◌∷◌, ◌++◌, Option, Some, None, ap, sym, length, ⊎_elim, arith}
use Rattle.std.specs.Prelude.{if◌then◌else◌, nat_le}
use Rattle.std.specs.List.{AllByRecursion}
use Rattle.std.proofs.lemmas.Bool.{le-leb, true≢false}
use Rattle.std.proofs.lemmas.List.{length-append, nil_from_length}
use Rattle.std.proofs.lemmas.Bool.Decides.{nat_tests}
use Rattle.affinity.specs.declared.geometry.Geometry.{Geometry}
use Rattle.histories.proofs.Elements.{in_contained, IsIn}
use Rattle.histories.specs.MachineState.{MachineState}
use Rattle.histories.specs.Runs.{end_state}
use Rattle.histories.specs.CoreState.{CoreState, Entry, held, IsIdle}
use Rattle.scheduler.specs.Machine.{MachineView, machine_of}
use Rattle.scheduler.specs.DeviceEvents.{events_of}
use Rattle.protocol.specs.Grammar.{message_of}
use Rattle.protocol.specs.Messages.{is_in_range}
use Rattle.protocol.specs.declared.messages.Msg.{Msg}
use Rattle.protocol.specs.declared.replies.Reply.{Reply}
use Rattle.scheduler.specs.CoreView.{core_state_of}
use Rattle.serving.specs.Progress.{ServingProgress, IsServing}
use Rattle.serving.specs.Lines.{Completed, AreKnown, IsKnown, Line, NoMessage, OutOfRange, Pending, admitted, admitted_in, has_answer, next_ticket}
use Rattle.serving.specs.Runs.{RunsBetween, unanswered}
use Rattle.serving.proofs.MessageCounts.{run_counts}
use Rattle.serving.proofs.Tickets.{length-ticketed}

-- ---- how many of the replies are to a ticket or to a later one

abbrev one : ℕ → ℕ → ℕ
one n ticket = if nat_le n ticket then 1 else 0

one_from : (n ticket : ℕ) → n ≤ ticket → one n ticket ≡ 1
one_from n ticket h = ap (λ (b : Bool). if b then 1 else 0) (le-leb n ticket h)

one_before : (n ticket : ℕ) → ticket < n → one n ticket ≡ 0
one_before n ticket h = grind (arith, nat_tests)

one_most : (n ticket : ℕ) → one n ticket ≤ 1
one_most n ticket = elim (nat_le n ticket) as (λ b. (if b then 1 else 0) ≤ 1) [ true ↦ omega arith | false ↦ omega arith ]

one_less : (n ticket : ℕ) → one (n + 1) ticket ≤ one n ticket
one_less n ticket = grind (arith, nat_tests)

abbrev later : ℕ → List (ℕ × Reply) → ℕ
later n [] = 0
later n (p ∷ ps) = one n p.0 + later n ps

later_less : (n : ℕ) (ps : List (ℕ × Reply)) → later (n + 1) ps ≤ later n ps
later_less n [] = omega arith
later_less n (p ∷ ps) = let o = one_less n p.0 in let l = later_less n ps in omega (arith, o, l)

later_most : (n : ℕ) (ps : List (ℕ × Reply)) → later n ps ≤ length ps
later_most n [] = omega arith
later_most n (p ∷ ps) = let o = one_most n p.0 in let l = later_most n ps in omega (arith, o, l)

-- if a reply is to ticket n, fewer replies are to tickets after n than to n and those after it
later_one : (n : ℕ) (reply : Reply) (ps : List (ℕ × Reply)) → IsIn (n, reply) ps → later (n + 1) ps + 1 ≤ later n ps
later_one n reply [] is = absurd is
later_one n reply (p ∷ ps) is = ⊎_elim
    (λ (e : (n, reply) ≡ p).
    let same : n ≡ p.0 = ap (λ (q : ℕ × Reply). q.0) e in
    omega (arith, one_from n p.0 (omega (arith, same)), one_before (n + 1) p.0 (omega (arith, same)), later_less n ps))
    (λ rest. let o = one_less n p.0 in let l = later_one n reply ps rest in omega (arith, o, l)) is

-- ---- the lines

module _ (g : Geometry) (replies : List (ℕ × Reply)) where
  few_asked : (o : Option Msg) → length (admitted_in g o) ≤ 1
  few_asked None = omega arith
  few_asked (Some m) = elim (is_in_range g m) as (λ b. length (if b then m ∷ [] else []) ≤ 1) [ true ↦ omega arith | false ↦ omega arith ]

  -- Each line takes at most one ticket.
  unsent_take : (n : ℕ) (ls : List (List ℕ)) (unsent : List Line) → AreKnown g replies n ls unsent → length (admitted g ls) ≤ length unsent
  unsent_take n [] [] k = omega arith
  unsent_take n (l ∷ ls) (known ∷ unsent) k =
      let o = message_of l in
      omega (arith, unsent_take (next_ticket n (admitted_in g o)) ls unsent k.1, few_asked o, length-append (admitted_in g o) (admitted g ls))
  unsent_take n ls unsent k = absurd k

  -- A line that has its answer takes no ticket, or one to which a reply was given.
  answered_takes : (n : ℕ) (o : Option Msg) (known : Line) → IsKnown g replies n o known → has_answer known ≡ true
      → length (admitted_in g o) + later (next_ticket n (admitted_in g o)) replies ≤ later n replies
  answered_takes n None NoMessage k done = omega arith
  answered_takes n (Some m) OutOfRange k done = rw k (omega arith)
  answered_takes n (Some m) (Pending ticket) k done = absurd (true≢false (sym done))
  answered_takes n (Some m) (Completed ticket reply) k done =
      let is : IsIn (n, reply) replies = rw k.1 at (in_contained replies (ticket, reply) k.2) in
      rw k.0 (omega (arith, later_one n reply replies is))
  answered_takes n o known k done = absurd k

  -- No more lines take tickets than there are replies to ticket n or later ones, and lines that are not sent.
  lines_take : (n : ℕ) (ls : List (List ℕ)) (sent_lines unsent : List Line) → AreKnown g replies n ls (sent_lines ++ unsent)
      → AllByRecursion (λ line. has_answer line ≡ true) sent_lines → length (admitted g ls) ≤ later n replies + length unsent
  lines_take n ls [] unsent k done = let l = unsent_take n ls unsent k in omega (arith, l)
  lines_take n [] (known ∷ sent_lines) unsent k done = absurd k
  lines_take n (l ∷ ls) (known ∷ sent_lines) unsent k done =
      let o = message_of l in
      let here = answered_takes n o known k.0 done.0 in
      omega (arith, here, lines_take (next_ticket n (admitted_in g o)) ls sent_lines unsent k.1 done.1, length-append {A = Msg})

-- ---- the core

pub idle_inside : (w : CoreState) → IsIdle w → unanswered w ≡ 0
idle_inside w h = let waits = ap length h.none_waits in let holds = ap length h.none_held in omega (arith, waits, holds)

none_inside : (w : CoreState) → unanswered w ≤ 0 → IsIdle w
none_inside w h = record { none_waits = nil_from_length w.waiting (omega (arith, h)); none_held = nil_from_length (held w) (omega (arith, h)) }

-- How many messages wait or are held grows by the arrivals, less those that were answered.
pub passes_count : {keeps : Type 0} {old new : MachineView} {arriving : List Entry} {reply_pairs : List (ℕ × Reply)} → RunsBetween keeps old new arriving reply_pairs
    → unanswered (core_state_of new.core) + length reply_pairs ≡ unanswered (core_state_of old.core) + length arriving
passes_count {old} {new} p =
    let run = run_counts old.core.geometry (machine_of old) (events_of p.device_events) p.leads.legal in
    let ends : unanswered (end_state (machine_of old) (events_of p.device_events)).core ≡ unanswered (core_state_of new.core) = ap (λ (w : MachineState). unanswered w.core) p.leads.ends in
    omega (arith, run, ends, ap length p.arrived_are, ap length p.reply_pairs_are)

module _ {keeps : Type 0} {start now : MachineView} (idle : IsIdle (core_state_of start.core)) where
  serving_inside : {consumed : List (List ℕ)} {sent_lines unsent : List Line} → IsServing keeps start now consumed sent_lines unsent
      → unanswered (core_state_of now.core) ≤ length unsent
  serving_inside {consumed} {sent_lines} {unsent} s =
      let g = start.core.geometry in
      let n = start.core.next in
      let takes = lines_take g s.reply_pairs n consumed sent_lines unsent s.known s.answered in
      let none = idle_inside (core_state_of start.core) idle in
      omega (arith, takes, none, passes_count s.segment, length-ticketed n (admitted g consumed), later_most n s.reply_pairs)

  -- No more messages wait or are held than there are lines that were read and aren't written.
  pub few_inside : {unsent : List Line} {input unread : Option (List ℕ)} {ended : Bool} {before written : Option (List ℕ)}
      → ServingProgress keeps start now unsent input unread ended before written → unanswered (core_state_of now.core) ≤ length unsent
  few_inside h = serving_inside h.serving

  -- Where all is written, nothing waits and nothing is held.
  pub idle_again : {input unread : Option (List ℕ)} {ended : Bool} {before written : Option (List ℕ)}
      → ServingProgress keeps start now [] input unread ended before written → IsIdle (core_state_of now.core)
  idle_again h = none_inside (core_state_of now.core) (few_inside h)
