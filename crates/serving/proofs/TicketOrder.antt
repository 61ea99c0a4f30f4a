-- The lines of the reorder buffer that have tickets have them in order, and the next ticket is the one after theirs.
use Rattle.std.proofs.Common.{◌≡◌, ℕ, List, [], ◌∷◌, ◌++◌, Option, Some, None, refl, sym, subst}
use Rattle.affinity.specs.declared.geometry.Geometry.{Geometry}
use Rattle.scheduler.specs.Machine.{MachineView}
use Rattle.protocol.specs.Grammar.{message_of}
use Rattle.protocol.specs.declared.messages.Msg.{Msg}
use Rattle.protocol.specs.declared.replies.Reply.{Reply}
use Rattle.serving.specs.Progress.{IsServing}
use Rattle.serving.specs.Lines.{Completed, AreKnown, IsKnown, Line, NoMessage, OutOfRange, Pending, admitted, admitted_in, next_ticket}
use Rattle.reorder_buffer.specs.ReorderBuffer.{HaveTicketsFrom, AreConsecutive, with_tickets}
use Rattle.serving.proofs.TakesLine.{next_is}
use Rattle.serving.proofs.Tickets.{next-append}

module _ (g : Geometry) (reply_pairs : List (ℕ × Reply)) where
  -- the lines that have tickets have consecutive ones from n on, and the ticket after these is `last`
  abbrev Follow : ℕ → ℕ → List Line → Type 0
  Follow n last lines = HaveTicketsFrom n (with_tickets lines ++ Pending last ∷ [])

  one_follows : (n last : ℕ) (o : Option Msg) (known : Line) (lines : List Line) → IsKnown g reply_pairs n o known
      → Follow (next_ticket n (admitted_in g o)) last lines → Follow n last (known ∷ lines)
  one_follows n last None NoMessage lines k rest = rest
  one_follows n last (Some m) OutOfRange lines k rest = rw k at rest
  one_follows n last (Some m) (Pending t) lines k rest = (k.1, rw k.0 at rest)
  one_follows n last (Some m) (Completed t r) lines k rest = (k.1, rw k.0 at rest)
  one_follows n last o known lines k rest = absurd k

  after_one : (n : ℕ) (o : Option Msg) (ls : List (List ℕ))
      → next_ticket (next_ticket n (admitted_in g o)) (admitted g ls) ≡ next_ticket n (admitted_in g o ++ admitted g ls)
  after_one n o ls = sym (next-append n (admitted_in g o) (admitted g ls))

  lines_follow : (n : ℕ) (ls : List (List ℕ)) (lines : List Line) → AreKnown g reply_pairs n ls lines → Follow n (next_ticket n (admitted g ls)) lines
  lines_follow n [] [] k = (refl, tt)
  lines_follow n (l ∷ ls) (known ∷ lines) k =
      let o = message_of l in
      one_follows n (next_ticket n (admitted_in g o ++ admitted g ls)) o known lines k.0
      (subst (λ (last : ℕ). Follow (next_ticket n (admitted_in g o)) last lines) (after_one n o ls)
      (lines_follow (next_ticket n (admitted_in g o)) ls lines k.1))
  lines_follow n ls lines k = absurd k

  rest_follows : (n : ℕ) (ls : List (List ℕ)) (sent_lines unsent : List Line) → AreKnown g reply_pairs n ls (sent_lines ++ unsent)
      → AreConsecutive (with_tickets unsent ++ Pending (next_ticket n (admitted g ls)) ∷ [])
  rest_follows n ls [] unsent k = (n, lines_follow n ls unsent k)
  rest_follows n [] (known ∷ sent_lines) unsent k = absurd k
  rest_follows n (l ∷ ls) (known ∷ sent_lines) unsent k =
      let o = message_of l in
      subst (λ (last : ℕ). AreConsecutive (with_tickets unsent ++ Pending last ∷ [])) (after_one n o ls)
      (rest_follows (next_ticket n (admitted_in g o)) ls sent_lines unsent k.1)

-- The next ticket comes after those of the reorder buffer.
pub next_follows : {keeps : Type 0} {start now : MachineView} {consumed : List (List ℕ)} {sent_lines unsent : List Line} → IsServing keeps start now consumed sent_lines unsent
    → AreConsecutive (with_tickets unsent ++ Pending now.core.next ∷ [])
next_follows {start} {consumed} {sent_lines} {unsent} s =
    subst (λ (last : ℕ). AreConsecutive (with_tickets unsent ++ Pending last ∷ [])) (sym (next_is s))
    (rest_follows start.core.geometry s.reply_pairs start.core.next consumed sent_lines unsent s.known)
