-- Lines whose tickets go up by one: each has its place, and an answer leaves the others as they are.
use Rattle.std.proofs.lemmas.Grind.{common_steps}
use Rattle.std.proofs.Common.{◌≡◌, ℕ, ◌+◌, ◌<◌, ◌≤◌, zero, suc, List, [], ◌∷◌, ◌⊎◌, inl, inr, length, map, set, get_or, refl, ap, sym, ◌∙◌, subst, arith}
use Rattle.protocol.specs.declared.replies.Reply.{Reply}
use Rattle.reorder_buffer.specs.ReorderBuffer.{Completed, Line, NoMessage, OutOfRange, Pending, complete_one, HaveTicketsFrom, HasTicket}

-- a line that is pending or completed is that of a message with some ticket
pub ticket_in : (line : Line) → ((ticket : ℕ) × (line ≡ Pending ticket)) ⊎ ((ticket : ℕ) × (reply : Reply) × (line ≡ Completed ticket reply))
    → (ticket : ℕ) × HasTicket ticket line
ticket_in line (inl (ticket, is)) = (ticket, subst (λ (l : Line). HasTicket ticket l) (sym is) refl)
ticket_in line (inr (ticket, reply, is)) = (ticket, subst (λ (l : Line). HasTicket ticket l) (sym is) refl)

module _ (ticket : ℕ) (reply : Reply) where
  -- ---- what an answer leaves

  -- The answer leaves these lines as they are.
  abbrev Left : List Line → Type 0
  Left lines = map (complete_one ticket reply) lines ≡ lines

  -- lines stay that all have greater tickets
  pub greater_left : (n : ℕ) (ticketed : List Line) → ticket < n → HaveTicketsFrom n ticketed → Left ticketed
  greater_left n [] lt from = refl
  greater_left n (line ∷ ticketed) lt from = grind (arith, common_steps, greater_left (n + 1) ticketed)

  -- lines stay that all have smaller tickets
  pub smaller_left : (n : ℕ) (ticketed : List Line) → n + length ticketed ≤ ticket → HaveTicketsFrom n ticketed → Left ticketed
  smaller_left n [] le from = refl
  smaller_left n (line ∷ ticketed) le from = grind (arith, common_steps, smaller_left (n + 1) ticketed)

  -- only the line at index i changes, where the line of the ticket is
  pub changes_one : (n i : ℕ) (ticketed : List Line) (line : Line) → n + i ≡ ticket → i < length ticketed → HaveTicketsFrom n ticketed → line ≡ get_or ticketed i line
      → map (complete_one ticket reply) ticketed ≡ set ticketed i (complete_one ticket reply line)
  changes_one n i [] line is within from there = absurd (omega (arith, within))
  changes_one n zero (first ∷ ticketed) line is within from there =
      ap (λ (l : List Line). complete_one ticket reply first ∷ l) (greater_left (n + 1) ticketed (omega (arith, is)) from.1)
      ∙ ap (λ (l : Line). complete_one ticket reply l ∷ ticketed) (sym there)
  changes_one n (suc i) (first ∷ ticketed) line is within from there = grind (arith, common_steps, changes_one (n + 1) i ticketed line)

  -- ---- lines that stay in order

  of_answered : (n : ℕ) (line : Line) → HasTicket n line → HasTicket n (complete_one ticket reply line)
  of_answered n NoMessage of = of
  of_answered n OutOfRange of = of
  of_answered n (Completed t r) of = of
  of_answered n (Pending t) of = grind (arith, common_steps)

  pub answered_in_order : (n : ℕ) (lines : List Line) → HaveTicketsFrom n lines → HaveTicketsFrom n (map (complete_one ticket reply) lines)
  answered_in_order n [] from = from
  answered_in_order n (line ∷ lines) from = (of_answered n line from.0, answered_in_order (n + 1) lines from.1)
