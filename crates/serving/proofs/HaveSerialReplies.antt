-- Lines of which the answers are known, compared with the lines of the serial server.
use Rattle.std.proofs.Common.{◌≡◌, ◌⊎◌, ℕ, suc, ◌+◌, ◌<◌, Bool, true, false, List, [], ◌∷◌, ◌++◌, Option, Some, None, refl, ap, sym, ◌∙◌, length, map, take, drop, inl, inr, ⊎_elim, arith, append-nil, subst}
use Rattle.std.specs.Prelude.{if◌then◌else◌, find, not}
use Rattle.std.specs.List.{AllByRecursion}
use Rattle.std.proofs.lemmas.Bool.{true≢false}
use Rattle.std.specs.Option.{option_map_or}
use Rattle.histories.specs.CoreState.{Entry}
use Rattle.affinity.specs.declared.geometry.Geometry.{Geometry}
use Rattle.affinity.specs.declared.kinds.Kind.{Kind}
use Rattle.affinity.specs.declared.kinds.Kind.TheVariants as kinds
use Rattle.affinity.specs.Place.{is_in_range as numbers_are_in_range}
use Rattle.histories.proofs.Elements.{in_contained, IsIn}
use Rattle.protocol.specs.Grammar.{message_of}
use Rattle.protocol.specs.Messages.{is_in_range, kind, four_numbers}
use Rattle.protocol.specs.Replies.{reply_line}
use Rattle.protocol.specs.declared.messages.Msg.{Msg}
use Rattle.protocol.specs.declared.replies.Refusal.TheVariants.{Range}
use Rattle.protocol.specs.declared.replies.Reply.{Reply}
use Rattle.protocol.specs.declared.replies.Reply.TheVariants.{Refused}
use Rattle.meaning.proofs.OutputLemmas.{take-output_lines}
use Rattle.meaning.specs.TicketOrder.{serial_replies}
use Rattle.meaning.specs.Output.{answer_line, output_lines, state_after_line, state_after_lines}
use Rattle.meaning.specs.Step.{accepted_reply, effect, state_after_all, next_state, reply_to}
use Rattle.meaning.specs.Refusals.{passes, refusal_by, checks}
use Rattle.meaning.specs.State.{State}
use Rattle.serving.specs.Lines.{Completed, AreKnown, IsKnown, Line, NoMessage, OutOfRange, Pending, admitted, admitted_in, has_answer, next_ticket, answer_text, ticketed}
use Rattle.serving.proofs.Tickets.{all_after, next_from}

-- ---- a message that is out of range

module _ (g : Geometry) (x : State) where
  -- the check of each kind that fails first: all but `summary` begin with that of the range
  refused : (k : Kind) (ns : List ℕ) → numbers_are_in_range g k ns ≡ false → refusal_by g x k ns ≡ Some Range
  refused kinds.Summary ns h = absurd (true≢false h)
  refused k ns h = ap (λ (b : Bool). if not b then Some Range else find (λ test. not (passes g x k ns test)) (drop 1 (checks k))) h

  pub out_of_range : (m : Msg) → is_in_range g m ≡ false → (reply_to g x m ≡ Refused Range) × (next_state g x m ≡ x)
  out_of_range m h =
      let why = refused (kind m) (four_numbers m) h in
      (ap (λ o. option_map_or Refused o (accepted_reply g x m)) why, ap (λ o. option_map_or (λ _. x) o (effect x m)) why)

-- ---- the tickets

pub serial_after : (g : Geometry) (x : State) (n : ℕ) (es : List Entry) (p : ℕ × Reply) → AllByRecursion (λ e. n < e.0) es → IsIn p (serial_replies g x es) → n < p.0
serial_after g x n [] p h is = absurd is
serial_after g x n (e ∷ es) p h is = ⊎_elim
    (λ (same : p ≡ (e.0, reply_to g x e.1)). let at : p.0 ≡ e.0 = ap (λ (q : ℕ × Reply). q.0) same in omega (arith, at, h.0))
    (λ later. serial_after g (next_state g x e.1) n es p h.1 later) is

pub ticket_earlier : (g : Geometry) (x : State) (n : ℕ) (ms : List Msg) (p : ℕ × Reply) → IsIn p (serial_replies g x (ticketed n ms)) → p.0 < next_ticket n ms
ticket_earlier g x n [] p is = absurd is
ticket_earlier g x n (m ∷ ms) p is = ⊎_elim
    (λ (e : p ≡ (n, reply_to g x m)).
    let same : p.0 ≡ n = ap (λ (q : ℕ × Reply). q.0) e in let from = next_from (n + 1) ms in omega (arith, same, from))
    (λ later. ticket_earlier g (next_state g x m) (n + 1) ms p later) is

-- ---- the lines

module _ (g : Geometry) (replies : List (ℕ × Reply)) where
  -- Each reply is to a ticket before n, or is the serial server's to one of these messages.
  abbrev pub HaveSerialReplies : State → ℕ → List Entry → Type 0
  HaveSerialReplies x n es = (p : ℕ × Reply) → IsIn p replies → (p.0 < n) ⊎ IsIn p (serial_replies g x es)

  -- A line that has its answer is answered as the serial server answers it, and the other replies are the serial server's from the state
  -- after it.
  record IsServedBy (x : State) (n : ℕ) (ms : List Msg) (o : Option Msg) (known : Line) : Type 0 where
    retires : answer_text known ≡ answer_line g x o
    tells : HaveSerialReplies (state_after_line g x o) (next_ticket n (admitted_in g o)) (ticketed (next_ticket n (admitted_in g o)) ms)

  pub with_ticket : (x : State) (n : ℕ) (es : List Entry) (m : Msg) → HaveSerialReplies x n ((n, m) ∷ es) → HaveSerialReplies (next_state g x m) (n + 1) es
  with_ticket x n es m h p is = ⊎_elim
      (λ (lt : p.0 < n). inl (omega (arith, lt)))
      (λ here. ⊎_elim (λ (e : p ≡ (n, reply_to g x m)). let same : p.0 ≡ n = ap (λ (q : ℕ × Reply). q.0) e in inl (omega (arith, same)))
      (λ later. inr later) here)
      (h p is)

  pub its_reply : (x : State) (n : ℕ) (es : List Entry) (m : Msg) (reply : Reply) → AllByRecursion (λ e. n < e.0) es → HaveSerialReplies x n ((n, m) ∷ es)
      → IsIn (n, reply) replies → reply ≡ reply_to g x m
  its_reply x n es m reply after h is = ⊎_elim
      (λ (lt : n < n). absurd (omega (arith, lt)))
      (λ here. ⊎_elim (λ (e : (n, reply) ≡ (n, reply_to g x m)). ap (λ (q : ℕ × Reply). q.1) e)
      (λ later. absurd (omega (arith, serial_after g (next_state g x m) n es (n, reply) after later))) here)
      (h (n, reply) is)

  served_line : (x : State) (n : ℕ) (ms : List Msg) (o : Option Msg) (known : Line) → HaveSerialReplies x n (ticketed n (admitted_in g o ++ ms))
      → IsKnown g replies n o known → has_answer known ≡ true → IsServedBy x n ms o known
  served_line x n ms None NoMessage h k done = record { retires = refl; tells = h }
  served_line x n ms (Some m) OutOfRange h k done =
      let same = out_of_range g x m k in
      let tells = subst (λ (y : State). HaveSerialReplies y n (ticketed n ms)) (sym same.1) (rw k at h) in
      record { retires = ap reply_line (sym same.0); tells = rw k tells }
  served_line x n ms (Some m) (Pending ticket) h k done = absurd (true≢false (sym done))
  served_line x n ms (Some m) (Completed ticket reply) h k done =
      let on : HaveSerialReplies x n (ticketed n (m ∷ ms)) = rw k.0 at h in
      let later = ticketed (n + 1) ms in
      let is : IsIn (n, reply) replies = rw k.1 at (in_contained replies (ticket, reply) k.2) in
      record { retires = ap reply_line (its_reply x n later m reply (all_after n (n + 1) ms (omega arith)) on is); tells = rw k.0 (with_ticket x n later m on) }
  served_line x n ms o known h k done = absurd k

  -- The answers to the lines that were sent are the first lines of the serial server's output.
  module _ (more : List (List ℕ)) (unsent : List Line) where
    pub sent_lines_are_serial : (x : State) (n : ℕ) (ls : List (List ℕ)) (sent_lines : List Line) → HaveSerialReplies x n (ticketed n (admitted g ls))
        → AreKnown g replies n ls (sent_lines ++ unsent) → AllByRecursion (λ line. has_answer line ≡ true) sent_lines
        → map answer_text sent_lines ≡ take (length sent_lines) (output_lines g x (ls ++ more))
    sent_lines_are_serial x n ls [] h k done = refl
    sent_lines_are_serial x n [] (known ∷ sent_lines) h k done = absurd k
    sent_lines_are_serial x n (l ∷ ls) (known ∷ sent_lines) h k done =
        let o = message_of l in
        let one = served_line x n (admitted g ls) o known h k.0 done.0 in
        let rest = sent_lines_are_serial (state_after_line g x o) (next_ticket n (admitted_in g o)) ls sent_lines one.tells k.1 done.1 in
        λ i. one.retires i ∷ rest i

  pub as_many : (n : ℕ) (ls : List (List ℕ)) (lines : List Line) → AreKnown g replies n ls lines → length lines ≡ length ls
  as_many n [] [] k = refl
  as_many n (l ∷ ls) (known ∷ lines) k = ap suc (as_many (next_ticket n (admitted_in g (message_of l))) ls lines k.1)
  as_many n ls lines k = absurd k

  -- Where each line was sent, the answers are all lines of that output.
  pub all_lines_answered : (x : State) (n : ℕ) (ls : List (List ℕ)) (sent_lines : List Line) → HaveSerialReplies x n (ticketed n (admitted g ls))
      → AreKnown g replies n ls (sent_lines ++ []) → AllByRecursion (λ line. has_answer line ≡ true) sent_lines
      → map answer_text sent_lines ≡ output_lines g x ls
  all_lines_answered x n ls sent_lines h k done =
      sent_lines_are_serial [] [] x n ls sent_lines h k done
      ∙ (λ i. take (many i) (output_lines g x (ls ++ [])))
      ∙ take-output_lines g x ls []
    where
      many : length sent_lines ≡ length ls
      many = ap length (sym (append-nil sent_lines)) ∙ as_many n ls (sent_lines ++ []) k

-- ---- the state

asked_leads : (g : Geometry) (x : State) (o : Option Msg) (ms : List Msg) → state_after_all g x (admitted_in g o ++ ms) ≡ state_after_all g (state_after_line g x o) ms
asked_leads g x None ms = refl
asked_leads g x (Some m) ms = elim (is_in_range g m) as
    (λ b. is_in_range g m ≡ b → state_after_all g x ((if b then m ∷ [] else []) ++ ms) ≡ state_after_all g (next_state g x m) ms) [
      | true ↦ λ e. refl
      | false ↦ λ e. ap (λ y. state_after_all g y ms) (sym (out_of_range g x m e).1)
    ] refl

pub asked_leads_there : (g : Geometry) (x : State) (ls : List (List ℕ)) → state_after_all g x (admitted g ls) ≡ state_after_lines g x ls
asked_leads_there g x [] = refl
asked_leads_there g x (l ∷ ls) = asked_leads g x (message_of l) (admitted g ls) ∙ asked_leads_there g (state_after_line g x (message_of l)) ls
