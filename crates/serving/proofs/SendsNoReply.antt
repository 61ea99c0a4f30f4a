-- While each message that has arrived is still in the core, waiting or held, no reply may be sent.
use Rattle.std.proofs.Common.{◌≡◌, ◌⊎◌, inl, inr, refl, ℕ, ◌+◌, List, [], ◌∷◌, ◌++◌, Option, Some, None, ap, sym, length, map, arith}
use Rattle.std.specs.Prelude.{slice_index_or}
use Rattle.std.specs.List.{AllByRecursion}
use Rattle.std.proofs.lemmas.Bool.{true≢false}
use Rattle.std.proofs.lemmas.List.{length-map, nil_from_length}
use Rattle.affinity.specs.declared.geometry.Geometry.{Geometry}
use Rattle.histories.proofs.Elements.{in_contained}
use Rattle.histories.specs.CoreState.{Entry}
use Rattle.protocol.specs.Grammar.{message_of}
use Rattle.protocol.specs.Replies.{no_message, reply_line}
use Rattle.protocol.specs.declared.messages.Msg.{Msg}
use Rattle.protocol.specs.declared.replies.Refusal.TheVariants.{Range}
use Rattle.protocol.specs.declared.replies.Reply.TheVariants.{Done, Refused}
use Rattle.meaning.specs.TicketOrder.{messages_of}
use Rattle.meaning.specs.Output.{joined}
use Rattle.scheduler.specs.CoreView.{CoreView, core_state_of}
use Rattle.serving.specs.Lines.{Completed, HaveAnswers, AreKnown, IsKnown, Line, NoMessage, OutOfRange, Pending, admitted, admitted_in, next_ticket, answer_text, ticketed}
use Rattle.serving.specs.Runs.{unanswered}
use Rattle.serving.specs.MaySend.{MaySendFrom, MaySend, SendsNoReply}
use Rattle.serving.specs.Start.{Start}
use Rattle.serving.proofs.Outstanding.{idle_inside, passes_count}
use Rattle.serving.proofs.Tickets.{passes_next}

-- a line that is answered without a reply to a message in range: it is no message, or one that is out of range
abbrev pub HasNoReply : Line → Type 0
HasNoReply (Pending ticket) = ⊥
HasNoReply (Completed ticket reply) = ⊥
HasNoReply _ = Unit {0}

-- ---- lines that are known where no reply was given

next_counts : (n : ℕ) (ms : List Msg) → next_ticket n ms ≡ n + length ms
next_counts n [] = omega arith
next_counts n (m ∷ ms) = let k = next_counts (n + 1) ms in omega (arith, k)

one_silent : (g : Geometry) (n : ℕ) (o : Option Msg) (line : Line) → IsKnown g [] n o line → HaveAnswers (line ∷ []) → HasNoReply line
one_silent g n o NoMessage k a = tt
one_silent g n o OutOfRange k a = tt
one_silent g n o (Pending t) k a = absurd (true≢false (sym a.0))
one_silent g n None (Completed t reply) k a = absurd k
one_silent g n (Some m) (Completed t reply) k a = absurd (in_contained [] (t, reply) k.2)

all_silent : (g : Geometry) (n : ℕ) (ls : List (List ℕ)) (sent_lines next rest : List Line) → AreKnown g [] n ls (sent_lines ++ (next ++ rest)) → HaveAnswers next
    → AllByRecursion HasNoReply next
all_silent g n ls [] [] rest k a = tt
all_silent g n (l ∷ ls) [] (line ∷ next) rest k a =
    (one_silent g n (message_of l) line k.0 (a.0, tt), all_silent g (next_ticket n (admitted_in g (message_of l))) ls [] next rest k.1 a.1)
all_silent g n (l ∷ ls) (line ∷ sent_lines) next rest k a = all_silent g (next_ticket n (admitted_in g (message_of l))) ls sent_lines next rest k.1 a
all_silent g n ls sent_lines next rest k a = absurd k

-- ---- the answers so far

module _ (keeps : Type 0) (s : Start) (sent : Option (List ℕ)) (now : CoreView) (bytes : List ℕ) (m : MaySendFrom keeps s sent now bytes)
    (all_inside : unanswered (core_state_of now) + s.core.next ≡ now.next) where
  none_answered : m.served.run.reply_pairs ≡ []
  none_answered =
      let p = m.served.run.segment in
      let arriving = ticketed s.core.next (admitted s.core.geometry m.served.consumed) in
      let none = idle_inside (core_state_of s.core) m.idle in
      let given = next_counts s.core.next (messages_of arriving) in
      nil_from_length m.served.run.reply_pairs (omega (arith, none, given, passes_count p, passes_next p, length-map arriving (λ (e : Entry). e.1)))

  pub is_silent : AllByRecursion HasNoReply m.next
  is_silent = all_silent s.core.geometry s.core.next m.served.consumed m.served.sent_lines m.next m.rest
      (rw none_answered at m.served.known)
      m.have_answers

-- The answer to a line without a reply reports that the line is no message, or out of range.
say_none : (ls : List Line) → AllByRecursion HasNoReply ls → AllByRecursion (λ line. (line ≡ no_message) ⊎ (line ≡ reply_line (Refused Range))) (map answer_text ls)
say_none [] all = tt
say_none (NoMessage ∷ ls) all = (inl refl, say_none ls all.1)
say_none (OutOfRange ∷ ls) all = (inr refl, say_none ls all.1)
say_none (line ∷ ls) all = absurd all.0

pub no_reply : (keeps : Type 0) (s : Start) (sent : Option (List ℕ)) (now : CoreView) (bytes : List ℕ) → unanswered (core_state_of now) + s.core.next ≡ now.next
    → MaySend keeps (Some s) sent now bytes → SendsNoReply bytes
no_reply keeps s sent now bytes all_inside m = (map answer_text m.next, m.bytes_are, say_none m.next (is_silent keeps s sent now bytes m all_inside))

-- The answers to such lines are never the line `done`.
not_done : (ls : List Line) → AllByRecursion HasNoReply ls → reply_line Done ≡ joined (map answer_text ls) → ⊥
not_done [] all is = let h = ap (λ (l : List ℕ). length l) is in absurd (omega (arith, h))
not_done (NoMessage ∷ ls) all is = let h = ap (λ (l : List ℕ). slice_index_or l 0 0) is in absurd (omega (arith, h))
not_done (OutOfRange ∷ ls) all is = let h = ap (λ (l : List ℕ). slice_index_or l 0 0) is in absurd (omega (arith, h))
not_done (line ∷ ls) all is = absurd all.0

pub nothing_done : (keeps : Type 0) (s : Start) (sent : Option (List ℕ)) (now : CoreView) → unanswered (core_state_of now) + s.core.next ≡ now.next
    → MaySend keeps (Some s) sent now (reply_line Done) → ⊥
nothing_done keeps s sent now all_inside m =
    not_done m.next (is_silent keeps s sent now (reply_line Done) m all_inside) m.bytes_are
