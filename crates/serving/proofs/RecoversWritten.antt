-- What a device holds of a service, in words of lines: those that were acknowledged, and a part of the lines after them.
use Rattle.std.proofs.Common.{◌≡◌, ◌⊎◌, ℕ, zero, suc, ◌+◌, ◌<◌, ◌≤◌, true, false, List, [], ◌∷◌, ◌++◌, Option, Some, None, refl, ap, sym, ◌∙◌, subst, length, length-append, take, inl, inr, ⊎_elim, arith, append_assoc}
use Rattle.std.specs.Io.KnownBytes.{Appends}
use Rattle.std.specs.List.{AllByRecursion, Contains}
use Rattle.std.proofs.lemmas.Bool.{true≢false}
use Rattle.std.proofs.Math.Bool.{and-false}
use Rattle.affinity.specs.declared.geometry.Geometry.{Geometry}
use Rattle.protocol.specs.Grammar.{message_of}
use Rattle.protocol.specs.Lines.{lines}
use Rattle.protocol.specs.Messages.{is_in_range}
use Rattle.protocol.specs.Replies.{reply_line}
use Rattle.protocol.specs.declared.messages.Msg.{Msg}
use Rattle.protocol.specs.declared.replies.Refusal.TheVariants.{Range}
use Rattle.protocol.specs.declared.replies.Reply.{Reply}
use Rattle.protocol.specs.declared.replies.Reply.TheVariants.{Refused}
use Rattle.meaning.specs.TicketOrder.{by_ticket, messages_of}
use Rattle.meaning.specs.ClosedPart.{IsClosedPart, are_related_lines}
use Rattle.meaning.specs.Output.{WritesOutput, answer_line, joined, output_lines, state_after_line, state_after_lines}
use Rattle.meaning.specs.Step.{state_after_all, next_state, reply_to}
use Rattle.meaning.specs.State.{State}
use Rattle.histories.specs.Events.{recorded}
use Rattle.histories.specs.IsSerialHistory.{ticket_replies}
use Rattle.histories.specs.CoreState.{Entry, Replied, are_related_entries, entries}
use Rattle.histories.proofs.Elements.{in_contained, IsIn, in_left}
use Rattle.serving.specs.Runs.{AreFirst}
use Rattle.serving.specs.Lines.{admitted, admitted_in, ticketed}
use Rattle.serving.specs.Restart.{RecoversTo, BytesRecover, WritesBeginning}
use Rattle.serving.specs.History.{AreInHistory, RecoversToHistory, IsInHistory}
use Rattle.serving.proofs.HaveSerialReplies.{HaveSerialReplies, its_reply, out_of_range as refused_for_range, serial_after, with_ticket}
use Rattle.serving.proofs.SortedLogs.{HasNoGap, IsApart, all_kept, sorted_log}
use Rattle.serving.proofs.Tickets.{ascending, all_after}

-- ---- the tickets of lines

-- the line takes no ticket: it is no message, or one out of range
abbrev TakesNone : Geometry → Option Msg → Type 0
TakesNone g o = (m : Msg) → o ≡ Some m → is_in_range g m ≡ false

admits_none : (g : Geometry) (o : Option Msg) → TakesNone g o → admitted_in g o ≡ []
admits_none g None none = refl
admits_none g (Some m) none = rw (none m refl) refl

-- a line takes no ticket, or one, for its message
takes_one : (g : Geometry) (o : Option Msg) → TakesNone g o ⊎ ((m : Msg) × (o ≡ Some m) × (is_in_range g m ≡ true))
takes_one g None = inl (λ m is. cc)
takes_one g (Some m) = elim (is_in_range g m) as (λ b. is_in_range g m ≡ b → TakesNone g (Some m) ⊎ ((k : Msg) × (Some m ≡ Some k) × (is_in_range g k ≡ true))) [
  | true ↦ λ e. inr (m, refl, e)
  | false ↦ λ e. inl (λ k is. cc)
] refl

-- ---- a part of the messages is a part of the lines

-- Each of these lines encodes the message beside it.
abbrev pub Spell : List (List ℕ) → List Entry → Type 0
Spell [] [] = Unit {0}
Spell (line ∷ ls) (e ∷ es) = (message_of line ≡ Some e.1) × Spell ls es
Spell _ _ = ⊥

-- Some of the lines, a closed part of them (`IsClosedPart`), encode these messages.
pub record SpellsPart (g : Geometry) (es : List Entry) (ls : List (List ℕ)) : Type 0 where
  pub part : List (List ℕ)
  pub spell : Spell part es
  closed : IsClosedPart g part ls

leads : (g : Geometry) (x : State) (part : List (List ℕ)) (es : List Entry) → Spell part es
    → state_after_all g x (messages_of es) ≡ state_after_lines g x part
leads g x [] [] s = refl
leads g x (line ∷ part) (e ∷ es) s =
    leads g (next_state g x e.1) part es s.1 ∙ ap (λ o. state_after_lines g (state_after_line g x o) part) (sym s.0)
leads g x part es s = absurd s

-- a line that takes no ticket is not related to any
unrelated_none : (g : Geometry) (o : Option Msg) → TakesNone g o → (p : Option Msg) → are_related_lines g o p ≡ false
unrelated_none g None h p = refl
unrelated_none g (Some m) h None = refl
unrelated_none g (Some m) h (Some n) = rw (h m refl) refl

none_related : (g : Geometry) (o : Option Msg) → TakesNone g o → (part : List (List ℕ))
    → AllByRecursion (λ other. are_related_lines g o (message_of other) ≡ false) part
none_related g o h [] = tt
none_related g o h (line ∷ part) = (unrelated_none g o h (message_of line), none_related g o h part)

-- lines that encode unrelated messages are unrelated
unrelated_too : (g : Geometry) (n : ℕ) (m : Msg) (part : List (List ℕ)) (es : List Entry) → Spell part es
    → AllByRecursion (λ e. are_related_entries g (n, m) e ≡ false) es
    → AllByRecursion (λ other. are_related_lines g (Some m) (message_of other) ≡ false) part
unrelated_too g n m [] [] s h = tt
unrelated_too g n m (line ∷ part) (e ∷ es) s h = (rw (s.0, h.0) (and-false _), unrelated_too g n m part es s.1 h.1)
unrelated_too g n m part es s h = absurd s

pub spells_part : (g : Geometry) (n : ℕ) (ls : List (List ℕ)) (es : List Entry) → HasNoGap g es (ticketed n (admitted g ls)) → SpellsPart g es ls
spells_part g n [] es h = record { part = []; spell = rw h tt; closed = refl }
spells_part g n (line ∷ ls) es h = ⊎_elim
    (λ (none : TakesNone g (message_of line)).
    let rest = spells_part g n ls es (rw (admits_none g (message_of line) none) at h) in
    record { part = rest.part; spell = rest.spell; closed = inr (none_related g (message_of line) none rest.part, rest.closed) })
    (λ (k : (m : Msg) × (message_of line ≡ Some m) × (is_in_range g m ≡ true)).
    let here : HasNoGap g es ((n, k.0) ∷ ticketed (n + 1) (admitted g ls)) = rw (k.1, k.2) at h in
    ⊎_elim
    (λ (j : (rest : List Entry) × (es ≡ (n, k.0) ∷ rest) × HasNoGap g rest (ticketed (n + 1) (admitted g ls))).
    let rest = spells_part g (n + 1) ls j.0 j.2 in
    record { part = line ∷ rest.part; spell = rw j.1 (k.1, rest.spell); closed = inl (rest.part, refl, rest.closed) })
    (λ (j : IsApart g (n, k.0) es × HasNoGap g es (ticketed (n + 1) (admitted g ls))).
    let rest = spells_part g (n + 1) ls es j.1 in
    record { part = rest.part; spell = rest.spell; closed = inr (rw k.1 (unrelated_too g n k.0 rest.part es rest.spell j.0), rest.closed) }) here)
    (takes_one g (message_of line))

-- ---- the lines that were acknowledged

-- What was written answers the first of the lines, as the serial server does. The messages lead to the state to which these first lines and
-- a closed part of the others lead.
pub record AnswersFirst (g : Geometry) (x : State) (es : List Entry) (ls written : List (List ℕ)) : Type 0 where
  pub first : List (List ℕ)
  pub others : List (List ℕ)
  pub parts : ls ≡ first ++ others
  pub answers : written ≡ output_lines g x first
  pub part : List (List ℕ)
  pub closed : IsClosedPart g part others
  pub state : state_after_all g x (messages_of es) ≡ state_after_lines g x (first ++ part)

-- a line that takes no ticket leaves the state
state_stays : (g : Geometry) (x : State) (o : Option Msg) → TakesNone g o → state_after_line g x o ≡ x
state_stays g x None h = refl
state_stays g x (Some m) h = (refused_for_range g x m (h m refl)).1

-- The output line for an input line (`IsInHistory`) is the serial server's, if the reply in the history is.
kept_line : (g : Geometry) (x : State) (log : List Replied) (n : ℕ) (o : Option Msg) (line : List ℕ) → IsInHistory g log n o line
    → ((m : Msg) (reply : Reply) → o ≡ Some m → is_in_range g m ≡ true → IsIn (n, m, reply) log → reply ≡ reply_to g x m) → line ≡ answer_line g x o
kept_line g x log n None line k same = k
kept_line g x log n (Some m) line k same = ⊎_elim
    (λ (out : (is_in_range g m ≡ false) × (line ≡ reply_line (Refused Range))).
    out.1 ∙ ap reply_line (sym (refused_for_range g x m out.0).0))
    (λ (has : (is_in_range g m ≡ true) × ((reply : Reply) × (line ≡ reply_line reply) × Contains log (n, m, reply))).
    has.1.1 ∙ ap reply_line (same m has.1.0 refl has.0 (in_contained log (n, m, has.1.0) has.1.2))) k

-- If an output line answers a message in range (`IsInHistory`), the log has that message with a reply.
kept_reply : (g : Geometry) (log : List Replied) (n : ℕ) (m : Msg) (line : List ℕ) → is_in_range g m ≡ true → IsInHistory g log n (Some m) line
    → (reply : Reply) × IsIn (n, m, reply) log
kept_reply g log n m line is k = ⊎_elim
    (λ (out : (is_in_range g m ≡ false) × (line ≡ reply_line (Refused Range))). absurd (true≢false (sym is ∙ out.0)))
    (λ (has : (is_in_range g m ≡ true) × ((reply : Reply) × (line ≡ reply_line reply) × Contains log (n, m, reply))).
    (has.1.0, in_contained log (n, m, has.1.0) has.1.2)) k

some_is : (m k : Msg) → Some m ≡ Some k → m ≡ k
some_is m k h = cc

module _ (g : Geometry) (log : List Replied) (replies : List (ℕ × Reply))
    (told : (t : ℕ) (m : Msg) (reply : Reply) → IsIn (t, m, reply) log → IsIn (t, reply) replies) where
  none_answered : (x : State) (n : ℕ) (ls : List (List ℕ)) (es : List Entry) → HasNoGap g es (ticketed n (admitted g ls)) → AnswersFirst g x es ls []
  none_answered x n ls es h =
      let s = spells_part g n ls es h in
      record { first = []; others = ls; parts = refl; answers = refl; part = s.part; closed = s.closed; state = leads g x s.part es s.spell }

  one_more : {x : State} {es fs : List Entry} {line : List ℕ} {ls : List (List ℕ)} {w : List ℕ} {written : List (List ℕ)}
      → w ≡ answer_line g x (message_of line) → state_after_all g x (messages_of es) ≡ state_after_all g (state_after_line g x (message_of line)) (messages_of fs)
      → AnswersFirst g (state_after_line g x (message_of line)) fs ls written → AnswersFirst g x es (line ∷ ls) (w ∷ written)
  one_more {line} retires goes rest = record {
    first = line ∷ rest.first;
    others = rest.others;
    parts = ap (λ l. line ∷ l) rest.parts;
    answers = λ i. retires i ∷ rest.answers i;
    part = rest.part;
    closed = rest.closed;
    state = goes ∙ rest.state;
  }

  module _ (x : State) (n : ℕ) (line : List ℕ) (ls : List (List ℕ)) (w : List ℕ) (written : List (List ℕ)) (es : List Entry)
      (on : (y : State) (k : ℕ) (fs : List Entry) → HasNoGap g fs (ticketed k (admitted g ls)) → HaveSerialReplies g replies y k fs → AreInHistory g log k ls written
      → AnswersFirst g y fs ls written) where
    answers_none : TakesNone g (message_of line) → HasNoGap g es (ticketed n (admitted g ls)) → HaveSerialReplies g replies x n es
        → IsInHistory g log n (message_of line) w → AreInHistory g log n ls written → AnswersFirst g x es (line ∷ ls) (w ∷ written)
    answers_none none h serial_all k rest =
        let stays = state_stays g x (message_of line) none in
        let retires = kept_line g x log n (message_of line) w k (λ m reply is in_range its. absurd (true≢false (sym in_range ∙ none m is))) in
        one_more {fs = es} retires (ap (λ y. state_after_all g y (messages_of es)) (sym stays)) (rw stays (on x n es h serial_all rest))

    answers_one : (m : Msg) → message_of line ≡ Some m → is_in_range g m ≡ true → HasNoGap g es ((n, m) ∷ ticketed (n + 1) (admitted g ls))
        → HaveSerialReplies g replies x n es → IsInHistory g log n (Some m) w → AreInHistory g log (n + 1) ls written → AnswersFirst g x es (line ∷ ls) (w ∷ written)
    answers_one m is ranges h serial_all k rest =
        let its = kept_reply g log n m w ranges k in
        let after = λ (fs : List Entry) (h : HasNoGap g fs (ticketed (n + 1) (admitted g ls))).
        all_kept (λ e. n < e.0) (IsApart g) fs (ticketed (n + 1) (admitted g ls)) (all_after n (n + 1) (admitted g ls) (omega arith)) h in
        ⊎_elim
        (λ (j : (fs : List Entry) × (es ≡ (n, m) ∷ fs) × HasNoGap g fs (ticketed (n + 1) (admitted g ls))).
        let serial_here = subst (HaveSerialReplies g replies x n) j.1 serial_all in
        let retires = kept_line g x log n (Some m) w k
        (λ m' reply same in_range here.
        its_reply g replies x n j.0 m reply (after j.0 j.2) serial_here (told n m' reply here) ∙ ap (reply_to g x) (some_is m m' same)) in
        one_more (retires ∙ ap (answer_line g x) (sym is))
        (ap (λ l. state_after_all g x (messages_of l)) j.1 ∙ ap (λ o. state_after_all g (state_after_line g x o) (messages_of j.0)) (sym is))
        (subst (λ o. AnswersFirst g (state_after_line g x o) j.0 ls written) (sym is)
        (on (next_state g x m) (n + 1) j.0 j.2 (with_ticket g replies x n j.0 m serial_here) rest)))
        (λ (j : IsApart g (n, m) es × HasNoGap g es (ticketed (n + 1) (admitted g ls))).
        ⊎_elim (λ (less : n < n). absurd (omega (arith, less)))
        (λ here. absurd (omega (arith, serial_after g x n es (n, its.0) (after es j.1) here)))
        (serial_all (n, its.0) (told n m its.0 its.1))) h

  answers_first : (x : State) (n : ℕ) (ls written : List (List ℕ)) (es : List Entry) → HasNoGap g es (ticketed n (admitted g ls))
      → HaveSerialReplies g replies x n es → AreInHistory g log n ls written → AnswersFirst g x es ls written
  answers_first x n ls [] es h serial_all k = none_answered x n ls es h
  answers_first x n [] (w ∷ written) es h serial_all k = absurd k
  answers_first x n (line ∷ ls) (w ∷ written) es h serial_all k =
      let on = λ (y : State) (i : ℕ) (fs : List Entry) (h : HasNoGap g fs (ticketed i (admitted g ls))) (t : HaveSerialReplies g replies y i fs)
      (k : AreInHistory g log i ls written). answers_first y i ls written fs h t k in
      ⊎_elim
      (λ (none : TakesNone g (message_of line)).
      let takes = admits_none g (message_of line) none in
      answers_none x n line ls w written es on none (rw takes at h) serial_all k.0 (rw takes at k.1))
      (λ (j : (m : Msg) × (message_of line ≡ Some m) × (is_in_range g m ≡ true)).
      answers_one x n line ls w written es on j.0 j.1 j.2 (rw (j.1, j.2) at h) serial_all (rw j.1 at k.0) (rw (j.1, j.2) at k.1))
      (takes_one g (message_of line))

-- ---- what a log leads to

said_so : (log : List Replied) (t : ℕ) (m : Msg) (reply : Reply) → IsIn (t, m, reply) log → IsIn (t, reply) (ticket_replies log)
said_so [] t m reply is = absurd is
said_so (a ∷ log) t m reply is = ⊎_elim
    (λ (same : (t, m, reply) ≡ a). inl (ap (λ (b : Replied). (b.0, b.2)) same))
    (λ later. inr (said_so log t m reply later)) is

pub none_there : (g : Geometry) (ls : List (List ℕ)) → IsClosedPart g [] ls
none_there g [] = refl
none_there g (line ∷ ls) = inr (tt, none_there g ls)

-- A closed part of no more than n lines is one of the first n of these and more.
within : (g : Geometry) (n : ℕ) (part ls rest : List (List ℕ)) → length ls ≤ n → IsClosedPart g part ls → IsClosedPart g part (take n (ls ++ rest))
within g n part [] rest le h = rw h (none_there g (take n rest))
within g zero part (line ∷ ls) rest le h = absurd (omega (arith, le))
within g (suc n) part (line ∷ ls) rest le h = ⊎_elim
    (λ (k : (fewer : List (List ℕ)) × (part ≡ line ∷ fewer) × IsClosedPart g fewer ls). inl (k.0, k.1, within g n k.0 ls rest (omega (arith, le)) k.2))
    (λ (k : AllByRecursion (λ other. are_related_lines g (message_of line) (message_of other) ≡ false) part × IsClosedPart g part ls).
    inr (k.0, within g n part ls rest (omega (arith, le)) k.1)) h

one_each : (g : Geometry) (x : State) (ls : List (List ℕ)) → length (output_lines g x ls) ≡ length ls
one_each g x [] = refl
one_each g x (line ∷ ls) = ap suc (one_each g (state_after_line g x (message_of line)) ls)

-- Where the first lines of an input were consumed, and a log has the replies that were written for the first of these, the log leads to a
-- state from which a restart may go on.
recovers_to : {g : Geometry} {slots : ℕ} {x : State} {input : List ℕ} {log : List Replied} {bytes : List ℕ} (n : ℕ) (consumed written : List (List ℕ))
    → AreFirst (Some input) consumed → length consumed ≤ length written + slots → AreInHistory g log n consumed written → (h : RecoversToHistory g x (ticketed n (admitted g consumed)) log bytes)
    → RecoversTo g slots x (state_after_all g x (recorded (log ++ h.more))) input (joined written)
recovers_to {g} {slots} {x} {log} n consumed written first few kept h =
    let whole = log ++ h.more in
    let sorted = sorted_log g x (ticketed n (admitted g consumed)) whole (ascending n (admitted g consumed)) h.serial in
    let a = answers_first g log (ticket_replies whole) (λ t m reply is. said_so whole t m reply (in_left (t, m, reply) log h.more is)) x n consumed written
    (by_ticket (entries whole)) sorted.no_gap (λ p is. inr (sorted.tells p is)) kept in
    record {
      acknowledged = a.first;
      unacknowledged = a.others ++ first.0;
      first = first.1 ∙ ap (λ l. l ++ first.0) a.parts ∙ append_assoc a.first a.others first.0;
      answers = ap joined a.answers;
      part = a.part;
      closed = within g slots a.part a.others first.0
          (let all = ap length a.parts ∙ length-append a.first a.others in let each = ap length a.answers ∙ one_each g x a.first in omega (arith, all, each, few))
          a.closed;
      state = sorted.state ∙ a.state;
    }

-- The same of the bytes of a device that recover to that state.
pub bytes_recover : {g : Geometry} {slots : ℕ} {x : State} {input before written : Option (List ℕ)} {log : List Replied} {bytes : List ℕ} (n : ℕ)
    (consumed answers : List (List ℕ)) → AreFirst input consumed → Appends before written (joined answers)
    → length consumed ≤ length answers + slots → AreInHistory g log n consumed answers
    → RecoversToHistory g x (ticketed n (admitted g consumed)) log bytes → BytesRecover g slots x input before written bytes
bytes_recover {g} {slots} {x} {input} {before} {written} {log} n consumed answers first output few kept h = search (so input first, h.recovers)
  where
    so : (input : Option (List ℕ)) → AreFirst input consumed
        → WritesOutput input before written (RecoversTo g slots x (state_after_all g x (recorded (log ++ h.more))))
    so None first = tt
    so (Some all) first = (joined answers, output, recovers_to n consumed answers first few kept h)

-- where nothing was written, the state may be that of the start, with no line of the input in it
pub none_written : (g : Geometry) (slots : ℕ) (x : State) (input : List ℕ) → RecoversTo g slots x x input []
none_written g slots x input = record {
  acknowledged = [];
  unacknowledged = lines input;
  first = refl;
  answers = refl;
  part = [];
  closed = none_there g (take slots (lines input));
  state = refl;
}

-- The output holds a beginning of what was to be written, which may be all of it (`WritesBeginning`): with all of that it would be `all`.
-- The bytes recover to the state after the lines answered in `all` and a part of the next `unanswered` ones: so at most as many lines as
-- there are slots are in that state without their whole answer in the output.
abbrev pub RecoversWritten : Geometry → ℕ → State → Option (List ℕ) → Option (List ℕ) → Option (List ℕ) → List ℕ → Type 0
RecoversWritten g slots start input before after bytes = (unanswered : ℕ) × (all : Option (List ℕ))
    × WritesBeginning slots unanswered before after all × BytesRecover g unanswered start input before all bytes
