-- What a run logs, and then the first messages that ran and aren't logged, is a serial history of the arrivals; and so is what a crash
-- may leave.
use Rattle.std.proofs.Common.{◌≡◌, ℕ, ◌<◌, ◌≤◌, Bool, false, List, [], ◌∷◌, ◌++◌, ap, sym, ◌∙◌, subst, append_assoc, take, drop, ⊎_elim, arith}
use Rattle.std.specs.Prelude.{◌==◌, IsPermutation}
use Rattle.std.specs.List.{AllByRecursion, Contains, IsDistinct}
use Rattle.std.proofs.lemmas.Bool.{eq-eqb, eqb-false, ne_eqb}
use Rattle.std.proofs.lemmas.Bool.Decides.{eqb_tells}
use Rattle.std.proofs.lemmas.List.Elements.{All-contains_itself, recursion_from_All}
use Rattle.std.proofs.lemmas.List.Sorted.{IsPermutation-append_left}
use Rattle.std.proofs.lemmas.Map.Keys.{IsDistinct-IsPermutation}
use Rattle.affinity.specs.declared.geometry.Geometry.{Geometry}
use Rattle.affinity.proofs.Elements.{all_weaker}
use Rattle.protocol.specs.declared.messages.Msg.{Msg}
use Rattle.meaning.specs.State.{State}
use Rattle.meaning.specs.TicketOrder.{InOrderIfRelated, KeepsOrder, serial_replies}
use Rattle.histories.specs.CoreState.{Entry, Replied, CoreState, entries, entry, AreAscending, HaveDistinctTickets, EachBefore, IsIdle}
use Rattle.histories.specs.MachineState.{MachineState}
use Rattle.histories.specs.Events.{Event, recorded}
use Rattle.histories.specs.Runs.{IsLegal, answered_messages, arrived, appended_messages, end_state, logged_messages}
use Rattle.histories.specs.Crash.{IsLogAfter, in_doubt}
use Rattle.histories.specs.IsSerialHistory.{IsSerialHistory, ticket_replies}
use Rattle.histories.proofs.AnsweredFirst.{run_in_order}
use Rattle.histories.proofs.Entries.{recorded-append, all_entries, entries-append, entries_split}
use Rattle.histories.proofs.Runs.{appended_is_recorded, run_follows}
use Rattle.histories.proofs.Arrivals.{arrivals_reordered, row, run_ascending}
use Rattle.histories.proofs.Crashes.{legal_first, went_first}
use Rattle.histories.proofs.Doubts.{crash_doubts_ran, first_doubts, no_doubts, run_doubts_ran}
use Rattle.histories.proofs.Elements.{holds_of, IsIn}
use Rattle.histories.proofs.Idle.{idle_sound, none_logged}
use Rattle.histories.proofs.Lists.{all_front, all_permuted, before_across, before_back, before_front, before_join}
use Rattle.histories.proofs.IsSoundCoreState.{last_sound, row_of}
use Rattle.histories.proofs.SerialReplies.{ticket_replies-append, serial_replies-append}

-- ---- tickets

other_ticket : (e : Entry) (es : List Entry) → AllByRecursion (λ d. e.0 < d.0) es → (a b : Entry) → a ≡ e → IsIn b es → a.0 ≡ b.0 → ⊥
other_ticket e es h a b first rest same =
    let less = holds_of (λ d. e.0 < d.0) es h b rest in
    let at = ap (λ (d : Entry). d.0) first in
    omega (arith, less, at, same)

-- Where tickets ascend, a ticket has one message.
pub one_message : (es : List Entry) → AreAscending es → (a b : Entry) → IsIn a es → IsIn b es → a.0 ≡ b.0 → a ≡ b
one_message [] h a b in_a in_b same = absurd in_a
one_message (e ∷ es) h a b in_a in_b same =
    ⊎_elim (λ (first : a ≡ e). ⊎_elim (λ (both : b ≡ e). first ∙ sym both)
    (λ rest. absurd (other_ticket e es h.0 a b first rest same)) in_b)
    (λ rest. ⊎_elim (λ (first : b ≡ e). absurd (other_ticket e es h.0 b a first rest (sym same)))
    (λ both. one_message es h.1 a b rest both same) in_b) in_a

-- ---- what a serial history is

-- Each message of a serial history (here `log`) arrived.
pub all_came : (g : Geometry) (x : State) (arrivals : List Entry) (log : List Replied) → IsSerialHistory g x arrivals log
    → AllByRecursion (λ a. Contains arrivals (entry a)) log
all_came g x arrivals log h =
    let came = Contains arrivals in
    let all = all_permuted came arrivals (entries log ++ h.rest) h.each_once
    (recursion_from_All came arrivals (All-contains_itself arrivals)) in
    all_entries came log (all_front came (entries log) h.rest all)

pub same_turned : (a b : ℕ) → (a == b) ≡ (b == a)
same_turned a b = ⊎_elim (λ t. t.0 ∙ sym (eq-eqb b a (sym t.1))) (λ f. f.0 ∙ sym (ne_eqb b a (λ e. f.1 (sym e)))) (eqb_tells a b)

-- whether two messages have the same ticket
abbrev pub one_ticket : Entry → Entry → Bool
one_ticket e d = e.0 == d.0

pub distinct_ascending : (es : List Entry) → AreAscending es → IsDistinct one_ticket es
unfolding IsDistinct
distinct_ascending [] h = tt
distinct_ascending (e ∷ es) h = (
  all_weaker (λ d. e.0 < d.0) (λ d. one_ticket e d ≡ false) (λ d less. ne_eqb e.0 d.0 (λ same. omega (arith, less, same))) es h.0,
  distinct_ascending es h.1,
)

once_distinct : (es : List Entry) → IsDistinct one_ticket es → HaveDistinctTickets es
unfolding IsDistinct
once_distinct [] h = tt
once_distinct (e ∷ es) h = (
  all_weaker (λ d. one_ticket e d ≡ false) (λ d. e.0 ≡ d.0 → ⊥) (λ d. eqb-false e.0 d.0) es h.0,
  once_distinct es h.1,
)

-- Where tickets ascend as messages arrive, no two messages of a serial history have the same one.
pub all_once : (g : Geometry) (x : State) (arrivals : List Entry) (log : List Replied) → IsSerialHistory g x arrivals log
    → AreAscending arrivals → HaveDistinctTickets (entries log)
all_once g x arrivals log h ascending =
    before_front (λ e d. e.0 ≡ d.0 → ⊥) (entries log) h.rest (once_distinct (entries log ++ h.rest)
    (IsDistinct-IsPermutation one_ticket (λ e d. same_turned e.0 d.0) arrivals (entries log ++ h.rest) h.each_once
    (distinct_ascending arrivals ascending)))

module _ (g : Geometry) where
  before_ascending : (es : List Entry) → AreAscending es → EachBefore (InOrderIfRelated g) es
  before_ascending [] h = tt
  before_ascending (e ∷ es) h = (all_weaker (λ d. e.0 < d.0) (InOrderIfRelated g e) (λ d less related. less) es h.0, before_ascending es h.1)

  keeps_order : (es : List Entry) → EachBefore (InOrderIfRelated g) es → KeepsOrder g es
  keeps_order [] h = tt
  keeps_order (e ∷ es) h = (h.0, keeps_order es h.1)

  each_before : (es : List Entry) → KeepsOrder g es → EachBefore (InOrderIfRelated g) es
  each_before [] h = tt
  each_before (e ∷ es) h = (h.0, each_before es h.1)

  -- A serial history stays one when more messages arrive.
  pub still_serial : (x : State) (arrivals more : List Entry) (log : List Replied) → AreAscending (arrivals ++ more)
      → IsSerialHistory g x arrivals log → IsSerialHistory g x (arrivals ++ more) log
  still_serial x arrivals more log ascending h =
      let all = entries log ++ h.rest in
      let split : all ++ more ≡ entries log ++ (h.rest ++ more) = append_assoc (entries log) h.rest more in
      let before = before_ascending (arrivals ++ more) ascending in
      let across = all_permuted (λ e. AllByRecursion (InOrderIfRelated g e) more) arrivals all h.each_once
      (before_across (InOrderIfRelated g) arrivals more before) in
      record {
        rest = h.rest ++ more;
        each_once = subst (IsPermutation (arrivals ++ more)) split (IsPermutation-append_left more arrivals all h.each_once);
        by_ticket = keeps_order _ (subst (EachBefore (InOrderIfRelated g)) split (before_join (InOrderIfRelated g) all more (each_before all h.by_ticket)
            (before_back (InOrderIfRelated g) arrivals more before) across));
        in_order = h.in_order;
      }

-- ---- what a run logs, and what ran and isn't logged yet

module _ (g : Geometry) (old : MachineState) (events : List Event) (legal : IsLegal g old events) (idle : IsIdle old.core) where
  abbrev now : CoreState
  now = (end_state old events).core

  abbrev log : ℕ → List Replied
  log j = logged_messages old events ++ take j now.ran

  -- each message that arrived was logged, ran, is in flight or waits
  pub none_lost : IsPermutation (arrived events) (row now (logged_messages old events))
  none_lost = (arrivals_reordered g old events legal idle).same

  first_in_row : (j : ℕ) → row now (logged_messages old events) ≡ entries (log j) ++ (entries (drop j now.ran) ++ (now.in_flight ++ now.waiting))
  first_in_row j = sym (entries_split (logged_messages old events) now.ran (now.in_flight ++ now.waiting) j)

  in_order : (j : ℕ) → ticket_replies (log j) ≡ serial_replies g old.core.committed (entries (log j))
  in_order j =
      let x = old.core.committed in
      let W = logged_messages old events in
      let first = take j now.ran in
      let sound = idle_sound old.core idle g in
      let k = run_follows g old events legal sound in
      let r = row_of g now j (last_sound g old events legal sound) in
      ticket_replies-append W first ∙ (λ i. sym k.reply_pairs i ++ sym r.reply_pairs i) ∙ ap (λ y. serial_replies g x (entries W) ++ serial_replies g y (entries first)) k.committed
      ∙ sym (serial_replies-append g x (entries W) (entries first)) ∙ ap (serial_replies g x) (sym (entries-append W first))

  pub serial_history : (j : ℕ) → IsSerialHistory g old.core.committed (arrived events) (log j)
  serial_history j = record {
    rest = entries (drop j now.ran) ++ (now.in_flight ++ now.waiting);
    each_once = subst (IsPermutation (arrived events)) (first_in_row j) none_lost;
    by_ticket = keeps_order g _ (subst (EachBefore (InOrderIfRelated g)) (first_in_row j)
        ((arrivals_reordered g old events legal idle).ordered (before_ascending g (arrived events) (run_ascending g old events legal))));
    in_order = in_order j;
  }

  -- What is logged begins with what is answered.
  pub logged_begins : logged_messages old events ≡ answered_messages old events ++ now.logged
  logged_begins = ap (λ l. l ++ logged_messages old events) (sym (none_logged old.core idle)) ∙ run_in_order g old events legal

  -- What is answered arrived.
  pub answered_came : AllByRecursion (λ a. Contains (arrived events) (entry a)) (answered_messages old events)
  answered_came =
      let came = all_came g old.core.committed (arrived events) (log 0) (serial_history 0) in
      all_front (λ a. Contains (arrived events) (entry a)) (answered_messages old events) now.logged
      (subst (AllByRecursion (λ a. Contains (arrived events) (entry a))) logged_begins
      (all_front (λ a. Contains (arrived events) (entry a)) (logged_messages old events) (take 0 now.ran) came))

  -- ---- and what a crash may leave of it

  module _ (none : old.core.doubt ≡ []) where
    -- a prefix of `doubt` in the end is the changes of such a history that come after what was logged
    pub doubts_in_order : (k : ℕ)
        → (j : ℕ) × IsSerialHistory g old.core.committed (arrived events) (log j) × (recorded (take j now.ran) ≡ take k now.doubt)
    doubts_in_order k =
        let first = first_doubts now (run_doubts_ran g old events legal (λ sound. none) (no_doubts old.core none)) k in
        (first.some, serial_history first.some, first.are)

    crash_in_order : (rest : List Event) (k : ℕ) (ms : List Msg) → ms ≡ appended_messages old events ++ take k (in_doubt now rest)
        → (j : ℕ) × IsSerialHistory g old.core.committed (arrived events) (log j) × (ms ≡ recorded (log j))
    crash_in_order rest k ms is =
        let first = crash_doubts_ran now (run_doubts_ran g old events legal (λ sound. none) (no_doubts old.core none)) rest k in (
          first.some,
          serial_history first.some,
          is ∙ (λ i. appended_is_recorded old events i ++ sym first.are i)
              ∙ sym (recorded-append (logged_messages old events) (take first.some now.ran)),
        )

-- Whatever a crash leaves in the log after k events, it is the changes of a serial history.
pub left_in_order : (g : Geometry) {old : MachineState} {events : List Event} {k : ℕ} {ms : List Msg} → IsLegal g old events → IsIdle old.core
    → old.core.doubt ≡ [] → IsLogAfter old events k ms
    → (j : ℕ) × IsSerialHistory g old.core.committed (arrived (take k events))
    (logged_messages old (take k events) ++ take j (end_state old (take k events)).core.ran)
    × (ms ≡ recorded (logged_messages old (take k events) ++ take j (end_state old (take k events)).core.ran))
left_in_order g {old} {events} {k} {ms} legal idle none log =
    crash_in_order g old (take k events) (legal_first g old events k legal) idle none (drop k events) log.some ms log.is

-- What is logged later begins with all that was answered before.
pub answered_begins : (g : Geometry) (old : MachineState) (events : List Event) {k after : ℕ} → IsLegal g old events → IsIdle old.core
    → k ≤ after → (rest : List Replied) × (logged_messages old (take after events) ≡ answered_messages old (take k events) ++ rest)
answered_begins g old events {k} {after} legal idle le =
    let more = went_first old events k after le in
    let first = take k events in
    let logged = (end_state old first).core.logged in (
      logged ++ more.0,
      more.1 ∙ ap (λ l. l ++ more.0) (logged_begins g old first (legal_first g old events k legal) idle)
          ∙ append_assoc (answered_messages old first) logged more.0,
    )
