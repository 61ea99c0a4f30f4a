-- A serial history in order of tickets: some of the messages that arrived; where one is left out, so is each later one related to it.
use Rattle.std.proofs.Common.{◌≡◌, ◌⊎◌, ℕ, ◌<◌, ◌≤◌, true, false, List, [], ◌∷◌, ◌++◌, refl, ap, sym, ◌∙◌, subst, map, inl, inr, ⊎_elim, arith}
use Rattle.std.specs.Prelude.{nat_lt, if◌then◌else◌, IsPermutation, filter, cond}
use Rattle.std.specs.List.{AllByRecursion, Contains, IsDistinct}
use Rattle.std.proofs.lemmas.Bool.{lt-ltb, ltb-true, false_from_ne_true, eqb-false}
use Rattle.std.proofs.lemmas.List.Elements.{All-contains_itself, recursion_from_All}
use Rattle.std.proofs.lemmas.List.Sorted.{IsPermutation-sym, IsPermutation-trans}
use Rattle.std.proofs.lemmas.Map.Keys.{IsDistinct-IsPermutation}
use Rattle.histories.proofs.SerialHistories.{same_turned, distinct_ascending, one_ticket}
use Rattle.affinity.specs.declared.geometry.Geometry.{Geometry}
use Rattle.affinity.proofs.Elements.{all_weaker}
use Rattle.protocol.specs.declared.replies.Reply.{Reply}
use Rattle.meaning.specs.TicketOrder.{by_ticket, messages_of, inserted_by_ticket, serial_replies, InOrderIfRelated, KeepsOrder, AreInOrder}
use Rattle.meaning.specs.Step.{state_after_all, is_recorded, next_state, reply_to}
use Rattle.meaning.specs.State.{State}
use Rattle.meaning.proofs.ByTicket.{all-by_ticket, state_after_all-by_ticket, in_order-by_ticket, permutation-by_ticket, serial_replies-by_ticket}
use Rattle.meaning.proofs.IsRecorded.{unrecorded_changes_nothing}
use Rattle.histories.specs.Events.{recorded}
use Rattle.histories.specs.IsSerialHistory.{IsSerialHistory, ticket_replies}
use Rattle.histories.specs.CoreState.{Entry, Replied, are_related_entries, entries, AreAscending}
use Rattle.histories.proofs.AreUnrelated.{apart_turned}
use Rattle.histories.proofs.Elements.{holds_of, in_contained, IsIn}
use Rattle.histories.proofs.Lists.{all_back, all_front, all_permuted}

-- ---- some of a list, in their order

-- The first list has some of the second, in their order. Of each that is left out, and those kept that come later, `Out` holds.
abbrev pub AreKept : (Entry → List Entry → Type 0) → List Entry → List Entry → Type 0
AreKept Out es [] = es ≡ []
AreKept Out es (a ∷ all) = ((rest : List Entry) × (es ≡ a ∷ rest) × AreKept Out rest all) ⊎ (Out a es × AreKept Out es all)

abbrev pub AreAmong : (Entry → Type 0) → List Entry → List Entry → Type 0
AreAmong Out = AreKept (λ a es. Out a)

pub all_kept : (P : Entry → Type 0) (Out : Entry → List Entry → Type 0) (es all : List Entry) → AllByRecursion P all → AreKept Out es all → AllByRecursion P es
all_kept P Out es [] h kept = rw kept tt
all_kept P Out es (a ∷ all) h kept = ⊎_elim
    (λ (k : (rest : List Entry) × (es ≡ a ∷ rest) × AreKept Out rest all). rw k.1 (h.0, all_kept P Out k.0 all h.1 k.2))
    (λ (k : Out a es × AreKept Out es all). all_kept P Out es all h.1 k.1) kept

none_among : (Out : Entry → Type 0) (all : List Entry) → AllByRecursion Out all → AreAmong Out [] all
none_among Out [] h = refl
none_among Out (a ∷ all) h = inr (h.0, none_among Out all h.1)

put_first : (e : Entry) (ds : List Entry) → AllByRecursion (λ d. e.0 < d.0) ds → inserted_by_ticket e ds ≡ e ∷ ds
put_first e [] h = refl
put_first e (d ∷ ds) h = ap (λ b. if b then e ∷ d ∷ ds else d ∷ inserted_by_ticket e ds) (lt-ltb e.0 d.0 h.0)

-- One more message is put into both lists, by its ticket.
put_among : (Out : Entry → Type 0) (e : Entry) (es all : List Entry) → AreInOrder all → AreAmong Out es all
    → AreAmong Out (inserted_by_ticket e es) (inserted_by_ticket e all)
put_among Out e es [] h among = rw among (inl ([], refl, refl))
put_among Out e es (a ∷ all) h among = ⊎_elim
    (λ (k : (rest : List Entry) × (es ≡ a ∷ rest) × AreAmong Out rest all).
    subst (λ l. AreAmong Out (inserted_by_ticket e l) (inserted_by_ticket e (a ∷ all))) (sym k.1)
    (elim (nat_lt e.0 a.0) as (λ b. AreAmong Out (if b then e ∷ a ∷ k.0 else a ∷ inserted_by_ticket e k.0) (if b then e ∷ a ∷ all else a ∷ inserted_by_ticket e all)) [
      | true ↦ inl (a ∷ k.0, refl, inl (k.0, refl, k.2))
      | false ↦ inl (inserted_by_ticket e k.0, refl, put_among Out e k.0 all h.1 k.2)
    ]))
    (λ (k : Out a × AreAmong Out es all).
    elim (nat_lt e.0 a.0) as (λ b. nat_lt e.0 a.0 ≡ b → AreAmong Out (inserted_by_ticket e es) (if b then e ∷ a ∷ all else a ∷ inserted_by_ticket e all)) [
      | true ↦ λ less.
          let lt : e.0 < a.0 = ltb-true e.0 a.0 less in
          let greater = all_weaker (λ d. a.0 ≤ d.0) (λ d. e.0 < d.0) (λ d le. omega (arith, lt, le)) es
          (all_kept (λ d. a.0 ≤ d.0) (λ d es. Out d) es all h.0 k.1) in
          inl (es, put_first e es greater, inr k)
      | false ↦ λ late. inr (k.0, put_among Out e es all h.1 k.1)
    ] refl) among

-- `es` sorted is among `es ++ rest` sorted, if `Out` holds of all of `rest`.
pub sorted_among : (Out : Entry → Type 0) (es rest : List Entry) → AllByRecursion Out (by_ticket rest)
    → AreAmong Out (by_ticket es) (by_ticket (es ++ rest))
sorted_among Out [] rest out = none_among Out (by_ticket rest) out
sorted_among Out (e ∷ es) rest out =
    put_among Out e (by_ticket es) (by_ticket (es ++ rest)) (in_order-by_ticket (es ++ rest)) (sorted_among Out es rest out)

-- ---- without a gap

-- the message is related to none of these
abbrev pub IsApart : Geometry → Entry → List Entry → Type 0
IsApart g a es = AllByRecursion (λ e. are_related_entries g a e ≡ false) es

-- The first list has some of the second, in their order: where a message is left out, so is each related one after it.
abbrev pub HasNoGap : Geometry → List Entry → List Entry → Type 0
HasNoGap g = AreKept (IsApart g)

late_unrelated : (g : Geometry) (a e : Entry) → a.0 ≤ e.0 → InOrderIfRelated g e a → are_related_entries g a e ≡ false
late_unrelated g a e le h = apart_turned g e a (false_from_ne_true _ (λ r. omega (arith, le, h r)))

-- there is no gap if each that is kept comes before each related one that is left out
pub no_gap : (g : Geometry) (Out : Entry → Type 0) (es all : List Entry) → AreInOrder all → AreAmong Out es all
    → ((d : Entry) → Out d → AllByRecursion (λ e. InOrderIfRelated g e d) es) → HasNoGap g es all
no_gap g Out es [] h among before = among
no_gap g Out es (a ∷ all) h among before = ⊎_elim
    (λ (k : (rest : List Entry) × (es ≡ a ∷ rest) × AreAmong Out rest all).
    inl (k.0, k.1, no_gap g Out k.0 all h.1 k.2 (λ d out. (subst (AllByRecursion (λ e. InOrderIfRelated g e d)) k.1 (before d out)).1)))
    (λ (k : Out a × AreAmong Out es all).
    inr (unrelated es (all_kept (λ e. a.0 ≤ e.0) (λ d es. Out d) es all h.0 k.1) (before a k.0), no_gap g Out es all h.1 k.1 before))
    among
  where
    unrelated : (es : List Entry) → AllByRecursion (λ e. a.0 ≤ e.0) es → AllByRecursion (λ e. InOrderIfRelated g e a) es
        → IsApart g a es
    unrelated [] le h = tt
    unrelated (e ∷ es) le h = (late_unrelated g a e le.0 h.0, unrelated es le.1 h.1)

-- ---- all in the order of their tickets

no_earlier : (e d : Entry) (es : List Entry) → AllByRecursion (λ c. e.0 < c.0) es → IsIn d es → d.0 ≤ e.0 → ⊥
no_earlier e d es h in_es le = let less = holds_of (λ c. e.0 < c.0) es h d in_es in omega (arith, less, le)

same_head : (e d : Entry) (es ds : List Entry) → AllByRecursion (λ c. e.0 < c.0) es → AllByRecursion (λ c. d.0 < c.0) ds
    → IsIn e (d ∷ ds) → IsIn d (e ∷ es) → e ≡ d
same_head e d es ds h k in_ds in_es = ⊎_elim (λ (same : e ≡ d). same)
    (λ late. ⊎_elim (λ (same : d ≡ e). sym same)
    (λ later. absurd (no_earlier e d es h later (let less = holds_of (λ c. d.0 < c.0) ds k e late in omega (arith, less)))) in_es) in_ds

in_rest : (e c : Entry) (es ds : List Entry) → AllByRecursion (λ c. e.0 < c.0) es → IsIn c es → IsIn c (e ∷ ds) → IsIn c ds
in_rest e c es ds h in_es in_ds = ⊎_elim
    (λ (same : c ≡ e). absurd (no_earlier e c es h in_es (let at = ap (λ (d : Entry). d.0) same in omega (arith, at)))) (λ late. late) in_ds

-- Two lists of the same messages, both with ascending tickets, are equal.
pub same_order : (es ds : List Entry) → AreAscending es → AreAscending ds → ((e : Entry) → IsIn e es → IsIn e ds)
    → ((e : Entry) → IsIn e ds → IsIn e es) → es ≡ ds
same_order [] [] h k there back = refl
same_order [] (d ∷ ds) h k there back = absurd (back d (inl refl))
same_order (e ∷ es) [] h k there back = absurd (there e (inl refl))
same_order (e ∷ es) (d ∷ ds) h k there back =
    let same = same_head e d es ds h.0 k.0 (there e (inl refl)) (back d (inl refl)) in
    let greater = subst (λ (c : Entry). AllByRecursion (λ f. c.0 < f.0) ds) (sym same) k.0 in
    let rest = same_order es ds h.1 k.1
    (λ c is. in_rest e c es ds h.0 is (subst (λ (f : Entry). IsIn c (f ∷ ds)) (sym same) (there c (inr is))))
    (λ c is. in_rest e c ds es greater is (back c (inr is))) in
    λ i. same i ∷ rest i

ascending_distinct : (es : List Entry) → AreInOrder es → IsDistinct one_ticket es → AreAscending es
unfolding IsDistinct
ascending_distinct [] h k = tt
ascending_distinct (e ∷ es) h k = (strictly es h.0 k.0, ascending_distinct es h.1 k.1)
  where
    strictly : (es : List Entry) → AllByRecursion (λ d. e.0 ≤ d.0) es → AllByRecursion (λ d. one_ticket e d ≡ false) es
        → AllByRecursion (λ d. e.0 < d.0) es
    strictly [] le k = tt
    strictly (d ∷ es) le k = (let le' = le.0 in let ne = eqb-false e.0 d.0 k.0 in omega (arith, le', ne), strictly es le.1 k.1)

permuted_in : {A : Type 0} (es ds : List A) → IsPermutation es ds → (e : A) → IsIn e ds → IsIn e es
permuted_in es ds same e is = in_contained es e
    (holds_of (Contains es) ds (all_permuted (Contains es) es ds same (recursion_from_All (Contains es) es (All-contains_itself es))) e is)

-- A list with ascending tickets is what sorting any permutation of it gives.
pub sorted_again : (es ds : List Entry) → AreAscending es → IsPermutation es ds → by_ticket ds ≡ es
sorted_again es ds h same =
    let sorted = IsPermutation-trans es ds (by_ticket ds) same (permutation-by_ticket ds) in
    same_order (by_ticket ds) es
    (ascending_distinct (by_ticket ds) (in_order-by_ticket ds)
    (IsDistinct-IsPermutation one_ticket (λ e d. same_turned e.0 d.0) es (by_ticket ds) sorted (distinct_ascending es h)))
    h (permuted_in es (by_ticket ds) sorted) (permuted_in (by_ticket ds) es (IsPermutation-sym es (by_ticket ds) sorted))

-- ---- a serial history

both_parts : {A : Type 0} (a b : A) (as' bs : List A) → a ∷ as' ≡ b ∷ bs → (a ≡ b) × (as' ≡ bs)
both_parts a b as' bs h = (cc, cc)

-- The recorded changes of a history lead to the same state as all its messages.
pub log_leads : (g : Geometry) (x : State) (log : List Replied) → ticket_replies log ≡ serial_replies g x (entries log)
    → state_after_all g x (recorded log) ≡ state_after_all g x (messages_of (entries log))
log_leads g x [] h = refl
log_leads g x (a ∷ log) h =
    let parts = both_parts (a.0, a.2) (a.0, reply_to g x a.1) (ticket_replies log) (serial_replies g (next_state g x a.1) (entries log)) h in
    let reply : a.2 ≡ reply_to g x a.1 = ap (λ p. p.1) parts.0 in
    let rest = log_leads g (next_state g x a.1) log parts.1 in
    elim (is_recorded a.1 a.2) as
    (λ b. is_recorded a.1 a.2 ≡ b → state_after_all g x (map
    (λ (a : Replied). a.1) (cond b (a ∷ filter (λ a. is_recorded a.1 a.2) log) (filter (λ a. is_recorded a.1 a.2) log)))
    ≡ state_after_all g (next_state g x a.1) (messages_of (entries log))) [
      | true ↦ λ e. rest
      | false ↦ λ e. ap (λ y. state_after_all g y (recorded log)) (sym (unrecorded_changes_nothing g x a.1 (ap (is_recorded a.1) (sym reply) ∙ e))) ∙ rest
    ] refl

-- A serial history in the order of its tickets: some of all that arrived, without a gap. They lead to the state to which the
-- recorded changes lead, and each has the reply that the history has for it.
pub record IsSortedLog (g : Geometry) (x : State) (arrivals : List Entry) (log : List Replied) (sorted : List Entry) : Type 0 where
  pub no_gap : HasNoGap g sorted arrivals
  pub state : state_after_all g x (recorded log) ≡ state_after_all g x (messages_of sorted)
  pub tells : (p : ℕ × Reply) → IsIn p (ticket_replies log) → IsIn p (serial_replies g x sorted)

pub sorted_log : (g : Geometry) (x : State) (arrivals : List Entry) (log : List Replied) → AreAscending arrivals
    → IsSerialHistory g x arrivals log → IsSortedLog g x arrivals log (by_ticket (entries log))
sorted_log g x arrivals log ascending h =
    let es = entries log in
    let order = keeps_front es h.rest h.by_ticket in
    let all = sorted_again arrivals (es ++ h.rest) ascending h.each_once in
    record {
      no_gap = subst (HasNoGap g (by_ticket es)) all
          (no_gap g before (by_ticket es) (by_ticket (es ++ h.rest)) (in_order-by_ticket (es ++ h.rest))
          (sorted_among before es h.rest (all-by_ticket before h.rest (crossed es h.rest h.by_ticket)))
          (λ d out. all-by_ticket (λ e. InOrderIfRelated g e d) es out));
      state = log_leads g x log h.in_order ∙ sym (state_after_all-by_ticket g x es order);
      tells = λ p is. subst (IsIn p) (sym (serial_replies-by_ticket g x es order))
          (sorted_in (serial_replies g x es) p (subst (IsIn p) h.in_order is));
    }
  where
    before : Entry → Type 0
    before d = AllByRecursion (λ e. InOrderIfRelated g e d) (entries log)

    keeps_front : (es rest : List Entry) → KeepsOrder g (es ++ rest) → KeepsOrder g es
    keeps_front [] rest h = tt
    keeps_front (e ∷ es) rest h = (all_front (InOrderIfRelated g e) es rest h.0, keeps_front es rest h.1)

    -- each message of the first list may come before each of the others: related ones are in order
    across : (es rest : List Entry) → KeepsOrder g (es ++ rest) → AllByRecursion (λ e. AllByRecursion (InOrderIfRelated g e) rest) es
    across [] rest h = tt
    across (e ∷ es) rest h = (all_back (InOrderIfRelated g e) es rest h.0, across es rest h.1)

    turned : (es rest : List Entry) → AllByRecursion (λ e. AllByRecursion (InOrderIfRelated g e) rest) es
        → AllByRecursion (λ d. AllByRecursion (λ e. InOrderIfRelated g e d) es) rest
    turned es [] h = tt
    turned es (d ∷ rest) h = (
      all_weaker (λ e. AllByRecursion (InOrderIfRelated g e) (d ∷ rest)) (λ e. InOrderIfRelated g e d) (λ e k. k.0) es h,
      turned es rest (all_weaker (λ e. AllByRecursion (InOrderIfRelated g e) (d ∷ rest)) (λ e. AllByRecursion (InOrderIfRelated g e) rest) (λ e k. k.1) es h),
    )

    crossed : (es rest : List Entry) → KeepsOrder g (es ++ rest) → AllByRecursion (λ d. AllByRecursion (λ e. InOrderIfRelated g e d) es) rest
    crossed es rest h = turned es rest (across es rest h)

    sorted_in : (ps : List (ℕ × Reply)) (p : ℕ × Reply) → IsIn p ps → IsIn p (by_ticket ps)
    sorted_in ps p is = permuted_in (by_ticket ps) ps (IsPermutation-sym ps (by_ticket ps) (permutation-by_ticket ps)) p is
