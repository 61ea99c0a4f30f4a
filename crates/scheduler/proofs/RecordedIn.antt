-- The changes among the messages that ran, gathered one after the other.
use Rattle.std.proofs.Common.{◌≡◌, ℕ, zero, suc, ◌+◌, ◌≤◌, ◌<◌, true, false, List, [], ◌∷◌, ◌++◌, map, length, take, drop, get_or, Option, Some, None, refl, sym, ap, subst, ◌∙◌, arith, inl, inr}
use Rattle.std.specs.Prelude.{cond, slice_index_or, if◌then◌else◌, unwrap_or}
use Rattle.std.specs.List.{concat}
use Rattle.std.proofs.lemmas.Bool.{lt-ltb, le-ltb, eq-eqb}
use Rattle.std.proofs.lemmas.Bool.Decides.{eqb_tells}
use Rattle.std.proofs.lemmas.List.{length-append, map-append}
use Rattle.std.proofs.lemmas.List.Sums.{sum_by_push}
use Rattle.arena.specs.Lists.{behind, behind_in, first_of, count_of}
use Rattle.arena.specs.ArenaView.{ArenaView, IsPartitioned, capacity_of, chain_at, next_of, value_at}
use Rattle.arena.proofs.ArenaLemmas.{chained-holds, length-parts}
use Rattle.arena.proofs.Counts.{count_of-append, count_of-at, count_of-cons_is, count_of-cons_other}
use Rattle.histories.specs.Eligible.{changes}
use Rattle.histories.specs.Events.{recorded}
use Rattle.histories.specs.CoreState.{Replied}
use Rattle.protocol.specs.declared.messages.Msg.{Msg}
use Rattle.protocol.specs.declared.replies.Reply.{Reply}
use Rattle.protocol.specs.declared.replies.Reply.TheVariants.{Done}
use Rattle.meaning.specs.Step.{is_recorded}
use Rattle.scheduler.proofs.GrantCall.{some_value}
use Rattle.scheduler.proofs.HasLogged.{some_first}
use Rattle.scheduler.proofs.Splits.{count_of-split}
use Rattle.scheduler.proofs.Lists.{cut_at, take_one, left_over}
use Rattle.scheduler.specs.HasLogged.{changing_in, recorded_in}
use Rattle.scheduler.specs.Slots.{HasChains, SlotView, no_slot, slot_view_at, replied_of}
use Rattle.scheduler.specs.declared.core_memory.Slot.{Slot}
use Rattle.scheduler.specs.declared.core_memory.TheConstants.{RAN}
use Rattle.histories.proofs.Entries.{recorded-append}

-- ---- the slot behind one on its chain

behind_split : (i : ℕ) (front back : List ℕ) → count_of i (front ++ i ∷ back) ≤ 1 → behind i (front ++ i ∷ back) ≡ first_of back
behind_split i [] back once = ap (λ b. if b then first_of back else behind i back) (eq-eqb i i refl)
behind_split i (x ∷ front) back once = elim (eqb_tells x i) [
  | inl e ↦ absurd (let some = count_of-cons_is i x (front ++ i ∷ back) e.1 in let more = count_of-split i front back in omega (arith, some, more, once))
  | inr n ↦ ap (λ b. if b then first_of (front ++ i ∷ back) else behind i (front ++ i ∷ back)) n.0
      ∙ behind_split i front back (let same = count_of-cons_other i x (front ++ i ∷ back) n.1 in omega (arith, same, once))
]

behind_in_at : (i c : ℕ) (lists : List (List ℕ)) (front back : List ℕ) → slice_index_or lists c [] ≡ front ++ i ∷ back → count_of i (concat lists) ≤ 1
    → behind_in i lists ≡ first_of back
behind_in_at i c [] front back whole once =
    let none : count_of i (slice_index_or {A = List ℕ} [] c []) ≤ 0 = count_of-at i [] c in
    let some = count_of-split i front back in
    let same = ap (count_of i) whole in
    absurd (omega (arith, none, some, same))
behind_in_at i zero (ys ∷ lists) front back whole once =
    let some = count_of-split i front back in
    let same = ap (count_of i) whole in
    let all = count_of-append i ys (concat lists) in
    ap (λ b. if b then behind i ys else behind_in i lists) (lt-ltb 0 (count_of i ys) (omega (arith, some, same)))
    ∙ ap (behind i) whole ∙ behind_split i front back (omega (arith, some, same, all, once))
behind_in_at i (suc c) (ys ∷ lists) front back whole once =
    let at = count_of-at i lists c in
    let some = count_of-split i front back in
    let same = ap (count_of i) whole in
    let all = count_of-append i ys (concat lists) in
    ap (λ b. if b then behind i ys else behind_in i lists) (le-ltb 0 (count_of i ys) (omega (arith, at, some, same, all, once)))
    ∙ behind_in_at i c lists front back whole (omega (arith, all, once))

next_on : (arena : ArenaView Slot) (c i : ℕ) (front back : List ℕ) → IsPartitioned arena → chain_at arena c ≡ front ++ i ∷ back → next_of arena i ≡ first_of back
next_on arena c i front back partitioned whole =
    let all = count_of-append i arena.free (concat arena.chains) in
    let once = partitioned.once i in
    behind_in_at i c arena.chains front back whole (omega (arith, all, once))

length_at : (lists : List (List ℕ)) (c : ℕ) → length (slice_index_or lists c []) ≤ length (concat lists)
length_at [] zero = omega arith
length_at [] (suc c) = omega arith
length_at (ys ∷ lists) zero = let all = length-append ys (concat lists) in omega (arith, all)
length_at (ys ∷ lists) (suc c) = let all = length-append ys (concat lists) in let deeper = length_at lists c in omega (arith, all, deeper)

-- a chain has no more slots than the arena
pub chain_short : (arena : ArenaView Slot) (c : ℕ) → IsPartitioned arena → length (chain_at arena c) ≤ capacity_of arena
chain_short arena c partitioned = let all = length-parts arena partitioned in let at = length_at arena.chains c in omega (arith, all, at)

-- ---- a chain, cut at one of its slots

-- ---- what is gathered

gathered_append : (arena : ArenaView Slot) (replies : List Reply) (xs ys : List ℕ) → recorded_in arena replies (xs ++ ys) ≡ recorded_in arena replies xs ++ recorded_in arena replies ys
gathered_append arena replies xs ys =
    ap (λ (l : List SlotView). recorded (map replied_of l)) (map-append (slot_view_at arena replies) xs ys)
    ∙ ap recorded (map-append replied_of (map (slot_view_at arena replies) xs) (map (slot_view_at arena replies) ys))
    ∙ recorded-append (map replied_of (map (slot_view_at arena replies) xs)) (map replied_of (map (slot_view_at arena replies) ys))

any_ticket : (t u : ℕ) (m : Msg) (r : Reply) → recorded ((t, m, r) ∷ []) ≡ recorded ((u, m, r) ∷ [])
any_ticket t u m r = elim (is_recorded m r) as (λ b. map (λ (a : Replied). a.1) (cond b ((t, m, r) ∷ []) []) ≡ map (λ (a : Replied). a.1) (cond b ((u, m, r) ∷ []) [])) [
  | true ↦ refl
  | false ↦ refl
]

module _ (arena : ArenaView Slot) (replies : List Reply) (is : HasChains arena) (n i : ℕ) (first : first_of (drop n (chain_at arena RAN)) ≡ Some i) where
  abbrev xs : List ℕ
  xs = chain_at arena RAN

  chained : 0 < count_of i xs
  chained = subst (λ (l : List ℕ). 0 < count_of i l) (sym (cut_at n i xs first)) (count_of-split i (take n xs) (drop (suc n) xs))

  pub ran_is_there : value_at arena i ≡ None → ⊥
  ran_is_there none = some_value (value_at arena i) (chained-holds arena i RAN is.partitioned chained) none

  pub ran_next : next_of arena i ≡ first_of (drop (n + 1) xs)
  ran_next = let count : suc n ≡ n + 1 = omega arith in
      next_on arena RAN i (take n xs) (drop (suc n) xs) is.partitioned (cut_at n i xs first) ∙ ap (λ (m : ℕ). first_of (drop m xs)) count

  module _ (slot : Slot) (value : Some slot ≡ value_at arena i) where
    slot_is : unwrap_or (value_at arena i) no_slot ≡ slot
    slot_is = ap (λ (o : Option Slot). unwrap_or o no_slot) (sym value)

    pub changing_more : (found more : ℕ) → found ≡ changing_in arena (take n xs) → more ≡ cond (changes slot.message) 1 0 → found + more ≡ changing_in arena (take (n + 1) xs)
    changing_more found more was is_more =
        (λ z. was z + (is_more ∙ ap (λ (s : Slot). cond (changes s.message) 1 0) (sym slot_is)) z)
        ∙ one_changing (take n xs)
        ∙ ap (changing_in arena) (sym (take_one n i xs first))
      where
        one_changing : (ys : List ℕ) → changing_in arena ys + cond (changes (unwrap_or (value_at arena i) no_slot).message) 1 0 ≡ changing_in arena (ys ++ i ∷ [])
        one_changing ys = sym (sum_by_push (λ (j : ℕ). cond (changes (unwrap_or (value_at arena j) no_slot).message) 1 0) ys i)

    pub gathered_more : (reply : Reply) → get_or replies i Done ≡ reply → (old : List Msg) → old ≡ recorded_in arena replies (take n xs)
        → old ++ recorded ((0, slot.message, reply) ∷ []) ≡ recorded_in arena replies (take (n + 1) xs)
    gathered_more reply reply_is old was =
        (λ z. was z ++ recorded ((0, (sym slot_is z).message, sym reply_is z) ∷ []))
        ∙ ap (λ (l : List Msg). recorded_in arena replies (take n xs) ++ l)
        (any_ticket 0 (unwrap_or (value_at arena i) no_slot).ticket (unwrap_or (value_at arena i) no_slot).message (get_or replies i Done))
        ∙ sym (gathered_append arena replies (take n xs) (i ∷ []))
        ∙ ap (recorded_in arena replies) (sym (take_one n i xs first))

pub ran_goes_on : (arena : ArenaView Slot) (n count : ℕ) → n < count → count ≤ length (chain_at arena RAN) → first_of (drop n (chain_at arena RAN)) ≡ None → ⊥
ran_goes_on arena n count low few none = some_first (drop n (chain_at arena RAN)) (left_over n (chain_at arena RAN) (omega (arith, low, few))) none
