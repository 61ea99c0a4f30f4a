-- Which ready entries stay right, and what they show of the messages that may be dispatched.
use Rattle.std.proofs.lemmas.Grind.{common_steps}
use Rattle.std.proofs.Common.{◌≡◌, ◌≢◌, ◌∙◌, ℕ, ◌<◌, ◌≤◌, Bool, true, false, not, ◌&&◌, ◌||◌, List, [], ◌∷◌, ◌++◌, find, Option, Some, None, refl, ap, sym, subst, inl, inr, arith}
use Rattle.std.specs.Prelude.{nat_lt, if◌then◌else◌}
use Rattle.std.specs.List.{list_any, AllByRecursion}
use Rattle.std.proofs.lemmas.Bool.{ne_eqb, eqb-true, lt-ltb, cases_Bool, cases_eq, and_from, or_left, and_right}
use Rattle.std.proofs.lemmas.Option.{none-some}
use Rattle.std.proofs.Math.Bool.{or_comm}
use Rattle.affinity.specs.Interval.{Interval, IsAffinity, contains, affinity_count}
use Rattle.affinity.specs.declared.geometry.Geometry.{Geometry}
use Rattle.run_queue.specs.RunQueue.{are_related_intervals, is_free_of, has_room, has_slot, has_number, without_slot, without_number, CameBefore}
use Rattle.arena.proofs.Counts.{count_of-cons_is, count_of-cons_other}
use Rattle.run_queue.specs.Slots.{count_in_slot}
use Rattle.run_queue.specs.Order.{Ascend, waits_for, is_conflict_free}
use Rattle.run_queue.specs.HeldMessages.{HasInserted}
use Rattle.run_queue.specs.ReadyTable.{if_passes, ready_at, IsEntryRight, StayRight, AreRelatedRight}
use Rattle.run_queue.specs.declared.queued_message.QueuedMessage.{QueuedMessage}
use Rattle.run_queue.proofs.AffinitiesAbove.{number-below, same_path}
use Rattle.run_queue.proofs.Earliest.{dispatchable_at, none_at, some_at, empty_at}
use Rattle.run_queue.proofs.Finds.{find-last_other, find-last_found, find-cons, find-skip, find-all, find-passes, any-found}

-- ---- what the ready entries show

-- the message that may be dispatched at a number is the ready one there, if the log has room for it
pub room-at : (g : Geometry) (room : Bool) (held waiting : List QueuedMessage) → AllByRecursion (λ d. IsAffinity g d.affinity) waiting → Ascend waiting
    → (n : ℕ) → if_passes (has_room room) (ready_at held waiting n) ≡ dispatchable_at room held waiting n
room-at g room held waiting placed ascends n = by (find (has_number n) waiting) refl
  where
    by : (o : Option QueuedMessage) → find (has_number n) waiting ≡ o → if_passes (has_room room) (if_passes (is_conflict_free held waiting) o) ≡ dispatchable_at room held waiting n
    by None is = sym (empty_at g room held waiting placed ascends n is)
    by (Some f) is = elim (cases_Bool (is_conflict_free held waiting f)) [
      | inl clear ↦ ap (λ b. if_passes (has_room room) (if b then Some f else None)) clear ∙ elim (cases_Bool (has_room room f)) [
        | inl has ↦ ap (λ b. if b then Some f else None) has ∙ sym (some_at g room held waiting placed ascends n f is (and_from _ _ has clear))
        | inr full ↦ ap (λ b. if b then Some f else None) full
            ∙ sym (none_at g room held waiting placed ascends n f is (ap (λ b. b && is_conflict_free held waiting f) full))
      ]
      | inr kept ↦ ap (λ b. if_passes (has_room room) (if b then Some f else None)) kept
          ∙ sym (none_at g room held waiting placed ascends n f is (ap (λ b. has_room room f && b) kept ∙ and_right _ false refl))
    ]

-- an entry stays right if the message that is first at its number stays first, and as conflict-free as it was
pub ready-same : (held waiting held' waiting' : List QueuedMessage) (n : ℕ) → find (has_number n) waiting' ≡ find (has_number n) waiting
    → ((f : QueuedMessage) → find (has_number n) waiting ≡ Some f → is_conflict_free held' waiting' f ≡ is_conflict_free held waiting f)
    → ready_at held' waiting' n ≡ ready_at held waiting n
ready-same held waiting held' waiting' n same clear = grind (arith, common_steps)

-- ---- one ready entry

-- no message waits at a number that no affinity has
pub none-at : (g : Geometry) (waiting : List QueuedMessage) (n : ℕ) → AllByRecursion (λ d. IsAffinity g d.affinity) waiting → affinity_count g ≤ n
    → find (has_number n) waiting ≡ None
none-at g [] n placed past = refl
none-at g (d ∷ waiting) n placed past =
    let below = number-below g d.affinity placed.0 in
    find-skip (has_number n) d waiting (ne_eqb d.affinity.number n (λ same. omega (arith, below, same, past))) ∙ none-at g waiting n placed.1 past

pub stay-trans : (held waiting : List QueuedMessage) (a b c : List (Option QueuedMessage)) → StayRight held waiting a b → StayRight held waiting b c → StayRight held waiting a c
stay-trans held waiting a b c first second = (second.0 ∙ first.0, λ n right. second.1 n (first.1 n right))

-- ---- a message that arrives

-- a message t that arrives later than f doesn't keep f back
later-clear : (held waiting : List QueuedMessage) (t f : QueuedMessage) → f.ticket < t.ticket → is_conflict_free held (waiting ++ t ∷ []) f ≡ is_conflict_free held waiting f
later-clear held waiting t f less = grind (arith, common_steps)

module _ (held waiting : List QueuedMessage) (t : QueuedMessage) (later : CameBefore t.ticket waiting) where
  pub ready-arrived : (n : ℕ) → (find (has_number n) waiting ≡ None → t.affinity.number ≢ n) → ready_at held (waiting ++ t ∷ []) n ≡ ready_at held waiting n
  ready-arrived n other =
      ready-same held waiting held (waiting ++ t ∷ []) n (by (find (has_number n) waiting) refl) (λ f is.
      later-clear held waiting t f (find-all (λ u. u.ticket < t.ticket) (has_number n) waiting f later is))
    where
      by : (o : Option QueuedMessage) → find (has_number n) waiting ≡ o → find (has_number n) (waiting ++ t ∷ []) ≡ find (has_number n) waiting
      by None is = find-last_other (has_number n) waiting t (ne_eqb t.affinity.number n (other is))
      by (Some f) is = find-last_found (has_number n) waiting t f is

  pub right-arrived : (before after : List (Option QueuedMessage)) → ((n : ℕ) → IsEntryRight held waiting before n) → StayRight held (waiting ++ t ∷ []) before after
      → (find (has_number t.affinity.number) waiting ≡ None → IsEntryRight held (waiting ++ t ∷ []) after t.affinity.number)
      → (n : ℕ) → IsEntryRight held (waiting ++ t ∷ []) after n
  right-arrived before after right stay here n = elim (cases_eq n t.affinity.number) [
    | inl e ↦ subst (λ m. IsEntryRight held (waiting ++ t ∷ []) after m) (sym e) (by (find (has_number t.affinity.number) waiting) refl)
    | inr other ↦ stay.1 n (right n ∙ sym (ready-arrived n (λ none same. other (sym same))))
  ]
    where
      by : (o : Option QueuedMessage) → find (has_number t.affinity.number) waiting ≡ o → IsEntryRight held (waiting ++ t ∷ []) after t.affinity.number
      by None is = here is
      by (Some f) is = stay.1 t.affinity.number
          (right t.affinity.number ∙ sym (ready-arrived t.affinity.number (λ none. absurd (none-some f (sym none ∙ is)))))

-- ---- a message that is dispatched

-- no other message has t's slot
none-alone : (t : QueuedMessage) (ts : List QueuedMessage) → count_in_slot t.slot ts ≡ 0 → AllByRecursion (λ u. has_slot t.slot u ≡ true → u ≡ t) ts
none-alone t [] none = tt
none-alone t (d ∷ ts) none = grind (arith, common_steps, none-alone t ts)

there-found : (p : QueuedMessage → Bool) (ts : List QueuedMessage) (t : QueuedMessage) → find p ts ≡ Some t → 1 ≤ count_in_slot t.slot ts
there-found p [] t found = absurd (none-some t found)
there-found p (d ∷ ts) t found = grind (arith, common_steps, there-found p ts t)

alone : (p : QueuedMessage → Bool) (ts : List QueuedMessage) (t : QueuedMessage) → find p ts ≡ Some t → count_in_slot t.slot ts ≤ 1
    → AllByRecursion (λ u. has_slot t.slot u ≡ true → u ≡ t) ts
alone p [] t found once = tt
alone p (d ∷ ts) t found once =
    grind (arith, common_steps, alone p ts t, find-cons, count_of-cons_is, none-alone, find-skip, there-found, count_of-cons_other)

find-without : (p : QueuedMessage → Bool) (ts : List QueuedMessage) (t : QueuedMessage) → AllByRecursion (λ u. has_slot t.slot u ≡ true → u ≡ t) ts → p t ≡ false
    → find p (without_slot t.slot ts) ≡ find p ts
find-without p [] t all other = refl
find-without p (d ∷ ts) t all other = grind (arith, common_steps, find-without p ts t all.1 other)

any-without : (q : QueuedMessage → Bool) (ts : List QueuedMessage) (t : QueuedMessage) → AllByRecursion (λ u. has_slot t.slot u ≡ true → u ≡ t) ts → q t ≡ false
    → list_any q (without_slot t.slot ts) ≡ list_any q ts
any-without q [] t all other = refl
any-without q (d ∷ ts) t all other = grind (arith, common_steps, any-without q ts t all.1 other)

any-between : (q : QueuedMessage → Bool) (t : QueuedMessage) (before after : List QueuedMessage) → HasInserted t before after → list_any q after ≡ (q t || list_any q before)
any-between q t before after h = grind (arith, common_steps)

-- those that wait have distinct tickets
same-ticket : (p q : QueuedMessage → Bool) (ts : List QueuedMessage) {a b : QueuedMessage} → Ascend ts → find p ts ≡ Some a → find q ts ≡ Some b
    → a.ticket ≡ b.ticket → a ≡ b
same-ticket p q [] {a} ascends first second same = absurd (none-some a first)
same-ticket p q (d ∷ ts) {a} {b} ascends first second same = elim (cases_Bool (p d)) [
  | inl k ↦ (let is = sym (find-cons p d ts k) ∙ first in let a_is : d ≡ a = cc in elim (cases_Bool (q d)) [
    | inl l ↦ (let is' = sym (find-cons q d ts l) ∙ second in cc)
    | inr l ↦ (let more = find-all (λ u. d.ticket < u.ticket) q ts b ascends.0 (sym (find-skip q d ts l) ∙ second) in
        let at = ap (λ (u : QueuedMessage). u.ticket) a_is in absurd (omega (arith, more, at, same)))
  ])
  | inr k ↦ (let later = sym (find-skip p d ts k) ∙ first in elim (cases_Bool (q d)) [
    | inl l ↦ (let is' = sym (find-cons q d ts l) ∙ second in let b_is : d ≡ b = cc in
        let more = find-all (λ u. d.ticket < u.ticket) p ts a ascends.0 later in
        let at = ap (λ (u : QueuedMessage). u.ticket) b_is in absurd (omega (arith, more, at, same)))
    | inr l ↦ same-ticket p q ts ascends.1 later (sym (find-skip q d ts l) ∙ second) same
  ])
]

overlap-both : (a b : Interval) → are_related_intervals a b ≡ are_related_intervals b a
overlap-both a b = or_comm (contains a b.number) (contains b a.number)

not_held : (held waiting : List QueuedMessage) (u : QueuedMessage) → list_any (λ other. are_related_intervals u.affinity other.affinity) held ≡ true → is_conflict_free held waiting u ≡ false
not_held held waiting u near = ap (λ b. not b && not (list_any (waits_for u) waiting)) near

not_first : (held waiting : List QueuedMessage) (u : QueuedMessage) → list_any (waits_for u) waiting ≡ true → is_conflict_free held waiting u ≡ false
not_first held waiting u late = ap (λ b. is_free_of held u && not b) late ∙ and_right (is_free_of held u) false refl

module _ (held held' waiting : List QueuedMessage) (t : QueuedMessage) (joined : HasInserted t held held') (ascends : Ascend waiting)
    (once : count_in_slot t.slot waiting ≤ 1) (first : find (has_number t.affinity.number) waiting ≡ Some t) (clear : is_conflict_free held waiting t ≡ true) where
  it_alone : AllByRecursion (λ u. has_slot t.slot u ≡ true → u ≡ t) waiting
  it_alone = alone (has_number t.affinity.number) waiting t first once

  -- a message f at a related affinity was kept back by t before t was dispatched
  kept_before : (n : ℕ) (f : QueuedMessage) → find (has_number n) waiting ≡ Some f → t.affinity.number ≢ n → are_related_intervals f.affinity t.affinity ≡ true
      → is_conflict_free held waiting f ≡ false
  kept_before n f found other near = grind (arith, common_steps, not_first, any-found, and_from, lt-ltb, overlap-both, same-ticket, eqb-true, find-passes)

  gone-clear : (n : ℕ) (f : QueuedMessage) → find (has_number n) waiting ≡ Some f → t.affinity.number ≢ n
      → is_conflict_free held' (without_slot t.slot waiting) f ≡ is_conflict_free held waiting f
  gone-clear n f found other = elim (cases_Bool (are_related_intervals f.affinity t.affinity)) [
    | inl near ↦ not_held held' (without_slot t.slot waiting) f
        (any-between (λ u. are_related_intervals f.affinity u.affinity) t held held' joined ∙ or_left _ _ near)
        ∙ sym (kept_before n f found other near)
    | inr far ↦ (let same = any-between (λ u. are_related_intervals f.affinity u.affinity) t held held' joined
        ∙ ap (λ b. b || list_any (λ u. are_related_intervals f.affinity u.affinity) held) far in
        let left = any-without (waits_for f) waiting t it_alone
        (ap (λ b. nat_lt t.ticket f.ticket && b) far ∙ and_right (nat_lt t.ticket f.ticket) false refl) in
        ap (λ b. not b && not (list_any (waits_for f) (without_slot t.slot waiting))) same
        ∙ ap (λ b. is_free_of held f && not b) left)
  ]

  pub ready-gone : (n : ℕ) → t.affinity.number ≢ n → ready_at held' (without_slot t.slot waiting) n ≡ ready_at held waiting n
  ready-gone n other = ready-same held waiting held' (without_slot t.slot waiting) n
      (find-without (has_number n) waiting t it_alone (ne_eqb t.affinity.number n other))
      (λ f found. gone-clear n f found other)

-- ---- an affinity that is freed

-- two affinities with the same number are the same
pub same_affinity : (g : Geometry) (a b : Interval) → IsAffinity g a → IsAffinity g b → a.number ≡ b.number → a ≡ b
same_affinity g a b h k same = grind (arith, common_steps, same_path)

module _ (g : Geometry) (t : QueuedMessage) (placed : IsAffinity g t.affinity) where
  any-freed : (u : QueuedMessage) (ds : List QueuedMessage) → AllByRecursion (λ d. IsAffinity g d.affinity) ds → are_related_intervals t.affinity u.affinity ≡ false
      → list_any (λ other. are_related_intervals u.affinity other.affinity) (without_number t.affinity.number ds)
      ≡ list_any (λ other. are_related_intervals u.affinity other.affinity) ds
  any-freed u [] all far = refl
  any-freed u (d ∷ ds) all far = elim (cases_Bool (has_number t.affinity.number d)) [
    | inl k ↦ (let same = same_affinity g d.affinity t.affinity all.0 placed (eqb-true d.affinity.number t.affinity.number k) in
        let none = ap (λ (a : Interval). are_related_intervals u.affinity a) same ∙ overlap-both u.affinity t.affinity ∙ far in
        rw k (any-freed u ds all.1 far ∙ ap (λ b. b || list_any (λ other. are_related_intervals u.affinity other.affinity) ds) (sym none)))
    | inr k ↦ rw k (ap (λ b. are_related_intervals u.affinity d.affinity || b) (any-freed u ds all.1 far))
  ]

  module _ (held waiting : List QueuedMessage) (held_placed : AllByRecursion (λ d. IsAffinity g d.affinity) held)
      (waiting_placed : AllByRecursion (λ d. IsAffinity g d.affinity) waiting) where
    pub right-freed : (before after : List (Option QueuedMessage)) → ((n : ℕ) → IsEntryRight held waiting before n)
        → AreRelatedRight g t.affinity (without_number t.affinity.number held) waiting after
        → StayRight (without_number t.affinity.number held) waiting before after
        → (n : ℕ) → IsEntryRight (without_number t.affinity.number held) waiting after n
    right-freed before after right near stay n = by (find (has_number n) waiting) refl
      where
        stays : ((f : QueuedMessage) → find (has_number n) waiting ≡ Some f → are_related_intervals t.affinity f.affinity ≡ false)
            → IsEntryRight (without_number t.affinity.number held) waiting after n
        stays far = stay.1 n (right n ∙ sym (ready-same held waiting (without_number t.affinity.number held) waiting n refl (λ f found.
            ap (λ b. not b && not (list_any (waits_for f) waiting)) (any-freed f held held_placed (far f found)))))

        by : (o : Option QueuedMessage) → find (has_number n) waiting ≡ o → IsEntryRight (without_number t.affinity.number held) waiting after n
        by None is = stays (λ f found. absurd (none-some f (sym is ∙ found)))
        by (Some f) is = elim (cases_Bool (are_related_intervals t.affinity f.affinity)) [
          | inl close ↦ (let f_placed = find-all (λ d. IsAffinity g d.affinity) (has_number n) waiting f waiting_placed is in
              subst (λ m. IsEntryRight (without_number t.affinity.number held) waiting after m)
              (eqb-true f.affinity.number n (find-passes (has_number n) waiting f is)) (near f.affinity f_placed close))
          | inr far ↦ stays (λ u found. (let both = sym is ∙ found in let same : f ≡ u = cc in
              subst (λ (v : QueuedMessage). are_related_intervals t.affinity v.affinity ≡ false) same far))
        ]
