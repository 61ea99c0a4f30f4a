-- How often slots occur in lists, and how long lists are.
use Rattle.std.proofs.lemmas.Grind.{common_steps}
use Rattle.std.proofs.Common.{◌≡◌, ◌≢◌, ℕ, zero, suc, ◌+◌, ◌<◌, ◌≤◌, Bool, true, false, List, [], ◌∷◌, ◌++◌, filter, refl, sym, ap, ◌∙◌, inl, inr, arith, length}
use Rattle.std.specs.Prelude.{if◌then◌else◌, nat_lt}
use Rattle.std.specs.List.{list_any}
use Rattle.std.proofs.lemmas.Bool.{cases_eq, or_parts, true≢false}
use Rattle.std.proofs.lemmas.List.{length-append, map-append}
use Rattle.arena.specs.Lists.{count_of, without}
use Rattle.arena.proofs.Counts.{count_of-append, count_of-without_same, count_of-without_other}
use Rattle.run_queue.specs.RunQueue.{has_slot, without_slot}
use Rattle.run_queue.specs.Slots.{slots_in, count_in_slot, AreInSlots}
use Rattle.run_queue.specs.declared.queued_message.QueuedMessage.{QueuedMessage}

-- ---- how often a slot occurs in a list

pub count_in_slot-append : (s : ℕ) (ts us : List QueuedMessage) → count_in_slot s (ts ++ us) ≡ count_in_slot s ts + count_in_slot s us
count_in_slot-append s ts us = ap (count_of s) (map-append (λ (t : QueuedMessage). t.slot) ts us) ∙ count_of-append s (slots_in ts) (slots_in us)

slots-without : (s : ℕ) (ts : List QueuedMessage) → slots_in (without_slot s ts) ≡ without s (slots_in ts)
slots-without s [] = refl
slots-without s (t ∷ ts) = grind (arith, common_steps, slots-without s ts)

pub count_in_slot-without_same : (s : ℕ) (ts : List QueuedMessage) → count_in_slot s (without_slot s ts) ≡ 0
count_in_slot-without_same s ts = ap (count_of s) (slots-without s ts) ∙ count_of-without_same s (slots_in ts)

pub count_in_slot-without_other : (s r : ℕ) (ts : List QueuedMessage) → s ≢ r → count_in_slot s (without_slot r ts) ≡ count_in_slot s ts
count_in_slot-without_other s r ts other = ap (count_of s) (slots-without r ts) ∙ count_of-without_other s r (slots_in ts) other

pub count_in_slot-filter : (p : QueuedMessage → Bool) (s : ℕ) (ts : List QueuedMessage) → count_in_slot s (filter p ts) ≤ count_in_slot s ts
count_in_slot-filter p s [] = omega arith
count_in_slot-filter p s (t ∷ ts) = grind (arith, common_steps, count_in_slot-filter p s ts)

pub count_in_slot-absent : (s : ℕ) (ts : List QueuedMessage) → list_any (has_slot s) ts ≡ false → count_in_slot s ts ≡ 0
count_in_slot-absent s [] none = refl
count_in_slot-absent s (t ∷ ts) none = let k = or_parts (has_slot s t) (list_any (has_slot s) ts) none in rw k.0 (count_in_slot-absent s ts k.1)

pub count_in_slot-there : (s : ℕ) (ts : List QueuedMessage) → list_any (has_slot s) ts ≡ true → 1 ≤ count_in_slot s ts
count_in_slot-there s [] some = absurd (true≢false (sym some))
count_in_slot-there s (t ∷ ts) some = grind (arith, common_steps, count_in_slot-there s ts)

-- ---- how long lists are

length-without : (s : ℕ) (ts : List QueuedMessage) → length ts ≡ length (without_slot s ts) + count_in_slot s ts
length-without s [] = refl
length-without s (t ∷ ts) = grind (arith, common_steps, length-without s ts)

pub limit-most : (s n : ℕ) → if◌then◌else◌ {A = ℕ} (nat_lt s n) 1 0 ≤ 1
limit-most s n = grind (arith, common_steps)

-- messages in slots below n, no two of them in the same slot, are at most n
few : (n : ℕ) (ts : List QueuedMessage) → ((s : ℕ) → count_in_slot s ts ≤ (if nat_lt s n then 1 else 0)) → length ts ≤ n
few zero [] once = omega arith
few zero (t ∷ ts) once = grind (arith, common_steps, once t.slot)
few (suc n) ts once =
    let rest = few n (without_slot n ts) (λ s. elim (cases_eq s n) [
      | inl e ↦ grind (arith, common_steps, count_in_slot-without_same n ts)
      | inr other ↦ grind (arith, common_steps, count_in_slot-without_other s n ts other, once s)
    ]) in
    grind (arith, common_steps, rest, length-without n ts, once n)

-- messages that wait and that are held are together no more than there are slots
pub fits : (n : ℕ) (ws hs : List QueuedMessage) → AreInSlots n ws hs → length ws + length hs ≤ n
fits n ws hs in_slots =
    let k = few n (ws ++ hs) (λ s. rw (count_in_slot-append s ws hs) (in_slots s)) in
    omega (arith, k, length-append ws hs)

-- ---- what each call does to them

pub in_slots-arrived : (n : ℕ) (ws hs : List QueuedMessage) (t : QueuedMessage) → AreInSlots n ws hs → t.slot < n
    → list_any (has_slot t.slot) (ws ++ hs) ≡ false → AreInSlots n (ws ++ t ∷ []) hs
in_slots-arrived n ws hs t in_slots there new s =
    grind (arith, common_steps, in_slots s, count_in_slot-append, count_in_slot-absent)

-- so there is a slot for a message that arrives
pub room-arrived : (n : ℕ) (ws hs : List QueuedMessage) (t : QueuedMessage) → AreInSlots n ws hs → t.slot < n
    → list_any (has_slot t.slot) (ws ++ hs) ≡ false → length ws < n
room-arrived n ws hs t in_slots there new =
    omega (arith, fits n (ws ++ t ∷ []) hs (in_slots-arrived n ws hs t in_slots there new), length-append ws (t ∷ []))

pub in_slots-gone : (n : ℕ) (ws hs : List QueuedMessage) (t : QueuedMessage) → AreInSlots n ws hs → list_any (has_slot t.slot) ws ≡ true
    → AreInSlots n (without_slot t.slot ws) (hs ++ t ∷ [])
in_slots-gone n ws hs t in_slots waits s = elim (cases_eq t.slot s) [
  | inl e ↦ grind (arith, common_steps, in_slots t.slot, count_in_slot-append, count_in_slot-there, count_in_slot-without_same)
  | inr k ↦ grind (arith, common_steps, in_slots s, count_in_slot-without_other, count_in_slot-append)
]

pub in_slots-freed : (n : ℕ) (ws hs : List QueuedMessage) (p : QueuedMessage → Bool) → AreInSlots n ws hs → AreInSlots n ws (filter p hs)
in_slots-freed n ws hs p in_slots s = omega (arith, in_slots s, count_in_slot-filter p s hs)
