-- The held messages, each at the number of its affinity.
use Rattle.std.proofs.lemmas.Grind.{common_steps}
use Rattle.std.proofs.Common.{◌≡◌, ◌∙◌, ℕ, zero, suc, ◌+◌, ◌<◌, ◌≤◌, List, [], ◌∷◌, find, Option, Some, None, refl, ap, sym, arith, length, slice_index_or}
use Rattle.std.specs.Prelude.{slice_set, replicate}
use Rattle.std.proofs.lemmas.Bool.{eq-eqb}
use Rattle.std.proofs.lemmas.List.{get_or_past, length-set, length-replicate}
use Rattle.run_queue.proofs.Chains.{none_present}
use Rattle.run_queue.specs.RunQueue.{has_number, without_number}
use Rattle.run_queue.specs.Queues.{present}
use Rattle.run_queue.specs.HeldMessages.{HeldMessages, AreByNumberFrom, HasInserted}
use Rattle.run_queue.specs.declared.queued_message.QueuedMessage.{QueuedMessage}

held-same : (a b : ℕ) (ts us : List QueuedMessage) → a ≡ b → ts ≡ us
    → ◌≡◌ {A = HeldMessages} (record { numbers = a; messages = ts }) (record { numbers = b; messages = us })
held-same a b ts us e f = rw (e, f) refl

-- ---- at the start

pub start-stand : (n k : ℕ) → AreByNumberFrom k (replicate n None)
start-stand zero k = tt
start-stand (suc n) k = start-stand n (suc k)

pub start-view : (n : ℕ) → ◌≡◌ {A = HeldMessages}
    (record { numbers = length {A = Option QueuedMessage} (replicate n None); messages = present (replicate n None) }) (record { numbers = n; messages = [] })
start-view n = held-same _ _ _ _ (length-replicate {A = Option QueuedMessage} n None) (none_present n)

-- ---- the message at a number

none-below : (entries : List (Option QueuedMessage)) (k n : ℕ) → AreByNumberFrom k entries → n < k → find (has_number n) (present entries) ≡ None
none-below [] k n stand less = refl
none-below (None ∷ entries) k n stand less = none-below entries (suc k) n stand (omega arith)
none-below (Some t ∷ entries) k n stand less = grind (arith, common_steps, none-below entries (suc k) n stand.1)

found-from : (entries : List (Option QueuedMessage)) (k i n : ℕ) → AreByNumberFrom k entries → n ≡ k + i
    → find (has_number n) (present entries) ≡ slice_index_or entries i None
found-from [] k i n stand is = refl
found-from (None ∷ entries) k zero n stand is = none-below entries (suc k) n stand (omega arith)
found-from (Some t ∷ entries) k zero n stand is = grind (arith, common_steps)
found-from (None ∷ entries) k (suc i) n stand is = found-from entries (suc k) i n stand (omega arith)
found-from (Some t ∷ entries) k (suc i) n stand is = grind (arith, common_steps, found-from entries (suc k) i n stand.1)

pub found-at : (entries : List (Option QueuedMessage)) (n : ℕ) → AreByNumberFrom 0 entries → find (has_number n) (present entries) ≡ slice_index_or entries n None
found-at entries n stand = found-from entries 0 n n stand (omega arith)

-- ---- one more message

stand-hold_from : (entries : List (Option QueuedMessage)) (k i : ℕ) (t : QueuedMessage) → AreByNumberFrom k entries → i < length entries → t.affinity.number ≡ k + i
    → AreByNumberFrom k (slice_set entries i (Some t))
stand-hold_from [] k i t stand below is = absurd (omega arith)
stand-hold_from (None ∷ entries) k zero t stand below is = (omega arith, stand)
stand-hold_from (Some x ∷ entries) k zero t stand below is = (omega arith, stand.1)
stand-hold_from (None ∷ entries) k (suc i) t stand below is = stand-hold_from entries (suc k) i t stand (omega arith) (omega arith)
stand-hold_from (Some x ∷ entries) k (suc i) t stand below is = grind (arith, common_steps, stand-hold_from entries (suc k) i t stand.1)

pub stand-hold : (entries : List (Option QueuedMessage)) (t : QueuedMessage) → AreByNumberFrom 0 entries → t.affinity.number < length entries
    → AreByNumberFrom 0 (slice_set entries t.affinity.number (Some t))
stand-hold entries t stand below = stand-hold_from entries 0 t.affinity.number t stand below (omega arith)

pub between-hold : (entries : List (Option QueuedMessage)) (i : ℕ) (t : QueuedMessage) → i < length entries → slice_index_or entries i None ≡ None
    → HasInserted t (present entries) (present (slice_set entries i (Some t)))
between-hold [] i t below empty = absurd (omega arith)
between-hold (None ∷ entries) zero t below empty = ([], present entries, refl, refl)
between-hold (Some x ∷ entries) zero t below empty = absurd (cc)
between-hold (None ∷ entries) (suc i) t below empty = between-hold entries i t (omega arith) empty
between-hold (Some x ∷ entries) (suc i) t below empty =
    let rest = between-hold entries i t (omega arith) empty in
    (x ∷ rest.0, rest.1, ap (λ (ts : List QueuedMessage). x ∷ ts) rest.2, ap (λ (ts : List QueuedMessage). x ∷ ts) rest.3)

-- ---- one message less

stand-free_from : (entries : List (Option QueuedMessage)) (k i : ℕ) → AreByNumberFrom k entries → AreByNumberFrom k (slice_set entries i None)
stand-free_from [] k i stand = tt
stand-free_from (None ∷ entries) k zero stand = stand
stand-free_from (Some x ∷ entries) k zero stand = stand.1
stand-free_from (None ∷ entries) k (suc i) stand = stand-free_from entries (suc k) i stand
stand-free_from (Some x ∷ entries) k (suc i) stand = (stand.0, stand-free_from entries (suc k) i stand.1)

pub stand-free : (entries : List (Option QueuedMessage)) (n : ℕ) → AreByNumberFrom 0 entries → AreByNumberFrom 0 (slice_set entries n None)
stand-free entries n stand = stand-free_from entries 0 n stand

-- where no message is held at a number, none is dropped
pub without-none : (n : ℕ) (ts : List QueuedMessage) → find (has_number n) ts ≡ None → without_number n ts ≡ ts
without-none n [] none = refl
without-none n (t ∷ ts) none = grind (arith, common_steps, without-none n ts)

free-from : (entries : List (Option QueuedMessage)) (k i n : ℕ) → AreByNumberFrom k entries → n ≡ k + i
    → present (slice_set entries i None) ≡ without_number n (present entries)
free-from [] k i n stand is = refl
free-from (None ∷ entries) k zero n stand is = sym (without-none n (present entries) (none-below entries (suc k) n stand (omega arith)))
free-from (Some t ∷ entries) k zero n stand is = grind (arith, common_steps, eq-eqb, without-none, none-below)
free-from (None ∷ entries) k (suc i) n stand is = free-from entries (suc k) i n stand (omega arith)
free-from (Some t ∷ entries) k (suc i) n stand is = grind (arith, common_steps, free-from entries (suc k) i n stand.1)

pub free-view : (entries : List (Option QueuedMessage)) (n : ℕ) → AreByNumberFrom 0 entries → ◌≡◌ {A = HeldMessages}
    (record { numbers = length (slice_set entries n None); messages = present (slice_set entries n None) })
    (record { numbers = length entries; messages = without_number n (present entries) })
free-view entries n stand = held-same _ _ _ _ (length-set {A = Option QueuedMessage} entries n None) (free-from entries 0 n n stand (omega arith))

pub found-past : (entries : List (Option QueuedMessage)) (n : ℕ) → AreByNumberFrom 0 entries → length entries ≤ n → find (has_number n) (present entries) ≡ None
found-past entries n stand past = found-at entries n stand ∙ get_or_past entries n None past
