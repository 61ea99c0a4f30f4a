-- The ranks of ready messages, chunk by chunk.
use Rattle.std.proofs.lemmas.Grind.{common_steps}
use Rattle.std.proofs.Common.{◌≡◌, ◌≢◌, ◌∙◌, ℕ, zero, suc, ◌+◌, ◌*◌, ◌/◌, ◌<◌, ◌≤◌, Bool, List, length, get_or, replicate, Option, None, ap, sym, inl, inr, arith}
use Rattle.std.specs.Prelude.{slice_set}
use Rattle.std.proofs.Math.Nat.{lt-mul-div-succ, mul-div-le}
use Rattle.std.proofs.lemmas.Bool.{cases_eq}
use Rattle.std.proofs.lemmas.List.{get_or-set_same, get_or-set_other}
use Rattle.std.specs.List.{AllByRecursion}
use Rattle.affinity.specs.Interval.{IsAffinity}
use Rattle.affinity.specs.declared.geometry.Geometry.{Geometry}
use Rattle.run_queue.specs.RunQueue.{has_room}
use Rattle.run_queue.specs.ReadyTable.{AreLowerBounds, IsEntryRight, earliest_from, if_passes, ready_in, rank_of}
use Rattle.run_queue.specs.Order.{Ascend, earlier}
use Rattle.run_queue.specs.declared.queued_message.QueuedMessage.{QueuedMessage}
use Rattle.run_queue.specs.declared.ready_table.TheConstants.{CHUNK, NO_RANK}
use Rattle.run_queue.proofs.Earliest.{first_below, below-step}
use Rattle.run_queue.proofs.Chains.{default_at}
use Rattle.run_queue.proofs.Ready.{room-at}

-- ---- one ready entry is set

pub ready_in-other : (ready_table : List (Option QueuedMessage)) (n k : ℕ) (o : Option QueuedMessage) → k ≢ n → ready_in (slice_set ready_table n o) k ≡ ready_in ready_table k
ready_in-other ready_table n k o other = get_or-set_other ready_table n k o None other

-- if the rank at number n stays, the least ranks that are kept for the chunks stay right
pub least-kept : (ready_table : List (Option QueuedMessage)) (least : List ℕ) (n : ℕ) (o : Option QueuedMessage) → n < length ready_table → AreLowerBounds ready_table least
    → rank_of o ≡ rank_of (ready_in ready_table n) → AreLowerBounds (slice_set ready_table n o) least
least-kept ready_table least n o here are same chunk i below = grind (arith, common_steps)

-- else the least rank of n's chunk is found anew
pub least-found : (ready_table : List (Option QueuedMessage)) (least : List ℕ) (n found : ℕ) (o : Option QueuedMessage) → AreLowerBounds ready_table least → n / CHUNK < length least
    → ((i : ℕ) → i < CHUNK → found ≤ rank_of (ready_in (slice_set ready_table n o) (CHUNK * (n / CHUNK) + i)))
    → AreLowerBounds (slice_set ready_table n o) (slice_set least (n / CHUNK) found)
least-found ready_table least n found o are here new chunk i below = elim (cases_eq chunk (n / CHUNK)) [
  | inl at ↦ (let low = new i below in
      let value = ap (λ k. get_or (slice_set least (n / CHUNK) found) k 0) at ∙ get_or-set_same least (n / CHUNK) found 0 here in
      let rank = ap (λ k. rank_of (ready_in (slice_set ready_table n o) (CHUNK * k + i))) at in
      omega (arith, low, value, rank))
  | inr other ↦ (let low = are chunk i below in
      let over : n < CHUNK * (n / CHUNK + 1) = lt-mul-div-succ n (omega arith) in
      let under = mul-div-le n CHUNK in
      let away : CHUNK * chunk + i ≢ n = λ same. other (omega (arith, over, under, same, below)) in
      let value = get_or-set_other least (n / CHUNK) chunk found 0 other in
      let rank = ap (λ m. rank_of m) (ready_in-other ready_table n (CHUNK * chunk + i) o away) in
      omega (arith, low, value, rank))
]

-- ---- at the start

pub none-least : (numbers chunks : ℕ) → AreLowerBounds (replicate numbers None) (replicate chunks NO_RANK)
none-least numbers chunks chunk i below =
    let none = ap (λ m. rank_of m) (default_at {A = Option QueuedMessage} numbers (CHUNK * chunk + i) None) in
    let low = at_most chunks chunk in
    omega (arith, none, low)
  where
    at_most : (chunks chunk : ℕ) → get_or (replicate chunks NO_RANK) chunk 0 ≤ NO_RANK
    at_most zero chunk = omega arith
    at_most (suc chunks) zero = omega arith
    at_most (suc chunks) (suc chunk) = at_most chunks chunk

-- ---- which message is dispatched first

-- the first message that may be dispatched at a number below from + n is the earliest of that below `from` and the n entries from there on
module _ (g : Geometry) (room : Bool) (held waiting : List QueuedMessage) (placed : AllByRecursion (λ d. IsAffinity g d.affinity) waiting) (ascends : Ascend waiting)
    (ready_table : List (Option QueuedMessage)) (right : (n : ℕ) → IsEntryRight held waiting ready_table n) where
  pub below-from : (from n : ℕ) → earliest_from (has_room room) ready_table from n (first_below room held waiting from) ≡ first_below room held waiting (from + n)
  below-from from zero = ap (λ k. first_below room held waiting k) (let none : from ≡ from + 0 = omega arith in none)
  below-from from (suc n) =
      ap (λ (o : Option QueuedMessage). earlier o (if_passes (has_room room) (ready_in ready_table (from + n)))) (below-from from n)
      ∙ ap (λ (o : Option QueuedMessage). earlier (first_below room held waiting (from + n)) (if_passes (has_room room) o)) (right (from + n))
      ∙ ap (λ (o : Option QueuedMessage). earlier (first_below room held waiting (from + n)) o) (room-at g room held waiting placed ascends (from + n))
      ∙ sym (below-step g room held waiting placed ascends (from + n))
      ∙ ap (λ k. first_below room held waiting k) (let one : from + n + 1 ≡ from + suc n = omega arith in one)
