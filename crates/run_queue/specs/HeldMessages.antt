-- Inner: Held messages, in the order of the numbers of their affinities.
use Rattle.std.specs.Prelude.{◌≡◌, ℕ, suc, List, [], ◌∷◌, ◌++◌, Option, Some, None}
use Rattle.run_queue.specs.declared.queued_message.QueuedMessage.{QueuedMessage}

-- what contracts see of `Holders`: for how many affinity numbers it has entries, and which messages are held, in the order of their numbers
pub record HeldMessages : Type 0 where
  pub numbers : ℕ
  pub messages : List QueuedMessage

-- Each message is at the number of its affinity, where the list begins with number k.
abbrev pub AreByNumberFrom : ℕ → List (Option QueuedMessage) → Type 0
AreByNumberFrom k [] = Unit {0}
AreByNumberFrom k (None ∷ entries) = AreByNumberFrom (suc k) entries
AreByNumberFrom k (Some t ∷ entries) = (t.affinity.number ≡ k) × AreByNumberFrom (suc k) entries

-- The list `after` is `before` with message t inserted somewhere; the others stay in order.
abbrev pub HasInserted : QueuedMessage → List QueuedMessage → List QueuedMessage → Type 0
HasInserted t before after = (low : List QueuedMessage) × (high : List QueuedMessage) × (before ≡ low ++ high) × (after ≡ low ++ t ∷ high)
