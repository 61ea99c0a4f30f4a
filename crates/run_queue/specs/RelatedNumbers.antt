-- Inner: Which affinities are related, by numbers alone.
use Rattle.std.specs.Prelude.{ℕ, Bool, ◌||◌, nat_lt, is_some, List, [], ◌∷◌, Option, false, take}
use Rattle.std.specs.Option.{option_map_or}
use Rattle.std.specs.List.{find}
use Rattle.affinity.specs.Path.{Path}
use Rattle.affinity.specs.Interval.{preorder_number}
use Rattle.affinity.specs.declared.geometry.Geometry.{Geometry}
use Rattle.run_queue.specs.RunQueue.{has_number}
use Rattle.run_queue.specs.declared.queued_message.QueuedMessage.{QueuedMessage}

-- the numbers of the affinities above the one with this path; where they are fewer than four, its own number fills the list up
abbrev pub numbers_above : Geometry → Path → List ℕ
numbers_above g p =
    preorder_number g (take 0 p) ∷ preorder_number g (take 1 p) ∷ preorder_number g (take 2 p) ∷ preorder_number g (take 3 p) ∷ []

-- whether there is a message, and it came before this ticket
abbrev pub is_before : ℕ → Option QueuedMessage → Bool
is_before ticket o = option_map_or (λ t. nat_lt t.ticket ticket) o false

-- whether a message at number n is held, or waits with a smaller ticket: so it keeps back one with this ticket at a related affinity
abbrev pub conflicts_at : List QueuedMessage → List QueuedMessage → ℕ → ℕ → Bool
conflicts_at held waiting ticket n = is_some (find (has_number n) held) || is_before ticket (find (has_number n) waiting)
