-- Statement for engineers: How an `Arena` keeps what contracts see of it (`ArenaView`).
use Rattle.std.specs.Prelude.{◌≡◌, ℕ, ◌<◌, List, [], ◌∷◌, length, Option}
use Rattle.arena.specs.Linked.{Linked}
use Rattle.arena.specs.ArenaView.{ArenaView, IsPartitioned}

-- the free slots: the first list of the arena's `Links`
abbrev pub free_in : List (List ℕ) → List ℕ
free_in [] = []
free_in (free ∷ chains) = free

-- the chains: the lists after the first
abbrev pub chains_in : List (List ℕ) → List (List ℕ)
chains_in [] = []
chains_in (free ∷ chains) = chains

module _ {T : Type 0} where
  -- what contracts see of an arena with these values and links
  abbrev pub arena_view_of : List (Option T) → Linked → ArenaView T
  arena_view_of values links = record { values = values; free = free_in links.lists; chains = chains_in links.lists }

  -- What an arena keeps: links for each slot, a list of the free ones, their count, and the partition of all slots.
  pub record ArenaRule (values : List (Option T)) (links : Linked) (free : ℕ) : Type 0 where
    pub slots : links.slots ≡ length values
    pub has_free : 0 < length links.lists
    pub counted : free ≡ length (free_in links.lists)
    pub partitioned : IsPartitioned (arena_view_of values links)
