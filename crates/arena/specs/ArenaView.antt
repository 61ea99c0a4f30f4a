-- Statement for engineers: What a contract sees of an `Arena`, and what each of its calls does.
use Rattle.std.specs.Prelude.{◌≡◌, ℕ, ◌<◌, ◌≤◌, Bool, not, ◌&&◌, List, [], ◌∷◌, ◌++◌, map, filter, length, replicate, Option, Some, None, is_some, is_none, IsTrue, Result, Ok, Err, nat_lt, if◌then◌else◌, slice_index_or, slice_set, refl}
use Rattle.std.specs.List.{concat}
use Rattle.std.specs.Coded.{Coded, code_by, coded×, coded_ℕ, coded_list, coded_option}
use Rattle.arena.specs.Lists.{count_of, is_on, without, numbers_from, first_of, behind_in}

-- What contracts see of an `Arena`: the value in each slot, if it holds one, the free list, and the chains (linked lists of slots that hold
-- values). A slot on no list is aside.
pub record ArenaView (T : Type 0) : Type 0 where
  pub values : List (Option T)
  pub free : List ℕ
  pub chains : List (List ℕ)

-- For the prover alone (`ghost coded` of `Arena`): an arena view and the tuple of its fields give each other.
abbrev pub arena_view_code : {T : Type 0} → Coded T → Coded (ArenaView T)
arena_view_code {T} code =
    code_by
    (List (Option T) × (List ℕ × List (List ℕ)))
    (coded× (coded_list (coded_option code)) (coded× (coded_list coded_ℕ) (coded_list (coded_list coded_ℕ))))
    (λ m. (m.values, (m.free, m.chains)))
    (λ p. record { values = p.0; free = p.1.0; chains = p.1.1 })
    (λ _. refl)

-- the chains after slot i left its chain, if it was on one, and became the last of chain c
abbrev pub moved : List (List ℕ) → ℕ → ℕ → List (List ℕ)
moved chains i c = let others = map (without i) chains in slice_set others c (slice_index_or others c [] ++ i ∷ [])

module _ {T : Type 0} where
  -- how many slots there are
  abbrev pub capacity_of : ArenaView T → ℕ
  capacity_of m = length m.values

  -- the value in a slot: none where the slot is free, where its value is out, and where there is no slot
  abbrev pub value_at : ArenaView T → ℕ → Option T
  value_at m i = slice_index_or m.values i None

  -- whether a slot holds its value
  abbrev pub holds_value : ArenaView T → ℕ → Bool
  holds_value m i = is_some (value_at m i)

  -- the slots on a chain, in order: none where there is no such chain
  abbrev pub chain_at : ArenaView T → ℕ → List ℕ
  chain_at m c = slice_index_or m.chains c []

  -- whether a slot's value is lent out: the slot isn't free and holds none
  abbrev pub is_lent : ArenaView T → ℕ → Bool
  is_lent m i = nat_lt i (capacity_of m) && (is_none (value_at m i) && not (is_on i m.free))

  -- the slots on the free list and on the chains
  abbrev pub listed : ArenaView T → List ℕ
  listed m = m.free ++ concat m.chains

  -- the slots aside: those on no list
  abbrev pub aside : ArenaView T → List ℕ
  aside m = filter (λ i. not (is_on i (listed m))) (numbers_from 0 (capacity_of m))

  -- The free list, the chains and the slots aside partition the slots. A free slot holds no value, and a slot on a chain does.
  pub record IsPartitioned (m : ArenaView T) : Type 0 where
    -- each number below the capacity is once in all parts together, and no other number is
    pub parts : (i : ℕ) → count_of i (listed m ++ aside m) ≡ (if nat_lt i (capacity_of m) then 1 else 0)
    pub once : (i : ℕ) → count_of i (listed m) ≤ 1
    pub within : (i : ℕ) → 0 < count_of i (listed m) → i < capacity_of m
    pub free_empty : (i : ℕ) → 0 < count_of i m.free → value_at m i ≡ None
    pub chains_hold : (i : ℕ) → 0 < count_of i (concat m.chains) → IsTrue (holds_value m i)

  -- a new arena: this many free slots, in order, and this many empty chains
  abbrev pub empty_arena : ℕ → ℕ → ArenaView T
  empty_arena slots chains = record { values = replicate slots None; free = numbers_from 0 slots; chains = replicate chains [] }

  -- what `put` answers: the first free slot, or the value back if no slot is free
  abbrev pub slot_from : List ℕ → T → Result ℕ T
  slot_from [] value = Err value
  slot_from (i ∷ rest) value = Ok i

  abbrev pub put_answer : ArenaView T → T → Result ℕ T
  put_answer m value = slot_from m.free value

  -- the arena after `put`: the first free slot holds the value, and is aside
  abbrev pub put_into : ArenaView T → List ℕ → T → ArenaView T
  put_into m [] value = m
  put_into m (i ∷ rest) value = record m { values = slice_set m.values i (Some value); free = rest }

  abbrev pub after_put : ArenaView T → T → ArenaView T
  after_put m value = put_into m m.free value

  -- the first slot of a chain
  abbrev pub front_of : ArenaView T → ℕ → Option ℕ
  front_of m c = first_of (chain_at m c)

  -- the slot after this one on its chain
  abbrev pub next_of : ArenaView T → ℕ → Option ℕ
  next_of m i = behind_in i m.chains

  -- whether `move_to` moves: the slot holds its value, and the chain is there
  abbrev pub can_move : ArenaView T → ℕ → ℕ → Bool
  can_move m i c = holds_value m i && nat_lt c (length m.chains)

  -- the arena after `move_to`
  abbrev pub after_move : ArenaView T → ℕ → ℕ → ArenaView T
  after_move m i c = if can_move m i c then record m { chains = moved m.chains i c } else m

  -- the arena after `lend`: the value is out, and the slot is on no chain
  abbrev pub after_lend : ArenaView T → ℕ → ArenaView T
  after_lend m i = if holds_value m i then record m { values = slice_set m.values i None; chains = map (without i) m.chains } else m

  -- what `restore` answers: the value back, unless the slot's value is out
  abbrev pub restore_answer : ArenaView T → ℕ → T → Result (Unit {0}) T
  restore_answer m i value = if is_lent m i then Ok tt else Err value

  -- the arena after `restore`: the slot holds the value, and is aside
  abbrev pub after_restore : ArenaView T → ℕ → T → ArenaView T
  after_restore m i value = if is_lent m i then record m { values = slice_set m.values i (Some value) } else m

  -- the arena after `take`: the slot holds no value, has left its chain, and is the first free one
  abbrev pub after_take : ArenaView T → ℕ → ArenaView T
  after_take m i =
      if holds_value m i
      then record m { values = slice_set m.values i None; free = i ∷ m.free; chains = map (without i) m.chains }
      else m

  -- the arena with another value in a slot
  abbrev pub with_value : ArenaView T → ℕ → T → ArenaView T
  with_value m i value = record m { values = slice_set m.values i (Some value) }
