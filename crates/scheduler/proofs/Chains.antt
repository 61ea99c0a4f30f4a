-- What the calls of an arena do to the chains of a core, and to the slots on them.
use Rattle.std.proofs.Common.{◌≡◌, ◌≢◌, ℕ, suc, ◌≤◌, ◌<◌, true, List, [], ◌∷◌, ◌++◌, map, length, get_or, Some, None, sym, ap, subst, ◌∙◌, arith}
use Rattle.std.proofs.lemmas.Bool.{and_from, cond-true, lt-ltb}
use Rattle.std.proofs.lemmas.List.{get_or-set_other, get_or-set_same, length-map, length-set, map-append}
use Rattle.std.specs.List.{concat}
use Rattle.std.specs.Prelude.{nat_lt, slice_index_or, slice_set, is_some, unwrap_or}
use Rattle.arena.specs.Lists.{count_of, without}
use Rattle.arena.specs.ArenaView.{ArenaView, IsPartitioned, after_move, after_put, after_take, can_move, capacity_of, chain_at, holds_value, moved, put_into, value_at}
use Rattle.arena.proofs.ArenaLemmas.{chain-moved_other, chain-moved_same, chain-without, chained-apart, chained-holds, chained-once, length-moved}
use Rattle.arena.proofs.Counts.{count_of-append, count_of-at, count_of-cons_same, without-absent}
use Rattle.protocol.specs.declared.replies.Reply.{Reply}
use Rattle.protocol.specs.declared.replies.Reply.TheVariants.{Done}
use Rattle.scheduler.specs.Slots.{HasChains, SlotView, slots_on, no_slot, slot_view_at}
use Rattle.scheduler.specs.declared.core_memory.Slot.{Slot}
use Rattle.scheduler.specs.declared.core_memory.TheConstants.{CHAINS}
use Rattle.scheduler.proofs.Splits.{MapSplit, map_same, map_split, count_of-split, without-split}

-- ---- a slot that moves from one chain to another

module _ {T : Type 0} (m : ArenaView T) (partitioned : IsPartitioned m) (i from to : ℕ) (there : to < length m.chains) (other : to ≢ from) (front back : List ℕ)
    (whole : chain_at m from ≡ front ++ i ∷ back) where
  recovers : 0 < count_of i (chain_at m from)
  recovers = subst (λ xs. 0 < count_of i xs) (sym whole) (count_of-split i front back)

  may_move : can_move m i to ≡ true
  may_move = and_from (holds_value m i) (nat_lt to (length m.chains)) (chained-holds m i from partitioned recovers) (lt-ltb to (length m.chains) there)

  pub arena_moved : after_move m i to ≡ record m { chains = moved m.chains i to }
  arena_moved = cond-true (can_move m i to) _ _ may_move

  pub chain_left : chain_at (after_move m i to) from ≡ front ++ back
  chain_left =
      ap (λ (r : ArenaView T). chain_at r from) arena_moved ∙ chain-moved_other m.chains i to from (λ same. other (sym same))
      ∙ ap (without i) whole ∙ without-split i front back (subst (λ xs. count_of i xs ≤ 1) whole (chained-once m i from partitioned))

  pub chain_joined : chain_at (after_move m i to) to ≡ chain_at m to ++ i ∷ []
  chain_joined =
      ap (λ (r : ArenaView T). chain_at r to) arena_moved ∙ chain-moved_same m.chains i to there
      ∙ ap (λ xs. xs ++ i ∷ []) (without-absent i (chain_at m to) (chained-apart m i from to partitioned (λ same. other (sym same)) recovers))

  pub chain_stays : (d : ℕ) → d ≢ from → d ≢ to → chain_at (after_move m i to) d ≡ chain_at m d
  chain_stays d not_from not_to =
      ap (λ (r : ArenaView T). chain_at r d) arena_moved ∙ chain-moved_other m.chains i to d not_to
      ∙ without-absent i (chain_at m d) (chained-apart m i from d partitioned (λ same. not_from (sym same)) recovers)

  pub four_moved : length (after_move m i to).chains ≡ length m.chains
  four_moved = ap (λ (r : ArenaView T). length r.chains) arena_moved ∙ length-moved m.chains i to

-- ---- the slots on a chain

-- a chain that is the same has the same slots with the same replies, where no value has changed
pub same_slots : (arena new : ArenaView Slot) (replies : List Reply) (c : ℕ) → new.values ≡ arena.values → chain_at new c ≡ chain_at arena c
    → slots_on new replies c ≡ slots_on arena replies c
same_slots arena new replies c values chain = λ k. map (λ i. (i, unwrap_or (slice_index_or (values k) i None) no_slot, get_or replies i Done)) (chain k)

-- Slot x left the chain `from`, where it was between `before` and `behind`; it is last on the chain `to`, with the reply now at its number.
pub record MovedSlot (arena new : ArenaView Slot) (replies new_replies : List Reply) (from to : ℕ) (before : List SlotView) (x : SlotView) (behind : List SlotView) : Type 0 where
  pub left : slots_on new new_replies from ≡ before ++ behind
  pub joined : slots_on new new_replies to ≡ slots_on arena replies to ++ (x.0, x.1, get_or new_replies x.0 Done) ∷ []
  pub stays : (d : ℕ) → d ≢ from → d ≢ to → slots_on new new_replies d ≡ slots_on arena replies d
  pub free : new.free ≡ arena.free
  pub values : new.values ≡ arena.values
  pub chain_count : length new.chains ≡ length arena.chains

module _ (arena : ArenaView Slot) (replies new_replies : List Reply) (is : HasChains arena) (from to : ℕ) (low : to < CHAINS) (other : to ≢ from)
    (before : List SlotView) (x : SlotView) (behind : List SlotView) (recovers_at : slots_on arena replies from ≡ before ++ x ∷ behind)
    (agree : (j : ℕ) → j ≢ x.0 → get_or new_replies j Done ≡ get_or replies j Done) where
  split : MapSplit (slot_view_at arena replies) (chain_at arena from) before x behind
  split = map_split (slot_view_at arena replies) (chain_at arena from) before x behind recovers_at

  number : split.at ≡ x.0
  number = ap (λ (y : SlotView). y.0) split.at_is

  there : to < length arena.chains
  there = let chain_count = is.chain_count in omega (arith, chain_count, low)

  abbrev new : ArenaView Slot
  new = after_move arena split.at to

  same_values : new.values ≡ arena.values
  same_values = ap (λ (r : ArenaView Slot). r.values) (arena_moved arena is.partitioned split.at from to there other split.front split.back split.whole)

  -- the slots of a chain are as they were, with the replies that lie there now
  in_new : (xs : List ℕ) → map (slot_view_at new new_replies) xs ≡ map (slot_view_at arena new_replies) xs
  in_new xs = λ z. map (λ i. (i, unwrap_or (slice_index_or (same_values z) i None) no_slot, get_or new_replies i Done)) xs

  elsewhere : (xs : List ℕ) → count_of split.at xs ≡ 0 → map (slot_view_at new new_replies) xs ≡ map (slot_view_at arena replies) xs
  elsewhere xs none = in_new xs
      ∙ map_same (slot_view_at arena replies) (slot_view_at arena new_replies) split.at xs
      (λ j not_it z. (j, unwrap_or (value_at arena j) no_slot, agree j (λ same. not_it (same ∙ sym number)) z)) none

  once_there : count_of split.at (split.front ++ split.at ∷ split.back) ≤ 1
  once_there = subst (λ xs. count_of split.at xs ≤ 1) split.whole (chained-once arena split.at from is.partitioned)

  none_in_front : count_of split.at split.front ≡ 0
  none_in_front = let all = count_of-append split.at split.front (split.at ∷ split.back) in let same = count_of-cons_same split.at split.back in
      let once = once_there in omega (arith, once, all, same)

  none_in_back : count_of split.at split.back ≡ 0
  none_in_back = let all = count_of-append split.at split.front (split.at ∷ split.back) in let same = count_of-cons_same split.at split.back in
      let once = once_there in omega (arith, once, all, same)

  none_elsewhere : (d : ℕ) → d ≢ from → count_of split.at (chain_at arena d) ≡ 0
  none_elsewhere d not_from = chained-apart arena split.at from d is.partitioned (λ same. not_from (sym same))
      (recovers arena is.partitioned split.at from to there other split.front split.back split.whole)

  moved_at : MovedSlot arena new replies new_replies from to before x behind
  moved_at =
      let f = slot_view_at arena replies in
      let left = chain_left arena is.partitioned split.at from to there other split.front split.back split.whole in
      let joined = chain_joined arena is.partitioned split.at from to there other split.front split.back split.whole in
      record {
        left = ap (map (slot_view_at new new_replies)) left ∙ map-append (slot_view_at new new_replies) split.front split.back
            ∙ (λ z. (elsewhere split.front none_in_front ∙ split.before_is) z ++ (elsewhere split.back none_in_back ∙ split.behind_is) z);
        joined = ap (map (slot_view_at new new_replies)) joined ∙ map-append (slot_view_at new new_replies) (chain_at arena to) (split.at ∷ [])
            ∙ (λ z. elsewhere (chain_at arena to) (none_elsewhere to other) z ++ moved_place z ∷ []);
        stays = λ d not_from not_to. ap (map (slot_view_at new new_replies))
            (chain_stays arena is.partitioned split.at from to there other split.front split.back split.whole d not_from not_to)
            ∙ elsewhere (chain_at arena d) (none_elsewhere d not_from);
        free = ap (λ (r : ArenaView Slot). r.free) (arena_moved arena is.partitioned split.at from to there other split.front split.back split.whole);
        values = same_values;
        chain_count = four_moved arena is.partitioned split.at from to there other split.front split.back split.whole;
      }
    where
      moved_place : ◌≡◌ {A = SlotView} (slot_view_at new new_replies split.at) (x.0, x.1, get_or new_replies x.0 Done)
      moved_place =
          (λ z. (split.at, unwrap_or (slice_index_or (same_values z) split.at None) no_slot, get_or new_replies split.at Done))
          ∙ (λ z. (number z, (ap (λ (y : SlotView). y.1) split.at_is) z, get_or new_replies (number z) Done))

  pub slot_moved : (i : ℕ) → i ≡ x.0 → MovedSlot arena (after_move arena i to) replies new_replies from to before x behind
  slot_moved i same = subst (λ n. MovedSlot arena (after_move arena n to) replies new_replies from to before x behind) (number ∙ sym same) moved_at

-- Slot i, which was free, is last on the chain `to`, with the value that was put in and the reply at its number.
pub record JoinedSlot (arena new : ArenaView Slot) (replies : List Reply) (i to : ℕ) (value : Slot) : Type 0 where
  pub joined : slots_on new replies to ≡ slots_on arena replies to ++ (i, value, get_or replies i Done) ∷ []
  pub stays : (d : ℕ) → d ≢ to → slots_on new replies d ≡ slots_on arena replies d
  pub free : length arena.free ≡ suc (length new.free)
  pub size : capacity_of new ≡ capacity_of arena
  pub chain_count : length new.chains ≡ length arena.chains
  pub low : i < capacity_of arena
  pub none_had : (d : ℕ) → count_of i (chain_at arena d) ≡ 0

module _ (arena : ArenaView Slot) (replies : List Reply) (is : HasChains arena) (i to : ℕ) (low : to < CHAINS) (rest : List ℕ) (value : Slot) (free : arena.free ≡ i ∷ rest) where
  room_there : to < length arena.chains
  room_there = let chain_count = is.chain_count in omega (arith, chain_count, low)

  abbrev put : ArenaView Slot
  put = record arena { values = slice_set arena.values i (Some value); free = rest }

  abbrev joined_arena : ArenaView Slot
  joined_arena = after_move put i to

  listed_free : 0 < count_of i arena.free
  listed_free = subst (λ fs. 0 < count_of i fs) (sym free) (let e = count_of-cons_same i rest in omega (arith, e))

  off_chain : (d : ℕ) → count_of i (chain_at arena d) ≡ 0
  off_chain d =
      let at = count_of-at i arena.chains d in
      let all = count_of-append i arena.free (concat arena.chains) in
      let once = is.partitioned.once i in
      let some = listed_free in
      omega (arith, at, all, once, some)

  in_arena : i < capacity_of arena
  in_arena = is.partitioned.within i (let all = count_of-append i arena.free (concat arena.chains) in let some = listed_free in omega (arith, all, some))

  arena_joined : joined_arena ≡ record put { chains = moved arena.chains i to }
  arena_joined = cond-true (can_move put i to) _ _ (and_from (holds_value put i) (nat_lt to (length arena.chains))
      (ap is_some (get_or-set_same arena.values i (Some value) None in_arena)) (lt-ltb to (length arena.chains) room_there))

  value_joined : value_at joined_arena i ≡ Some value
  value_joined = ap (λ (r : ArenaView Slot). value_at r i) arena_joined ∙ get_or-set_same arena.values i (Some value) None in_arena

  new_elsewhere : (xs : List ℕ) → count_of i xs ≡ 0 → map (slot_view_at joined_arena replies) xs ≡ map (slot_view_at arena replies) xs
  new_elsewhere xs none = map_same (slot_view_at arena replies) (slot_view_at joined_arena replies) i xs (λ j not_it z. (
    j,
    unwrap_or ((ap (λ (r : ArenaView Slot). value_at r j) arena_joined ∙ get_or-set_other arena.values i j (Some value) None not_it) z) no_slot,
    get_or replies j Done,
  )) none

  joined_slot : JoinedSlot arena joined_arena replies i to value
  joined_slot = record {
    joined = ap (map (slot_view_at joined_arena replies)) (ap (λ (r : ArenaView Slot). chain_at r to) arena_joined
        ∙ chain-moved_same arena.chains i to room_there
        ∙ ap (λ xs. xs ++ i ∷ []) (without-absent i (chain_at arena to) (off_chain to)))
        ∙ map-append (slot_view_at joined_arena replies) (chain_at arena to) (i ∷ [])
        ∙ (λ z. new_elsewhere (chain_at arena to) (off_chain to) z ++ (i, unwrap_or (value_joined z) no_slot, get_or replies i Done) ∷ []);
    stays = λ d not_to. ap (map (slot_view_at joined_arena replies)) (ap (λ (r : ArenaView Slot). chain_at r d) arena_joined
        ∙ chain-moved_other arena.chains i to d not_to
        ∙ without-absent i (chain_at arena d) (off_chain d)) ∙ new_elsewhere (chain_at arena d) (off_chain d);
    free = ap length free ∙ ap (λ n. suc n) (sym (ap (λ (r : ArenaView Slot). length r.free) arena_joined));
    size = ap (λ (r : ArenaView Slot). capacity_of r) arena_joined ∙ length-set arena.values i (Some value);
    chain_count = ap (λ (r : ArenaView Slot). length r.chains) arena_joined ∙ length-moved arena.chains i to;
    low = in_arena;
    none_had = off_chain;
  }

  pub slot_joined : JoinedSlot arena (after_move (after_put arena value) i to) replies i to value
  slot_joined = subst (λ (r : ArenaView Slot). JoinedSlot arena (after_move r i to) replies i to value)
      (sym (ap (λ fs. put_into arena fs value) free)) joined_slot

-- The first slot of a chain was taken out.
pub record TakenSlot (arena new : ArenaView Slot) (replies : List Reply) (from : ℕ) (behind : List SlotView) : Type 0 where
  pub left : slots_on new replies from ≡ behind
  pub stays : (d : ℕ) → d ≢ from → slots_on new replies d ≡ slots_on arena replies d
  pub free : length new.free ≡ suc (length arena.free)
  pub size : capacity_of new ≡ capacity_of arena
  pub chain_count : length new.chains ≡ length arena.chains

module _ (arena : ArenaView Slot) (replies : List Reply) (is : HasChains arena) (i from : ℕ) (back : List ℕ) (whole : chain_at arena from ≡ i ∷ back) where
  abbrev taken_arena : ArenaView Slot
  taken_arena = after_take arena i

  stood : 0 < count_of i (chain_at arena from)
  stood = subst (λ xs. 0 < count_of i xs) (sym whole) (count_of-split i [] back)

  arena_taken : taken_arena ≡ record arena { values = slice_set arena.values i None; free = i ∷ arena.free; chains = map (without i) arena.chains }
  arena_taken = cond-true (holds_value arena i) _ _ (chained-holds arena i from is.partitioned stood)

  once : count_of i (i ∷ back) ≤ 1
  once = subst (λ xs. count_of i xs ≤ 1) whole (chained-once arena i from is.partitioned)

  gone_elsewhere : (d : ℕ) → d ≢ from → count_of i (chain_at arena d) ≡ 0
  gone_elsewhere d not_from = chained-apart arena i from d is.partitioned (λ same. not_from (sym same)) stood

  taken_elsewhere : (xs : List ℕ) → count_of i xs ≡ 0 → map (slot_view_at taken_arena replies) xs ≡ map (slot_view_at arena replies) xs
  taken_elsewhere xs none = map_same (slot_view_at arena replies) (slot_view_at taken_arena replies) i xs (λ j not_it z. (
    j,
    unwrap_or ((ap (λ (r : ArenaView Slot). value_at r j) arena_taken ∙ get_or-set_other arena.values i j None None not_it) z) no_slot,
    get_or replies j Done,
  )) none

  pub slot_taken : TakenSlot arena taken_arena replies from (map (slot_view_at arena replies) back)
  slot_taken =
      let all = count_of-cons_same i back in
      let few = once in
      record {
        left = ap (map (slot_view_at taken_arena replies)) (ap (λ (r : ArenaView Slot). chain_at r from) arena_taken ∙ chain-without arena.chains i from
            ∙ ap (without i) whole ∙ without-split i [] back once) ∙ taken_elsewhere back (omega (arith, all, few));
        stays = λ d not_from. ap (map (slot_view_at taken_arena replies)) (ap (λ (r : ArenaView Slot). chain_at r d) arena_taken
            ∙ chain-without arena.chains i d
            ∙ without-absent i (chain_at arena d) (gone_elsewhere d not_from)) ∙ taken_elsewhere (chain_at arena d) (gone_elsewhere d not_from);
        free = ap (λ (r : ArenaView Slot). length r.free) arena_taken;
        size = ap (λ (r : ArenaView Slot). capacity_of r) arena_taken ∙ length-set arena.values i None;
        chain_count = ap (λ (r : ArenaView Slot). length r.chains) arena_taken ∙ length-map arena.chains (without i);
      }
