-- What a caller needs of the partition of an arena's slots, and of the chains after a call. No proof of this crate rests on it: it is
-- for the crates above that keep what they hold on chains.
use Rattle.std.proofs.lemmas.Grind.{common_steps}
use Rattle.std.proofs.Common.{◌≡◌, ◌≢◌, ℕ, zero, suc, ◌+◌, ◌<◌, ◌≤◌, true, List, [], ◌∷◌, ◌++◌, map, length, refl, arith, eqb, Some, slice_index_or}
use Rattle.std.proofs.lemmas.Bool.{lt-ltb}
use Rattle.std.proofs.lemmas.List.{length-append}
use Rattle.std.proofs.lemmas.Map.Steps.{le-length_from_below}
use Rattle.std.specs.List.{concat, list_any}
use Rattle.arena.specs.Lists.{count_of, without, first_of}
use Rattle.arena.specs.ArenaView.{ArenaView, capacity_of, holds_value, chain_at, listed, aside, IsPartitioned, moved, front_of}
use Rattle.arena.proofs.Counts.{count_of-append, count_of-cons_is, count_of-at, without-absent, length-once}
use Rattle.arena.proofs.KeepsView.{each-from_times}

-- a chain after a slot left
pub chain-without : (chains : List (List ℕ)) (i d : ℕ) → slice_index_or (map (without i) chains) d [] ≡ without i (slice_index_or chains d [])
chain-without [] i d = refl
chain-without (xs ∷ chains) i zero = refl
chain-without (xs ∷ chains) i (suc d) = chain-without chains i d

-- the chain that a slot was moved to, and each other chain
pub chain-moved_same : (chains : List (List ℕ)) (i c : ℕ) → c < length chains → slice_index_or (moved chains i c) c [] ≡ without i (slice_index_or chains c []) ++ i ∷ []
chain-moved_same chains i c within = grind (arith, common_steps)

pub chain-moved_other : (chains : List (List ℕ)) (i c d : ℕ) → d ≢ c → slice_index_or (moved chains i c) d [] ≡ without i (slice_index_or chains d [])
chain-moved_other chains i c d other = grind (arith, common_steps)

pub length-moved : (chains : List (List ℕ)) (i c : ℕ) → length (moved chains i c) ≡ length chains
length-moved chains i c = grind (arith, common_steps)

-- two chains together have a slot no more often than all
count_of-two : (i : ℕ) (chains : List (List ℕ)) (c d : ℕ) → c ≢ d → count_of i (slice_index_or chains c []) + count_of i (slice_index_or chains d []) ≤ count_of i (concat chains)
count_of-two i [] c d other = omega arith
count_of-two i (xs ∷ chains) zero zero other = absurd (other refl)
count_of-two i (xs ∷ chains) zero (suc d) other = omega (arith, count_of-append i xs (concat chains), count_of-at i chains d)
count_of-two i (xs ∷ chains) (suc c) zero other = omega (arith, count_of-append i xs (concat chains), count_of-at i chains c)
count_of-two i (xs ∷ chains) (suc c) (suc d) other = grind (arith, common_steps, count_of-two i chains c d, count_of-append)

found-from_times : (q : ℕ) (xs : List ℕ) → 0 < count_of q xs → list_any (eqb q) xs ≡ true
found-from_times q [] some = absurd (omega arith)
found-from_times q (x ∷ xs) some = grind (arith, common_steps, found-from_times q xs)

count_of-first : (i : ℕ) (xs : List ℕ) → first_of xs ≡ Some i → 0 < count_of i xs
count_of-first i [] first = absurd (cc)
count_of-first i (x ∷ xs) first = let same : x ≡ i = cc in omega (arith, count_of-cons_is i x xs same)

first-without : (i : ℕ) (xs : List ℕ) → first_of xs ≡ Some i → count_of i xs ≤ 1 → xs ≡ i ∷ without i xs
first-without i [] first once = absurd (cc)
first-without i (x ∷ xs) first once = grind (arith, common_steps, without-absent, count_of-cons_is)

module _ {T : Type 0} where
  -- a slot on a chain holds its value, is not free, and is on no other chain
  pub chained-listed : (m : ArenaView T) (i c : ℕ) → 0 < count_of i (chain_at m c) → 0 < count_of i (concat m.chains)
  chained-listed m i c some = omega (arith, count_of-at i m.chains c)

  pub chained-holds : (m : ArenaView T) (i c : ℕ) → IsPartitioned m → 0 < count_of i (chain_at m c) → holds_value m i ≡ true
  chained-holds m i c partitioned some = partitioned.chains_hold i (chained-listed m i c some)

  pub chained-once : (m : ArenaView T) (i c : ℕ) → IsPartitioned m → count_of i (chain_at m c) ≤ 1
  chained-once m i c partitioned = omega (arith, count_of-at i m.chains c, count_of-append i m.free (concat m.chains), partitioned.once i)

  pub chained-apart : (m : ArenaView T) (i c d : ℕ) → IsPartitioned m → c ≢ d → 0 < count_of i (chain_at m c) → count_of i (chain_at m d) ≡ 0
  chained-apart m i c d partitioned other some =
      omega (arith, count_of-two i m.chains c d other, count_of-append i m.free (concat m.chains), partitioned.once i)

  -- the first slot of a chain, and what is left of the chain without it
  pub front-chained : (m : ArenaView T) (i c : ℕ) → front_of m c ≡ Some i → 0 < count_of i (chain_at m c)
  front-chained m i c first = count_of-first i (chain_at m c) first

  pub chain-front : (m : ArenaView T) (i c : ℕ) → IsPartitioned m → front_of m c ≡ Some i → chain_at m c ≡ i ∷ without i (chain_at m c)
  chain-front m i c partitioned first = first-without i (chain_at m c) first (chained-once m i c partitioned)

  -- the lengths of the parts add up to the capacity
  pub length-parts : (m : ArenaView T) → IsPartitioned m → length m.free + length (concat m.chains) + length (aside m) ≡ capacity_of m
  length-parts m partitioned =
      let all = listed m ++ aside m in
      let short = length-once (capacity_of m) all (λ i. at_most i) (each-from_times (λ x. x < capacity_of m) all (λ i some. below i some)) in
      let long = le-length_from_below all (capacity_of m) (λ q low. found-from_times q all (there q low)) in
      omega (arith, length-append (listed m) (aside m), length-append m.free (concat m.chains))
    where
      at_most : (i : ℕ) → count_of i (listed m ++ aside m) ≤ 1
      at_most i = grind (arith, common_steps)

      below : (i : ℕ) → 0 < count_of i (listed m ++ aside m) → i < capacity_of m
      below i some = grind (arith, common_steps)

      there : (q : ℕ) → q < capacity_of m → 0 < count_of q (listed m ++ aside m)
      there q low = let count = rw (lt-ltb q (capacity_of m) low) at (partitioned.parts q) in omega arith
