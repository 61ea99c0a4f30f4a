-- Ways (paths along `next`) over nodes (slots, and the sentinels at which lists end), and the lists that they make.
use Rattle.std.proofs.lemmas.Grind.{common_steps}
use Rattle.std.proofs.Common.{◌≡◌, ◌≢◌, ℕ, zero, suc, ◌+◌, ◌<◌, ◌≤◌, List, [], ◌∷◌, ◌++◌, map, length, refl, ap, ◌∙◌, arith, add-zero, slice_set, slice_index_or}
use Rattle.std.proofs.lemmas.Bool.{le-ltb}
use Rattle.std.specs.List.{AllByRecursion}
use Rattle.arena.specs.Lists.{count_of, without, numbers_from}
use Rattle.arena.specs.Linked.{IsWay, walk}

-- each number of the list is a slot
abbrev pub AreSlots : ℕ → List ℕ → Type 0
AreSlots slots xs = AllByRecursion (λ x. x < slots) xs

module _ (next : ℕ → ℕ) (slots : ℕ) where
  -- a way over slots to a sentinel is what the walk finds
  pub walk-way : (steps a : ℕ) (xs : List ℕ) (z : ℕ) → IsWay next a xs z → AreSlots slots xs → slots ≤ z → length xs ≤ steps → walk next slots steps (next a) ≡ xs
  walk-way zero a [] z way inside outside short = refl
  walk-way zero a (x ∷ xs) z way inside outside short = absurd (omega arith)
  walk-way (suc steps) a [] z way inside outside short = rw (way, le-ltb z slots outside) refl
  walk-way (suc steps) a (x ∷ xs) z way inside outside short = grind (arith, common_steps, walk-way steps x xs z way.1 inside.1 outside)

  -- a walk meets slots alone
  pub walk-inside : (steps a : ℕ) → AreSlots slots (walk next slots steps a)
  walk-inside zero a = tt
  walk-inside (suc steps) a = grind (arith, common_steps, walk-inside steps (next a))

  pub length-walk : (steps a : ℕ) → length (walk next slots steps a) ≤ steps
  length-walk zero a = omega arith
  length-walk (suc steps) a = grind (arith, common_steps, length-walk steps (next a))

-- each slot is a node
pub slots-below : (slots nodes : ℕ) (xs : List ℕ) → slots ≤ nodes → AreSlots slots xs → AreSlots nodes xs
slots-below slots nodes [] fit inside = tt
slots-below slots nodes (x ∷ xs) fit inside = (omega (arith, inside.0), slots-below slots nodes xs fit inside.1)

pub slots-without : (slots i : ℕ) (xs : List ℕ) → AreSlots slots xs → AreSlots slots (without i xs)
slots-without slots i [] inside = tt
slots-without slots i (x ∷ xs) inside = grind (arith, common_steps, slots-without slots i xs inside.1)

pub slots-append : (slots i : ℕ) (xs : List ℕ) → AreSlots slots xs → i < slots → AreSlots slots (xs ++ i ∷ [])
slots-append slots i [] inside within = (within, tt)
slots-append slots i (x ∷ xs) inside within = (inside.0, slots-append slots i xs inside.1 within)

-- a number that is no slot is in no list of slots
pub count_of-no_slot : (slots i : ℕ) (xs : List ℕ) → AreSlots slots xs → slots ≤ i → count_of i xs ≡ 0
count_of-no_slot slots i [] inside outside = refl
count_of-no_slot slots i (x ∷ xs) inside outside = grind (arith, common_steps, count_of-no_slot slots i xs inside.1 outside)

-- a way stays a way if `next` of each of its nodes is as before
pub way-kept : (next next' : ℕ → ℕ) {a b : ℕ} (xs : List ℕ) (z : ℕ) → next' b ≡ next a → AllByRecursion (λ x. next' x ≡ next x) xs → IsWay next a xs z → IsWay next' b xs z
way-kept next next' [] z first rest way = first ∙ way
way-kept next next' (x ∷ xs) z first rest way = grind (arith, common_steps, way-kept next next' xs z rest.0 rest.1 way.1)

-- what a function gives at `count` numbers, from `from` on
abbrev pub table : (ℕ → List ℕ) → ℕ → ℕ → List (List ℕ)
table at from count = map at (numbers_from from count)

-- if `at' e` is `made (at e)` at each number e, the table of at' is that of at with `made` mapped over it
pub table-map : (at at' : ℕ → List ℕ) (made : List ℕ → List ℕ) (from count : ℕ) → ((e : ℕ) → from ≤ e → e < from + count → at' e ≡ made (at e)) → table at' from count ≡ map made (table at from count)
table-map at at' made from zero each = refl
table-map at at' made from (suc count) each = grind (arith, common_steps, table-map at at' made (suc from) count)

pub length-table : (at : ℕ → List ℕ) (from count : ℕ) → length (table at from count) ≡ count
length-table at from zero = refl
length-table at from (suc count) = omega (arith, length-table at (suc from) count)

pub map-same : (lists : List (List ℕ)) → map (λ xs. xs) lists ≡ lists
map-same [] = refl
map-same (xs ∷ lists) = ap (λ (l : List (List ℕ)). xs ∷ l) (map-same lists)

-- the tables of two functions that differ at one number
pub table-set : (at at' : ℕ → List ℕ) (from count k : ℕ) → k < count → ((e : ℕ) → from ≤ e → e < from + count → e ≢ from + k → at' e ≡ at e)
    → table at' from count ≡ slice_set (table at from count) k (at' (from + k))
table-set at at' from zero k within others = absurd (omega arith)
table-set at at' from (suc count) zero within others =
    let later = table-map at at' (λ xs. xs) (suc from) count (λ e low high. others e (omega arith) (omega arith) (λ same. omega arith)) in
    rw (add-zero) (ap (λ (l : List (List ℕ)). at' from ∷ l) (later ∙ map-same (table at (suc from) count)))
table-set at at' from (suc count) (suc k) within others = grind (arith, common_steps, table-set at at' (suc from) count k)

pub table-at : (at : ℕ → List ℕ) (from count k : ℕ) → k < count → slice_index_or (table at from count) k [] ≡ at (from + k)
table-at at from zero k within = absurd (omega arith)
table-at at from (suc count) zero within = rw add-zero refl
table-at at from (suc count) (suc k) within = grind (arith, common_steps, table-at at (suc from) count k)
