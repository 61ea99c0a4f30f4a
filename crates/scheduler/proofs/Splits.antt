-- Lists of slot numbers, cut at one of them, and lists that a function makes of slot numbers.
use Rattle.std.proofs.Common.{◌≡◌, ◌≢◌, ℕ, ◌≤◌, ◌<◌, List, [], ◌∷◌, ◌++◌, map, refl, sym, ap, ◌∙◌, arith, inl, inr}
use Rattle.std.proofs.lemmas.Bool.{eq-eqb}
use Rattle.std.proofs.lemmas.Bool.Decides.{eqb_tells}
use Rattle.std.proofs.lemmas.List.Elements.{filter-append}
use Rattle.arena.specs.Lists.{count_of, without}
use Rattle.arena.proofs.Counts.{count_of-append, count_of-cons_is, count_of-cons_other, count_of-cons_same, without-absent}

-- a list without a number that occurs in it once
pub without-split : (i : ℕ) (xs ys : List ℕ) → count_of i (xs ++ i ∷ ys) ≤ 1 → without i (xs ++ i ∷ ys) ≡ xs ++ ys
without-split i xs ys once =
    let all = count_of-append i xs (i ∷ ys) in
    let same = count_of-cons_same i ys in
    let head : without i (i ∷ ys) ≡ without i ys = rw (eq-eqb i i refl) refl in
    filter-append _ xs (i ∷ ys)
    ∙ (λ k. without-absent i xs (omega (arith, once, all, same)) k
    ++ (head ∙ without-absent i ys (omega (arith, once, all, same))) k)

pub count_of-split : (i : ℕ) (xs ys : List ℕ) → 0 < count_of i (xs ++ i ∷ ys)
count_of-split i xs ys = let all = count_of-append i xs (i ∷ ys) in let same = count_of-cons_same i ys in omega (arith, all, same)

-- two functions that agree on all numbers but i give the same list of items, where i isn't in the list
pub map_same : {X : Type 0} (f h : ℕ → X) (i : ℕ) (xs : List ℕ) → ((j : ℕ) → j ≢ i → h j ≡ f j) → count_of i xs ≡ 0 → map h xs ≡ map f xs
map_same f h i [] agree none = refl
map_same f h i (x ∷ xs) agree none = elim (eqb_tells x i) [
  | inl e ↦ absurd (let some = count_of-cons_is i x xs e.1 in omega (arith, none, some))
  | inr n ↦ (λ k. agree x n.1 k ∷ map_same f h i xs agree (sym (count_of-cons_other i x xs n.1) ∙ none) k)
]

-- The list `map f xs` is `before`, x and `behind`; so xs is cut at the number of which f makes x.
pub record MapSplit {X : Type 0} (f : ℕ → X) (xs : List ℕ) (before : List X) (x : X) (behind : List X) : Type 0 where
  pub front : List ℕ
  pub at : ℕ
  pub back : List ℕ
  pub whole : xs ≡ front ++ at ∷ back
  pub before_is : map f front ≡ before
  pub at_is : f at ≡ x
  pub behind_is : map f back ≡ behind

pub map_split : {X : Type 0} (f : ℕ → X) (xs : List ℕ) (before : List X) (x : X) (behind : List X) → map f xs ≡ before ++ x ∷ behind
    → MapSplit f xs before x behind
map_split f [] [] x behind e = absurd (cc)
map_split f [] (b ∷ before) x behind e = absurd (cc)
map_split f (y ∷ xs) [] x behind e = record { front = []; at = y; back = xs; whole = refl; before_is = refl; at_is = cc; behind_is = cc }
map_split f (y ∷ xs) (b ∷ before) x behind e =
    let k = map_split f xs before x behind (cc) in
    let first : f y ≡ b = cc in
    record {
      front = y ∷ k.front;
      at = k.at;
      back = k.back;
      whole = ap (λ l. y ∷ l) k.whole;
      before_is = λ i. first i ∷ k.before_is i;
      at_is = k.at_is;
      behind_is = k.behind_is;
    }
