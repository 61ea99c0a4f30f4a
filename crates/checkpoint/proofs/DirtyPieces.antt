-- Dirty flags: how many there are, and which of them messages set.
use Rattle.std.proofs.Common.{◌≡◌, ◌≢◌, ◌↔◌, ⊎_elim, ℕ, zero, suc, ◌+◌, ◌<◌, ◌≤◌, Bool, true, false, ◌&&◌, List, [], ◌∷◌, ◌++◌, length, take, drop, get_or, set, refl, sym, ◌∙◌, ap, arith, true≢false}
use Rattle.std.specs.List.{AllByRecursion}
use Rattle.std.proofs.lemmas.Bool.{cases_eq, cases_lt, eqb-true, false_from_ne_true}
use Rattle.std.specs.Prelude.{◌==◌}
use Rattle.image.specs.Touched.{may_change, may_change_part}
use Rattle.image.proofs.PieceNumbers.{in_parts, number_there}
use Rattle.protocol.specs.declared.messages.Msg.{Msg}
use Rattle.std.proofs.lemmas.List.{ext_get_or, get_or-set_other, get_or-set_same, length-set, take_more, append-nil, drop_all, take_all}
use Rattle.affinity.specs.declared.geometry.Geometry.{Geometry}
use Rattle.affinity.proofs.Elements.{all_join}
use Rattle.image.specs.Pieces.{aggregate_of, part_of, piece_count, pieces_of_volume, volume_of, volume_piece_number}
use Rattle.meaning.specs.State.{key}
use Rattle.meaning.proofs.Sums.{one_if}
use Rattle.checkpoint.specs.DirtyPieces.{DirtiesTouched, count_dirty, AreCleanBefore}

pub count_next : (t : Bool) (xs : List Bool) (i : ℕ) → i < length xs → get_or xs i false ≡ t → count_dirty (take (suc i) xs) ≡ one_if t + count_dirty (take i xs)
count_next t [] i few is = absurd (omega (arith, few))
count_next t (true ∷ xs) zero few is = ap (λ (b : Bool). one_if b + 0) is
count_next t (false ∷ xs) zero few is = ap (λ (b : Bool). one_if b + 0) is
count_next t (true ∷ xs) (suc i) few is = let next = count_next t xs i (omega (arith, few)) is in omega (arith, next)
count_next t (false ∷ xs) (suc i) few is = count_next t xs i (omega (arith, few)) is

pub count_after : (t : Bool) (xs : List Bool) (i : ℕ) → i < length xs → get_or xs i false ≡ t → count_dirty (take (i + 1) xs) ≡ one_if t + count_dirty (take i xs)
count_after t xs i few is = let next : i + 1 ≡ suc i = omega arith in ap (λ (n : ℕ). count_dirty (take n xs)) next ∙ count_next t xs i few is

-- no flag before n + 1 is set if none before n is, and that of n isn't
pub clear_next : (n : ℕ) (xs : List Bool) → get_or xs n false ≡ false → AreCleanBefore n xs → AreCleanBefore (n + 1) xs
clear_next n xs off so_far i few =
    ⊎_elim (λ (less : i < n). so_far i less) (λ (more : n ≤ i). let here : i ≡ n = omega (arith, few, more) in ap (λ (k : ℕ). get_or xs k false) here ∙ off) (cases_lt i n)

-- nor if flag n is cleared
pub clear_set : (n : ℕ) (xs : List Bool) → n < length xs → AreCleanBefore n xs → AreCleanBefore (n + 1) (set xs n false)
clear_set n xs few so_far =
    clear_next n (set xs n false) (get_or-set_same xs n false false few)
    (λ i less. get_or-set_other xs n i false false (λ here. omega (arith, here, less)) ∙ so_far i less)

pub none_counted : (xs : List Bool) → ((i : ℕ) → i < length xs → get_or xs i false ≡ false) → count_dirty xs ≡ 0
none_counted [] off = refl
none_counted (true ∷ xs) off = absurd (true≢false (off 0 (omega arith)))
none_counted (false ∷ xs) off = none_counted xs (λ i few. off (suc i) (omega (arith, few)))

pub count_most : (xs : List Bool) → count_dirty xs ≤ length xs
count_most [] = omega arith
count_most (true ∷ xs) = let most = count_most xs in omega (arith, most)
count_most (false ∷ xs) = let most = count_most xs in omega (arith, most)

-- clearing a set flag takes one from the count
pub count_cleared : (xs : List Bool) (n : ℕ) → get_or xs n false ≡ true → suc (count_dirty (set xs n false)) ≡ count_dirty xs
count_cleared (true ∷ xs) zero is = refl
count_cleared (true ∷ xs) (suc n) is = let fewer = count_cleared xs n is in omega (arith, fewer)
count_cleared (false ∷ xs) (suc n) is = count_cleared xs n is
count_cleared xs n is = absurd (true≢false (sym is))

pub no_dirty : (xs : List Bool) (n : ℕ) → count_dirty xs ≡ 0 → n < length xs → get_or xs n true ≡ false
no_dirty [] n none few = absurd (omega (arith, few))
no_dirty (true ∷ xs) n none few = absurd (omega (arith, none))
no_dirty (false ∷ xs) zero none few = refl
no_dirty (false ∷ xs) (suc n) none few = no_dirty xs n none (omega (arith, few))

-- a list of `len` items after `new` was written over it from its start on
abbrev pub whole_items : {X : Type 0} → ℕ → List X → List X → List X
whole_items len new old = take len (new ++ drop (length new) old)

pub whole_put : {X : Type 0} {len : ℕ} {middle old : List X} (new : List X) → length new ≡ length middle → middle ≡ old → length middle ≡ len
    → take len (new ++ drop (length new) old) ≡ new
whole_put {len = len} {old = old} new size is long =
    ap (λ l. take len (new ++ l)) (drop_all (length new) old (omega (arith, size ∙ ap length is))) ∙ ap (take len) (append-nil new) ∙ take_all len new (omega (arith, size ∙ long))

-- ---- flags of what messages touch

-- The first k pieces were looked at: each is dirty where it was or the message touches it. The others are as they were.
pub record AreMarked (g : Geometry) (m : Msg) (k : ℕ) (old new : List Bool) : Type 0 where
  pub size : length new ≡ length old
  pub dirty_at : (i : ℕ) → i < k → (get_or new i true ≡ false) ↔ ((get_or old i true ≡ false) × (may_change g m i ≡ false))
  pub rest : (i : ℕ) → k ≤ i → get_or new i true ≡ get_or old i true

three_true : (p q r : Bool) → (p && q && r) ≡ true → (p ≡ true) × (q ≡ true)
three_true true true r on = (refl, refl)
three_true true false r on = absurd (true≢false (sym on))
three_true false q r on = absurd (true≢false (sym on))

-- the number of the first piece of a message's volume
abbrev pub first_of : Geometry → Msg → ℕ
first_of g m = volume_piece_number g (key m).0 (key m).1

-- what a message touches is of its own volume
touched_inside : (g : Geometry) (m : Msg) (n : ℕ) → may_change g m n ≡ true → (first_of g m ≤ n) × (n < first_of g m + pieces_of_volume g)
touched_inside g m n on =
    let is_volume = three_true ((key m).0 == aggregate_of g n) ((key m).1 == volume_of g n) (may_change_part g m (part_of g n)) on in
    let a = eqb-true (key m).0 (aggregate_of g n) is_volume.0 in
    let v = eqb-true (key m).1 (volume_of g n) is_volume.1 in
    let at : first_of g m ≡ volume_piece_number g (aggregate_of g n) (volume_of g n) = λ i. volume_piece_number g (a i) (v i) in
    let there = number_there g n in
    let few = in_parts g n in
    (omega (arith, at, there, few), omega (arith, at, there, few))

untouched_before : (g : Geometry) (m : Msg) (n : ℕ) → n < first_of g m → may_change g m n ≡ false
untouched_before g m n before = false_from_ne_true (may_change g m n) (λ on. let inside = touched_inside g m n on in omega (arith, before, inside.0))

untouched_after : (g : Geometry) (m : Msg) (n : ℕ) → first_of g m + pieces_of_volume g ≤ n → may_change g m n ≡ false
untouched_after g m n after = false_from_ne_true (may_change g m n) (λ on. let inside = touched_inside g m n on in omega (arith, after, inside.1))

pub none_looked : (g : Geometry) (m : Msg) (k : ℕ) (old : List Bool) → k ≡ first_of g m → AreMarked g m k old old
none_looked g m k old first = record {
  size = refl;
  dirty_at = λ i few. ((λ off. (off, untouched_before g m i (omega (arith, few, first)))), (λ both. both.0));
  rest = λ i far. refl;
}

apart : (i k : ℕ) → i ≢ k → i < k + 1 → i < k
apart i k elsewhere below = ⊎_elim (λ (less : i < k). less) (λ (more : k ≤ i). absurd (elsewhere (omega (arith, below, more)))) (cases_lt i k)

pub one_touched : (g : Geometry) (m : Msg) (k : ℕ) (old new : List Bool) → k < length new → may_change g m k ≡ true → AreMarked g m k old new → AreMarked g m (k + 1) old (set new k true)
one_touched g m k old new few on so_far = record {
  size = length-set new k true ∙ so_far.size;
  dirty_at = λ i below.
      ⊎_elim
      (λ (here : i ≡ k). (
        (λ clean. absurd (true≢false (sym (get_or-set_same new k true true few) ∙ sym (ap (λ (j : ℕ). get_or (set new k true) j true) here) ∙ clean))),
        (λ both. absurd (true≢false (sym on ∙ sym (ap (λ (j : ℕ). may_change g m j) here) ∙ both.1))),
      ))
      (λ (elsewhere : i ≢ k).
      let kept = get_or-set_other new k i true true elsewhere in
      let before = so_far.dirty_at i (apart i k elsewhere below) in
      ((λ clean. before.0 (sym kept ∙ clean)), (λ both. kept ∙ before.1 both)))
      (cases_eq i k);
  rest = λ i far. get_or-set_other new k i true true (λ here. omega (arith, here, far)) ∙ so_far.rest i (omega (arith, far));
}

pub one_passed : (g : Geometry) (m : Msg) (k : ℕ) (old new : List Bool) → may_change g m k ≡ false → AreMarked g m k old new → AreMarked g m (k + 1) old new
one_passed g m k old new off so_far = record {
  size = so_far.size;
  dirty_at = λ i below.
      ⊎_elim
      (λ (here : i ≡ k).
      let kept : get_or new i true ≡ get_or old i true = so_far.rest i (omega (arith, here)) in (
        (λ clean. (sym kept ∙ clean, ap (λ (j : ℕ). may_change g m j) here ∙ off)),
        (λ both. kept ∙ both.0),
      ))
      (λ (elsewhere : i ≢ k). so_far.dirty_at i (apart i k elsewhere below))
      (cases_eq i k);
  rest = λ i far. so_far.rest i (omega (arith, far));
}

pub all_looked : (g : Geometry) (m : Msg) (k : ℕ) (old new : List Bool) → ((n : ℕ) → n < piece_count g → k ≤ n → first_of g m + pieces_of_volume g ≤ n)
    → AreMarked g m k old new → DirtiesTouched g (m ∷ []) old new
all_looked g m k old new all so_far n few =
    ⊎_elim
    (λ (less : n < k).
    let looked = so_far.dirty_at n less in ((λ clean. let both = looked.0 clean in (both.0, (both.1, tt))), (λ both. looked.1 (both.0, both.1.0))))
    (λ (more : k ≤ n).
    let kept = so_far.rest n more in ((λ clean. (sym kept ∙ clean, (untouched_after g m n (all n few more), tt))), (λ both. kept ∙ both.0)))
    (cases_lt n k)

module _ (g : Geometry) (old : List Bool) where
  pub no_message : DirtiesTouched g [] old old
  no_message n few = ((λ clean. (clean, tt)), (λ both. both.0))

  pub message_more : (ms : List Msg) (i : ℕ) (d : Msg) (mid new : List Bool) → i < length ms → DirtiesTouched g (take i ms) old mid
      → DirtiesTouched g (get_or ms i d ∷ []) mid new → DirtiesTouched g (take (i + 1) ms) old new
  message_more ms i d mid new few so_far more n below =
      let first = so_far n below in
      let last = more n below in
      let spelled = take_more ms i d few in (
        (λ clean.
            let after = last.0 clean in
            let before = first.0 after.0 in (
              before.0,
              rw spelled (all_join (λ m. may_change g m n ≡ false) (take i ms) (get_or ms i d ∷ []) before.1 after.1),
            )),
        (λ both.
            let parts = all-parts (λ m. may_change g m n ≡ false) (take i ms) (get_or ms i d ∷ []) (rw (← spelled) both.1) in
            last.1 (first.1 (both.0, parts.0), parts.1)),
      )
    where
      all-parts : {X : Type 0} (P : X → Type 0) (xs ys : List X) → AllByRecursion P (xs ++ ys) → AllByRecursion P xs × AllByRecursion P ys
      all-parts P [] ys all = (tt, all)
      all-parts P (x ∷ xs) ys all = let rest = all-parts P xs ys all.1 in ((all.0, rest.0), rest.1)

by_false : (a b : Bool) → (a ≡ false → b ≡ false) → (b ≡ false → a ≡ false) → a ≡ b
by_false true true there back = refl
by_false true false there back = back refl
by_false false true there back = sym (there refl)
by_false false false there back = refl

-- with no message the flags are as they were
pub same_dirty : (g : Geometry) (ms : List Msg) (old new : List Bool) → length ms ≡ 0 → length old ≡ piece_count g → length new ≡ length old → DirtiesTouched g ms old new → new ≡ old
same_dirty g [] old new none size same touched =
    ext_get_or true new old same
    (λ n few. let looked = touched n (omega (arith, few, same, size)) in by_false _ _ (λ off. (looked.0 off).0) (λ off. looked.1 (off, tt)))
same_dirty g (m ∷ ms) old new none size same touched = absurd (omega (arith, none))
