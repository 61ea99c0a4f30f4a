-- What an index and an array of buffers keep, and what an edit of both makes of the entries.
use Rattle.std.proofs.Common.{◌≡◌, ◌≢◌, ℕ, zero, suc, ◌+◌, ◌-◌, ◌<◌, ◌≤◌, Bool, true, false, ◌&&◌, ◌||◌, ◌==◌, nat_lt, List, [], ◌∷◌, ◌++◌, map, length, take, drop, length-drop, length-take, add-one, refl, sym, ap, ◌∙◌, inl, inr, arith, Option, Some, None, Ok, is_some, unwrap_or, slice_index_or, slice_set}
use Rattle.std.proofs.lemmas.Bool.Decides.{eqb_tells}
use Rattle.std.specs.List.{AllByRecursion, concat}
use Rattle.std.specs.List.Sorted.{IsPartitionedBy, IsPartitionPoint}
use Rattle.protocol.specs.declared.messages.Block.{Block}
use Rattle.arena.specs.Lists.{count_of, without}
use Rattle.arena.proofs.IsPartitioned.{value-same, value-other, held-within, held-not_free, partitioned-restore}
use Rattle.std.proofs.lemmas.List.{length-replicate, length-set, take-map, drop-map, map-append}
use Rattle.arena.proofs.Counts.{length-numbers, count_of-append, count_of-cons_same, count_of-cons_is, count_of-cons_other, count_of-tail}
use Rattle.arena.specs.ArenaView.{ArenaView, value_at, holds_value, IsPartitioned, with_value, slot_from, put_answer, put_into, after_put, after_take, empty_arena}
use Rattle.stripe.specs.declared.blocks.IndexEntry.{IndexEntry}
use Rattle.stripe.specs.Stripe.{BlockEntry, StripePart, content_at, ComesBefore, IsAscending, PrecedesBlock}
use Rattle.stripe.specs.Index.{no_block, entry_at, entries_of, slots_of, IsStored, no_entry, IsSplit, IsAt, IsGap, rewritten}
use Rattle.stripe.proofs.EntryLemmas.{content-at, ascending-rewritten, ascending-inserted, ascending-removed}

-- ---- the search

-- what the search asks of an index entry: whether its block comes before block b of file f
abbrev pub is_before : IndexEntry → ℕ → ℕ → Bool
is_before p f b = nat_lt p.file f || ((p.file == f) && nat_lt p.block b)

is_before-true : (p : IndexEntry) (f b : ℕ) → is_before p f b ≡ true → PrecedesBlock p.file p.block f b
is_before-true p f b passes = grind arith

is_before-from : (p : IndexEntry) (f b : ℕ) → PrecedesBlock p.file p.block f b → is_before p f b ≡ true
is_before-from p f b before = grind arith

is_before-not : (p : IndexEntry) (f b : ℕ) → is_before p f b ≡ false → PrecedesBlock p.file p.block f b → ⊥
is_before-not p f b fails before = let passes = is_before-from p f b before in let lost : true ≡ false = sym passes ∙ fails in cc

all-index : (values : List (Option Block)) (P : BlockEntry → Type 0) (index : List IndexEntry) (n : ℕ) (d : IndexEntry) → n < length index
    → AllByRecursion P (entries_of values index) → P (entry_at values (slice_index_or index n d))
all-index values P [] n d within all = absurd (omega arith)
all-index values P (p ∷ index) zero d within all = all.0
all-index values P (p ∷ index) (suc n) d within all = all-index values P index n d (omega arith) all.1

pub is_before-partitioned : (values : List (Option Block)) (index : List IndexEntry) (f b : ℕ) → IsAscending (entries_of values index)
    → IsPartitionedBy (λ p. is_before p f b) index
is_before-partitioned values [] f b up i j d order within passes = absurd (omega arith)
is_before-partitioned values (p ∷ index) f b up zero zero d order within passes = passes
is_before-partitioned values (p ∷ index) f b up zero (suc j) d order within passes =
    grind (arith, all-index values (ComesBefore (entry_at values p)) index j d (omega arith) up.0)
is_before-partitioned values (p ∷ index) f b up (suc i) zero d order within passes = absurd (omega arith)
is_before-partitioned values (p ∷ index) f b up (suc i) (suc j) d order within passes =
    is_before-partitioned values index f b up.1 i j d (omega arith) (omega arith) passes

before-from : (values : List (Option Block)) (index : List IndexEntry) (f b n : ℕ)
    → ((k : ℕ) (d : IndexEntry) → k < n → k < length index → is_before (slice_index_or index k d) f b ≡ true)
    → AllByRecursion (λ e. PrecedesBlock e.file e.block f b) (take n (entries_of values index))
before-from values index f b zero all = tt
before-from values [] f b (suc n) all = tt
before-from values (p ∷ index) f b (suc n) all = (
  is_before-true p f b (all 0 p (omega arith) (omega arith)),
  before-from values index f b n (λ k d low within. all (suc k) d (omega arith) (omega arith)),
)

behind-from : (values : List (Option Block)) (index : List IndexEntry) (f b n : ℕ)
    → ((k : ℕ) (d : IndexEntry) → n ≤ k → k < length index → is_before (slice_index_or index k d) f b ≡ false)
    → AllByRecursion (λ e. PrecedesBlock e.file e.block f b → ⊥) (drop n (entries_of values index))
behind-from values [] f b zero all = tt
behind-from values [] f b (suc n) all = tt
behind-from values (p ∷ index) f b zero all = (
  is_before-not p f b (all 0 p (omega arith) (omega arith)),
  behind-from values index f b zero (λ k d low within. all (suc k) d (omega arith) (omega arith)),
)
behind-from values (p ∷ index) f b (suc n) all =
    behind-from values index f b n (λ k d low within. all (suc k) d (omega arith) (omega arith))

pub length-entries : (values : List (Option Block)) (index : List IndexEntry) → length (entries_of values index) ≡ length index
length-entries values [] = refl
length-entries values (p ∷ index) = ap (λ n. suc n) (length-entries values index)

pub length-stored : (arena : ArenaView Block) (index : List IndexEntry) → IsStored arena index → length (entries_of arena.values index) ≤ 64
length-stored arena index stored = omega (arith, length-entries arena.values index, stored.free, stored.small)

pub split-from_point : (values : List (Option Block)) (index : List IndexEntry) (f b n : ℕ) → n ≤ length index
    → IsPartitionPoint (λ p. is_before p f b ≡ true) (λ p. is_before p f b ≡ false) index n → IsSplit (entries_of values index) f b n
split-from_point values index f b n within point = record {
  within = let same = length-entries values index in omega arith;
  before = before-from values index f b n (λ k d low under. point.0 k d (omega arith) low);
  behind = behind-from values index f b n (λ k d high under. point.1 k d high under);
}

-- ---- the entry at an index

pub index_entry-entry : (values : List (Option Block)) (index : List IndexEntry) (n : ℕ) (p : IndexEntry) → n < length (entries_of values index)
    → p ≡ slice_index_or index n p → slice_index_or (entries_of values index) n no_entry ≡ entry_at values p
index_entry-entry values [] n p within here = absurd (omega arith)
index_entry-entry values (q ∷ index) zero p within here = ap (entry_at values) (sym here)
index_entry-entry values (q ∷ index) (suc n) p within here = index_entry-entry values index n p (omega arith) here

count_of-place : (index : List IndexEntry) (n : ℕ) (p : IndexEntry) → n < length index → p ≡ slice_index_or index n p → 0 < count_of p.slot (slots_of index)
count_of-place [] n p within here = absurd (omega arith)
count_of-place (q ∷ index) zero p within here = omega (arith, count_of-cons_is p.slot q.slot (slots_of index) (ap (λ (r : IndexEntry). r.slot) (sym here)))
count_of-place (q ∷ index) (suc n) p within here = omega (arith, count_of-tail p.slot q.slot (slots_of index), count_of-place index n p (omega arith) here)

unwrapped : (o : Option Block) (d : Block) → is_some o ≡ true → o ≡ Some (unwrap_or o d)
unwrapped None d there = absurd (cc)
unwrapped (Some x) d there = refl

pub held-content : (arena : ArenaView Block) (index : List IndexEntry) (n : ℕ) (p : IndexEntry) → IsStored arena index → n < length index → p ≡ slice_index_or index n p
    → value_at arena p.slot ≡ Some (entry_at arena.values p).content
held-content arena index n p stored within here =
    unwrapped (value_at arena p.slot) no_block (stored.hold p.slot (count_of-place index n p within here))

pub found-value : {arena : ArenaView Block} {index : List IndexEntry} {es : List BlockEntry} {f b n : ℕ} {p : IndexEntry} → IsStored arena index
    → entries_of arena.values index ≡ es → IsAt es f b n → p ≡ slice_index_or index n p → value_at arena p.slot ≡ content_at es f b
found-value {arena} {index} {es} {f} {b} {n} {p} stored same at here =
    grind (arith, length-entries arena.values index, index_entry-entry, held-content, content-at)

-- ---- a write to a value

pub part_same : (q r : ℕ) (ds es : List BlockEntry) → q ≡ r → ds ≡ es
    → ◌≡◌ {A = StripePart} (record { quota = q; entries = ds }) (record { quota = r; entries = es })
part_same q r ds es quota entries = rw (quota, entries) refl

entry-written : (values : List (Option Block)) (q : IndexEntry) (slot : ℕ) (content : Block) → q.slot ≡ slot → slot < length values
    → entry_at (slice_set values slot (Some content)) q ≡ record { file = q.file; block = q.block; content = content }
entry-written values q slot content same within = grind (arith, value-same values slot (Some content) within)

entry-other : (values : List (Option Block)) (q : IndexEntry) (slot : ℕ) (w : Option Block) → q.slot ≢ slot
    → entry_at (slice_set values slot w) q ≡ entry_at values q
entry-other values q slot w other = grind (arith, value-other values slot q.slot w other)

both_same : (d e : BlockEntry) (ds es : List BlockEntry) → d ≡ e → ds ≡ es → d ∷ ds ≡ e ∷ es
both_same d e ds es head tail = cc

entries-other : (values : List (Option Block)) (slot : ℕ) (w : Option Block) (index : List IndexEntry) → count_of slot (slots_of index) ≡ 0
    → entries_of (slice_set values slot w) index ≡ entries_of values index
entries-other values slot w [] none = refl
entries-other values slot w (q ∷ index) none = elim (eqb_tells q.slot slot) [
  | inl e ↦ absurd (let more = count_of-cons_is slot q.slot (slots_of index) e.1 in omega arith)
  | inr n ↦ both_same _ _ _ _ (entry-other values q slot w n.1)
      (entries-other values slot w index (let same = count_of-cons_other slot q.slot (slots_of index) n.1 in omega arith))
]

pub entries-written : (values : List (Option Block)) (index : List IndexEntry) (n : ℕ) {p : IndexEntry} (content : Block)
    → ((i : ℕ) → count_of i (slots_of index) ≤ 1) → n < length index → p ≡ slice_index_or index n p → p.slot < length values
    → entries_of (slice_set values p.slot (Some content)) index ≡ rewritten (entries_of values index) n content
entries-written values [] n content once within here fits = absurd (omega arith)
entries-written values (q ∷ index) zero {p} content once within here fits = grind (arith, entry-written, entries-other)
entries-written values (q ∷ index) (suc n) {p} content once within here fits =
    let later = count_of-place index n p (omega arith) here in
    both_same _ _ _ _
    (entry-other values q p.slot (Some content)
    (λ same. absurd (let more = count_of-cons_is p.slot q.slot (slots_of index) same in let most = once p.slot in omega arith)))
    (entries-written values index n content (λ i. let tail = count_of-tail i q.slot (slots_of index) in let most = once i in omega arith) (omega arith) here fits)

pub stored-written : (arena : ArenaView Block) (index : List IndexEntry) (n : ℕ) (p : IndexEntry) (content : Block) → IsStored arena index → n < length index
    → p ≡ slice_index_or index n p → IsStored (with_value arena p.slot content) index
stored-written arena index n p content stored within here =
    let held = stored.hold p.slot (count_of-place index n p within here) in
    let fits = held-within arena.values p.slot held in
    let long = length-set arena.values p.slot (Some content) in
    record {
      ascending = rw (entries-written arena.values index n content stored.once within here fits)
          (ascending-rewritten (entries_of arena.values index) n content (let same = length-entries arena.values index in omega arith) stored.ascending);
      partitioned = partitioned-restore arena p.slot content stored.partitioned fits (held-not_free arena stored.partitioned p.slot held);
      once = stored.once;
      hold = λ i some. elim (eqb_tells i p.slot) [
        | inl e ↦ rw e.1 (ap is_some (value-same arena.values p.slot (Some content) fits))
        | inr o ↦ ap is_some (value-other arena.values p.slot i (Some content) o.1) ∙ stored.hold i some
      ];
      free = rw long stored.free;
      small = rw long stored.small;
    }

-- the slot of an index entry is in the arena
pub slot-within : (arena : ArenaView Block) (index : List IndexEntry) (n : ℕ) (p : IndexEntry) → IsStored arena index → n < length index
    → p ≡ slice_index_or index n p → p.slot < length arena.values
slot-within arena index n p stored within here = held-within arena.values p.slot (stored.hold p.slot (count_of-place index n p within here))

-- ---- a block is made

under_times : (i x : ℕ) (xs ys : List ℕ) → count_of i xs ≡ count_of i ys → count_of i (x ∷ xs) ≡ count_of i (x ∷ ys)
under_times i x xs ys same = elim (eqb_tells x i) [ inl e ↦ rw e.0 (ap (λ n. suc n) same) | inr n ↦ rw n.0 same ]

count_of-swapped : (i x y : ℕ) (xs : List ℕ) → count_of i (x ∷ y ∷ xs) ≡ count_of i (y ∷ x ∷ xs)
count_of-swapped i x y xs = grind arith

count_of-inserted : (i : ℕ) (index : List IndexEntry) (n : ℕ) (p : IndexEntry)
    → count_of i (slots_of (take n index ++ p ∷ drop n index)) ≡ count_of i (p.slot ∷ slots_of index)
count_of-inserted i index zero p = refl
count_of-inserted i [] (suc n) p = refl
count_of-inserted i (q ∷ index) (suc n) p = grind (arith, count_of-inserted i index n p)

entries-inserted : (values : List (Option Block)) (index : List IndexEntry) (n : ℕ) (p : IndexEntry) (content : Block) → count_of p.slot (slots_of index) ≡ 0
    → p.slot < length values
    → entries_of (slice_set values p.slot (Some content)) (take n index ++ p ∷ drop n index)
    ≡ take n (entries_of values index) ++ record { file = p.file; block = p.block; content = content } ∷ drop n (entries_of values index)
entries-inserted values index zero p content none fits =
    both_same _ _ _ _ (entry-written values p p.slot content refl fits) (entries-other values p.slot (Some content) index none)
entries-inserted values [] (suc n) p content none fits = both_same _ _ _ _ (entry-written values p p.slot content refl fits) refl
entries-inserted values (q ∷ index) (suc n) p content none fits = elim (eqb_tells q.slot p.slot) [
  | inl e ↦ absurd (let more = count_of-cons_is p.slot q.slot (slots_of index) e.1 in omega arith)
  | inr o ↦ both_same _ _ _ _ (entry-other values q p.slot (Some content) o.1)
      (entries-inserted values index n p content (let same = count_of-cons_other p.slot q.slot (slots_of index) o.1 in omega arith) fits)
]

length-index_inserted : (index : List IndexEntry) (n : ℕ) (p : IndexEntry) → length (take n index ++ p ∷ drop n index) ≡ suc (length index)
length-index_inserted index zero p = refl
length-index_inserted [] (suc n) p = refl
length-index_inserted (q ∷ index) (suc n) p = ap (λ k. suc k) (length-index_inserted index n p)

-- a free slot holds nothing, so no index entry has it
unclaimed : (arena : ArenaView Block) (index : List IndexEntry) (i : ℕ) → IsStored arena index → 0 < count_of i arena.free → count_of i (slots_of index) ≡ 0
unclaimed arena index i stored some = grind arith

first-free : (free : List ℕ) (slot : ℕ) (content : Block) → slot_from free content ≡ Ok slot → (rest : List ℕ) × (free ≡ slot ∷ rest)
first-free [] slot content answer = absurd (cc)
first-free (i ∷ rest) slot content answer = (rest, let same : i ≡ slot = cc in rw same refl)

after_put-is : (arena : ArenaView Block) (slot : ℕ) (content : Block) (rest : List ℕ) → arena.free ≡ slot ∷ rest
    → after_put arena content ≡ record arena { values = slice_set arena.values slot (Some content); free = rest }
after_put-is arena slot content rest first = ap (λ (xs : List ℕ). put_into arena xs content) first

module _ (arena : ArenaView Block) (index : List IndexEntry) (slot : ℕ) (content : Block) (stored : IsStored arena index) (answer : put_answer arena content ≡ Ok slot) where
  slot-some : 0 < count_of slot arena.free
  slot-some = grind arith

  slot-fits : slot < length arena.values
  slot-fits = stored.partitioned.within slot (let all = count_of-append slot arena.free (concat arena.chains) in let some = slot-some in omega arith)

  pub slot-small : slot < 64
  slot-small = let fits = slot-fits in let small = stored.small in omega arith

  pub length-put : length (after_put arena content).values ≡ length arena.values
  length-put =
      let first = first-free arena.free slot content answer in
      rw (after_put-is arena slot content first.0 first.1) (length-set arena.values slot (Some content))

  module _ (n f b : ℕ) where
    pub entries-put : entries_of (after_put arena content).values (take n index ++ record { file = f; block = b; slot = slot } ∷ drop n index)
        ≡ take n (entries_of arena.values index) ++ record { file = f; block = b; content = content } ∷ drop n (entries_of arena.values index)
    entries-put =
        let first = first-free arena.free slot content answer in
        rw (after_put-is arena slot content first.0 first.1)
        (entries-inserted arena.values index n (record { file = f; block = b; slot = slot }) content (unclaimed arena index slot stored slot-some) slot-fits)

    pub stored-put : IsGap (entries_of arena.values index) f b n → IsPartitioned (after_put arena content)
        → IsStored (after_put arena content) (take n index ++ record { file = f; block = b; slot = slot } ∷ drop n index)
    stored-put gap partitioned =
        let first = first-free arena.free slot content answer in
        let is = after_put-is arena slot content first.0 first.1 in
        let none = unclaimed arena index slot stored slot-some in
        let more = λ (i : ℕ). count_of-inserted i index n (record { file = f; block = b; slot = slot }) in
        let long = length-set arena.values slot (Some content) in
        record {
          ascending = rw entries-put (ascending-inserted (entries_of arena.values index) n (record { file = f; block = b; content = content })
              gap.before gap.behind stored.ascending);
          partitioned = partitioned;
          once = λ i. elim (eqb_tells slot i) [
            | inl e ↦ (let one = count_of-cons_is i slot (slots_of index) e.1 in
                let absent : count_of i (slots_of index) ≡ 0 = rw e.1 at none in
                let all = more i in omega arith)
            | inr o ↦ (let same = count_of-cons_other i slot (slots_of index) o.1 in let all = more i in let most = stored.once i in omega arith)
          ];
          hold = λ i some. rw is (elim (eqb_tells i slot) [
            | inl e ↦ rw e.1 (ap is_some (value-same arena.values slot (Some content) slot-fits))
            | inr o ↦ ap is_some (value-other arena.values slot i (Some content) o.1)
                ∙ stored.hold i (let same = count_of-cons_other i slot (slots_of index) (λ e. o.1 (sym e)) in let all = more i in omega arith)
          ]);
          free = rw is (
              let fewer = ap length first.1 in
              let longer = length-index_inserted index n (record { file = f; block = b; slot = slot }) in
              let count = stored.free in
              omega arith
              );
          small = rw is (let small = stored.small in omega arith);
        }

-- ---- a run (index entries next to each other) is cut out

-- the slots of the first `count` index entries of a run were taken out of the arena
pub record IsTaken (before now : ArenaView Block) (run : List IndexEntry) (count : ℕ) : Type 0 where
  pub partitioned : IsPartitioned now
  pub free : length now.free ≡ length before.free + count
  pub long : length now.values ≡ length before.values
  pub others : (i : ℕ) → count_of i (slots_of (take count run)) ≡ 0 → value_at now i ≡ value_at before i

pub taken-none : (arena : ArenaView Block) (run : List IndexEntry) → IsPartitioned arena → IsTaken arena arena run 0
taken-none arena run partitioned = record { partitioned = partitioned; free = omega arith; long = refl; others = λ i none. refl }

count_of-taken : (i : ℕ) (run : List IndexEntry) (k : ℕ) → count_of i (slots_of (take k run)) ≤ count_of i (slots_of run)
count_of-taken i run zero = omega arith
count_of-taken i [] (suc k) = omega arith
count_of-taken i (q ∷ run) (suc k) = grind (arith, count_of-taken i run k)

count_of-next : (i : ℕ) (run : List IndexEntry) (k : ℕ) (p : IndexEntry) → k < length run → p ≡ slice_index_or run k p
    → count_of i (slots_of (take (suc k) run)) ≡ count_of i (p.slot ∷ slots_of (take k run))
count_of-next i [] k p within here = absurd (omega arith)
count_of-next i (q ∷ run) zero p within here = ap (λ (r : IndexEntry). count_of i (r.slot ∷ [])) (sym here)
count_of-next i (q ∷ run) (suc k) p within here =
    under_times i q.slot (slots_of (take (suc k) run)) (p.slot ∷ slots_of (take k run)) (count_of-next i run k p (omega arith) here)
    ∙ count_of-swapped i q.slot p.slot (slots_of (take k run))

after_take-is : (arena : ArenaView Block) (i : ℕ) → holds_value arena i ≡ true
    → after_take arena i ≡ record { values = slice_set arena.values i None; free = i ∷ arena.free; chains = map (without i) arena.chains }
after_take-is arena i held = rw held refl

pub taken-more : {before now : ArenaView Block} {run : List IndexEntry} {k : ℕ} {p : IndexEntry} → IsTaken before now run k → ((i : ℕ) → count_of i (slots_of run) ≤ 1)
    → ((i : ℕ) → 0 < count_of i (slots_of run) → holds_value before i ≡ true) → k < length run → p ≡ slice_index_or run k p
    → IsPartitioned (after_take now p.slot) → IsTaken before (after_take now p.slot) run (k + 1)
taken-more {before} {now} {run} {k} {p} taken once hold within here partitioned =
    let next = λ (i : ℕ). count_of-next i run k p within here in
    let one = count_of-cons_same p.slot (slots_of (take k run)) in
    let fresh : count_of p.slot (slots_of (take k run)) ≡ 0 =
    (let all = count_of-taken p.slot run (suc k) in let most = once p.slot in let step = next p.slot in omega arith) in
    let held : holds_value now p.slot ≡ true =
    ap is_some (taken.others p.slot fresh)
    ∙ hold p.slot (let all = count_of-taken p.slot run (suc k) in let step = next p.slot in omega arith) in
    let is = after_take-is now p.slot held in
    record {
      partitioned = partitioned;
      free = rw is (let count = taken.free in omega arith);
      long = rw is (length-set now.values p.slot None ∙ taken.long);
      others = λ i none.
          let none_yet : count_of i (p.slot ∷ slots_of (take k run)) ≡ 0 = sym (next i) ∙ rw add-one at none in
          elim (eqb_tells p.slot i) [
            | inl e ↦ absurd (let some = count_of-cons_is i p.slot (slots_of (take k run)) e.1 in omega arith)
            | inr o ↦ rw is (value-other now.values p.slot i None (λ e. o.1 (sym e))
                ∙ taken.others i (let same = count_of-cons_other i p.slot (slots_of (take k run)) o.1 in omega arith))
          ];
    }

count_of-split : (i : ℕ) (index : List IndexEntry) (m : ℕ) → count_of i (slots_of index) ≡ count_of i (slots_of (drop m index)) + count_of i (slots_of (take m index))
count_of-split i index zero = omega arith
count_of-split i [] (suc m) = omega arith
count_of-split i (q ∷ index) (suc m) = grind (arith, count_of-split i index m)

pub count_of-cut : (i : ℕ) (index : List IndexEntry) (from m end : ℕ) → end ≡ from + m
    → count_of i (slots_of index) ≡ count_of i (slots_of (take from index ++ drop end index)) + count_of i (slots_of (take m (drop from index)))
count_of-cut i index zero m end sum = let same : end ≡ m = omega arith in rw same (count_of-split i index m)
count_of-cut i [] (suc from) zero (suc end) sum = omega arith
count_of-cut i [] (suc from) (suc m) (suc end) sum = omega arith
count_of-cut i (q ∷ index) (suc from) m (suc end) sum = grind (arith, count_of-cut i index from m end (omega arith))
count_of-cut i _ (suc from) _ zero sum = absurd (omega arith)

length-cut : (index : List IndexEntry) (from m end : ℕ) → end ≡ from + m → end ≤ length index → length (take from index ++ drop end index) + m ≡ length index
length-cut index zero m end sum within = let rest = length-drop end index in omega arith
length-cut [] (suc from) m end sum within = absurd (omega arith)
length-cut (q ∷ index) (suc from) m zero sum within = absurd (omega arith)
length-cut (q ∷ index) (suc from) m (suc end) sum within = let rest = length-cut index from m end (omega arith) (omega arith) in omega arith

entries-same : (values others : List (Option Block)) (index : List IndexEntry)
    → ((i : ℕ) → 0 < count_of i (slots_of index) → slice_index_or values i None ≡ slice_index_or others i None)
    → entries_of values index ≡ entries_of others index
entries-same values others [] same = refl
entries-same values others (q ∷ index) same =
    both_same _ _ _ _
    (ap (λ (o : Option Block). record { file = q.file; block = q.block; content = unwrap_or o no_block })
    (same q.slot (let some = count_of-cons_same q.slot (slots_of index) in omega arith)))
    (entries-same values others index (λ i some. same i (let more = count_of-tail i q.slot (slots_of index) in omega arith)))

module _ (before now : ArenaView Block) (index : List IndexEntry) (from m end : ℕ) (stored : IsStored before index) (sum : end ≡ from + m) (within : end ≤ length index)
    (taken : IsTaken before now (take m (drop from index)) m) where
  left : List IndexEntry
  left = take from index ++ drop end index

  value-left : (i : ℕ) → 0 < count_of i (slots_of left) → value_at now i ≡ value_at before i
  unfolding left
  value-left i some =
      taken.others i (
      let parts = count_of-cut i index from m end sum in
      let most = stored.once i in
      let few = count_of-taken i (take m (drop from index)) m in
      omega arith
      )

  pub entries-cut : entries_of now.values (take from index ++ drop end index) ≡ take from (entries_of before.values index) ++ drop end (entries_of before.values index)
  unfolding left
  entries-cut =
      let first = take-map (entry_at before.values) from index in
      let last = drop-map (entry_at before.values) end index in
      entries-same now.values before.values left value-left ∙ map-append (entry_at before.values) (take from index) (drop end index) ∙ cc

  pub stored-cut : IsStored now (take from index ++ drop end index)
  unfolding left
  stored-cut = record {
    ascending = rw entries-cut (ascending-removed (entries_of before.values index) from end (omega arith) stored.ascending);
    partitioned = taken.partitioned;
    once = λ i. let parts = count_of-cut i index from m end sum in let most = stored.once i in omega arith;
    hold = λ i some. ap is_some (value-left i some) ∙ stored.hold i (let parts = count_of-cut i index from m end sum in omega arith);
    free = let fewer = length-cut index from m end sum within in let count = stored.free in let long = taken.long in let free = taken.free in omega arith;
    small = let long = taken.long in let small = stored.small in omega arith;
  }

pub length-run : (index : List IndexEntry) (from end : ℕ) → from ≤ end → end ≤ length index → length (take (end - from) (drop from index)) ≡ end - from
length-run index from end order within = let rest = length-drop from index in let all = length-take (end - from) (drop from index) in omega arith

place-read : (run : List IndexEntry) (k : ℕ) (d : IndexEntry) → k < length run → slice_index_or run k d ≡ slice_index_or run k (slice_index_or run k d)
place-read [] k d low = refl
place-read (q ∷ run) zero d low = refl
place-read (q ∷ run) (suc k) d low = place-read run k d (omega arith)

abbrev pub run_of : List IndexEntry → ℕ → ℕ → List IndexEntry
run_of index from end = take (end - from) (drop from index)

-- the slot of the next index entry of a run is taken
pub taken-next : {before now : ArenaView Block} {index : List IndexEntry} (from end : ℕ) {k : ℕ} (d : IndexEntry) → IsStored before index → from ≤ end
    → IsTaken before now (run_of index from end) k → k < length (run_of index from end)
    → IsPartitioned (after_take now (slice_index_or (run_of index from end) k d).slot)
    → IsTaken before (after_take now (slice_index_or (run_of index from end) k d).slot) (run_of index from end) (k + 1)
taken-next {index = index} from end {k} d stored order taken low partitioned =
    let parts = λ (i : ℕ). count_of-cut i index from (end - from) end (omega arith) in
    taken-more taken
    (λ i. let sum = parts i in let most = stored.once i in omega arith)
    (λ i some. stored.hold i (let sum = parts i in omega arith))
    low (place-read (run_of index from end) k d low) partitioned

-- ---- the start

pub stored-empty : (quota chains : ℕ) → quota ≤ 64 → IsPartitioned {T = Block} (empty_arena quota chains) → IsStored (empty_arena quota chains) []
stored-empty quota chains small partitioned =
    let long = length-replicate {A = Option Block} quota None in
    record {
      ascending = tt;
      partitioned = partitioned;
      once = λ i. omega arith;
      hold = λ i some. absurd (omega arith);
      free = let count = length-numbers 0 quota in omega arith;
      small = omega arith;
    }
