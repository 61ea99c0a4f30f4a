-- What look-up finds in ascending entries, before and after an edit of them.
use Rattle.std.proofs.Common.{◌≡◌, ◌≢◌, ℕ, zero, suc, ◌+◌, ◌<◌, ◌≤◌, true, false, ◌&&◌, ◌||◌, ◌==◌, nat_lt, if◌then◌else◌, List, [], ◌∷◌, ◌++◌, length, take, drop, length-drop, refl, sym, ap, ◌∙◌, inl, inr, ◌⊎◌, arith, Option, Some, None, is_some, slice_index_or, slice_set}
use Rattle.std.proofs.lemmas.Bool.Decides.{eqb_tells}
use Rattle.std.proofs.lemmas.List.{length-set}
use Rattle.std.specs.List.{AllByRecursion}
use Rattle.affinity.proofs.Elements.{all_take, all_drop, all_join, all_weaker}
use Rattle.protocol.specs.declared.messages.Block.{Block}
use Rattle.stripe.specs.Stripe.{BlockEntry, content_at, ComesBefore, IsAscending, PrecedesBlock}
use Rattle.stripe.specs.Index.{no_entry, IsSplit, IsAt, IsGap, rewritten}

-- ---- whether two blocks are the same one

pub match_tells : (f b i j : ℕ) → ((((f == i) && (b == j)) ≡ true) × (f ≡ i) × (b ≡ j)) ⊎ ((((f == i) && (b == j)) ≡ false) × ((f ≡ i) → (b ≡ j) → ⊥))
match_tells f b i j = grind arith

no_match : (f b i j : ℕ) → ((f ≡ i) → (b ≡ j) → ⊥) → ((f == i) && (b == j)) ≡ false
no_match f b i j other = elim (match_tells f b i j) [ inl e ↦ absurd (other e.1 e.2) | inr n ↦ n.0 ]

is_match : (f b i j : ℕ) → f ≡ i → b ≡ j → ((f == i) && (b == j)) ≡ true
is_match f b i j file block = elim (match_tells f b i j) [ inl e ↦ e.0 | inr n ↦ absurd (n.1 file block) ]

before_other : (i j f b : ℕ) → PrecedesBlock i j f b → (f ≡ i) → (b ≡ j) → ⊥
before_other i j f b (inl low) file block = omega arith
before_other i j f b (inr same) file block = omega (arith, same.1)

-- ---- what holds of all entries

module _ {X : Type 0} (P : X → Type 0) where
  pub all-set : (n : ℕ) (y : X) (xs : List X) → P y → AllByRecursion P xs → AllByRecursion P (slice_set xs n y)
  all-set n y [] here all = tt
  all-set zero y (x ∷ xs) here all = (here, all.1)
  all-set (suc n) y (x ∷ xs) here all = (all.0, all-set n y xs here all.1)

  pub all-at : (n : ℕ) (d : X) (xs : List X) → n < length xs → AllByRecursion P xs → P (slice_index_or xs n d)
  all-at n d [] within all = absurd (omega arith)
  all-at zero d (x ∷ xs) within all = all.0
  all-at (suc n) d (x ∷ xs) within all = all-at n d xs (omega arith) all.1

-- ---- the order after an edit

pub ascending-drop : (n : ℕ) (es : List BlockEntry) → IsAscending es → IsAscending (drop n es)
ascending-drop zero es up = up
ascending-drop (suc n) [] up = tt
ascending-drop (suc n) (e ∷ es) up = ascending-drop n es up.1

pub ascending-removed : (es : List BlockEntry) (from end : ℕ) → from ≤ end → IsAscending es → IsAscending (take from es ++ drop end es)
ascending-removed es zero end order up = ascending-drop end es up
ascending-removed es (suc from) zero order up = absurd (omega arith)
ascending-removed [] (suc from) (suc end) order up = tt
ascending-removed (e ∷ es) (suc from) (suc end) order up = (
  all_join (ComesBefore e) (take from es) (drop end es) (all_take (ComesBefore e) from es up.0) (all_drop (ComesBefore e) end es up.0),
  ascending-removed es from end (omega arith) up.1,
)

pub length-removed : (es : List BlockEntry) (from end : ℕ) → from ≤ end → length (take from es ++ drop end es) ≤ length es
length-removed es zero end order = omega (arith, length-drop end es)
length-removed es (suc from) zero order = absurd (omega arith)
length-removed [] (suc from) (suc end) order = omega arith
length-removed (e ∷ es) (suc from) (suc end) order = let rest = length-removed es from end (omega arith) in omega arith

pub ascending-rewritten : (es : List BlockEntry) (n : ℕ) (content : Block) → n < length es → IsAscending es → IsAscending (rewritten es n content)
ascending-rewritten [] n content within up = tt
ascending-rewritten (e ∷ es) zero content within up = (up.0, up.1)
ascending-rewritten (e ∷ es) (suc n) content within up = (
  all-set (ComesBefore e) n (record (slice_index_or es n no_entry) { content = content }) es
      (all-at (ComesBefore e) n no_entry es (omega arith) up.0) up.0,
  ascending-rewritten es n content (omega arith) up.1,
)

pub ascending-inserted : (es : List BlockEntry) (n : ℕ) (d : BlockEntry) → AllByRecursion (λ e. ComesBefore e d) (take n es)
    → AllByRecursion (ComesBefore d) (drop n es) → IsAscending es → IsAscending (take n es ++ d ∷ drop n es)
ascending-inserted es zero d before behind up = (behind, up)
ascending-inserted [] (suc n) d before behind up = (tt, tt)
ascending-inserted (e ∷ es) (suc n) d before behind up = (
  all_join (ComesBefore e) (take n es) (d ∷ drop n es) (all_take (ComesBefore e) n es up.0)
      (before.0, all_drop (ComesBefore e) n es up.0),
  ascending-inserted es n d before.1 behind up.1,
)

-- ---- look-up

pub content-later : (f b : ℕ) (es : List BlockEntry) → AllByRecursion (λ e. PrecedesBlock f b e.file e.block) es → content_at es f b ≡ None
content-later f b [] later = refl
content-later f b (e ∷ es) later = grind (arith, content-later f b es later.1)

pub content-gap : (es : List BlockEntry) (f b n : ℕ) → AllByRecursion (λ e. PrecedesBlock e.file e.block f b) (take n es)
    → AllByRecursion (λ e. PrecedesBlock f b e.file e.block) (drop n es) → content_at es f b ≡ None
content-gap es f b zero before behind = content-later f b es behind
content-gap [] f b (suc n) before behind = refl
content-gap (e ∷ es) f b (suc n) before behind =
    rw (no_match f b e.file e.block (before_other e.file e.block f b before.0)) (content-gap es f b n before.1 behind)

pub content-here : (es : List BlockEntry) (n : ℕ) → n < length es → IsAscending es
    → content_at es (slice_index_or es n no_entry).file (slice_index_or es n no_entry).block ≡ Some (slice_index_or es n no_entry).content
content-here [] n within up = absurd (omega arith)
content-here (e ∷ es) zero within up = rw (is_match e.file e.block e.file e.block refl refl) refl
content-here (e ∷ es) (suc n) within up =
    grind (arith, all-at (ComesBefore e) n no_entry es (omega arith) up.0, content-here es n (omega arith) up.1)

pub content-at : (es : List BlockEntry) (f b n : ℕ) → IsAscending es → IsAt es f b n → content_at es f b ≡ Some (slice_index_or es n no_entry).content
content-at es f b n up at = rw (← at.file, ← at.block) (content-here es n at.within up)

-- look-up in two lists with the same head, where it finds the same behind the head
under_head : (e : BlockEntry) (i j : ℕ) (x y : Option Block) → x ≡ y
    → (if (i == e.file) && (j == e.block) then Some e.content else x) ≡ (if (i == e.file) && (j == e.block) then Some e.content else y)
under_head e i j x y same = ap (λ (o : Option Block). if (i == e.file) && (j == e.block) then Some e.content else o) same

-- an entry that doesn't match makes no difference
other-inserted : (es : List BlockEntry) (n : ℕ) (d : BlockEntry) (i j : ℕ) → ((i ≡ d.file) → (j ≡ d.block) → ⊥)
    → content_at (take n es ++ d ∷ drop n es) i j ≡ content_at es i j
other-inserted es zero d i j other = rw (no_match i j d.file d.block other) refl
other-inserted [] (suc n) d i j other = rw (no_match i j d.file d.block other) refl
other-inserted (e ∷ es) (suc n) d i j other = under_head e i j _ _ (other-inserted es n d i j other)

same-inserted : (es : List BlockEntry) (n : ℕ) (d : BlockEntry) → AllByRecursion (λ e. ComesBefore e d) (take n es)
    → content_at (take n es ++ d ∷ drop n es) d.file d.block ≡ Some d.content
same-inserted es zero d before = rw (is_match d.file d.block d.file d.block refl refl) refl
same-inserted [] (suc n) d before = rw (is_match d.file d.block d.file d.block refl refl) refl
same-inserted (e ∷ es) (suc n) d before =
    rw (no_match d.file d.block e.file e.block (before_other e.file e.block d.file d.block before.0)) (same-inserted es n d before.1)

pub content-inserted : (es : List BlockEntry) (n : ℕ) (d : BlockEntry) → AllByRecursion (λ e. ComesBefore e d) (take n es) → (i j : ℕ)
    → content_at (take n es ++ d ∷ drop n es) i j ≡ (if (d.file == i) && (d.block == j) then Some d.content else content_at es i j)
content-inserted es n d before i j = grind (arith, same-inserted es n d before, other-inserted)

other-rewritten : (es : List BlockEntry) (n : ℕ) (content : Block) (i j : ℕ) → n < length es
    → ((i ≡ (slice_index_or es n no_entry).file) → (j ≡ (slice_index_or es n no_entry).block) → ⊥)
    → content_at (rewritten es n content) i j ≡ content_at es i j
other-rewritten [] n content i j within other = refl
other-rewritten (e ∷ es) zero content i j within other = rw (no_match i j e.file e.block other) refl
other-rewritten (e ∷ es) (suc n) content i j within other = under_head e i j _ _ (other-rewritten es n content i j (omega arith) other)

same-rewritten : (es : List BlockEntry) (n : ℕ) (content : Block) → n < length es → IsAscending es
    → content_at (rewritten es n content) (slice_index_or es n no_entry).file (slice_index_or es n no_entry).block ≡ Some content
same-rewritten [] n content within up = absurd (omega arith)
same-rewritten (e ∷ es) zero content within up = rw (is_match e.file e.block e.file e.block refl refl) refl
same-rewritten (e ∷ es) (suc n) content within up =
    grind (arith, all-at (ComesBefore e) n no_entry es (omega arith) up.0, same-rewritten es n content (omega arith) up.1)

pub content-rewritten : {es : List BlockEntry} {f b n : ℕ} (content : Block) → IsAscending es → IsAt es f b n → (i j : ℕ)
    → content_at (rewritten es n content) i j ≡ (if (f == i) && (b == j) then Some content else content_at es i j)
content-rewritten {es} {f} {b} {n} content up at i j = grind (arith, same-rewritten es n content at.within up, other-rewritten)

-- ---- a run (entries next to each other) is cut out

-- look-up doesn't see a run in which nothing matches
content-cut_other : (es : List BlockEntry) (from end : ℕ) (i j : ℕ) → from ≤ end
    → AllByRecursion (λ e. (i ≡ e.file) → (j ≡ e.block) → ⊥) (drop from (take end es))
    → content_at (take from es ++ drop end es) i j ≡ content_at es i j
content-cut_other [] zero zero i j order none = refl
content-cut_other [] zero (suc end) i j order none = refl
content-cut_other [] (suc from) zero i j order none = refl
content-cut_other [] (suc from) (suc end) i j order none = refl
content-cut_other (e ∷ es) zero zero i j order none = refl
content-cut_other (e ∷ es) zero (suc end) i j order none =
    rw (no_match i j e.file e.block none.0) (content-cut_other es zero end i j (omega arith) none.1)
content-cut_other (e ∷ es) (suc from) zero i j order none = absurd (omega arith)
content-cut_other (e ∷ es) (suc from) (suc end) i j order none = under_head e i j _ _ (content-cut_other es from end i j (omega arith) none)

nowhere : (es : List BlockEntry) (i j : ℕ) → AllByRecursion (λ e. (i ≡ e.file) → (j ≡ e.block) → ⊥) es → content_at es i j ≡ None
nowhere [] i j none = refl
nowhere (e ∷ es) i j none = rw (no_match i j e.file e.block none.0) (nowhere es i j none.1)

-- nothing is found where nothing matches on either side
content-cut_none : (es : List BlockEntry) (from end : ℕ) (i j : ℕ)
    → AllByRecursion (λ e. (i ≡ e.file) → (j ≡ e.block) → ⊥) (take from es)
    → AllByRecursion (λ e. (i ≡ e.file) → (j ≡ e.block) → ⊥) (drop end es)
    → content_at (take from es ++ drop end es) i j ≡ None
content-cut_none es from end i j first last = grind (arith, nowhere, all_join)

module _ {X : Type 0} (P Q : X → Type 0) where
  both : (xs : List X) → AllByRecursion P xs → AllByRecursion Q xs → AllByRecursion (λ x. P x × Q x) xs
  both [] first second = tt
  both (x ∷ xs) first second = ((first.0, second.0), both xs first.1 second.1)

  -- what holds from one index on and what holds up to another hold of those between
  all-between : (from end : ℕ) (xs : List X) → AllByRecursion P (drop from xs) → AllByRecursion Q (take end xs)
      → AllByRecursion (λ x. P x × Q x) (drop from (take end xs))
  all-between zero end xs first second = both (take end xs) (all_take P end xs first) second
  all-between (suc from) zero xs first second = tt
  all-between (suc from) (suc end) [] first second = tt
  all-between (suc from) (suc end) (x ∷ xs) first second = all-between from end xs first second.1

-- the entries before one in the list and behind it
before-at : (es : List BlockEntry) (n : ℕ) → n < length es → IsAscending es → AllByRecursion (λ e. ComesBefore e (slice_index_or es n no_entry)) (take n es)
before-at [] n within up = absurd (omega arith)
before-at (e ∷ es) zero within up = tt
before-at (e ∷ es) (suc n) within up = (all-at (ComesBefore e) n no_entry es (omega arith) up.0, before-at es n (omega arith) up.1)

behind-at : (es : List BlockEntry) (n : ℕ) → n < length es → IsAscending es → AllByRecursion (ComesBefore (slice_index_or es n no_entry)) (drop (suc n) es)
behind-at [] n within up = absurd (omega arith)
behind-at (e ∷ es) zero within up = up.0
behind-at (e ∷ es) (suc n) within up = behind-at es n (omega arith) up.1

alone-at : (P : BlockEntry → Type 0) (es : List BlockEntry) (n : ℕ) → P (slice_index_or es n no_entry) → AllByRecursion P (drop n (take (suc n) es))
alone-at P [] n here = all_drop P n [] tt
alone-at P (e ∷ es) zero here = (here, tt)
alone-at P (e ∷ es) (suc n) here = alone-at P es n here

pub content-cleared : (es : List BlockEntry) (f b n : ℕ) → IsAscending es → IsAt es f b n → (i j : ℕ)
    → content_at (take n es ++ drop (suc n) es) i j ≡ (if (f == i) && (b == j) then None else content_at es i j)
content-cleared es f b n up at i j =
    let here = slice_index_or es n no_entry in
    let NotThere = λ (e : BlockEntry). (i ≡ e.file) → (j ≡ e.block) → ⊥ in
    elim (match_tells f b i j) [
      | inl e ↦ rw e.0 (content-cut_none es n (suc n) i j
          (all_weaker (λ (d : BlockEntry). ComesBefore d here) NotThere
          (λ d low file block. before_other d.file d.block here.file here.block low (at.file ∙ e.1 ∙ file) (at.block ∙ e.2 ∙ block))
          (take n es) (before-at es n at.within up))
          (all_weaker (ComesBefore here) NotThere
          (λ d high file block. before_other here.file here.block d.file d.block high (sym (at.file ∙ e.1 ∙ file)) (sym (at.block ∙ e.2 ∙ block)))
          (drop (suc n) es) (behind-at es n at.within up)))
      | inr o ↦ rw o.0 (content-cut_other es n (suc n) i j (omega arith)
          (alone-at NotThere es n (λ file block. o.1 (sym (file ∙ at.file)) (sym (block ∙ at.block)))))
    ]

-- ---- the run of a file: its entries, which are next to each other

IsBefore-start : (i j f : ℕ) → PrecedesBlock i j f 0 → i < f
IsBefore-start i j f (inl low) = low
IsBefore-start i j f (inr same) = absurd (omega (arith, same.1))

pub run-order : (es : List BlockEntry) (f first end : ℕ) → first ≤ length es → AllByRecursion (λ e. PrecedesBlock e.file e.block f 0) (take first es)
    → AllByRecursion (λ e. PrecedesBlock e.file e.block (f + 1) 0 → ⊥) (drop end es) → first ≤ end
run-order es f zero end within before behind = omega arith
run-order [] f (suc first) end within before behind = absurd (omega arith)
run-order (e ∷ es) f (suc first) zero within before behind = grind arith
run-order (e ∷ es) f (suc first) (suc end) within before behind = omega (arith, run-order es f first end (omega arith) before.1 behind)

pub content-file : (es : List BlockEntry) (f first end : ℕ) → IsSplit es f 0 first → IsSplit es (f + 1) 0 end → (i j : ℕ)
    → content_at (take first es ++ drop end es) i j ≡ (if f == i then None else content_at es i j)
content-file es f first end low high i j =
    let NotThere = λ (e : BlockEntry). (i ≡ e.file) → (j ≡ e.block) → ⊥ in
    let From = λ (e : BlockEntry). PrecedesBlock e.file e.block f 0 → ⊥ in
    let Below = λ (e : BlockEntry). PrecedesBlock e.file e.block (f + 1) 0 in
    elim (eqb_tells f i) [
      | inl e ↦ rw e.0 (content-cut_none es first end i j
          (all_weaker (λ (d : BlockEntry). PrecedesBlock d.file d.block f 0) NotThere
          (λ d before file block. let under = IsBefore-start d.file d.block f before in absurd (omega (arith, e.1)))
          (take first es) low.before)
          (all_weaker (λ (d : BlockEntry). PrecedesBlock d.file d.block (f + 1) 0 → ⊥) NotThere
          (λ d behind file block. behind (inl (omega (arith, e.1))))
          (drop end es) high.behind))
      | inr n ↦ rw n.0 (content-cut_other es first end i j (run-order es f first end low.within low.before high.behind)
          (all_weaker (λ (d : BlockEntry). From d × Below d) NotThere
          (λ d in_run file block.
          let under = IsBefore-start d.file d.block (f + 1) in_run.1 in
          in_run.0 (inl (let other : f ≢ i = n.1 in omega arith)))
          (drop first (take end es)) (all-between From Below first end es low.behind high.before)))
    ]

-- ---- a gap: the position at which a block would be inserted

pub before-before : (i j k l f b : ℕ) → PrecedesBlock i j k l → PrecedesBlock k l f b → PrecedesBlock i j f b
before-before i j k l f b (inl low) (inl high) = inl (omega arith)
before-before i j k l f b (inl low) (inr same) = inl (let e = same.0 in omega arith)
before-before i j k l f b (inr same) (inl high) = inl (let e = same.0 in omega arith)
before-before i j k l f b (inr same) (inr also) = inr (same.0 ∙ also.0, let e = same.1 in let d = also.1 in omega arith)

behind-first : (es : List BlockEntry) (f b : ℕ) → IsAscending es → AllByRecursion (λ e. PrecedesBlock e.file e.block f b → ⊥) es
    → (0 < length es → ((slice_index_or es 0 no_entry).file ≡ f) → ((slice_index_or es 0 no_entry).block ≡ b) → ⊥)
    → AllByRecursion (λ e. PrecedesBlock f b e.file e.block) es
behind-first [] f b up behind other = tt
behind-first (e ∷ es) f b up behind other = grind (arith, all_weaker)

behind-gap : (es : List BlockEntry) (f b n : ℕ) → IsAscending es → AllByRecursion (λ e. PrecedesBlock e.file e.block f b → ⊥) (drop n es)
    → (n < length es → ((slice_index_or es n no_entry).file ≡ f) → ((slice_index_or es n no_entry).block ≡ b) → ⊥)
    → AllByRecursion (λ e. PrecedesBlock f b e.file e.block) (drop n es)
behind-gap es f b zero up behind other = behind-first es f b up behind other
behind-gap [] f b (suc n) up behind other = tt
behind-gap (e ∷ es) f b (suc n) up behind other = behind-gap es f b n up.1 behind (λ within. other (omega arith))

pub gap-from_split : (es : List BlockEntry) (f b n : ℕ) → IsAscending es → IsSplit es f b n
    → (n < length es → ((slice_index_or es n no_entry).file ≡ f) → ((slice_index_or es n no_entry).block ≡ b) → ⊥) → IsGap es f b n
gap-from_split es f b n up split other = assumption (behind-gap es f b n up split.behind other, split)

pub length-rewritten : (es : List BlockEntry) (n : ℕ) (content : Block) → length (rewritten es n content) ≡ length es
length-rewritten es n content = length-set es n (record (slice_index_or es n no_entry) { content = content })

pub length-inserted : (es : List BlockEntry) (n : ℕ) (d : BlockEntry) → length (take n es ++ d ∷ drop n es) ≡ suc (length es)
length-inserted es zero d = refl
length-inserted [] (suc n) d = refl
length-inserted (e ∷ es) (suc n) d = ap (λ k. suc k) (length-inserted es n d)

-- room for a block that is missing
pub room-missing : (o : Option Block) (n quota : ℕ) → o ≡ None → (is_some o || nat_lt n quota) ≡ true → n < quota
room-missing o n quota none room = grind arith
