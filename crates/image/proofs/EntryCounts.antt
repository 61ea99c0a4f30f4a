-- Entries hold at most as many blocks as there are entries, and what holds of each entry holds of its block.
use Rattle.std.proofs.Common.{◌≡◌, ℕ, zero, suc, ◌+◌, ◌*◌, ◌<◌, ◌≤◌, Bool, true, false, ◌&&◌, List, [], ◌∷◌, length, take, drop, get_or, Option, Some, IfSome, is_some, refl, sym, ◌∙◌, ap, arith, ⊎_elim, true≢false, length-take, length-drop}
use Rattle.std.specs.Prelude.{◌==◌, if◌then◌else◌}
use Rattle.std.specs.List.{AllByRecursion}
use Rattle.std.proofs.lemmas.Bool.{cases_lt, cases_eq, ne_eqb, eqb-true, and_parts, and_right}
use Rattle.affinity.specs.Geometry.{stripe_of}
use Rattle.affinity.specs.declared.geometry.Geometry.{Geometry}
use Rattle.affinity.proofs.Elements.{all_take, all_drop}
use Rattle.device_map.specs.declared.layout.TheConstants.{BLOCK_ENTRY_SIZE}
use Rattle.protocol.specs.Messages.{IsBlock}
use Rattle.protocol.specs.declared.messages.Block.{Block}
use Rattle.meaning.specs.State.{sum_below, count_below}
use Rattle.meaning.proofs.Sums.{sum_below-le, sum_below-add, sum_pick, one_if}
use Rattle.stripe.specs.Entries.{entry_in, entries_in}
use Rattle.stripe.specs.Stripe.{BlockEntry, content_at}

-- ---- what bytes decode to are blocks, and not too many

pub entries_are_blocks : (n : ℕ) (bytes : List ℕ) → length bytes ≡ n * BLOCK_ENTRY_SIZE → AllByRecursion (λ b. b < 256) bytes
    → AllByRecursion (λ (e : BlockEntry). IsBlock e.content) (entries_in n bytes)
entries_are_blocks zero bytes long small = tt
entries_are_blocks (suc n) bytes long small =
    elim (get_or bytes 0 0 == 1) as (λ t. AllByRecursion (λ (e : BlockEntry). IsBlock e.content)
    (if t then entry_in (take BLOCK_ENTRY_SIZE bytes) ∷ entries_in n (drop BLOCK_ENTRY_SIZE bytes) else [])) [
      | true ↦ (
        (
          omega (arith, long, length-drop 8 (take BLOCK_ENTRY_SIZE bytes), length-take BLOCK_ENTRY_SIZE bytes),
          all_drop (λ b. b < 256) 8 (take BLOCK_ENTRY_SIZE bytes)
              (all_take (λ b. b < 256) BLOCK_ENTRY_SIZE bytes small),
        ),
        entries_are_blocks n (drop BLOCK_ENTRY_SIZE bytes) (omega (arith, long, length-drop BLOCK_ENTRY_SIZE bytes)) (all_drop (λ b. b < 256) BLOCK_ENTRY_SIZE bytes small),
      )
      | false ↦ tt
    ]

pub entries_few : (n : ℕ) (bytes : List ℕ) → length (entries_in n bytes) ≤ n
entries_few zero bytes = omega arith
entries_few (suc n) bytes =
    let rest = entries_few n (drop BLOCK_ENTRY_SIZE bytes) in
    elim (get_or bytes 0 0 == 1) as (λ t. length (if t then entry_in (take BLOCK_ENTRY_SIZE bytes) ∷ entries_in n (drop BLOCK_ENTRY_SIZE bytes) else []) ≤ suc n) [
      | true ↦ omega (arith, rest)
      | false ↦ omega arith
    ]

-- ---- what holds of all entries holds of what they hold

pub content_is : (P : Block → Type 0) (f b : ℕ) (es : List BlockEntry) → AllByRecursion (λ (e : BlockEntry). P e.content) es → IfSome (content_at es f b) P
content_is P f b [] all = tt
content_is P f b (e ∷ es) all =
    elim ((f == e.file) && (b == e.block)) as (λ t. IfSome (if t then Some e.content else content_at es f b) P) [
      | true ↦ all.0
      | false ↦ content_is P f b es all.1
    ]

pub content_of : (Q : ℕ → ℕ → Type 0) (f b : ℕ) (es : List BlockEntry) → AllByRecursion (λ (e : BlockEntry). Q e.file e.block) es → is_some (content_at es f b) ≡ true → Q f b
content_of Q f b [] all some = absurd (true≢false (sym some))
content_of Q f b (e ∷ es) all some = by ((f == e.file) && (b == e.block)) refl (content_of Q f b es all.1)
  where
    -- the first entry is that of the block, or the block's entry is a later one
    by : (t : Bool) → ((f == e.file) && (b == e.block)) ≡ t → (is_some (content_at es f b) ≡ true → Q f b) → Q f b
    by true on later =
        let parts = and_parts (f == e.file) (b == e.block) on in
        let file : f ≡ e.file = eqb-true f e.file parts.0 in
        let block : b ≡ e.block = eqb-true b e.block parts.1 in
        rw (file, block) all.0
    by false off later = later (sym (ap (λ (t : Bool). is_some (if t then Some e.content else content_at es f b)) off) ∙ some)

-- ---- how many blocks entries hold

picked_none : (n j : ℕ) (p : Bool) → n ≤ j → sum_below n (λ i. one_if (p && (i == j))) ≡ 0
picked_none zero j p high = refl
picked_none (suc n) j p high =
    let off : (p && (n == j)) ≡ false = and_right p (n == j) (ne_eqb n j (λ same. omega (arith, same, high))) in
    omega (arith, picked_none n j p (omega (arith, high)), ap one_if off)

picked_once : (n j : ℕ) (p : Bool) → sum_below n (λ i. one_if (p && (i == j))) ≤ one_if p
picked_once n j p =
    ⊎_elim
    (λ (below : j < n). let one = sum_pick n j below p in omega (arith, one))
    (λ (high : n ≤ j). let none = picked_none n j p high in omega (arith, none))
    (cases_lt j n)

-- one block is counted at most once
block_once : (n m i j : ℕ) → sum_below n (λ f. sum_below m (λ b. one_if ((f == i) && (b == j)))) ≤ 1
block_once n m i j = omega (arith, sum_below-le n _ _ (λ f below. picked_once m j (f == i)), picked_once n i true)

one_more : (t : Bool) (content : Block) (o : Option Block) → one_if (is_some (if t then Some content else o)) ≤ one_if t + one_if (is_some o)
one_more true content o = omega arith
one_more false content o = omega arith

few_held : (n m : ℕ) (es : List BlockEntry) → sum_below n (λ f. count_below m (λ b. is_some (content_at es f b))) ≤ length es
few_held n m [] = let none = no_rows n in omega (arith, none)
  where
    no_row : (m : ℕ) → sum_below m (λ (b : ℕ). 0) ≡ 0
    no_row zero = refl
    no_row (suc m) = let rest = no_row m in omega (arith, rest)

    no_rows : (n : ℕ) → sum_below n (λ (f : ℕ). sum_below m (λ (b : ℕ). 0)) ≡ 0
    no_rows zero = refl
    no_rows (suc n) = let rest = no_rows n in let row = no_row m in omega (arith, rest, row)
few_held n m (e ∷ es) =
    let rest = few_held n m es in
    let once = block_once n m e.file e.block in
    let more : sum_below n (λ f. count_below m (λ b. is_some (content_at (e ∷ es) f b)))
    ≤ sum_below n (λ f. sum_below m (λ b. one_if ((f == e.file) && (b == e.block))) + count_below m (λ b. is_some (content_at es f b))) =
    sum_below-le n _ _
    (λ f below.
    let each : count_below m (λ b. is_some (content_at (e ∷ es) f b))
    ≤ sum_below m (λ b. one_if ((f == e.file) && (b == e.block)) + one_if (is_some (content_at es f b))) =
    sum_below-le m _ _ (λ b few. one_more ((f == e.file) && (b == e.block)) e.content (content_at es f b)) in
    let apart = sum_below-add m (λ b. one_if ((f == e.file) && (b == e.block))) (λ b. one_if (is_some (content_at es f b))) in
    omega (arith, each, apart)) in
    let apart = sum_below-add n (λ f. sum_below m (λ b. one_if ((f == e.file) && (b == e.block))))
    (λ f. count_below m (λ b. is_some (content_at es f b))) in
    omega (arith, rest, once, more, apart)

-- what entries hold of one stripe
pub few_of_stripe : (g : Geometry) (s : ℕ) (held : ℕ → ℕ → Option Block) (es : List BlockEntry) → ((f b : ℕ) → stripe_of g f b ≡ s → held f b ≡ content_at es f b)
    → sum_below g.files (λ f. count_below g.blocks (λ b. (stripe_of g f b == s) && is_some (held f b))) ≤ length es
few_of_stripe g s held es same =
    let few = few_held g.files g.blocks es in
    let less : sum_below g.files (λ f. count_below g.blocks (λ b. (stripe_of g f b == s) && is_some (held f b)))
    ≤ sum_below g.files (λ f. count_below g.blocks (λ b. is_some (content_at es f b))) =
    sum_below-le g.files _ _ (λ f below. sum_below-le g.blocks _ _ (λ b small. each f b)) in
    omega (arith, few, less)
  where
    part : (p q : Bool) → one_if (p && q) ≤ one_if q
    part true q = omega arith
    part false q = omega arith

    -- a block of the stripe is counted only if an entry holds it, and a block of another stripe is not counted
    each : (f b : ℕ) → one_if ((stripe_of g f b == s) && is_some (held f b)) ≤ one_if (is_some (content_at es f b))
    each f b =
        ⊎_elim
        (λ (on : stripe_of g f b ≡ s).
        let most = part (stripe_of g f b == s) (is_some (held f b)) in
        let now : one_if (is_some (held f b)) ≡ one_if (is_some (content_at es f b)) = ap (λ (o : Option Block). one_if (is_some o)) (same f b on) in
        omega (arith, most, now))
        (λ off.
        let none : one_if ((stripe_of g f b == s) && is_some (held f b)) ≡ 0 =
        ap (λ (t : Bool). one_if (t && is_some (held f b))) (ne_eqb (stripe_of g f b) s off) in
        omega (arith, none))
        (cases_eq (stripe_of g f b) s)
