-- A stripe's piece: bytes are the encoding of what they decode to exactly if `IsStripePiece` holds; then the state with them is valid.
use Rattle.std.proofs.Common.{◌≡◌, ℕ, ◌+◌, ◌*◌, ◌-◌, ◌<◌, ◌≤◌, Bool, true, false, ◌&&◌, List, [], ◌∷◌, length, replicate, Option, Some, None, IfSome, is_some, refl, sym, ◌∙◌, ap, subst, arith, true≢false, length-append}
use Rattle.std.specs.Prelude.{◌==◌, ◌^◌, if◌then◌else◌, nat_lt}
use Rattle.std.specs.List.{AllByRecursion, flat_map}
use Rattle.std.proofs.lemmas.Bool.{and_parts, eqb-true, eq-eqb, ltb-true}
use Rattle.std.proofs.lemmas.Nat.Bits.{bit_at_above}
use Rattle.affinity.specs.Geometry.{stripe_of}
use Rattle.affinity.specs.declared.geometry.Geometry.{Geometry}
use Rattle.device_map.specs.declared.layout.TheConstants.{BLOCK_ENTRY_SIZE}
use Rattle.protocol.specs.Messages.{IsBlock, AreSizedBytes}
use Rattle.protocol.specs.Replies.{has_file}
use Rattle.protocol.specs.declared.messages.Block.{Block}
use Rattle.meaning.specs.State.{State, BlockKey, IsState, is_block_of, blocks_in_stripe}
use Rattle.meaning.proofs.Sums.{sum_same, one_if}
use Rattle.stripe.specs.Entries.{entry_bytes, entries_in, stripe_bytes, fits_stripe, IsStripePiece}
use Rattle.stripe.specs.Stripe.{BlockEntry, StripePart, content_at, IsAscending}
use Rattle.stripe.proofs.EntryBytes.{IsSpellable, length-entries, entries_again}
use Rattle.image.specs.Pieces.{stripe_piece, stripe_entries, entry_if, with_stripe_piece}
use Rattle.image.proofs.EntryCounts.{entries_are_blocks, entries_few, content_is, content_of, few_of_stripe}
use Rattle.image.proofs.Measures.{all_joined}
use Rattle.image.proofs.EntryOrder.{entries_ascend, spelled as stripe_spelled}
use Rattle.parcel.specs.Fits.{FitsStripe}
use Rattle.parcel.proofs.StripeCounts.{Lies, lies_first, lies_behind}

-- ---- from the tree

-- the file numbers in a stripe that fits are below 256, so one byte encodes each
pub files_small : (g : Geometry) (s : ℕ) (es : List BlockEntry) → Lies g s es → AllByRecursion (λ (e : BlockEntry). e.file < 256) es
files_small g s [] lies = tt
files_small g s (e ∷ es) lies = grind (arith, lies_first g s e es lies, files_small g s es (lies_behind g s e es lies))

-- its entries are those of the stripe in each state that has the same blocks there
pub entries_spelled : {g : Geometry} {x : State} → IsState g x → (a v : ℕ) {s : ℕ} {p : StripePart} → IsAscending p.entries → FitsStripe g s p
    → ((f b : ℕ) → stripe_of g f b ≡ s → x.blocks (a, v, f, b) ≡ content_at p.entries f b) → p.entries ≡ stripe_entries g x a v s
entries_spelled {g} {x} is a v {s} {p} up fits same = grind (arith, stripe_spelled)

-- ---- from bytes

module _ (g : Geometry) (x : State) (is : IsState g x) (a v s files : ℕ) (has : (f : ℕ) → x.files (a, v, f) ≡ has_file files f)
    (bytes : List ℕ) (are : AreSizedBytes (g.quota * BLOCK_ENTRY_SIZE) bytes) where
  abbrev es : List BlockEntry
  es = entries_in g.quota bytes

  abbrev taken : State
  taken = with_stripe_piece g x a v s bytes

  held : (f b : ℕ) → stripe_of g f b ≡ s → taken.blocks (a, v, f, b) ≡ content_at es f b
  held f b on = grind arith

  content_held : (k : BlockKey) → IfSome (taken.blocks k) IsBlock
  content_held k =
      elim (is_block_of a v k && (stripe_of g k.2 k.3 == s)) as (λ (t : Bool). IfSome (if t then content_at es k.2 k.3 else x.blocks k) IsBlock) [
        | true ↦ content_is IsBlock k.2 k.3 es (entries_are_blocks g.quota bytes are.0 are.1)
        | false ↦ is.content k
      ]

  -- ---- the state that a stripe's piece leads to

  few : (c w r : ℕ) → blocks_in_stripe g taken c w r ≤ g.quota
  few c w r = by (is_block_of a v (c, w, 0, 0)) (r == s) refl refl
    where
      at : (q t : Bool) → is_block_of a v (c, w, 0, 0) ≡ q → (r == s) ≡ t → (f b : ℕ) → stripe_of g f b ≡ r → taken.blocks (c, w, f, b) ≡ (if q && t then content_at es f b else x.blocks (c, w, f, b))
      at q t volume stripe f b on = λ i. if volume i && (ap (λ (n : ℕ). n == s) on ∙ stripe) i then content_at es f b else x.blocks (c, w, f, b)

      as_before : ((f b : ℕ) → stripe_of g f b ≡ r → taken.blocks (c, w, f, b) ≡ x.blocks (c, w, f, b)) → blocks_in_stripe g taken c w r ≤ g.quota
      as_before same =
          let counts : blocks_in_stripe g taken c w r ≡ blocks_in_stripe g x c w r = sum_same g.files _ _ (λ f. sum_same g.blocks _ _ (λ b. each f b (stripe_of g f b == r) refl)) in
          let most = is.quota c w r in
          omega (arith, counts, most)
        where
          each : (f b : ℕ) (t : Bool) → (stripe_of g f b == r) ≡ t → one_if ((stripe_of g f b == r) && is_some (taken.blocks (c, w, f, b)))
              ≡ one_if ((stripe_of g f b == r) && is_some (x.blocks (c, w, f, b)))
          each f b true on = ap (λ (o : Option Block). one_if ((stripe_of g f b == r) && is_some o)) (same f b (eqb-true (stripe_of g f b) r on))
          each f b false off = (λ i. one_if (off i && is_some (taken.blocks (c, w, f, b)))) ∙ (λ i. one_if (sym off i && is_some (x.blocks (c, w, f, b))))

      by : (q t : Bool) → is_block_of a v (c, w, 0, 0) ≡ q → (r == s) ≡ t → blocks_in_stripe g taken c w r ≤ g.quota
      by true true volume stripe =
          omega (arith, few_of_stripe g r (λ f b. taken.blocks (c, w, f, b)) es (at true true volume stripe), entries_few g.quota bytes)
      by true false volume stripe = as_before (at true false volume stripe)
      by false t volume stripe = as_before (at false t volume stripe)

  module _ (piece : IsStripePiece g files s bytes) where
    stands : (e : BlockEntry) → fits_stripe g files s e.file e.block ≡ true → (e.block < g.blocks) × (x.files (a, v, e.file) ≡ true) × (stripe_of g e.file e.block ≡ s)
    stands e can = grind arith

    all_stand : (ds : List BlockEntry) → AllByRecursion (λ e. fits_stripe g files s e.file e.block ≡ true) ds
        → AllByRecursion (λ (e : BlockEntry). (e.block < g.blocks) × (x.files (a, v, e.file) ≡ true) × (stripe_of g e.file e.block ≡ s)) ds
    all_stand [] all = tt
    all_stand (e ∷ ds) all = (stands e all.0, all_stand ds all.1)

    pub content_stands : (f b : ℕ) → is_some (content_at es f b) ≡ true → (b < g.blocks) × (x.files (a, v, f) ≡ true) × (stripe_of g f b ≡ s)
    content_stands f b some = content_of (λ f b. (b < g.blocks) × (x.files (a, v, f) ≡ true) × (stripe_of g f b ≡ s)) f b es (all_stand es piece.fit) some

    blocks_range : (k : BlockKey) → is_some (taken.blocks k) ≡ true → (k.3 < g.blocks) × (x.files (k.0, k.1, k.2) ≡ true)
    blocks_range k = by (is_block_of a v k && (stripe_of g k.2 k.3 == s)) refl
      where
        by : (t : Bool) → (is_block_of a v k && (stripe_of g k.2 k.3 == s)) ≡ t → is_some (if t then content_at es k.2 k.3 else x.blocks k) ≡ true → (k.3 < g.blocks) × (x.files (k.0, k.1, k.2) ≡ true)
        by true on some =
            let volume = and_parts (a == k.0) (v == k.1) (and_parts (is_block_of a v k) (stripe_of g k.2 k.3 == s) on).0 in
            let there = content_stands k.2 k.3 some in
            (there.0, sym (λ i. x.files (eqb-true a k.0 volume.0 i, eqb-true v k.1 volume.1 i, k.2)) ∙ there.1)
        by false off some = is.blocks k some

    pub stripe_state : IsState g taken
    stripe_state = assumption (is, blocks_range, content_held, few)

    pub stripe_good : bytes ≡ stripe_piece g taken a v s
    stripe_good = piece.spelled ∙ ap (stripe_bytes g.quota) (stripe_spelled stripe_state a v s es piece.ascending holds)
      where
        holds : (f b : ℕ) → content_at es f b ≡ (if stripe_of g f b == s then taken.blocks (a, v, f, b) else None)
        holds f b = by (stripe_of g f b == s) refl (content_at es f b) refl
          where
            by : (t : Bool) → (stripe_of g f b == s) ≡ t → (o : Option Block) → content_at es f b ≡ o → o ≡ (if t then taken.blocks (a, v, f, b) else None)
            by true on o is_o = sym is_o ∙ sym (held f b (eqb-true (stripe_of g f b) s on))
            by false off None is_o = refl
            by false off (Some content) is_o =
                absurd (true≢false (sym (eq-eqb (stripe_of g f b) s (content_stands f b (ap (λ (o : Option Block). is_some o) is_o)).2) ∙ off))

  -- ---- bytes that spell what they decode to

  spellable : (p : Bool) (f b : ℕ) (o : Option Block) → b < g.blocks → IfSome o IsBlock → AllByRecursion IsSpellable (entry_if p f b o)
  spellable true f b (Some content) below block = let most = g.blocks_range.1 in (record { long = block.0; small = omega (arith, below, most) }, tt)
  spellable true f b None below block = tt
  spellable false f b o below block = tt

  all_spellable : AllByRecursion IsSpellable (stripe_entries g taken a v s)
  all_spellable =
      all_joined IsSpellable g.files _
      (λ f in_files. all_joined IsSpellable g.blocks _ (λ b below. spellable (taken.files (a, v, f) && (stripe_of g f b == s)) f b (taken.blocks (a, v, f, b)) below (content_held (a, v, f, b))))

  can : (p q : Bool) (f b : ℕ) (o : Option Block) → b < g.blocks → has_file files f ≡ p → (stripe_of g f b == s) ≡ q
      → AllByRecursion (λ (e : BlockEntry). fits_stripe g files s e.file e.block ≡ true) (entry_if (p && q) f b o)
  can true true f b (Some content) below there on = grind arith
  can true true f b None below there on = tt
  can true false f b o below there on = tt
  can false q f b o below there on = tt

  all_can : AllByRecursion (λ (e : BlockEntry). fits_stripe g files s e.file e.block ≡ true) (stripe_entries g taken a v s)
  all_can =
      all_joined (λ (e : BlockEntry). fits_stripe g files s e.file e.block ≡ true) g.files _
      (λ f in_files. all_joined (λ (e : BlockEntry). fits_stripe g files s e.file e.block ≡ true) g.blocks _
      (λ b below. can (x.files (a, v, f)) (stripe_of g f b == s) f b (taken.blocks (a, v, f, b)) below (sym (has f)) refl))

  pub stripe_is_piece : bytes ≡ stripe_piece g taken a v s → IsStripePiece g files s bytes
  stripe_is_piece good =
      let ds : List BlockEntry = stripe_entries g taken a v s in
      let k : ℕ = g.quota * BLOCK_ENTRY_SIZE - length (flat_map entry_bytes ds) in
      let long : length (flat_map entry_bytes ds) + length (replicate k 0)
      ≡ g.quota * BLOCK_ENTRY_SIZE = sym (length-append (flat_map entry_bytes ds) (replicate k 0)) ∙ sym (ap (λ (l : List ℕ). length l) good) ∙ are.0 in
      let most : length ds ≤ g.quota = omega (arith, long, length-entries ds all_spellable) in
      let same : es ≡ ds = ap (λ (l : List ℕ). entries_in g.quota l) good ∙ entries_again ds all_spellable g.quota k most in
      record {
        spelled = good ∙ sym (ap (stripe_bytes g.quota) same);
        ascending = subst IsAscending (sym same) (entries_ascend g taken a v s);
        fit = subst (AllByRecursion (λ (e : BlockEntry). fits_stripe g files s e.file e.block ≡ true)) (sym same) all_can;
      }

-- ---- into the tree

-- if a number has k bits, each file that it encodes is below k
file_below : (k files f : ℕ) → files < 2 ^ k → has_file files f ≡ true → f < k
file_below k files f small there = grind (arith, bit_at_above)

-- a stripe with the entries of a stripe's piece fits
pub entries_fit : {g : Geometry} {s files : ℕ} {bytes : List ℕ} → files < 2 ^ g.files → IsStripePiece g files s bytes → {p : StripePart}
    → p.quota ≡ g.quota → p.entries ≡ entries_in g.quota bytes → FitsStripe g s p
entries_fit {g} {s} {files} {bytes} small piece {p} quota entries = record {
  quota = quota;
  lies = λ f b some. content_of (λ f b. (f < g.files) × (b < g.blocks) × (stripe_of g f b ≡ s)) f b p.entries
      (subst (AllByRecursion (λ (e : BlockEntry). (e.file < g.files) × (e.block < g.blocks) × (stripe_of g e.file e.block ≡ s))) (sym entries)
      (all (entries_in g.quota bytes) piece.fit)) some;
}
  where
    one : (e : BlockEntry) → fits_stripe g files s e.file e.block ≡ true → (e.file < g.files) × (e.block < g.blocks) × (stripe_of g e.file e.block ≡ s)
    one e can =
        let first = and_parts (has_file files e.file && nat_lt e.block g.blocks) (stripe_of g e.file e.block == s) can in
        let second = and_parts (has_file files e.file) (nat_lt e.block g.blocks) first.0 in
        (file_below g.files files e.file small second.0, ltb-true e.block g.blocks second.1, eqb-true (stripe_of g e.file e.block) s first.1)

    all : (ds : List BlockEntry) → AllByRecursion (λ e. fits_stripe g files s e.file e.block ≡ true) ds
        → AllByRecursion (λ (e : BlockEntry). (e.file < g.files) × (e.block < g.blocks) × (stripe_of g e.file e.block ≡ s)) ds
    all [] can = tt
    all (e ∷ ds) can = (one e can.0, all ds can.1)
