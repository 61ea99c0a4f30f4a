-- The image of a state is read as that state.
use Rattle.std.proofs.Common.{◌≡◌, ℕ, ◌+◌, ◌*◌, ◌-◌, ◌/◌, ◌^◌, ◌<◌, ◌≤◌, Bool, true, false, ◌&&◌, List, [], ◌∷◌, ◌++◌, length, take, get_or, replicate, Option, Some, None, is_some, IfSome, refl, sym, ◌∙◌, ap, subst, arith, ◌⊎◌, inl, inr, ⊎_elim, true≢false, mod-lt}
use Rattle.std.specs.Prelude.{◌==◌, nat_lt, if◌then◌else◌}
use Rattle.std.specs.List.{flat_map}
use Rattle.std.proofs.lemmas.Bool.{cases_lt, eq-eqb, ne_eqb, and_parts, and_from, lt-ltb, ltb-true, false_from_ne_true, and_right}
use Rattle.std.proofs.Math.Nat.{pow-le-pow_right}
use Rattle.std.proofs.lemmas.List.{take_at}
use Rattle.std.proofs.lemmas.Slice.Eq.{bytes_eq-Decides}
use Rattle.affinity.specs.Geometry.{stripe_of}
use Rattle.affinity.specs.declared.geometry.Geometry.{Geometry}
use Rattle.byteorder.specs.Endian.{little_bytes, little_number}
use Rattle.device_map.specs.Layout.{slice}
use Rattle.device_map.specs.declared.layout.TheConstants.{BLOCK_ENTRY_SIZE}
use Rattle.protocol.specs.declared.sizes.TheConstants.{LABEL_SIZE}
use Rattle.protocol.specs.Messages.{AreSizedBytes}
use Rattle.protocol.specs.Replies.{has_file}
use Rattle.protocol.specs.declared.messages.Block.{Block}
use Rattle.meaning.specs.Step.{file_bits}
use Rattle.meaning.specs.State.{State, VolumeKey, FileKey, BlockKey, IsState}
use Rattle.meaning.proofs.Sums.{one_if}
use Rattle.stripe.specs.Entries.{entry_bytes, entries_in}
use Rattle.stripe.specs.Stripe.{BlockEntry, content_at}
use Rattle.stripe.proofs.EntryBytes.{entries_again}
use Rattle.image.specs.Pieces.{has_volume, volume_piece_number, volume_piece, stripe_entries, entry_if, joined_below, label_bytes, label_in}
use Rattle.image.specs.Image.{image_of, decoded_state, image_state, version_in, piece_in}
use Rattle.image.proofs.PieceIn.{volume_again, stripe_again}
use Rattle.meaning.proofs.FileNumber.{number_small, bits_there}
use Rattle.image.proofs.Measures.{entries_good, state_is_measured}
use Rattle.image.proofs.JoinedEntries.{here, none_joined, one_joined, elsewhere}
use Rattle.image.specs.declared.layout.TheConstants.{VERSION}

-- ---- the blocks of a stripe

module _ (g : Geometry) (x : State) (is : IsState g x) where
  -- a block exists only in a file that exists, and in range
  only_files : (a v f b : ℕ) (o : Option Block) (t : Bool) → x.blocks (a, v, f, b) ≡ o → x.files (a, v, f) ≡ t → (if t && true then o else None) ≡ o
  only_files a v f b o true has there = refl
  only_files a v f b None false has there = refl
  only_files a v f b (Some content) false has there = absurd (true≢false (sym ((is.blocks (a, v, f, b) (ap (λ (o : Option Block). is_some o) has)).1) ∙ there))

  pub entries_hold : (a v f b : ℕ) → content_at (stripe_entries g x a v (stripe_of g f b)) f b ≡ x.blocks (a, v, f, b)
  entries_hold a v f b =
      let s : ℕ = stripe_of g f b in
      let row : ℕ → ℕ → List BlockEntry = λ i j. entry_if (x.files (a, v, i) && (stripe_of g i j == s)) i j (x.blocks (a, v, i, j)) in
      let none_out : (b < g.blocks → ⊥) ⊎ (f < g.files → ⊥) → None ≡ x.blocks (a, v, f, b) = λ out. absent (x.blocks (a, v, f, b)) refl out in
      ⊎_elim
      (λ (file : f < g.files).
      one_joined f b g.files f (λ i. joined_below g.blocks (row i)) (λ i other. none_joined f b g.blocks (row i)
      (λ j few. elsewhere f b (x.files (a, v, i) && (stripe_of g i j == s)) i j (x.blocks (a, v, i, j))
      (ap (λ (t : Bool). t && (b == j)) (ne_eqb f i (λ same. other (sym same)))))) file
      ∙ ⊎_elim
      (λ (block : b < g.blocks).
      one_joined f b g.blocks b (row f) (λ j other. elsewhere f b (x.files (a, v, f) && (stripe_of g f j == s)) f j (x.blocks (a, v, f, j))
      (and_right (f == f) (b == j) (ne_eqb b j (λ same. other (sym same))))) block
      ∙ here f b (x.files (a, v, f) && (stripe_of g f b == s)) (x.blocks (a, v, f, b))
      ∙ ap (λ (t : Bool). if x.files (a, v, f) && t then x.blocks (a, v, f, b) else None) (eq-eqb s s refl)
      ∙ only_files a v f b (x.blocks (a, v, f, b)) (x.files (a, v, f)) refl refl)
      (λ (no_block : g.blocks ≤ b).
      none_joined f b g.blocks (row f) (λ j few. elsewhere f b (x.files (a, v, f) && (stripe_of g f j == s)) f j (x.blocks (a, v, f, j))
      (and_right (f == f) (b == j) (ne_eqb b j (λ same. omega (arith, same, few, no_block)))))
      ∙ none_out (inl (λ small. omega (arith, small, no_block))))
      (cases_lt b g.blocks))
      (λ (no_file : g.files ≤ f).
      none_joined f b g.files (λ i. joined_below g.blocks (row i)) (λ i few. none_joined f b g.blocks (row i)
      (λ j below. elsewhere f b (x.files (a, v, i) && (stripe_of g i j == s)) i j (x.blocks (a, v, i, j))
      (ap (λ (t : Bool). t && (b == j)) (ne_eqb f i (λ same. omega (arith, same, few, no_file))))))
      ∙ none_out (inr (λ small. omega (arith, small, no_file))))
      (cases_lt f g.files)
    where
      absent : (o : Option Block) → x.blocks (a, v, f, b) ≡ o → (b < g.blocks → ⊥) ⊎ (f < g.files → ⊥) → None ≡ o
      absent None has out = refl
      absent (Some content) has out =
          let there = is.blocks (a, v, f, b) (ap (λ (o : Option Block). is_some o) has) in
          ⊎_elim (λ no_block. absurd (no_block there.0)) (λ no_file. absurd (no_file (is.files (a, v, f) there.1).0)) out

-- ---- the fields of a volume's piece

pub eight_bytes : (n : ℕ) → n < 2 ^ 64 → little_number 8 (little_bytes 8 n) ≡ n
eight_bytes n small = omega (arith, small)

-- a field that is there where its volume is
and_there : (h t s : Bool) → (h ≡ true → t ≡ s) → (s ≡ true → h ≡ true) → (h && t) ≡ s
and_there true t s same needs = same refl
and_there false t s same needs = sym (false_from_ne_true s (λ e. true≢false (sym (needs e))))

if_there : {X : Type 0} (h : Bool) (o w : Option X) → (h ≡ true → o ≡ w) → (is_some w ≡ true → h ≡ true) → (if h then o else None) ≡ w
if_there true o w same needs = same refl
if_there false o None same needs = refl
if_there false o (Some content) same needs = absurd (true≢false (sym (needs refl)))

module _ (g : Geometry) (x : State) (a v : ℕ) where
  pub made_decoded : (version : ℕ) → (get_or (volume_piece version g x a v) 0 0 == 1) ≡ x.made (a, v)
  made_decoded version = grind arith

  pub sealed_decoded : (version : ℕ) → (get_or (volume_piece version g x a v) 1 0 == 1) ≡ (x.made (a, v) && x.sealed (a, v))
  sealed_decoded version = grind arith

  pub number_decoded : (version : ℕ) → slice (volume_piece version g x a v) 8 8 ≡ little_bytes 8 (if x.made (a, v) then file_bits g x a v else 0)
  number_decoded version = grind arith

  label_there : (label : List ℕ) → length label ≡ LABEL_SIZE → x.made (a, v) ≡ true → x.labels (a, v) ≡ Some label → slice (volume_piece VERSION g x a v) 16 LABEL_SIZE ≡ label
  label_there label long made has =
      ap (λ (t : Bool). slice (if t then 1 ∷ one_if (x.sealed (a, v)) ∷ [] ++ replicate 6 0 ++ little_bytes 8 (file_bits g x a v)
      ++ label_bytes VERSION (x.labels (a, v)) ++ replicate 16 0 else replicate 64 0) 16 LABEL_SIZE) made
      ∙ ap (λ (o : Option (List ℕ)). take LABEL_SIZE (label_bytes VERSION o ++ replicate 16 0)) has
      ∙ take_at label (replicate 16 0) LABEL_SIZE long

module _ (g : Geometry) (x : State) (is : IsState g x) where
  has : (k : VolumeKey) → x.made k ≡ true → has_volume g k ≡ true
  has k made = and_from _ _ (lt-ltb k.0 g.aggregates (is.made k made).0) (lt-ltb k.1 g.volumes (is.made k made).1)

  volume_decoded : (k : VolumeKey) → has_volume g k ≡ true → piece_in g (image_of VERSION g x) (volume_piece_number g k.0 k.1) ≡ volume_piece VERSION g x k.0 k.1
  volume_decoded k there =
      let parts = and_parts (nat_lt k.0 g.aggregates) (nat_lt k.1 g.volumes) there in
      volume_again g k.0 k.1 (ltb-true k.0 g.aggregates parts.0) (ltb-true k.1 g.volumes parts.1) 2 x (state_is_measured g x is)

  made_again : (k : VolumeKey) → (decoded_state VERSION g (image_of VERSION g x)).made k ≡ x.made k
  made_again k = grind (arith, made_decoded g x k.0 k.1 2, has k, volume_decoded)

  sealed_again : (k : VolumeKey) → (decoded_state VERSION g (image_of VERSION g x)).sealed k ≡ x.sealed k
  sealed_again k = grind (arith, sealed_decoded g x k.0 k.1 2, and_there, volume_decoded)

  files_again : (k : FileKey) → (decoded_state VERSION g (image_of VERSION g x)).files k ≡ x.files k
  files_again k =
      let n : ℕ = if x.made (k.0, k.1) then file_bits g x k.0 k.1 else 0 in
      and_there (has_volume g (k.0, k.1)) _ (x.files k)
      (λ there.
      ap (λ (l : List ℕ). has_file (little_number 8 (slice l 8 8)) k.2) (volume_decoded (k.0, k.1) there)
      ∙ ap (λ (l : List ℕ). has_file (little_number 8 l) k.2) (number_decoded g x k.0 k.1 2)
      ∙ bits (x.made (k.0, k.1)) refl)
      (λ e. has (k.0, k.1) (is.files k e).1)
    where
      within : (f : ℕ) → x.files (k.0, k.1, f) ≡ true → f < g.files
      within f e = (is.files (k.0, k.1, f) e).0

      bits : (t : Bool) → x.made (k.0, k.1) ≡ t → has_file (little_number 8 (little_bytes 8 (if t then file_bits g x k.0 k.1 else 0))) k.2 ≡ x.files k
      bits true made =
          let small = number_small g.files (λ f. x.files (k.0, k.1, f)) in
          let most : 2 ^ g.files ≤ 2 ^ 64 = pow-le-pow_right {n = 2} (omega arith) {i = g.files} {j = 64} g.files_range.1 in
          ap (λ (m : ℕ). has_file m k.2) (eight_bytes (file_bits g x k.0 k.1) (omega (arith, small, most))) ∙ bits_there g.files (λ f. x.files (k.0, k.1, f)) within k.2
      bits false made = bits_there 0 (λ f. false) (λ f e. absurd (true≢false (sym e))) k.2 ∙ sym (false_from_ne_true (x.files k) (λ e. true≢false (sym (is.files k e).1 ∙ made)))

  blocks_again : (k : BlockKey) → (decoded_state VERSION g (image_of VERSION g x)).blocks k ≡ x.blocks k
  blocks_again k =
      let s : ℕ = stripe_of g k.2 k.3 in
      if_there (has_volume g (k.0, k.1)) _ (x.blocks k)
      (λ there.
      let parts = and_parts (nat_lt k.0 g.aggregates) (nat_lt k.1 g.volumes) there in
      ap (λ (l : List ℕ). content_at (entries_in g.quota l) k.2 k.3) (stripe_again g k.0 k.1 (ltb-true k.0 g.aggregates parts.0)
      (ltb-true k.1 g.volumes parts.1) 2 x (state_is_measured g x is) s (mod-lt (k.2 + k.3 / g.width) g.stripes_range.0))
      ∙ ap (λ (es : List BlockEntry). content_at es k.2 k.3) (entries_again (stripe_entries g x k.0 k.1 s)
      (entries_good g x (state_is_measured g x is) k.0 k.1 s) g.quota
      (g.quota * BLOCK_ENTRY_SIZE - length (flat_map entry_bytes (stripe_entries g x k.0 k.1 s))) ((state_is_measured g x is).quota k.0 k.1 s))
      ∙ entries_hold g x is k.0 k.1 k.2 k.3)
      (λ some. has (k.0, k.1) (is.files (k.0, k.1, k.2) (is.blocks k some).1).1)

  labels_again : (k : VolumeKey) → (decoded_state VERSION g (image_of VERSION g x)).labels k ≡ x.labels k
  labels_again k =
      if_there (has_volume g k) _ (x.labels k)
      (λ there.
      ap (label_in VERSION) (volume_decoded k there)
      ∙ ap (λ (t : Bool). if t then Some (slice (volume_piece VERSION g x k.0 k.1) 16 LABEL_SIZE) else None) (made_decoded g x k.0 k.1 2)
      ∙ by (x.made k) (x.labels k) refl refl)
      (λ some. has k (sym (is.labels k) ∙ some))
    where
      by : (t : Bool) (o : Option (List ℕ)) → x.made k ≡ t → x.labels k ≡ o → (if t then Some (slice (volume_piece VERSION g x k.0 k.1) 16 LABEL_SIZE) else None) ≡ o
      by true None made has_none = absurd (true≢false (sym (sym (ap (λ (o : Option (List ℕ)). is_some o) has_none) ∙ is.labels k ∙ made)))
      by true (Some label) made has_one =
          let long : length label ≡ LABEL_SIZE = (subst (λ (o : Option (List ℕ)). IfSome o (AreSizedBytes LABEL_SIZE)) has_one (is.label_content k)).0 in
          ap (λ (l : List ℕ). Some l) (label_there g x k.0 k.1 label long made has_one)
      by false None made has_none = refl
      by false (Some label) made has_one = absurd (true≢false (sym (ap (λ (o : Option (List ℕ)). is_some o) has_one) ∙ is.labels k ∙ made))

  pub decoded_again : decoded_state VERSION g (image_of VERSION g x) ≡ x
  decoded_again = grind (arith, made_again, sealed_again, files_again, blocks_again, labels_again)

  pub read_again : image_state g (image_of VERSION g x) ≡ Some x
  read_again = grind (arith, bytes_eq-Decides (image_of VERSION g x) (image_of VERSION g (decoded_state VERSION g (image_of VERSION g x))), decoded_again)

-- bytes that are read as a state are its image
pub spelling : (g : Geometry) (bytes : List ℕ) (x : State) → image_state g bytes ≡ Some x → bytes ≡ image_of (version_in bytes) g x
spelling g bytes x is = grind (arith, bytes_eq-Decides bytes (image_of (version_in bytes) g (decoded_state (version_in bytes) g bytes)))
