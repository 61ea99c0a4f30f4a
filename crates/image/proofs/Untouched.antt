-- A message changes no piece but those that it touches.
use Rattle.std.proofs.Common.{◌≡◌, ◌≢◌, ℕ, zero, suc, ◌^◌, Bool, true, false, ◌&&◌, ◌||◌, not, [], ◌∷◌, ◌++◌, replicate, Option, Some, None, is_some, refl, sym, ◌∙◌, ap, true≢false}
use Rattle.std.specs.Prelude.{◌==◌, if◌then◌else◌}
use Rattle.std.proofs.lemmas.Bool.{eqb-true, eq-eqb, or_right}
use Rattle.std.specs.Option.{option_map_or}
use Rattle.affinity.specs.Geometry.{stripe_of}
use Rattle.affinity.specs.declared.geometry.Geometry.{Geometry}
use Rattle.byteorder.specs.Endian.{little_bytes}
use Rattle.protocol.specs.declared.messages.Block.{Block}
use Rattle.protocol.specs.declared.messages.Msg.{Msg}
use Rattle.protocol.specs.declared.messages.Msg.TheVariants.{MakeVol, DropVol, Create, Delete, Seal, Unseal, Write, Punch, SetLabel}
use Rattle.protocol.specs.declared.replies.Refusal.{Refusal}
use Rattle.meaning.specs.Step.{effect, next_state, no_label}
use Rattle.meaning.specs.Refusals.{refusal}
use Rattle.meaning.specs.State.{State, BlockKey, IsState, sum_below, is_volume, is_file, is_block, key}
use Rattle.meaning.proofs.Sums.{one_if}
use Rattle.meaning.specs.Facts.{Fact, OfMade, OfSealed, OfLabel, OfFile, OfBlock, value}
use Rattle.stripe.specs.Entries.{stripe_bytes}
use Rattle.image.specs.Pieces.{aggregate_of, volume_of, part_of, piece_of, part_piece, label_bytes, stripe_piece, entry_if}
use Rattle.image.specs.Touched.{may_change, may_change_part}
use Rattle.image.proofs.SamePieces.{entries_same, no_entry_of_none}

-- ---- another volume

-- States agree on all of a volume.
abbrev AgreeAt : State → State → ℕ → ℕ → Type 0
AgreeAt x y a v = (fact : Fact) → value x a v fact ≡ value y a v fact

agreeing : (version : ℕ) (g : Geometry) (x y : State) (a v : ℕ) → AgreeAt x y a v → (p : ℕ) → part_piece version g x a v p ≡ part_piece version g y a v p
agreeing version g x y a v same zero = λ i.
    if same OfMade i
    then 1 ∷ one_if (same OfSealed i) ∷ [] ++ replicate 6 0 ++ little_bytes 8
    (sum_below g.files (λ f. if same (OfFile f) i then 2 ^ f else 0)) ++ label_bytes version (same OfLabel i) ++ replicate 16 0
    else replicate 64 0
agreeing version g x y a v same (suc s) =
    ap (stripe_bytes g.quota) (entries_same g x y a v s (λ f b on. (λ i. entry_if (same (OfFile f) i) f b (same (OfBlock f b) i))))

module _ (x : State) (i j : ℕ) where
  agrees_elsewhere : (m : Msg) → is_volume (key m).0 (key m).1 (i, j) ≡ false → AgreeAt (effect x m) x i j
  agrees_elsewhere (MakeVol a v) off OfMade = ap (λ (t : Bool). t || x.made (i, j)) off
  agrees_elsewhere (MakeVol a v) off OfLabel = ap (λ (t : Bool). if t then Some no_label else x.labels (i, j)) off
  agrees_elsewhere (DropVol a v) off OfMade = ap (λ (t : Bool). not t && x.made (i, j)) off
  agrees_elsewhere (DropVol a v) off OfSealed = ap (λ (t : Bool). not t && x.sealed (i, j)) off
  agrees_elsewhere (DropVol a v) off OfLabel = ap (λ (t : Bool). if t then None else x.labels (i, j)) off
  agrees_elsewhere (DropVol a v) off (OfFile k) = ap (λ (t : Bool). not t && x.files (i, j, k)) off
  agrees_elsewhere (DropVol a v) off (OfBlock k l) = ap (λ (t : Bool). if t then None else x.blocks (i, j, k, l)) off
  agrees_elsewhere (Create a v f) off (OfFile k) = ap (λ (t : Bool). t && (f == k) || x.files (i, j, k)) off
  agrees_elsewhere (Delete a v f) off (OfFile k) = ap (λ (t : Bool). not (t && (f == k)) && x.files (i, j, k)) off
  agrees_elsewhere (Delete a v f) off (OfBlock k l) = ap (λ (t : Bool). if t && (f == k) then None else x.blocks (i, j, k, l)) off
  agrees_elsewhere (Seal a v) off OfSealed = ap (λ (t : Bool). t || x.sealed (i, j)) off
  agrees_elsewhere (Unseal a v) off OfSealed = ap (λ (t : Bool). not t && x.sealed (i, j)) off
  agrees_elsewhere (Write a v f b content) off (OfBlock k l) = ap (λ (t : Bool). if t && (f == k) && (b == l) then Some content else x.blocks (i, j, k, l)) off
  agrees_elsewhere (Punch a v f b) off (OfBlock k l) = ap (λ (t : Bool). if t && (f == k) && (b == l) then None else x.blocks (i, j, k, l)) off
  agrees_elsewhere (SetLabel a v bytes) off OfLabel = ap (λ (t : Bool). if t then Some bytes else x.labels (i, j)) off
  agrees_elsewhere _ off fact = refl

-- ---- another part

module _ (g : Geometry) (x : State) (is : IsState g x) (a v s : ℕ) where
  -- A `create` leaves the piece of each stripe: the file that it makes has no blocks.
  created : (i j k : ℕ) → stripe_piece g (effect x (Create i j k)) a v s ≡ stripe_piece g x a v s
  created i j k =
      ap (stripe_bytes g.quota)
      (entries_same g (effect x (Create i j k)) x a v s (λ f b on. by f b (x.files (a, v, f)) (x.blocks (a, v, f, b)) refl refl))
    where
      -- the file was there before, or it has no block
      by : (f b : ℕ) (t : Bool) (o : Option Block) → x.files (a, v, f) ≡ t → x.blocks (a, v, f, b) ≡ o → entry_if (is_file i j k (a, v, f) || t) f b o ≡ entry_if t f b o
      by f b true o there has = ap (λ (t : Bool). entry_if t f b o) (or_right (is_file i j k (a, v, f)) true refl)
      by f b false None out has = no_entry_of_none (is_file i j k (a, v, f) || false) f b
      by f b false (Some content) out has = absurd
          (true≢false (sym (is.blocks (a, v, f, b) (ap (λ (o : Option Block). is_some o) has)).1 ∙ out))

-- a block that lies in another stripe is another block
block_elsewhere : (g : Geometry) {s : ℕ} (i j k l : ℕ) (q : BlockKey) → s ≢ stripe_of g k l → stripe_of g q.2 q.3 ≡ s → is_block i j k l q ≡ false
block_elsewhere g i j k l q other on = by (i == q.0) (j == q.1) (k == q.2) (l == q.3) same_stripe
  where
    -- the same file and block number would be in the same stripe
    same_stripe : (k == q.2) ≡ true → (l == q.3) ≡ true → ⊥
    same_stripe file block = other (sym on ∙ sym (λ n. stripe_of g (eqb-true k q.2 file n) (eqb-true l q.3 block n)))

    by : (p q r t : Bool) → (r ≡ true → t ≡ true → ⊥) → (p && q && r && t) ≡ false
    by true true true true none = absurd (none refl refl)
    by _ _ _ _ none = refl

-- a stripe whose piece is not that of the message's stripe is another one
other_stripe : (s t : ℕ) → (suc s == suc t) ≡ false → s ≢ t
other_stripe s t off same = true≢false (sym (eq-eqb (suc s) (suc t) (ap suc same)) ∙ off)

module _ (version : ℕ) (g : Geometry) (x : State) (is : IsState g x) (i j : ℕ) where
  part_untouched : (m : Msg) (p : ℕ) → may_change_part g m p ≡ false → part_piece version g (effect x m) i j p ≡ part_piece version g x i j p
  part_untouched (MakeVol a v) zero off = absurd (true≢false off)
  part_untouched (DropVol a v) p off = absurd (true≢false off)
  part_untouched (Create a v f) zero off = absurd (true≢false off)
  part_untouched (Create a v f) (suc s) off = created g x is i j s a v f
  part_untouched (Delete a v f) p off = absurd (true≢false off)
  part_untouched (Seal a v) zero off = absurd (true≢false off)
  part_untouched (Unseal a v) zero off = absurd (true≢false off)
  part_untouched (Write a v f b content) (suc s) off =
      let other : s ≢ stripe_of g f b = other_stripe s (stripe_of g f b) off in
      ap (stripe_bytes g.quota)
      (entries_same g (effect x (Write a v f b content)) x i j s
      (λ k l on. ap (λ (t : Bool). entry_if (x.files (i, j, k)) k l (if t then Some content else x.blocks (i, j, k, l)))
      (block_elsewhere g a v f b (i, j, k, l) other on)))
  part_untouched (Punch a v f b) (suc s) off =
      let other : s ≢ stripe_of g f b = other_stripe s (stripe_of g f b) off in
      ap (stripe_bytes g.quota)
      (entries_same g (effect x (Punch a v f b)) x i j s
      (λ k l on. ap (λ (t : Bool). entry_if (x.files (i, j, k)) k l (if t then None else x.blocks (i, j, k, l)))
      (block_elsewhere g a v f b (i, j, k, l) other on)))
  part_untouched (SetLabel a v bytes) zero off = absurd (true≢false off)
  part_untouched _ _ off = refl

module _ (version : ℕ) (g : Geometry) (x : State) (is : IsState g x) (m : Msg) (n : ℕ) (off : may_change g m n ≡ false) where
  effect_leaves : piece_of version g (effect x m) n ≡ piece_of version g x n
  effect_leaves = by (is_volume (key m).0 (key m).1 (aggregate_of g n, volume_of g n)) refl off
    where
      by : (t : Bool) → is_volume (key m).0 (key m).1 (aggregate_of g n, volume_of g n) ≡ t
          → (t && may_change_part g m (part_of g n)) ≡ false → piece_of version g (effect x m) n ≡ piece_of version g x n
      by true on none = part_untouched version g x is (aggregate_of g n) (volume_of g n) m (part_of g n) none
      by false out none = agreeing version g (effect x m) x (aggregate_of g n) (volume_of g n)
          (agrees_elsewhere x (aggregate_of g n) (volume_of g n) m out) (part_of g n)

  pub piece_stays : piece_of version g (next_state g x m) n ≡ piece_of version g x n
  piece_stays = by (refusal g x m)
    where
      by : (o : Option Refusal) → piece_of version g (option_map_or (λ why. x) o (effect x m)) n ≡ piece_of version g x n
      by None = effect_leaves
      by (Some why) = refl
