-- A piece of a volume is read (part 0: its own, part s + 1: that of stripe s), and the piece's volume is found in the tree.
use Rattle.std.proofs.Common.{◌≡◌, ℕ, zero, suc, ◌*◌, ◌%◌, ◌^◌, ◌<◌, Bool, true, false, List, [], ◌∷◌, slice_index_or, Option, Some, None, IfSome, is_some, refl, sym, ◌∙◌, ap, subst, ⊎_elim, arith, true≢false, mod-lt}
use Rattle.std.specs.Prelude.{◌↔◌, ◌==◌, if◌then◌else◌, IsTrue, IsFalse}
use Rattle.std.specs.Option.{option_and_then, option_map}
use Rattle.std.proofs.lemmas.Nat.{pow_pos}
use Rattle.affinity.specs.Geometry.{stripe_of}
use Rattle.affinity.specs.Path.{Path}
use Rattle.affinity.specs.declared.geometry.Geometry.{Geometry}
use Rattle.byteorder.specs.Endian.{little_number}
use Rattle.device_map.specs.Layout.{slice}
use Rattle.device_map.specs.declared.layout.TheConstants.{BLOCK_ENTRY_SIZE}
use Rattle.protocol.specs.Messages.{AreSizedBytes}
use Rattle.protocol.specs.Replies.{has_file}
use Rattle.stripe.specs.Entries.{IsStripePiece}
use Rattle.image.specs.Pieces.{block_in, piece_count, aggregate_of, volume_of as volume_number}
use Rattle.image.proofs.PieceNumbers.{in_aggregates, in_volumes}
use Rattle.parcel.specs.Fits.{FitsLogical, FitsVolume, FitsAggregate, FitsRoot}
use Rattle.parcel.specs.Whole.{IsWholeChild, IsWholeLogical, IsWholeVolume, IsWholeAggregate, IsWholeRoot}
use Rattle.parcel.specs.Lends.{aggregate_of_tree, volume_of_tree}
use Rattle.parcel.specs.Nodes.{Nodes, child_nodes, volume_nodes, root_nodes, tree_state}
use Rattle.parcel.specs.Volume.{HasFacts}
use Rattle.parcel.specs.Pieces.{IsPieceOfVolumeRead, spelled, decoded_piece, volume_with}
use Rattle.parcel.specs.Shown.{volume_facts, files_in, blocks_below, blocks_of, shown_label}
use Rattle.parcel.specs.Tree.{TreeView, IsWellFormed, IsWholeTree, IsIn}
use Rattle.parcel.specs.declared.parts.Logical.{Logical}
use Rattle.parcel.specs.declared.parts.Vol.{Vol}
use Rattle.parcel.specs.declared.parts.Aggr.{Aggr}
use Rattle.parcel.specs.declared.parts.Root.{Root}
use Rattle.meaning.specs.Facts.{OfFile}
use Rattle.parcel.proofs.TreeState.{tree_value}
use Rattle.parcel.proofs.Shows.{holds_same, volume_holds}
use Rattle.parcel.proofs.ChildRows.{child_whole_at}
use Rattle.parcel.proofs.StripePieces.{stripe_good, stripe_is_piece}
use Rattle.parcel.proofs.VolumePieces.{volume_decoded, facts_decoded}
use Rattle.parcel.proofs.Slots.{aggregate_child, volume_child}
use Rattle.parcel.proofs.Whole.{root_or}

-- ---- the volume's own piece

pub volume_is_read : {version : ℕ} {g : Geometry} {bytes : List ℕ} {good : Bool} {old new : Vol} → FitsVolume g old → IsWholeVolume old
    → (IsTrue good ↔ (bytes ≡ spelled (decoded_piece version g bytes))) → (IsTrue good → new ≡ volume_with (decoded_piece version g bytes) old) → (IsFalse good → new ≡ old)
    → IsPieceOfVolumeRead version g zero bytes good old new
volume_is_read {version} {g} {bytes} {good} {old} {new} fits whole is taken kept = record {
  fits = by_fits good refl;
  whole = by_whole good refl;
  spelled = λ x a v state has. (
    λ on. is.0 on ∙ sym (volume_decoded version g x a v bytes),
    λ same. is.1 (same ∙ volume_decoded version g x a v bytes),
  );
  facts = λ on. ap (volume_facts g) (taken on) ∙ facts_decoded version g bytes (is.0 on) old whole;
}
  where
    files_fit : (o : Option Logical) → IfSome o (FitsLogical g) → IfSome (option_map (λ (l : Logical). record l { files = little_number 8 (slice bytes 8 8) % 2 ^ g.files }) o) (FitsLogical g)
    files_fit None h = tt
    files_fit (Some l) h = record { files = mod-lt (little_number 8 (slice bytes 8 8)) (pow_pos g.files); count = h.count; stripes = h.stripes }

    still_whole : (n : ℕ) (o : Option Logical) → IsWholeChild IsWholeLogical o → IsWholeChild IsWholeLogical (option_map (λ (l : Logical). record l { files = n }) o)
    still_whole n None h = h
    still_whole n (Some l) h = h

    by_fits : (t : Bool) → good ≡ t → FitsVolume g new
    by_fits true on = subst (FitsVolume g) (sym (taken on)) (record { logical = files_fit old.logical fits.logical })
    by_fits false off = subst (FitsVolume g) (sym (kept off)) fits

    by_whole : (t : Bool) → good ≡ t → IsWholeVolume new
    by_whole true on = subst IsWholeVolume (sym (taken on)) (still_whole (little_number 8 (slice bytes 8 8) % 2 ^ g.files) old.logical whole.0, tt)
    by_whole false off = subst IsWholeVolume (sym (kept off)) whole

-- ---- the piece of a stripe

pub stripe_is_read : {version : ℕ} {g : Geometry} {s : ℕ} {bytes : List ℕ} {good : Bool} {old : Vol} {l k : Logical} → old.logical ≡ Some l
    → IsWholeVolume old → FitsLogical g k → IsWholeLogical k → k.files ≡ l.files
    → (IsTrue good ↔ IsStripePiece g l.files s bytes)
    → (IsTrue good → (f b : ℕ) → blocks_of g k.stripes.items f b ≡ (if stripe_of g f b == s then block_in g bytes f b else blocks_of g l.stripes.items f b))
    → AreSizedBytes (g.quota * BLOCK_ENTRY_SIZE) bytes → IsPieceOfVolumeRead version g (suc s) bytes good old (record old { logical = Some k })
stripe_is_read {g} {s} {bytes} {old} {l} was whole fits now_whole files piece blocks are = record {
  fits = record { logical = fits };
  whole = (now_whole, whole.1);
  spelled = λ x a v is has. let there : (f : ℕ) → x.files (a, v, f) ≡ has_file l.files f = λ f. has (OfFile f) ∙ ap (λ o. files_in o f) was in (
    λ on. stripe_good g x is a v s l.files there bytes are (piece.0 on),
    λ same. piece.1 (stripe_is_piece g x is a v s l.files there bytes are same),
  );
  facts = λ on i. record {
    made = old.made;
    sealed = old.sealed;
    files = λ f. (ap (λ n. has_file n f) files ∙ sym (ap (λ o. files_in o f) was)) i;
    blocks = λ f b. (blocks on f b ∙ sym (ap (λ o. if stripe_of g f b == s then block_in g bytes f b else blocks_below g o f b) was)) i;
    label = shown_label old.label;
  };
}

-- ---- the volume, where the tree has it

module _ (g : Geometry) where
  tree_whole : (o : Option Root) → IfSome o (FitsRoot g) → IsIn g [] (child_nodes root_nodes o) → IsWholeChild IsWholeRoot o
  tree_whole o fits all = ⊎_elim (λ whole. whole) (λ gap. absurd (true≢false (sym (all gap.0 gap.1 refl) ∙ ap is_some gap.2))) (root_or g o fits)

  -- a child that is in, fits and is whole
  abbrev pub IsThere : {X : Type 0} → (X → Type 0) → (X → Type 0) → Option X → Type 0
  IsThere IsFit IsWhole found = IfSome found IsFit × IsWholeChild IsWhole found

  aggregate_is_there : (a : ℕ) → a < g.aggregates → (o : Option Root) → IfSome o (FitsRoot g) → IsWholeChild IsWholeRoot o → IsThere (FitsAggregate g) IsWholeAggregate (aggregate_of_tree o a)
  aggregate_is_there a below None fits whole = absurd whole
  aggregate_is_there a below (Some r) fits whole = ((aggregate_child g a).fits r fits, child_whole_at IsWholeAggregate r.aggregates.items a (omega (arith, below, fits.count)) whole)

  volume_is_there : (a v : ℕ) → v < g.volumes → (o : Option Root) → IsThere (FitsAggregate g) IsWholeAggregate (aggregate_of_tree o a) → IsThere (FitsVolume g) IsWholeVolume (volume_of_tree o a v)
  volume_is_there a v below o there = by (aggregate_of_tree o a) there
    where
      by : (x : Option Aggr) → IsThere (FitsAggregate g) IsWholeAggregate x → IsThere (FitsVolume g) IsWholeVolume (option_and_then (λ r. slice_index_or r.volumes.items v None) x)
      by None there = absurd there.1
      by (Some r) there = ((volume_child g v).fits r there.0, child_whole_at IsWholeVolume r.volumes.items v (omega (arith, below, there.0.count)) there.1)

  -- ---- the nodes and the state there

  nodes_there : (a v : ℕ) (o : Option Root) (q : Path) → child_nodes root_nodes o (a ∷ v ∷ q) ≡ child_nodes volume_nodes (volume_of_tree o a v) q
  nodes_there a v None q = refl
  nodes_there a v (Some r) q = grind arith

  -- the state of the nodes has at that volume what the volume has
  pub state_there : (n : Nodes) (a v : ℕ) (w : Vol) → ((q : Path) → n (a ∷ v ∷ q) ≡ volume_nodes w q) → HasFacts (tree_state g n) a v (volume_facts g w)
  state_there n a v w at fact = tree_value g n a v fact
      ∙ sym ((holds_same g (λ q. true) (volume_facts g w) (λ q. n (a ∷ v ∷ q)) (volume_nodes w) at (volume_holds g (λ q. true) (Some w))).all fact refl)

  -- so has the state of the tree
  pub has_volume : (o : Option Root) (a v : ℕ) {w : Vol} → Some w ≡ volume_of_tree o a v → HasFacts (tree_state g (child_nodes root_nodes o)) a v (volume_facts g w)
  has_volume o a v {w} is = state_there (child_nodes root_nodes o) a v w (λ q. nodes_there a v o q ∙ ap (λ x. child_nodes volume_nodes x q) (sym is))

-- the volume of a piece, where nothing is out
pub piece_is_there : (s : TreeView) {t : TreeView} → s ≡ t → IsWellFormed s → IsWholeTree t → {n : ℕ} → n < piece_count t.geometry
    → {a v : ℕ} → a ≡ aggregate_of s.geometry n → v ≡ volume_number s.geometry n → {found : Option Vol} → found ≡ volume_of_tree s.root a v
    → IsThere s.geometry (FitsVolume s.geometry) IsWholeVolume found
piece_is_there s view fits whole {n} below {a} {v} aggregate volume is =
    let g = s.geometry in
    let piece = subst (λ (t : TreeView). n < piece_count t.geometry) (sym view) below in
    subst (IsThere g (FitsVolume g) IsWholeVolume) (sym is)
    (volume_is_there g a v (subst (λ (k : ℕ). k < g.volumes) (sym volume) (in_volumes g n)) s.root
    (aggregate_is_there g a (subst (λ (k : ℕ). k < g.aggregates) (sym aggregate) (in_aggregates g n piece)) s.root fits
    (tree_whole g s.root fits (subst IsWholeTree (sym view) whole).all_in)))
