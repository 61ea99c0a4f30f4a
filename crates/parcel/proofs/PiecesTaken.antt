-- A piece was read into the tree: the tree's state is the one before, with that piece taken in.
use Rattle.std.proofs.Common.{arith, ◌≡◌, ℕ, zero, suc, Bool, true, false, ◌&&◌, List, [], ◌∷◌, Option, Some, None, is_some, refl, sym, ◌∙◌, ap, subst}
use Rattle.std.specs.Prelude.{◌↔◌, ◌==◌, if◌then◌else◌, IfSome, IsTrue}
use Rattle.meaning.proofs.Keys.{picks_volume}
use Rattle.affinity.specs.Geometry.{stripe_of}
use Rattle.affinity.specs.Path.{is_prefix, volume, IsPath}
use Rattle.affinity.specs.declared.geometry.Geometry.{Geometry}
use Rattle.protocol.specs.Messages.{AreSizedBytes}
use Rattle.protocol.specs.Replies.{has_file}
use Rattle.meaning.specs.Commute.{outside}
use Rattle.meaning.specs.Facts.{OfMade, OfSealed, OfLabel, OfFile, OfBlock}
use Rattle.meaning.specs.Subtrees.{AgreeOn}
use Rattle.meaning.specs.State.{State, IsState}
use Rattle.meaning.proofs.AgreeOn.{agree-sym, agree-trans}
use Rattle.meaning.proofs.SubtreeLaws.{agree_in_and_out}
use Rattle.meaning.proofs.FileBits.{has_none}
use Rattle.image.specs.Pieces.{part_piece, piece_part_size, with_part, is_made_in, is_sealed_in, has_file_in, label_in as decoded_label_in, block_in}
use Rattle.parcel.specs.Fits.{FitsRoot}
use Rattle.parcel.specs.Lends.{volume_of_tree, with_volume}
use Rattle.parcel.specs.Nodes.{Nodes, child_nodes, logical_nodes, volume_nodes, root_nodes, node_files, tree_state, PutsBack}
use Rattle.parcel.specs.Pieces.{IsPieceOfVolumeRead, facts_with}
use Rattle.parcel.specs.Shown.{volume_facts, files_in}
use Rattle.parcel.specs.Tree.{IsIn}
use Rattle.parcel.specs.Volume.{VolumeFacts, HasFacts}
use Rattle.parcel.specs.declared.parts.Logical.{Logical}
use Rattle.parcel.specs.declared.parts.Root.{Root}
use Rattle.parcel.specs.declared.parts.Vol.{Vol}
use Rattle.parcel.specs.declared.parts.Parcels.TheVariants as parcels
use Rattle.parcel.proofs.TreeState.{put_leaves, put_outside}
use Rattle.parcel.proofs.LendsAndRestores.{put_there, restored_is_in}
use Rattle.affinity.proofs.Paths.{begins_split}
use Rattle.parcel.proofs.ReadPieces.{has_volume, state_there}
use Rattle.parcel.proofs.StripePieces.{stripe_is_piece, stripe_state}
use Rattle.parcel.proofs.Slots.{volume_slot}
use Rattle.parcel.proofs.VolumePieces.{volume_decoded, volume_state}

-- ---- states that have the same in one volume

module _ (g : Geometry) (a v : ℕ) where
  pub same_there : (x y : State) (h : VolumeFacts) → HasFacts x a v h → HasFacts y a v h → AgreeOn g (is_prefix (volume a v)) x y
  same_there x y h one two = grind arith

  -- what a state with a piece taken in has in the volume of that piece
  pub facts_taken : (version : ℕ) (x : State) (h : VolumeFacts) → HasFacts x a v h → (part : ℕ) (bytes : List ℕ)
      → HasFacts (with_part version g x a v part bytes) a v (facts_with version g h part bytes)
  facts_taken version x h has zero bytes OfMade = ap (λ (t : Bool). if t then is_made_in bytes else x.made (a, v)) (picks_volume a v)
  facts_taken version x h has zero bytes OfSealed = ap (λ (t : Bool). if t then is_sealed_in bytes else x.sealed (a, v)) (picks_volume a v)
  facts_taken version x h has zero bytes OfLabel = ap (λ (t : Bool). if t then decoded_label_in version bytes else x.labels (a, v)) (picks_volume a v)
  facts_taken version x h has zero bytes (OfFile f) = ap (λ (t : Bool). if t then has_file_in bytes f else x.files (a, v, f)) (picks_volume a v)
  facts_taken version x h has (suc s) bytes (OfBlock f b) = λ i. if picks_volume a v i && (stripe_of g f b == s) then block_in g bytes f b else has (OfBlock f b) i
  facts_taken version x h has _ bytes fact = has fact

  pub elsewhere_taken : (version : ℕ) (x : State) (part : ℕ) (bytes : List ℕ) → AgreeOn g (outside (volume a v)) (with_part version g x a v part bytes) x
  elsewhere_taken version x part bytes = grind arith

-- ---- the state stays a valid one of the geometry

files_told : (o : Option Logical) (f : ℕ) → files_in o f ≡ has_file (node_files (child_nodes logical_nodes o [])) f
files_told None f = sym (has_none f)
files_told (Some l) f = refl

pub part_state : (version : ℕ) {g : Geometry} {x : State} → IsState g x → {a v : ℕ} → IsPath g (volume a v) → (w : Vol) → HasFacts x a v (volume_facts g w)
    → {part : ℕ} → (part ≡ 0 → (f b : ℕ) → x.blocks (a, v, f, b) ≡ None) → {bytes : List ℕ} → AreSizedBytes (piece_part_size g part) bytes
    → bytes ≡ part_piece version g (with_part version g x a v part bytes) a v part → IsState g (with_part version g x a v part bytes)
part_state version {g} {x} is {a} {v} path w has {part = zero} empty {bytes} are good =
    volume_state version g bytes (good ∙ volume_decoded version g x a v bytes) x is a v path.0 path.1 (empty refl) are
part_state version {g} {x} is {a} {v} path w has {part = suc s} empty {bytes} are good =
    let files : ℕ = node_files (child_nodes logical_nodes w.logical []) in
    let told : (f : ℕ) → x.files (a, v, f) ≡ has_file files f = λ f. has (OfFile f) ∙ files_told w.logical f in
    stripe_state g x is a v s files told bytes are (stripe_is_piece g x is a v s files told bytes are good)

-- ---- in the tree

abbrev nodes_of : Option Root → Nodes
nodes_of o = child_nodes root_nodes o

module _ {version : ℕ} {g : Geometry} {part : ℕ} {bytes : List ℕ} {good : Bool} (a v : ℕ) (o : Option Root) {was now : Vol}
    (there : Some was ≡ volume_of_tree o a v) (read : IsPieceOfVolumeRead version g part bytes good was now) where
  pub read_good : IsState g (tree_state g (nodes_of o)) → IsTrue good ↔ (bytes ≡ part_piece version g (with_part version g (tree_state g (nodes_of o)) a v part bytes) a v part)
  read_good is = read.spelled (tree_state g (nodes_of o)) a v is (has_volume g o a v there)

  module _ (fits : IfSome o (FitsRoot g)) (path : IsPath g (volume a v)) where
    nodes : PutsBack (volume a v) (volume_nodes now) (nodes_of o) (nodes_of (with_volume o a v (Some now)))
    nodes = (volume_slot g o fits a v path there).put (Some now)

    pub read_taken : IsTrue good → tree_state g (nodes_of (with_volume o a v (Some now))) ≡ with_part version g (tree_state g (nodes_of o)) a v part bytes
    read_taken on =
        let after = state_there g (nodes_of (with_volume o a v (Some now))) a v now (λ q. nodes (a ∷ v ∷ q) ∙ put_there (volume a v) q (volume_nodes now) (nodes_of o)) in
        let told = subst (λ (h : VolumeFacts). HasFacts (tree_state g (nodes_of (with_volume o a v (Some now)))) a v h) (read.facts on) after in
        agree_in_and_out g (volume a v) (tree_state g (nodes_of (with_volume o a v (Some now)))) (with_part version g (tree_state g (nodes_of o)) a v part bytes)
        (same_there g a v (tree_state g (nodes_of (with_volume o a v (Some now)))) (with_part version g (tree_state g (nodes_of o)) a v part bytes) _ told
        (facts_taken g a v version (tree_state g (nodes_of o)) (volume_facts g was) (has_volume g o a v there) part bytes))
        (agree-trans (put_leaves g (volume a v) (volume_nodes now) (nodes_of o) (nodes_of (with_volume o a v (Some now))) nodes)
        (agree-sym (elsewhere_taken g a v version (tree_state g (nodes_of o)) part bytes)))

    pub read_in : IsIn g [] (nodes_of o) → IsIn g [] (nodes_of (with_volume o a v (Some now)))
    read_in whole q path related =
        elim (is_prefix (volume a v) q) as (λ b. is_prefix (volume a v) q ≡ b → is_some (nodes_of (with_volume o a v (Some now)) q) ≡ true) [
          | true ↦ λ e. let rest = begins_split (volume a v) q e in
              subst (λ r. is_some (nodes_of (with_volume o a v (Some now)) r) ≡ true) (sym rest.1) (restored_is_in g (volume a v) (parcels.Vol now) (nodes_of o) nodes
              (read.fits, read.whole) rest.0 (subst (λ r. IsPath g r) rest.1 path))
          | false ↦ λ e. ap is_some (nodes q ∙ put_outside (volume a v) (volume_nodes now) (nodes_of o) q e) ∙ whole q path refl
        ] refl
