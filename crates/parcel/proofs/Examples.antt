-- Worked examples: pieces, and one volume with one file, of whose two stripes the first is out.
use Rattle.std.proofs.Common.{◌≡◌, zero, suc, true, false, List, [], ◌∷◌, ◌++◌, replicate, Option, refl, sym, ap, arith}
use Rattle.std.specs.Prelude.{None, Some, is_some}
use Rattle.std.proofs.lemmas.Bool.{true≢false}
use Rattle.affinity.proofs.GeometryLemmas.{small}
use Rattle.affinity.specs.Path.{Path, are_related, IsPath}
use Rattle.parcel.specs.Nodes.{Node, Nodes, children_nodes, put_at}
use Rattle.parcel.specs.Nodes.Node.{Inner, VolumeFlags, Files, StripeBlocks, LabelBytes}
use Rattle.stripe.specs.Entries.{entry_bytes}
use Rattle.stripe.specs.Stripe.{StripePart}
use Rattle.parcel.specs.Pieces.{spelled, decoded_label, decoded_piece}
use Rattle.parcel.specs.declared.pieces.volumes.VolumePiece.{VolumePiece}
use Rattle.parcel.specs.Tree.{HasGap, IsOut, standing_at}

abbrev no_blocks : StripePart
no_blocks = record { quota = 2; entries = [] }

-- a node with what is below it: of each child the nodes, or `None` where it is out
abbrev below : Node → List (Option Nodes) → Nodes
below own children = children_nodes (λ (n : Nodes). n) own children

abbrev leaf_of : Node → Nodes
leaf_of own = below own []

abbrev tree_with : Option Nodes → Nodes
tree_with first = below Inner (Some (below Inner (Some (below (VolumeFlags true false)
    (Some (below (Files 1) (first ∷ Some (leaf_of (StripeBlocks no_blocks)) ∷ [])) ∷ Some (leaf_of (LabelBytes None)) ∷ [])) ∷ [])) ∷ [])

abbrev whole : Nodes
whole = tree_with (Some (leaf_of (StripeBlocks no_blocks)))

abbrev without_first : Nodes
without_first = tree_with None

-- the first stripe is out, and the second, the files and the tree are not
first_is_out : IsOut (0 ∷ 0 ∷ 0 ∷ 0 ∷ []) without_first
first_is_out = (refl, refl)

second_is_in : IsOut (0 ∷ 0 ∷ 0 ∷ 1 ∷ []) without_first → ⊥
second_is_in h = true≢false (ap is_some h.0)

files_are_in : IsOut (0 ∷ 0 ∷ 0 ∷ []) without_first → ⊥
files_are_in h = true≢false (ap is_some h.0)

-- a stripe whose Volume Logical is out too is not out in the sense of `IsOut`
stripe_of_no_files : IsOut (0 ∷ 0 ∷ 0 ∷ 0 ∷ []) (below Inner (Some (below Inner (Some (below (VolumeFlags true false) (None ∷ Some (leaf_of (LabelBytes None)) ∷ [])) ∷ [])) ∷ [])) → ⊥
stripe_of_no_files h = true≢false (sym h.1)

-- the Volume Logical and the root, which lie above the first stripe, have a gap
gap_at_files : HasGap small (0 ∷ 0 ∷ 0 ∷ []) without_first
gap_at_files = (0 ∷ 0 ∷ 0 ∷ 0 ∷ [], (omega arith, omega arith, omega arith), refl, refl)

gap_at_all : HasGap small [] without_first
gap_at_all = (0 ∷ 0 ∷ 0 ∷ 0 ∷ [], (omega arith, omega arith, omega arith), refl, refl)

-- the second stripe has no gap
no_gap_at_second : (q : Path) → are_related (0 ∷ 0 ∷ 0 ∷ 1 ∷ []) q ≡ true → IsPath small q → without_first q ≡ None → ⊥
no_gap_at_second [] related path out = true≢false (ap is_some out)
no_gap_at_second (zero ∷ []) related path out = true≢false (ap is_some out)
no_gap_at_second (zero ∷ zero ∷ []) related path out = true≢false (ap is_some out)
no_gap_at_second (zero ∷ zero ∷ zero ∷ []) related path out = true≢false (ap is_some out)
no_gap_at_second (zero ∷ zero ∷ zero ∷ zero ∷ []) related path out = true≢false (sym related)
no_gap_at_second (zero ∷ zero ∷ zero ∷ suc zero ∷ []) related path out = true≢false (ap is_some out)
no_gap_at_second (zero ∷ zero ∷ zero ∷ suc (suc s) ∷ []) related path out = absurd (omega (arith, path.2))
no_gap_at_second (zero ∷ zero ∷ zero ∷ s ∷ x ∷ q) related path out = absurd path
no_gap_at_second (zero ∷ zero ∷ suc zero ∷ []) related path out = true≢false (sym related)
no_gap_at_second (zero ∷ zero ∷ suc zero ∷ x ∷ q) related path out = absurd path
no_gap_at_second (zero ∷ zero ∷ suc (suc i) ∷ q) related path out = absurd path
no_gap_at_second (zero ∷ suc v ∷ []) related path out = absurd (omega (arith, path.1))
no_gap_at_second (zero ∷ suc v ∷ zero ∷ []) related path out = absurd (omega (arith, path.1))
no_gap_at_second (zero ∷ suc v ∷ zero ∷ s ∷ []) related path out = absurd (omega (arith, path.1))
no_gap_at_second (zero ∷ suc v ∷ zero ∷ s ∷ x ∷ q) related path out = absurd path
no_gap_at_second (zero ∷ suc v ∷ suc zero ∷ []) related path out = absurd (omega (arith, path.1))
no_gap_at_second (zero ∷ suc v ∷ suc zero ∷ x ∷ q) related path out = absurd path
no_gap_at_second (zero ∷ suc v ∷ suc (suc i) ∷ q) related path out = absurd path
no_gap_at_second (suc a ∷ []) related path out = absurd (omega (arith, path))
no_gap_at_second (suc a ∷ v ∷ []) related path out = absurd (omega (arith, path.0))
no_gap_at_second (suc a ∷ v ∷ zero ∷ []) related path out = absurd (omega (arith, path.0))
no_gap_at_second (suc a ∷ v ∷ zero ∷ s ∷ []) related path out = absurd (omega (arith, path.0))
no_gap_at_second (suc a ∷ v ∷ zero ∷ s ∷ x ∷ q) related path out = absurd path
no_gap_at_second (suc a ∷ v ∷ suc zero ∷ []) related path out = absurd (omega (arith, path.0))
no_gap_at_second (suc a ∷ v ∷ suc zero ∷ x ∷ q) related path out = absurd path
no_gap_at_second (suc a ∷ v ∷ suc (suc i) ∷ q) related path out = absurd path

-- the standing: at a stripe flags and files, at the Volume Logical and the label flags, at the volume nothing
standing_at_stripe : standing_at (0 ∷ 0 ∷ 0 ∷ 1 ∷ []) without_first ≡ record { made = true; sealed = false; files = 1 }
standing_at_stripe = refl

standing_at_files : standing_at (0 ∷ 0 ∷ 0 ∷ []) whole ≡ record { made = true; sealed = false; files = 0 }
standing_at_files = refl

standing_at_label : standing_at (0 ∷ 0 ∷ 1 ∷ []) without_first ≡ record { made = true; sealed = false; files = 0 }
standing_at_label = refl

standing_at_volume : standing_at (0 ∷ 0 ∷ []) whole ≡ record { made = false; sealed = false; files = 0 }
standing_at_volume = refl

-- once the first stripe is put back, both stripes are as in the whole tree
put_back_stripe : put_at (0 ∷ 0 ∷ 0 ∷ 0 ∷ []) (leaf_of (StripeBlocks no_blocks)) without_first (0 ∷ 0 ∷ 0 ∷ 0 ∷ []) ≡ whole (0 ∷ 0 ∷ 0 ∷ 0 ∷ [])
put_back_stripe = refl

put_back_other : put_at (0 ∷ 0 ∷ 0 ∷ 0 ∷ []) (leaf_of (StripeBlocks no_blocks)) without_first (0 ∷ 0 ∷ 0 ∷ 1 ∷ []) ≡ whole (0 ∷ 0 ∷ 0 ∷ 1 ∷ [])
put_back_other = refl

-- ---- a volume's piece

abbrev sealed_volume : VolumePiece
sealed_volume = record { made = true; sealed = true; files = 3; label = replicate 32 0 }

-- made and sealed, with files 0 and 1
piece_of_a_sealed_volume : spelled sealed_volume ≡ 1 ∷ 1 ∷ 0 ∷ 0 ∷ 0 ∷ 0 ∷ 0 ∷ 0 ∷ 3 ∷ replicate 55 0
piece_of_a_sealed_volume = refl

piece_with_a_label : spelled (record { made = true; sealed = false; files = 256; label = 99 ∷ replicate 31 0 }) ≡ 1 ∷ replicate 8 0 ++ 1 ∷ replicate 6 0 ++ 99 ∷ replicate 47 0
piece_with_a_label = refl

-- what isn't made has no flags, files or label, whatever its bytes are
piece_of_none : spelled (record sealed_volume { made = false }) ≡ replicate 64 0
piece_of_none = refl

-- bits of files that the geometry doesn't have are dropped: it has files 0 and 1
only_its_files : (decoded_piece 2 small (1 ∷ 1 ∷ replicate 6 0 ++ 7 ∷ replicate 55 0)).files ≡ 3
only_its_files = refl

-- the label is in the bytes of version 2 alone
label_of_version_2 : decoded_label 2 (replicate 16 0 ++ 99 ∷ replicate 47 0) ≡ 99 ∷ replicate 31 0
label_of_version_2 = refl

no_label_in_version_1 : decoded_label 1 (replicate 16 0 ++ 99 ∷ replicate 47 0) ≡ replicate 32 0
no_label_in_version_1 = refl

-- an entry: block 1 of file 1, which holds 0x61 and zeros
entry_of_a_block : entry_bytes (record { file = 1; block = 1; content = record { 0 = 97 ∷ replicate 511 0 } }) ≡ 1 ∷ 1 ∷ 1 ∷ 0 ∷ 0 ∷ 0 ∷ 0 ∷ 0 ∷ 97 ∷ replicate 511 0
entry_of_a_block = refl
