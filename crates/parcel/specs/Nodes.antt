-- Statement for operators: The tree as a map from paths to nodes, each with what it has of its own. What is out has no node.
use Rattle.std.specs.Prelude.{◌≡◌, ℕ, zero, suc, Bool, false, ◌==◌, if◌then◌else◌, List, [], ◌∷◌, slice_index_or, Option, Some, None}
use Rattle.std.specs.Option.{option_and_then}
use Rattle.affinity.specs.declared.geometry.Geometry.{Geometry}
use Rattle.affinity.specs.Geometry.{stripe_of}
use Rattle.affinity.specs.Path.{Path, is_prefix, volume, logical, stripe, label}
use Rattle.protocol.specs.declared.messages.Block.{Block}
use Rattle.meaning.specs.State.{State}
use Rattle.stripe.specs.Stripe.{StripePart, content_at}
use Rattle.parcel.specs.Shown.{has_file}
use Rattle.parcel.specs.declared.parts.Label.{Label}
use Rattle.parcel.specs.declared.parts.Logical.{Logical}
use Rattle.parcel.specs.declared.parts.Vol.{Vol}
use Rattle.parcel.specs.declared.parts.Aggr.{Aggr}
use Rattle.parcel.specs.declared.parts.Root.{Root}
use Rattle.parcel.specs.declared.parts.Parcels.{Parcels}
use Rattle.parcel.specs.declared.parts.Parcels.TheVariants as parcels

-- what one node has of its own: nothing (the root, an aggregate), a volume's flags, its files as bits, a stripe's blocks, a label's bytes
pub data Node : Type 0 where
  Inner : Node
  VolumeFlags : (made sealed : Bool) → Node
  Files : (bits : ℕ) → Node
  StripeBlocks : (part : StripePart) → Node
  LabelBytes : (bytes : Option (List ℕ)) → Node

-- the tree as a map: at each path what the node there has of its own, and `None` where nothing is in
abbrev pub Nodes : Type 0
Nodes = Path → Option Node

-- the nodes of a child: none where it is out
abbrev pub child_nodes : {X : Type 0} → (X → Nodes) → Option X → Nodes
child_nodes nodes o q = option_and_then (λ x. nodes x q) o

-- the nodes of a node with children, by what it has of its own and by the list of the children
abbrev pub children_nodes : {X : Type 0} → (X → Nodes) → Node → List (Option X) → Nodes
children_nodes nodes own xs [] = Some own
children_nodes nodes own xs (i ∷ q) = child_nodes nodes (slice_index_or xs i None) q

-- the nodes of a node without children
abbrev pub leaf : Node → Nodes
leaf own [] = Some own
leaf own (i ∷ q) = None

abbrev pub stripe_nodes : StripePart → Nodes
stripe_nodes p = leaf (StripeBlocks p)

abbrev pub label_nodes : Label → Nodes
label_nodes l = leaf (LabelBytes l.bytes)

abbrev pub logical_nodes : Logical → Nodes
logical_nodes l = children_nodes stripe_nodes (Files l.files) l.stripes.items

abbrev pub volume_nodes : Vol → Nodes
volume_nodes w [] = Some (VolumeFlags w.made w.sealed)
volume_nodes w (zero ∷ q) = child_nodes logical_nodes w.logical q
volume_nodes w (suc zero ∷ q) = child_nodes label_nodes w.label q
volume_nodes w (suc (suc i) ∷ q) = None

abbrev pub aggregate_nodes : Aggr → Nodes
aggregate_nodes r = children_nodes volume_nodes Inner r.volumes.items

abbrev pub root_nodes : Root → Nodes
root_nodes r = children_nodes aggregate_nodes Inner r.aggregates.items

-- the nodes of parcels, by paths that begin at their own place
abbrev pub parcels_nodes : Parcels → Nodes
parcels_nodes (parcels.Root r) = root_nodes r
parcels_nodes (parcels.Aggr r) = aggregate_nodes r
parcels_nodes (parcels.Vol w) = volume_nodes w
parcels_nodes (parcels.Logical l) = logical_nodes l
parcels_nodes (parcels.Stripe p) = stripe_nodes p
parcels_nodes (parcels.Label l) = label_nodes l

-- ---- changes

-- Now all is out at this path and below it, and elsewhere all is as it was.
abbrev pub TakesOut : Path → Nodes → Nodes → Type 0
TakesOut p old new = (q : Path) → new q ≡ (if is_prefix p q then None else old q)

-- the nodes `old` with the nodes `part` in their place at path p and below
abbrev pub put_at : Path → Nodes → Nodes → Nodes
put_at [] part old q = part q
put_at (x ∷ p) part old [] = old []
put_at (x ∷ p) part old (y ∷ q) = if x == y then put_at p part (λ r. old (y ∷ r)) q else old (y ∷ q)

-- The nodes `part` are at path p and below, and elsewhere all is as it was.
abbrev pub PutsBack : Path → Nodes → Nodes → Nodes → Type 0
PutsBack p part old new = (q : Path) → new q ≡ put_at p part old q

abbrev pub SameNodes : Nodes → Nodes → Type 0
SameNodes old new = (q : Path) → new q ≡ old q

-- ---- the state of nodes

-- What a node shows of the state: a volume's flags, its files, a block, a label. A node of another kind, or none, shows nothing.
abbrev pub node_made : Option Node → Bool
node_made (Some (VolumeFlags made sealed)) = made
node_made _ = false

abbrev pub node_sealed : Option Node → Bool
node_sealed (Some (VolumeFlags made sealed)) = sealed
node_sealed _ = false

abbrev pub node_has_file : Option Node → ℕ → Bool
node_has_file (Some (Files bits)) f = has_file bits f
node_has_file _ f = false

abbrev pub node_files : Option Node → ℕ
node_files (Some (Files bits)) = bits
node_files _ = 0

abbrev pub node_block : Option Node → ℕ → ℕ → Option Block
node_block (Some (StripeBlocks p)) f b = content_at p.entries f b
node_block _ f b = None

abbrev pub node_label : Option Node → Option (List ℕ)
node_label (Some (LabelBytes bytes)) = bytes
node_label _ = None

-- The state that the nodes hold: it has nothing of what is out.
abbrev pub tree_state : Geometry → Nodes → State
tree_state g n = record {
  made = λ k. node_made (n (volume k.0 k.1));
  sealed = λ k. node_sealed (n (volume k.0 k.1));
  files = λ k. node_has_file (n (logical k.0 k.1)) k.2;
  blocks = λ k. node_block (n (stripe k.0 k.1 (stripe_of g k.2 k.3))) k.2 k.3;
  labels = λ k. node_label (n (label k.0 k.1));
}
