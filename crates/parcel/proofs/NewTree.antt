-- Where nothing is made and nothing is out, all fits, all is whole, and the state is empty.
use Rattle.std.proofs.Common.{arith, ◌≡◌, ℕ, zero, suc, ◌<◌, ◌^◌, false, List, [], ◌∷◌, Option, refl, sym, ap, subst, ◌∙◌}
use Rattle.std.specs.Prelude.{None, Some, IfSome, slice_index_or}
use Rattle.std.specs.List.{AllByRecursion}
use Rattle.std.proofs.lemmas.Nat.{pow_pos}
use Rattle.affinity.specs.declared.geometry.Geometry.{Geometry}
use Rattle.affinity.specs.Geometry.{stripe_of}
use Rattle.meaning.specs.State.{empty}
use Rattle.meaning.proofs.FileBits.{has_none}
use Rattle.stripe.specs.Stripe.{StripePart, content_at}
use Rattle.parcel.specs.Shown.{has_file}
use Rattle.parcel.specs.Fits.{EachFits, FitsStripe, FitsLogical, FitsVolume, FitsAggregate, FitsRoot}
use Rattle.parcel.specs.Whole.{IsWholeChild, IsWholeLogical, IsWholeVolume, IsWholeAggregate, IsWholeRoot}
use Rattle.parcel.specs.NewTree.{IsNewLogical, IsNewVolume, IsNewAggregate, IsNewRoot}
use Rattle.parcel.specs.Nodes.{Nodes, child_nodes, stripe_nodes, label_nodes, logical_nodes, volume_nodes, aggregate_nodes, root_nodes, node_made, node_sealed, node_has_file, node_block, node_label, tree_state}
use Rattle.parcel.specs.Tree.{IsIn}
use Rattle.parcel.specs.declared.parts.Label.{Label}
use Rattle.parcel.specs.declared.parts.Logical.{Logical}
use Rattle.parcel.specs.declared.parts.Vol.{Vol}
use Rattle.parcel.specs.declared.parts.Aggr.{Aggr}
use Rattle.parcel.specs.declared.parts.Root.{Root}
use Rattle.parcel.specs.declared.parts.Parcels.TheVariants as parcels
use Rattle.parcel.proofs.Whole.{whole_is_in}

-- ---- lists of children, each of which is new

each_new : {X : Type 0} (P : X → Type 0) (Fits : ℕ → X → Type 0) (IsWhole : X → Type 0) → ((i : ℕ) (x : X) → P x → Fits i x × IsWhole x)
    → (i : ℕ) (xs : List (Option X)) → AllByRecursion (IsWholeChild P) xs → EachFits Fits i xs × AllByRecursion (IsWholeChild IsWhole) xs
each_new P Fits IsWhole new i [] h = (tt, tt)
each_new P Fits IsWhole new i (None ∷ xs) h = absurd h.0
each_new P Fits IsWhole new i (Some x ∷ xs) h =
    let here = new i x h.0 in
    let rest = each_new P Fits IsWhole new (suc i) xs h.1 in
    ((here.0, rest.0), (here.1, rest.1))

new_at : {X : Type 0} (P : X → Type 0) (xs : List (Option X)) (i : ℕ) → AllByRecursion (IsWholeChild P) xs → IfSome (slice_index_or xs i None) P
new_at P [] i h = tt
new_at P (None ∷ xs) i h = absurd h.0
new_at P (Some x ∷ xs) zero h = h.0
new_at P (Some x ∷ xs) (suc i) h = new_at P xs i h.1

-- ---- level by level

module _ (g : Geometry) where
  abbrev IsNewStripe : StripePart → Type 0
  IsNewStripe p = p ≡ record { quota = g.quota; entries = [] }

  no_content : (p : StripePart) (f b : ℕ) → IsNewStripe p → content_at p.entries f b ≡ None
  no_content p f b h = ap (λ z. content_at z.entries f b) h

  stripe_new : (s : ℕ) (p : StripePart) → IsNewStripe p → FitsStripe g s p × Unit {0}
  stripe_new s p h = grind arith

  logical_new : (x : Option Logical) → IsWholeChild (IsNewLogical g) x → IfSome x (FitsLogical g) × IsWholeChild IsWholeLogical x
  logical_new None h = absurd h
  logical_new (Some l) h =
      let each = each_new IsNewStripe (FitsStripe g) (λ p. Unit {0}) stripe_new 0 l.stripes.items h.2 in
      (record { files = subst (λ n. n < 2 ^ g.files) (sym h.0) (pow_pos g.files); count = h.1; stripes = each.0 }, each.1)

  volume_new : (w : Vol) → IsNewVolume g w → FitsVolume g w × IsWholeVolume w
  volume_new w h = grind (arith, logical_new w.logical h.logical)

  aggregate_new : (r : Aggr) → IsNewAggregate g r → FitsAggregate g r × IsWholeAggregate r
  aggregate_new r h =
      let each = each_new (IsNewVolume g) (λ v. FitsVolume g) IsWholeVolume (λ v. volume_new) 0 r.volumes.items h.1 in
      (record { count = h.0; volumes = each.0 }, each.1)

  pub root_new : (r : Root) → IsNewRoot g r → FitsRoot g r × IsWholeRoot r
  root_new r h =
      let each = each_new (IsNewAggregate g) (λ a. FitsAggregate g) IsWholeAggregate (λ a. aggregate_new) 0 r.aggregates.items h.1 in
      (record { count = h.0; aggregates = each.0 }, each.1)

  pub new_all_in : (r : Root) → IsNewRoot g r → IsIn g [] (child_nodes root_nodes (Some r))
  new_all_in r h q path related = whole_is_in g [] (parcels.Root r) (root_new r h) q path

  -- ---- the state

  stripe_empty : (x : Option StripePart) (f b : ℕ) → IfSome x IsNewStripe → node_block (child_nodes stripe_nodes x []) f b ≡ None
  stripe_empty None f b h = refl
  stripe_empty (Some p) f b h = no_content p f b h

  files_empty : (x : Option Logical) (f : ℕ) → IsWholeChild (IsNewLogical g) x → node_has_file (child_nodes logical_nodes x []) f ≡ false
  files_empty None f h = refl
  files_empty (Some l) f h = ap (λ n. has_file n f) h.0 ∙ has_none f

  blocks_empty : (x : Option Logical) (s f b : ℕ) → IsWholeChild (IsNewLogical g) x → node_block (child_nodes logical_nodes x (s ∷ [])) f b ≡ None
  blocks_empty None s f b h = refl
  blocks_empty (Some l) s f b h = stripe_empty (slice_index_or l.stripes.items s None) f b (new_at IsNewStripe l.stripes.items s h.2)

  text_empty : (x : Option Label) → IsWholeChild (λ l. l.bytes ≡ None) x → node_label (child_nodes label_nodes x []) ≡ None
  text_empty x h = grind arith

  -- the nodes of a volume and below it hold nothing
  record IsEmptyAt (n : Nodes) : Type 0 where
    made : node_made (n []) ≡ false
    sealed : node_sealed (n []) ≡ false
    files : (f : ℕ) → node_has_file (n (0 ∷ [])) f ≡ false
    blocks : (s f b : ℕ) → node_block (n (0 ∷ s ∷ [])) f b ≡ None
    label : node_label (n (1 ∷ [])) ≡ None

  volume_empty : (x : Option Vol) → IfSome x (IsNewVolume g) → IsEmptyAt (child_nodes volume_nodes x)
  volume_empty None h = record { made = refl; sealed = refl; files = λ f. refl; blocks = λ s f b. refl; label = refl }
  volume_empty (Some w) h = record {
    made = h.made;
    sealed = h.sealed;
    files = λ f. files_empty w.logical f h.logical;
    blocks = λ s f b. blocks_empty w.logical s f b h.logical;
    label = text_empty w.label h.label;
  }

  aggregate_empty : (x : Option Aggr) (v : ℕ) → IfSome x (IsNewAggregate g) → IsEmptyAt (λ q. child_nodes aggregate_nodes x (v ∷ q))
  aggregate_empty None v h = record { made = refl; sealed = refl; files = λ f. refl; blocks = λ s f b. refl; label = refl }
  aggregate_empty (Some r) v h = volume_empty (slice_index_or r.volumes.items v None) (new_at (IsNewVolume g) r.volumes.items v h.1)

  root_empty : (r : Root) → IsNewRoot g r → (a v : ℕ) → IsEmptyAt (λ q. root_nodes r (a ∷ v ∷ q))
  root_empty r h a v = aggregate_empty (slice_index_or r.aggregates.items a None) v (new_at (IsNewAggregate g) r.aggregates.items a h.1)

  pub new_state : (r : Root) → IsNewRoot g r → tree_state g (child_nodes root_nodes (Some r)) ≡ empty
  new_state r h i = record {
    made = λ k. (root_empty r h k.0 k.1).made i;
    sealed = λ k. (root_empty r h k.0 k.1).sealed i;
    files = λ k. (root_empty r h k.0 k.1).files k.2 i;
    blocks = λ k. (root_empty r h k.0 k.1).blocks (stripe_of g k.2 k.3) k.2 k.3 i;
    labels = λ k. (root_empty r h k.0 k.1).label i;
  }
