-- Parcels show what the nodes at their path and below it hold, and the standing what the nodes above hold.
use Rattle.std.proofs.Common.{arith, ◌≡◌, ℕ, zero, suc, Bool, true, [], ◌∷◌, ◌++◌, Option, refl, sym, ap, ◌∙◌}
use Rattle.std.specs.Prelude.{◌==◌, None, Some, slice_index_or}
use Rattle.std.proofs.lemmas.Bool.{and_parts, eqb-true, eq-eqb, true≢false}
use Rattle.affinity.specs.declared.geometry.Geometry.{Geometry}
use Rattle.affinity.specs.Geometry.{stripe_of}
use Rattle.affinity.specs.Path.{Path, is_prefix, are_related}
use Rattle.meaning.specs.Facts.{Fact, OfMade, OfSealed, OfLabel, OfFile, OfBlock, path_in_volume}
use Rattle.meaning.specs.Subtrees.{AgreeOn}
use Rattle.stripe.specs.Stripe.{StripePart}
use Rattle.parcel.specs.Volume.{VolumeFacts, fact_of, facts_if, state_with, one_volume}
use Rattle.parcel.specs.Shown.{has_file, blocks_in, stripe_facts, logical_facts, label_facts, files_in, blocks_below, shown_label, volume_facts, child_facts, shown_state, Shows}
use Rattle.parcel.specs.Fits.{IsKindOf}
use Rattle.parcel.specs.Nodes.{Node, Nodes, child_nodes, stripe_nodes, label_nodes, logical_nodes, volume_nodes, parcels_nodes, node_made, node_sealed, node_has_file, node_files, node_block, node_label, tree_state}
use Rattle.parcel.specs.Nodes.Node.{Inner, VolumeFlags, Files, StripeBlocks, LabelBytes}
use Rattle.parcel.specs.Tree.{standing_at}
use Rattle.parcel.specs.declared.parts.Label.{Label}
use Rattle.parcel.specs.declared.parts.Logical.{Logical}
use Rattle.parcel.specs.declared.parts.Vol.{Vol}
use Rattle.parcel.specs.declared.parts.Parcels.{Parcels}
use Rattle.parcel.specs.declared.parts.Parcels.TheVariants as parcels
use Rattle.parcel.specs.declared.parts.Standing.{Standing}
use Rattle.parcel.proofs.TreeState.{node_value, tree_value}
use Rattle.affinity.proofs.Paths.{related_first, related_rest}
use Rattle.meaning.proofs.FileBits.{has_none}

-- The facts of a volume are what its nodes hold, at the paths (from the volume on) that the test R picks.
pub record HoldsAt (g : Geometry) (R : Path → Bool) (h : VolumeFacts) (n : Nodes) : Type 0 where
  pub all : (fact : Fact) → R (path_in_volume g fact) ≡ true → fact_of h fact ≡ node_value (n (path_in_volume g fact)) fact

module _ (g : Geometry) (R : Path → Bool) where
  pub holds_same : (h : VolumeFacts) (m n : Nodes) → ((q : Path) → m q ≡ n q) → HoldsAt g R h n → HoldsAt g R h m
  holds_same h m n e k = record { all = λ fact r. k.all fact r ∙ ap (λ o. node_value o fact) (sym (e (path_in_volume g fact))) }

  -- ---- by the parcels of a volume and above

  stripe_blocks : (x : Option StripePart) (f b : ℕ) → blocks_in x f b ≡ node_block (child_nodes stripe_nodes x []) f b
  stripe_blocks x f b = grind arith

  logical_files : (x : Option Logical) (f : ℕ) → files_in x f ≡ node_has_file (child_nodes logical_nodes x []) f
  logical_files x f = grind arith

  logical_blocks : (x : Option Logical) (f b : ℕ) → blocks_below g x f b ≡ node_block (child_nodes logical_nodes x (stripe_of g f b ∷ [])) f b
  logical_blocks None f b = refl
  logical_blocks (Some l) f b = stripe_blocks (slice_index_or l.stripes.items (stripe_of g f b) None) f b

  label_text : (x : Option Label) → shown_label x ≡ node_label (child_nodes label_nodes x [])
  label_text x = grind arith

  pub volume_holds : (x : Option Vol) → HoldsAt g R (child_facts (volume_facts g) x) (child_nodes volume_nodes x)
  volume_holds x = record { all = by x }
    where
      by : (x : Option Vol) (fact : Fact) → R (path_in_volume g fact) ≡ true
          → fact_of (child_facts (volume_facts g) x) fact ≡ node_value (child_nodes volume_nodes x (path_in_volume g fact)) fact
      by (Some w) (OfFile f) r = logical_files w.logical f
      by (Some w) (OfBlock f b) r = logical_blocks w.logical f b
      by (Some w) OfLabel r = label_text w.label
      by _ _ r = refl

-- ---- from a volume to the state

module _ (g : Geometry) (R : Path → Bool) (n : Nodes) where
  agree_from : (H : ℕ → ℕ → VolumeFacts) → ((a v : ℕ) (fact : Fact) → R (a ∷ v ∷ path_in_volume g fact) ≡ true → fact_of (H a v) fact ≡ node_value (n (a ∷ v ∷ path_in_volume g fact)) fact)
      → AgreeOn g R (state_with H) (tree_state g n)
  agree_from H each = grind (arith, tree_value)

  only_agree : (a v : ℕ) (below : Path → Bool) (h : VolumeFacts) → ((x y : ℕ) (q : Path) → R (x ∷ y ∷ q) ≡ true → (a ≡ x) × (v ≡ y) × (below q ≡ true))
      → HoldsAt g below h (λ q. n (a ∷ v ∷ q)) → AgreeOn g R (one_volume a v h) (tree_state g n)
  only_agree a v below h step k = grind (arith, agree_from)

  aggregate_agree : (a : ℕ) (H : ℕ → VolumeFacts) → ((x : ℕ) (q : Path) → R (x ∷ q) ≡ true → a ≡ x)
      → ((v : ℕ) → HoldsAt g (λ q. true) (H v) (λ q. n (a ∷ v ∷ q))) → AgreeOn g R (state_with (λ x y. facts_if (a == x) (H y))) (tree_state g n)
  aggregate_agree a H first each = agree_from _ (λ x y fact r.
      let e = first x (y ∷ path_in_volume g fact) r in
      ap (λ b. fact_of (facts_if b (H y)) fact) (eq-eqb a x e) ∙ (each y).all fact refl ∙ ap (λ i. node_value (n (i ∷ y ∷ path_in_volume g fact)) fact) e)

-- ---- the standing

-- The flags of the standing are those of the volume, if the test R picks its path (here the empty one).
pub record StandsAt (R : Path → Bool) (t : Standing) (n : Nodes) : Type 0 where
  made : R [] ≡ true → t.made ≡ node_made (n [])
  sealed : R [] ≡ true → t.sealed ≡ node_sealed (n [])

module _ (g : Geometry) (R : Path → Bool) (t : Standing) (n : Nodes) (stands : StandsAt R t n) where
  stripe_holds : (s : ℕ) (part : StripePart) → ((f : ℕ) → R (0 ∷ []) ≡ true → has_file t.files f ≡ node_has_file (n (0 ∷ [])) f)
      → ((i : ℕ) → R (0 ∷ i ∷ []) ≡ true → i ≡ s) → (R (1 ∷ []) ≡ true → ⊥) → n (0 ∷ s ∷ []) ≡ Some (StripeBlocks part) → HoldsAt g R (stripe_facts t part) n
  stripe_holds s part files one other at = record { all = by }
    where
      by : (fact : Fact) → R (path_in_volume g fact) ≡ true → fact_of (stripe_facts t part) fact ≡ node_value (n (path_in_volume g fact)) fact
      by OfMade r = stands.made r
      by OfSealed r = stands.sealed r
      by OfLabel r = absurd (other r)
      by (OfFile f) r = files f r
      by (OfBlock f b) r = ap (λ o. node_block o f b) (sym (ap (λ i. n (0 ∷ i ∷ [])) (one (stripe_of g f b) r) ∙ at))

  logical_holds : (l : Logical) → (R (1 ∷ []) ≡ true → ⊥) → ((q : Path) → n (0 ∷ q) ≡ logical_nodes l q) → HoldsAt g R (logical_facts g t l) n
  logical_holds l other at = record { all = by }
    where
      by : (fact : Fact) → R (path_in_volume g fact) ≡ true → fact_of (logical_facts g t l) fact ≡ node_value (n (path_in_volume g fact)) fact
      by OfMade r = stands.made r
      by OfSealed r = stands.sealed r
      by OfLabel r = absurd (other r)
      by (OfFile f) r = ap (λ o. node_has_file o f) (sym (at []))
      by (OfBlock f b) r = stripe_blocks g R (slice_index_or l.stripes.items (stripe_of g f b) None) f b ∙ ap (λ o. node_block o f b) (sym (at (stripe_of g f b ∷ [])))

  label_holds : (l : Label) → ((q : Path) → R (0 ∷ q) ≡ true → ⊥) → n (1 ∷ []) ≡ Some (LabelBytes l.bytes) → HoldsAt g R (label_facts t l) n
  label_holds l other at = record { all = by }
    where
      by : (fact : Fact) → R (path_in_volume g fact) ≡ true → fact_of (label_facts t l) fact ≡ node_value (n (path_in_volume g fact)) fact
      by OfMade r = stands.made r
      by OfSealed r = stands.sealed r
      by OfLabel r = ap node_label (sym at)
      by (OfFile f) r = absurd (other [] r)
      by (OfBlock f b) r = absurd (other (stripe_of g f b ∷ []) r)

bits_have : (o : Option Node) (f : ℕ) → has_file (node_files o) f ≡ node_has_file o f
bits_have None f = has_none f
bits_have (Some Inner) f = has_none f
bits_have (Some (VolumeFlags made sealed)) f = has_none f
bits_have (Some (Files bits)) f = refl
bits_have (Some (StripeBlocks p)) f = has_none f
bits_have (Some (LabelBytes b)) f = has_none f

begins_below : (a v x y : ℕ) (p q : Path) → is_prefix (a ∷ v ∷ p) (x ∷ y ∷ q) ≡ true → (a ≡ x) × (v ≡ y) × (is_prefix p q ≡ true)
begins_below a v x y p q r = grind arith

related_below : (a v x y : ℕ) (p q : Path) → are_related (a ∷ v ∷ p) (x ∷ y ∷ q) ≡ true → (a ≡ x) × (v ≡ y) × (are_related p q ≡ true)
related_below a v x y p q r = grind (arith, related_rest a x (v ∷ p) (y ∷ q) r)

no_marks : (p : Path) (x : ℕ) (t : Standing) (n : Nodes) → StandsAt (is_prefix (x ∷ p)) t n
no_marks p x t n = record { made = λ r. absurd (true≢false (sym r)); sealed = λ r. absurd (true≢false (sym r)) }

-- Parcels at a path show the subtree of the nodes there.
pub subtree_shown : (g : Geometry) (p : Path) (t : Standing) (l : Parcels) (n : Nodes) → IsKindOf p l → ((q : Path) → n (p ++ q) ≡ parcels_nodes l q)
    → AgreeOn g (is_prefix p) (shown_state g p t l) (tree_state g n)
subtree_shown g [] t (parcels.Root r) n kind at = grind arith
subtree_shown g (a ∷ []) t (parcels.Aggr r) n kind at = grind arith
subtree_shown g (a ∷ v ∷ []) t (parcels.Vol w) n kind at = grind (arith, only_agree)
subtree_shown g (a ∷ v ∷ zero ∷ []) t (parcels.Logical l) n kind at =
    only_agree g (is_prefix (a ∷ v ∷ 0 ∷ [])) n a v (is_prefix (0 ∷ [])) (logical_facts g t l) (λ x y q. begins_below a v x y (0 ∷ []) q)
    (logical_holds g (is_prefix (0 ∷ [])) t (λ q. n (a ∷ v ∷ q)) (no_marks [] 0 t _) l (λ r. true≢false (sym r)) at)
subtree_shown g (a ∷ v ∷ zero ∷ s ∷ []) t (parcels.Stripe p) n kind at =
    only_agree g (is_prefix (a ∷ v ∷ 0 ∷ s ∷ [])) n a v (is_prefix (0 ∷ s ∷ [])) (stripe_facts t p) (λ x y q. begins_below a v x y (0 ∷ s ∷ []) q)
    (stripe_holds g (is_prefix (0 ∷ s ∷ [])) t (λ q. n (a ∷ v ∷ q)) (no_marks (s ∷ []) 0 t _) s p (λ f r. absurd (true≢false (sym r)))
    (λ i r. sym (eqb-true s i (and_parts (s == i) true r).0)) (λ r. true≢false (sym r)) (at []))
subtree_shown g (a ∷ v ∷ suc zero ∷ []) t (parcels.Label l) n kind at =
    only_agree g (is_prefix (a ∷ v ∷ 1 ∷ [])) n a v (is_prefix (1 ∷ [])) (label_facts t l) (λ x y q. begins_below a v x y (1 ∷ []) q)
    (label_holds g (is_prefix (1 ∷ [])) t (λ q. n (a ∷ v ∷ q)) (no_marks [] 1 t _) l (λ q r. true≢false (sym r)) (at []))
subtree_shown g p t l n kind at = absurd kind

-- With the standing at the path, parcels show all that is related to it.
pub related_shown : (g : Geometry) (p : Path) (t : Standing) (l : Parcels) (n : Nodes) → IsKindOf p l → ((q : Path) → n (p ++ q) ≡ parcels_nodes l q)
    → t ≡ standing_at p n → Shows g p t l (tree_state g n)
related_shown g [] t (parcels.Root r) n kind at stands = grind arith
related_shown g (a ∷ []) t (parcels.Aggr r) n kind at stands = grind (arith, aggregate_agree)
related_shown g (a ∷ v ∷ []) t (parcels.Vol w) n kind at stands = grind (arith, only_agree, related_below)
related_shown g (a ∷ v ∷ zero ∷ []) t (parcels.Logical l) n kind at stands =
    only_agree g (are_related (a ∷ v ∷ 0 ∷ [])) n a v (are_related (0 ∷ [])) (logical_facts g t l) (λ x y q. related_below a v x y (0 ∷ []) q)
    (logical_holds g (are_related (0 ∷ [])) t (λ q. n (a ∷ v ∷ q)) (record { made = λ r. ap (λ z. z.made) stands; sealed = λ r. ap (λ z. z.sealed) stands }) l (λ r. true≢false (sym r)) at)
related_shown g (a ∷ v ∷ zero ∷ s ∷ []) t (parcels.Stripe p) n kind at stands =
    only_agree g (are_related (a ∷ v ∷ 0 ∷ s ∷ [])) n a v (are_related (0 ∷ s ∷ [])) (stripe_facts t p) (λ x y q. related_below a v x y (0 ∷ s ∷ []) q)
    (stripe_holds g (are_related (0 ∷ s ∷ [])) t (λ q. n (a ∷ v ∷ q)) (record { made = λ r. ap (λ z. z.made) stands; sealed = λ r. ap (λ z. z.sealed) stands }) s p
    (λ f r. ap (λ z. has_file z.files f) stands ∙ bits_have (n (a ∷ v ∷ 0 ∷ [])) f)
    (λ i r. sym (related_first s i [] [] (related_rest 0 0 (s ∷ []) (i ∷ []) r))) (λ r. true≢false (sym r)) (at []))
related_shown g (a ∷ v ∷ suc zero ∷ []) t (parcels.Label l) n kind at stands =
    only_agree g (are_related (a ∷ v ∷ 1 ∷ [])) n a v (are_related (1 ∷ [])) (label_facts t l) (λ x y q. related_below a v x y (1 ∷ []) q)
    (label_holds g (are_related (1 ∷ [])) t (λ q. n (a ∷ v ∷ q)) (record { made = λ r. ap (λ z. z.made) stands; sealed = λ r. ap (λ z. z.sealed) stands }) l (λ q r. true≢false (sym r)) (at []))
related_shown g p t l n kind at stands = absurd kind
