-- A slot of the tree holds a node, or `None` where it is out: what it is at its path, and what another value of it is to the tree.
use Rattle.std.proofs.Common.{◌≡◌, ℕ, ◌<◌, Bool, true, false, List, [], ◌∷◌, ◌++◌, length, Option, refl, sym, ap, subst, ◌∙◌, append_assoc, arith}
use Rattle.std.specs.Prelude.{◌==◌, ◌&&◌, None, Some, is_some, IfSome, slice_index_or, if◌then◌else◌}
use Rattle.std.specs.Option.{option_and_then, option_map}
use Rattle.std.specs.Vec.{with_item}
use Rattle.std.proofs.lemmas.Bool.{eqb-true, true≢false}
use Rattle.std.proofs.lemmas.List.{append-nil, get_or_read, length-set}
use Rattle.affinity.specs.Path.{Path, is_prefix, aggregate, volume, logical, IsPath}
use Rattle.affinity.specs.declared.geometry.Geometry.{Geometry}
use Rattle.parcel.specs.Fits.{FitsStripe, FitsLogical, FitsVolume, FitsAggregate, FitsRoot}
use Rattle.parcel.specs.Lends.{aggregate_of_tree, volume_of_tree, logical_of_tree, with_aggregate, with_volume, with_logical}
use Rattle.parcel.specs.Nodes.{Nodes, child_nodes, stripe_nodes, label_nodes, logical_nodes, volume_nodes, aggregate_nodes, root_nodes, put_at, PutsBack}
use Rattle.parcel.specs.Nodes.Node.{Inner, Files}
use Rattle.parcel.specs.Tree.{IsOut, path_above}
use Rattle.parcel.specs.declared.parts.Logical.{Logical}
use Rattle.parcel.specs.declared.parts.Vol.{Vol}
use Rattle.parcel.specs.declared.parts.Aggr.{Aggr}
use Rattle.parcel.specs.declared.parts.Root.{Root}
use Rattle.parcel.proofs.ChildRows.{each_set, fits_in_place, row_put}

-- ---- nodes that are put at a path

-- what is there already
pub put_own : (p : Path) (old : Nodes) (q : Path) → put_at p (λ r. old (p ++ r)) old q ≡ old q
put_own [] old q = refl
put_own (x ∷ p) old [] = refl
put_own (x ∷ p) old (y ∷ q) = by (x == y) refl (put_own p (λ r. old (y ∷ r)) q)
  where
    by : (b : Bool) → (x == y) ≡ b → put_at p (λ r. old (y ∷ (p ++ r))) (λ r. old (y ∷ r)) q ≡ old (y ∷ q)
        → (if b then put_at p (λ r. old (x ∷ (p ++ r))) (λ r. old (y ∷ r)) q else old (y ∷ q)) ≡ old (y ∷ q)
    by true e rest = ap (λ z. put_at p (λ r. old (z ∷ (p ++ r))) (λ r. old (y ∷ r)) q) (eqb-true x y e) ∙ rest
    by false e rest = refl

-- nothing
pub put_none : (p : Path) (old : Nodes) (q : Path) → put_at p (λ r. None) old q ≡ (if is_prefix p q then None else old q)
put_none [] old q = refl
put_none (x ∷ p) old [] = refl
put_none (x ∷ p) old (y ∷ q) = by (x == y) (put_none p (λ r. old (y ∷ r)) q)
  where
    by : (b : Bool) → put_at p (λ r. None) (λ r. old (y ∷ r)) q ≡ (if is_prefix p q then None else old (y ∷ q))
        → (if b then put_at p (λ r. None) (λ r. old (y ∷ r)) q else old (y ∷ q)) ≡ (if b && is_prefix p q then None else old (y ∷ q))
    by true rest = rest
    by false rest = refl

-- what is there with another child
put_child : (p : Path) (i : ℕ) (part old : Nodes) (q : Path) → put_at p (put_at (i ∷ []) part (λ r. old (p ++ r))) old q ≡ put_at (p ++ i ∷ []) part old q
put_child [] i part old q = refl
put_child (x ∷ p) i part old [] = refl
put_child (x ∷ p) i part old (y ∷ q) = by (x == y) refl (put_child p i part (λ r. old (y ∷ r)) q)
  where
    by : (b : Bool) → (x == y) ≡ b → put_at p (put_at (i ∷ []) part (λ r. old (y ∷ (p ++ r)))) (λ r. old (y ∷ r)) q ≡ put_at (p ++ i ∷ []) part (λ r. old (y ∷ r)) q
        → (if b then put_at p (put_at (i ∷ []) part (λ r. old (x ∷ (p ++ r)))) (λ r. old (y ∷ r)) q else old (y ∷ q))
        ≡ (if b then put_at (p ++ i ∷ []) part (λ r. old (y ∷ r)) q else old (y ∷ q))
    by true e rest = ap (λ z. put_at p (put_at (i ∷ []) part (λ r. old (z ∷ (p ++ r)))) (λ r. old (y ∷ r)) q) (eqb-true x y e) ∙ rest
    by false e rest = refl

-- ---- the children of a node

-- A node has a child at number i, if that is one of its numbers (`Within`): `get` reads the child's slot, and `set` writes it.
pub record IsChild {X Z : Type 0} (i : ℕ) (Within : Type 0) (nodes : X → Nodes) (IsFit : X → Type 0) (below : Z → Nodes) (IsFitBelow : Z → Type 0)
    (get : X → Option Z) (set : X → Option Z → X) : Type 0 where
  pub own : (z : Z) → is_some (below z []) ≡ true
  pub at : (x : X) (q : Path) → nodes x (i ∷ q) ≡ child_nodes below (get x) q
  pub put : (x : X) (y : Option Z) → Within → IsFit x → PutsBack (i ∷ []) (child_nodes below y) (nodes x) (nodes (set x y))
  pub fits : (x : X) → IsFit x → IfSome (get x) IsFitBelow
  pub put_fits : (x : X) (y : Option Z) → IsFit x → IfSome y IsFitBelow → IsFit (set x y)

module _ (g : Geometry) where
  pub aggregate_child : (a : ℕ) → IsChild a (a < g.aggregates) root_nodes (FitsRoot g) aggregate_nodes (FitsAggregate g)
      (λ r. slice_index_or r.aggregates.items a None) (λ r y. record { aggregates = with_item r.aggregates a y })
  aggregate_child a = record {
    own = λ r. refl;
    at = λ r q. refl;
    put = λ r y below fits. row_put aggregate_nodes Inner r.aggregates.items a y (omega (arith, below, fits.count));
    fits = λ r fits. fits_in_place (λ a. FitsAggregate g) r.aggregates.items fits.aggregates a _ refl;
    put_fits = λ r y fits new. record { count = length-set _ _ _ ∙ fits.count; aggregates = each_set (λ a. FitsAggregate g) 0 a r.aggregates.items y fits.aggregates new };
  }

  pub volume_child : (v : ℕ) → IsChild v (v < g.volumes) aggregate_nodes (FitsAggregate g) volume_nodes (FitsVolume g)
      (λ r. slice_index_or r.volumes.items v None) (λ r y. record { volumes = with_item r.volumes v y })
  volume_child v = record {
    own = λ r. refl;
    at = λ r q. refl;
    put = λ r y below fits. row_put volume_nodes Inner r.volumes.items v y (omega (arith, below, fits.count));
    fits = λ r fits. fits_in_place (λ v. FitsVolume g) r.volumes.items fits.volumes v _ refl;
    put_fits = λ r y fits new. record { count = length-set _ _ _ ∙ fits.count; volumes = each_set (λ v. FitsVolume g) 0 v r.volumes.items y fits.volumes new };
  }

  pub stripe_child : (s : ℕ) → IsChild s (s < g.stripes) logical_nodes (FitsLogical g) stripe_nodes (FitsStripe g s)
      (λ l. slice_index_or l.stripes.items s None) (λ l y. record l { stripes = with_item l.stripes s y })
  stripe_child s = record {
    own = λ l. refl;
    at = λ l q. refl;
    put = λ l y below fits. row_put stripe_nodes (Files l.files) l.stripes.items s y (omega (arith, below, fits.count));
    fits = λ l fits. fits_in_place (FitsStripe g) l.stripes.items fits.stripes s _ refl;
    put_fits = λ l y fits new. record {
      files = fits.files;
      count = length-set _ _ _ ∙ fits.count;
      stripes = each_set (FitsStripe g) 0 s l.stripes.items y fits.stripes (subst (λ n. IfSome y (FitsStripe g n)) (omega arith) new);
    };
  }

  pub logical_child : IsChild 0 (Unit {0}) volume_nodes (FitsVolume g) logical_nodes (FitsLogical g) (λ w. w.logical) (λ w y. record w { logical = y })
  logical_child = grind arith

  pub label_child : IsChild 1 (Unit {0}) volume_nodes (FitsVolume g) label_nodes (λ l. Unit {0}) (λ w. w.label) (λ w y. record w { label = y })
  label_child = grind arith

-- ---- slots

-- The tree has a slot at path p, with s in it; `write` gives the tree with another value there.
pub record IsSlot {X : Type 0} (g : Geometry) (p : Path) (nodes : X → Nodes) (IsFit : X → Type 0) (tree : Option Root) (s : Option X)
    (write : Option X → Option Root) : Type 0 where
  pub own : (x : X) → is_some (nodes x []) ≡ true
  pub at : (q : Path) → child_nodes root_nodes tree (p ++ q) ≡ child_nodes nodes s q
  pub out : s ≡ None → IsOut p (child_nodes root_nodes tree)
  pub put : (y : Option X) → PutsBack p (child_nodes nodes y) (child_nodes root_nodes tree) (child_nodes root_nodes (write y))
  pub fits : IfSome s IsFit
  pub put_fits : (y : Option X) → IfSome y IsFit → IfSome (write y) (FitsRoot g)

above_child : (x : ℕ) (p : Path) (i : ℕ) → path_above (x ∷ (p ++ i ∷ [])) ≡ x ∷ p
above_child x [] i = refl
above_child x (y ∷ p) i = ap (λ q. x ∷ q) (above_child y p i)

child_out : (p : Path) (i : ℕ) (n : Nodes) → is_some (n p) ≡ true → n (p ++ i ∷ []) ≡ None → IsOut (p ++ i ∷ []) n
child_out [] i n above out = (out, above)
child_out (x ∷ p) i n above out = (out, ap (λ q. is_some (n q)) (above_child x p i) ∙ above)

-- the slot of a child of a node that is in
pub child_slot : {X Z : Type 0} {g : Geometry} {p : Path} {nodes : X → Nodes} {IsFit : X → Type 0} {tree : Option Root} {write : Option X → Option Root} {x : X}
    {i : ℕ} {Within : Type 0} {below : Z → Nodes} {IsFitBelow : Z → Type 0} {get : X → Option Z} {set : X → Option Z → X}
    → IsSlot g p nodes IsFit tree (Some x) write → IsChild i Within nodes IsFit below IsFitBelow get set → Within
    → IsSlot g (p ++ i ∷ []) below IsFitBelow tree (get x) (λ y. write (Some (set x y)))
child_slot {p = p} {tree = tree} {x = x} {i = i} {below = below} {set = set} slot child within = record {
  own = child.own;
  at = λ q. ap (child_nodes root_nodes tree) (append_assoc p (i ∷ []) q) ∙ slot.at (i ∷ q) ∙ child.at x q;
  out = λ none. child_out p i (child_nodes root_nodes tree)
      (ap is_some (ap (child_nodes root_nodes tree) (sym (append-nil p)) ∙ slot.at []) ∙ slot.own x)
      (slot.at (i ∷ []) ∙ child.at x [] ∙ ap (λ z. child_nodes below z []) none);
  put = λ y q.
      slot.put (Some (set x y)) q
      ∙ (λ j. put_at p (λ r. child.put x y within slot.fits r j) (child_nodes root_nodes tree) q)
      ∙ (λ j. put_at p (put_at (i ∷ []) (child_nodes below y) (λ r. sym (slot.at r) j)) (child_nodes root_nodes tree) q)
      ∙ put_child p i (child_nodes below y) (child_nodes root_nodes tree) q;
  fits = child.fits x slot.fits;
  put_fits = λ y new. slot.put_fits (Some (set x y)) (child.put_fits x y slot.fits new);
}

-- the same, where it is reached from the slot of that node
node_slot : {X Z : Type 0} {g : Geometry} {p : Path} {nodes : X → Nodes} {IsFit : X → Type 0} {tree : Option Root} {s : Option X} {write : Option X → Option Root} {x : X} {z : Z}
    {i : ℕ} {Within : Type 0} {below : Z → Nodes} {IsFitBelow : Z → Type 0} {get : X → Option Z} {set : X → Option Z → X}
    → IsSlot g p nodes IsFit tree (Some x) write → IsChild i Within nodes IsFit below IsFitBelow get set → Within → Some x ≡ s → Some z ≡ option_and_then get s
    → IsSlot g (p ++ i ∷ []) below IsFitBelow tree (Some z) (λ y. write (option_map (λ x. set x y) s))
node_slot {g = g} {p = p} {tree = tree} {s = s} {write = write} {i = i} {below = below} {IsFitBelow = IsFitBelow} {get = get} {set = set} slot child within is at =
    grind (arith, child_slot slot child within)

-- the slot at an index of a row
pub indexed_slot : {X : Type 0} {g : Geometry} {p : Path} {nodes : X → Nodes} {IsFit : X → Type 0} {tree : Option Root} (xs : List (Option X)) (i : ℕ) {s : Option X}
    {write : Option X → Option Root} → IsSlot g p nodes IsFit tree (slice_index_or xs i None) write → i < length xs → s ≡ slice_index_or xs i s → IsSlot g p nodes IsFit tree s write
indexed_slot {g = g} {p = p} {nodes = nodes} {IsFit = IsFit} {tree = tree} xs i {s} {write} slot below at = grind (arith, get_or_read xs i s below at None)

then_some : {X Z : Type 0} (get : X → Option Z) (s : Option X) {z : Z} → Some z ≡ option_and_then get s → (x : X) × (Some x ≡ s)
then_some get None is = absurd (true≢false (ap is_some is))
then_some get (Some x) is = (x, refl)

module _ (g : Geometry) (tree : Option Root) (fits : IfSome tree (FitsRoot g)) where
  pub tree_slot : IsSlot g [] root_nodes (FitsRoot g) tree tree (λ y. y)
  tree_slot = record { own = λ r. refl; at = λ q. refl; out = λ none. ap (λ o. child_nodes root_nodes o []) none; put = λ y q. refl; fits = fits; put_fits = λ y new. new }

  pub root_slot : {r : Root} → Some r ≡ tree → IsSlot g [] root_nodes (FitsRoot g) tree (Some r) (λ y. y)
  root_slot is = subst (λ o. IsSlot g [] root_nodes (FitsRoot g) tree o (λ y. y)) (sym is) tree_slot

  pub aggregate_slot : (a : ℕ) {x : Aggr} → IsPath g (aggregate a) → Some x ≡ aggregate_of_tree tree a
      → IsSlot g (aggregate a) aggregate_nodes (FitsAggregate g) tree (Some x) (with_aggregate tree a)
  aggregate_slot a path is = let above = then_some _ tree is in node_slot (root_slot above.1) (aggregate_child g a) path above.1 is

  pub volume_slot : (a v : ℕ) {w : Vol} → IsPath g (volume a v) → Some w ≡ volume_of_tree tree a v
      → IsSlot g (volume a v) volume_nodes (FitsVolume g) tree (Some w) (with_volume tree a v)
  volume_slot a v path is =
      let above = then_some _ (aggregate_of_tree tree a) is in
      node_slot (aggregate_slot a path.0 above.1) (volume_child g v) path.1 above.1 is

  pub logical_slot : (a v : ℕ) {l : Logical} → IsPath g (logical a v) → Some l ≡ logical_of_tree tree a v
      → IsSlot g (logical a v) logical_nodes (FitsLogical g) tree (Some l) (with_logical tree a v)
  logical_slot a v path is =
      let above = then_some _ (volume_of_tree tree a v) is in
      node_slot (volume_slot a v path above.1) (logical_child g) tt above.1 is
