-- What was taken out of the tree was lent, and what was put back was restored.
use Rattle.std.proofs.Common.{◌≡◌, zero, suc, true, List, [], ◌∷◌, ◌++◌, refl, sym, ap, subst, ◌∙◌, ⊎_elim}
use Rattle.std.specs.Prelude.{Option, None, Some, is_some, slice_index_or, Result, Ok, Err, MatchResult, IfNone}
use Rattle.std.proofs.lemmas.Bool.{cond-true, eq-eqb, or_cases}
use Rattle.std.proofs.lemmas.List.{append-nil}
use Rattle.affinity.specs.declared.geometry.Geometry.{Geometry}
use Rattle.affinity.specs.Path.{Path, is_prefix, IsPath}
use Rattle.affinity.proofs.Paths.{begins_split}
use Rattle.parcel.specs.Fits.{Fits, IsKindOf}
use Rattle.parcel.specs.Nodes.{Node, Nodes, child_nodes, children_nodes, leaf, stripe_nodes, label_nodes, logical_nodes, volume_nodes, aggregate_nodes, root_nodes, parcels_nodes, put_at, PutsBack}
use Rattle.parcel.specs.TakesAndPuts.{TakesParcels, Puts}
use Rattle.parcel.specs.Tree.{LendsAt, RestoresAt, standing_at}
use Rattle.parcel.specs.declared.parts.Vol.{Vol}
use Rattle.parcel.specs.declared.parts.Root.{Root}
use Rattle.parcel.specs.declared.parts.Parcels.{Parcels}
use Rattle.parcel.specs.declared.parts.Parcels.TheVariants as parcels
use Rattle.parcel.specs.declared.parts.Standing.{Standing}
use Rattle.parcel.proofs.Whole.{whole_is_in}
use Rattle.parcel.proofs.Shows.{subtree_shown, related_shown}

pub kind_of : (g : Geometry) (p : Path) (l : Parcels) → Fits g p l → IsKindOf p l
kind_of g [] (parcels.Root r) h = tt
kind_of g (a ∷ []) (parcels.Aggr r) h = tt
kind_of g (a ∷ v ∷ []) (parcels.Vol w) h = tt
kind_of g (a ∷ v ∷ zero ∷ []) (parcels.Logical l) h = tt
kind_of g (a ∷ v ∷ zero ∷ s ∷ []) (parcels.Stripe p) h = tt
kind_of g (a ∷ v ∷ suc zero ∷ []) (parcels.Label l) h = tt
kind_of g p l h = absurd h

-- ---- the nodes above one that is in are in

abbrev IsClosed : Nodes → Type 0
IsClosed n = (q r : Path) → is_some (n (q ++ r)) ≡ true → is_some (n q) ≡ true

child_closed : {X : Type 0} (nodes : X → Nodes) → ((x : X) → IsClosed (nodes x)) → (o : Option X) → IsClosed (child_nodes nodes o)
child_closed nodes h None q r there = there
child_closed nodes h (Some x) q r there = h x q r there

row_closed : {X : Type 0} (nodes : X → Nodes) → ((x : X) → IsClosed (nodes x)) → (own : Node) (xs : List (Option X)) → IsClosed (children_nodes nodes own xs)
row_closed nodes h own xs [] r there = refl
row_closed nodes h own xs (i ∷ q) r there = child_closed nodes h (slice_index_or xs i None) q r there

leaf_closed : (own : Node) → IsClosed (leaf own)
leaf_closed own [] r there = refl
leaf_closed own (i ∷ q) r there = there

volume_closed : (w : Vol) → IsClosed (volume_nodes w)
volume_closed w [] r there = refl
volume_closed w (zero ∷ q) r there = child_closed logical_nodes (λ l. row_closed stripe_nodes (λ p. leaf_closed _) _ l.stripes.items) w.logical q r there
volume_closed w (suc zero ∷ q) r there = child_closed label_nodes (λ l. leaf_closed _) w.label q r there
volume_closed w (suc (suc i) ∷ q) r there = there

tree_closed : (o : Option Root) → IsClosed (child_nodes root_nodes o)
tree_closed = child_closed root_nodes (λ r. row_closed aggregate_nodes (λ a. row_closed volume_nodes volume_closed _ a.volumes.items) _ r.aggregates.items)

-- ---- what was taken out was lent, and what was put back was restored

pub lent_from_taken : {g : Geometry} {p : Path} {t : Standing} {l : Parcels} (o : Option Root) {new : Nodes} → IsPath g p → TakesParcels g p l (child_nodes root_nodes o) new
    → t ≡ standing_at p (child_nodes root_nodes o) → LendsAt g p t l (child_nodes root_nodes o) new
lent_from_taken {g} {p} {t} {l} o path h stands = record {
  all_in = λ q there related. ⊎_elim (at_or_below q there) (above q) (or_cases (is_prefix p q) (is_prefix q p) related);
  fits = h.fits;
  parcels = h.parcels;
  standing = stands;
  shows = related_shown g p t l old (kind_of g p l h.fits) h.parcels stands;
  rest = h.rest;
}
  where
    old : Nodes
    old = child_nodes root_nodes o

    -- what was taken is whole, and it is what was in from p on
    in_below : (q : Path) → IsPath g (p ++ q) → is_some (old (p ++ q)) ≡ true
    in_below q there = ap is_some (h.parcels q) ∙ whole_is_in g p l h.fits q there

    here : is_some (old p) ≡ true
    here = subst (λ r. is_some (old r) ≡ true) (append-nil p) (in_below [] (subst (IsPath g) (sym (append-nil p)) path))

    at_or_below : (q : Path) → IsPath g q → is_prefix p q ≡ true → is_some (old q) ≡ true
    at_or_below q there below =
        let rest = begins_split p q below in
        subst (λ r. is_some (old r) ≡ true) (sym rest.1) (in_below rest.0 (subst (IsPath g) rest.1 there))

    -- p is in, so each node above it is
    above : (q : Path) → is_prefix q p ≡ true → is_some (old q) ≡ true
    above q begins =
        let rest = begins_split q p begins in
        tree_closed o q rest.0 (subst (λ r. is_some (old r) ≡ true) rest.1 here)

pub put_there : (p q : Path) (part old : Nodes) → put_at p part old (p ++ q) ≡ part q
put_there [] q part old = refl
put_there (x ∷ p) q part old = cond-true _ _ _ (eq-eqb x x refl) ∙ put_there p q part (λ r. old (x ∷ r))

pub restored_from_put : (g : Geometry) (p : Path) (l : Parcels) (old new : Nodes) → Puts p l old new → RestoresAt g p l old new
restored_from_put g p l old new h = record {
  out = h.out;
  kind = h.kind;
  nodes = h.nodes;
  subtree = λ t. subtree_shown g p t l new h.kind (λ q. h.nodes (p ++ q) ∙ put_there p q (parcels_nodes l) old);
}

pub restored_is_in : (g : Geometry) (p : Path) (l : Parcels) (old : Nodes) {new : Nodes} → PutsBack p (parcels_nodes l) old new → Fits g p l
    → (q : Path) → IsPath g (p ++ q) → is_some (new (p ++ q)) ≡ true
restored_is_in g p l old h fits q path = ap is_some (h (p ++ q) ∙ put_there p q (parcels_nodes l) old) ∙ whole_is_in g p l fits q path

-- ---- from one clause about a result to another

pub none_either_way : {X P : Type 0} (o : Option X) → P → IfNone o P
none_either_way None h = h
none_either_way (Some x) h = tt

pub map_result : {X E : Type 0} {P P' : X → Type 0} {Q Q' : E → Type 0} (r : Result X E) → ((x : X) → P x → P' x) → ((e : E) → Q e → Q' e) → MatchResult r P Q → MatchResult r P' Q'
map_result (Ok x) ok err h = ok x h
map_result (Err e) ok err h = err e h
