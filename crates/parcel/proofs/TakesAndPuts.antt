-- What is taken out of a slot of the tree is taken out of the tree, and what is put into a slot is put back.
use Rattle.std.proofs.Common.{◌≡◌, ℕ, ◌<◌, [], ◌∷◌, ◌++◌, length, Option, refl, sym, ap, subst, ◌∙◌, ⊎_elim, arith}
use Rattle.std.specs.Prelude.{None, Some, is_some, slice_index_or, IfSome, IsSomeAnd, MatchOption, Result, Ok, Err, IsErrAnd, MatchResult}
use Rattle.std.specs.Vec.{with_item}
use Rattle.std.proofs.lemmas.Bool.{or_left, true≢false}
use Rattle.std.proofs.lemmas.List.{append-nil}
use Rattle.affinity.specs.Path.{Path, aggregate, volume, logical, stripe, label, IsPath}
use Rattle.affinity.proofs.Paths.{begins}
use Rattle.affinity.specs.declared.geometry.Geometry.{Geometry}
use Rattle.stripe.specs.Stripe.{StripePart}
use Rattle.parcel.specs.Fits.{Fits, FitsStripe, FitsLogical, FitsVolume, FitsAggregate, FitsRoot, IsKindOf}
use Rattle.parcel.specs.Whole.{IsWholeLogical, IsWholeVolume, IsWholeAggregate, IsWholeRoot}
use Rattle.parcel.specs.Lends.{aggregate_of_tree, volume_of_tree, logical_of_tree, with_aggregate, with_volume, with_logical}
use Rattle.parcel.specs.Nodes.{Nodes, child_nodes, parcels_nodes, stripe_nodes, label_nodes, root_nodes, put_at}
use Rattle.parcel.specs.TakesAndPuts.{TakesWhole, TakesAt, Fills, PutsAt}
use Rattle.parcel.specs.Tree.{IsOut}
use Rattle.parcel.specs.declared.parts.Logical.{Logical}
use Rattle.parcel.specs.declared.parts.Vol.{Vol}
use Rattle.parcel.specs.declared.parts.Aggr.{Aggr}
use Rattle.parcel.specs.declared.parts.Root.{Root}
use Rattle.parcel.specs.declared.parts.Parcels.{Parcels}
use Rattle.parcel.specs.declared.parts.Parcels.TheVariants as parcels
use Rattle.parcel.proofs.Slots.{IsSlot, put_own, put_none, aggregate_child, volume_child, logical_child, label_child, stripe_child, child_slot, indexed_slot, tree_slot, root_slot, aggregate_slot, volume_slot, logical_slot}
use Rattle.parcel.proofs.Whole.{IsWholeOrGapped, leaf_or, logical_or, volume_or, aggregate_or, root_or}

-- What lies at path p is an X, as parcels `parcels_of x`.
pub record IsPart {X : Type 0} (g : Geometry) (p : Path) (IsFit IsWhole : X → Type 0) (parcels_of : X → Parcels) : Type 0 where
  pub kind : (x : X) → IsKindOf p (parcels_of x)
  pub fits : (x : X) → IsFit x → IsWhole x → Fits g p (parcels_of x)
  pub fit : (x : X) → Fits g p (parcels_of x) → IsFit x
  pub or : (s : Option X) → IfSome s IsFit → IsWholeOrGapped g p (λ x. parcels_nodes (parcels_of x)) IsWhole s

-- The tree has a slot for such a part.
abbrev pub IsPlace : {X : Type 0} → Geometry → Path → (X → Type 0) → (X → Type 0) → (X → Parcels) → Option Root → Option X → (Option X → Option Root) → Type 0
IsPlace g p IsFit IsWhole parcels_of tree s write = IsSlot g p (λ x. parcels_nodes (parcels_of x)) IsFit tree s write × IsPart g p IsFit IsWhole parcels_of

-- ---- the slot of each place

module _ (g : Geometry) (tree : Option Root) (fits : IfSome tree (FitsRoot g)) where
  pub serial_place : IsPlace g [] (FitsRoot g) IsWholeRoot parcels.Root tree tree (λ y. y)
  serial_place = (tree_slot g tree fits, record { kind = λ r. tt; fits = λ r fits whole. (fits, whole); fit = λ r h. h.0; or = root_or g })

  module _ {q : Path} (path : IsPath g q) (a : ℕ) where
    pub aggregate_place : {r : Root} {s : Option Aggr} → q ≡ aggregate a → Some r ≡ tree → s ≡ slice_index_or r.aggregates.items a s
        → IsPlace g (aggregate a) (FitsAggregate g) IsWholeAggregate parcels.Aggr tree s (λ y. Some (record { aggregates = with_item r.aggregates a y }))
    aggregate_place {r} at above read =
        let there = subst (IsPath g) at path in
        let node = root_slot g tree fits above in (
          indexed_slot r.aggregates.items a (child_slot node (aggregate_child g a) there) (omega (arith, there, node.fits.count)) read,
          record { kind = λ r. tt; fits = λ r fits whole. (fits, whole); fit = λ r h. h.0; or = aggregate_or g a there },
        )

    module _ (v : ℕ) where
      pub volume_within : {r : Aggr} → q ≡ volume a v → Some r ≡ aggregate_of_tree tree a → v < length r.volumes.items
      volume_within at above =
          let there = subst (IsPath g) at path in
          omega (arith, there.1, (aggregate_slot g tree fits a there.0 above).fits.count)

      pub volume_place : {r : Aggr} {s : Option Vol} → q ≡ volume a v → Some r ≡ aggregate_of_tree tree a → s ≡ slice_index_or r.volumes.items v s
          → IsPlace g (volume a v) (FitsVolume g) IsWholeVolume parcels.Vol tree s (λ y. with_aggregate tree a (Some (record { volumes = with_item r.volumes v y })))
      volume_place {r} at above read =
          let there = subst (IsPath g) at path in (
            indexed_slot r.volumes.items v (child_slot (aggregate_slot g tree fits a there.0 above) (volume_child g v) there.1) (volume_within at above) read,
            record { kind = λ w. tt; fits = λ w fits whole. (fits, whole); fit = λ w h. h.0; or = volume_or g a v there },
          )

      pub logical_place : {w : Vol} → q ≡ logical a v → Some w ≡ volume_of_tree tree a v
          → IsPlace g (logical a v) (FitsLogical g) IsWholeLogical parcels.Logical tree w.logical (λ y. with_volume tree a v (Some (record w { logical = y })))
      logical_place at above =
          let there = subst (IsPath g) at path in (
            child_slot (volume_slot g tree fits a v there above) (logical_child g) tt,
            record { kind = λ l. tt; fits = λ l fits whole. (fits, whole); fit = λ l h. h.0; or = logical_or g a v there },
          )

      pub label_place : {w : Vol} → q ≡ label a v → Some w ≡ volume_of_tree tree a v
          → IsPlace g (label a v) (λ l. Unit {0}) (λ l. Unit {0}) parcels.Label tree w.label (λ y. with_volume tree a v (Some (record w { label = y })))
      label_place at above =
          let there = subst (IsPath g) at path in (
            child_slot (volume_slot g tree fits a v there above) (label_child g) tt,
            record { kind = λ l. tt; fits = λ l fits whole. tt; fit = λ l h. h; or = λ o fits. leaf_or g label_nodes (label a v) there o },
          )

      pub stripe_within : {l : Logical} (s : ℕ) → q ≡ stripe a v s → Some l ≡ logical_of_tree tree a v → s < length l.stripes.items
      stripe_within s at above =
          let there = subst (IsPath g) at path in
          omega (arith, there.2, (logical_slot g tree fits a v (there.0, there.1) above).fits.count)

      pub stripe_place : {l : Logical} (s : ℕ) {x : Option StripePart} → q ≡ stripe a v s → Some l ≡ logical_of_tree tree a v → x ≡ slice_index_or l.stripes.items s x
          → IsPlace g (stripe a v s) (FitsStripe g s) (λ p. Unit {0}) parcels.Stripe tree x (λ y. with_logical tree a v (Some (record l { stripes = with_item l.stripes s y })))
      stripe_place {l} s at above read =
          let there = subst (IsPath g) at path in (
            indexed_slot l.stripes.items s (child_slot (logical_slot g tree fits a v (there.0, there.1) above) (stripe_child g s) there.2) (stripe_within s at above) read,
            record { kind = λ p. tt; fits = λ p fits whole. fits; fit = λ p h. h; or = λ o fits. leaf_or g stripe_nodes (stripe a v s) there o },
          )

-- ---- what is done to a slot is done to the tree

out_here : (p : Path) (n : Nodes) → IsOut p n → n p ≡ None
out_here [] n out = out
out_here (x ∷ p) n out = out.0

module _ {X : Type 0} {g : Geometry} {p : Path} {IsFit IsWhole : X → Type 0} {parcels_of : X → Parcels} {tree : Option Root} {s : Option X}
    {write : Option X → Option Root} (place : IsPlace g p IsFit IsWhole parcels_of tree s write) where
  slot : IsSlot g p (λ x. parcels_nodes (parcels_of x)) IsFit tree s write
  slot = place.0

  part : IsPart g p IsFit IsWhole parcels_of
  part = place.1

  tree_same : (q : Path) → child_nodes root_nodes (write s) q ≡ child_nodes root_nodes tree q
  tree_same q = slot.put s q ∙ (λ i. put_at p (λ r. sym (slot.at r) i) (child_nodes root_nodes tree) q) ∙ put_own p (child_nodes root_nodes tree) q

  taken_here : (got : Option X) {new : Option X} (result : Option Parcels) → TakesWhole IsWhole got s new
      → MatchOption got (result ≡ None) (λ x. IsSomeAnd result (λ r. r ≡ parcels_of x)) → TakesAt g p result tree (write new)
  taken_here None result h is = rw is (rw h.1 (record {
    nodes = (⊎_elim (λ whole. absurd (h.0 whole)) (λ gap. (p ++ gap.0, gap.1, or_left _ _ (begins p gap.0), slot.at gap.0 ∙ gap.2)) (part.or s slot.fits), tree_same);
    fits = slot.put_fits s slot.fits;
  }))
  taken_here (Some x) None h is = absurd is
  taken_here (Some x) (Some r) h is = rw is (rw h.2 (record {
    nodes = record {
      fits = part.fits x (subst (λ o. IfSome o IsFit) h.1 slot.fits) h.0;
      parcels = λ q. slot.at q ∙ ap (λ o. child_nodes (λ x. parcels_nodes (parcels_of x)) o q) h.1;
      rest = λ q. slot.put None q ∙ put_none p (child_nodes root_nodes tree) q;
    };
    fits = slot.put_fits None tt;
  }))

  pub taken : {new : Option X} {q : Path} (got : Option X) (result : Option Parcels) → q ≡ p → TakesWhole IsWhole got s new
      → MatchOption got (result ≡ None) (λ x. IsSomeAnd result (λ r. r ≡ parcels_of x)) → TakesAt g q result tree (write new)
  taken got result at h mapped = rw at (taken_here got result h mapped)

  is_empty : (o : Option X) → child_nodes (λ x. parcels_nodes (parcels_of x)) o [] ≡ None → o ≡ None
  is_empty None none = refl
  is_empty (Some x) none = absurd (true≢false (sym (slot.own x) ∙ ap is_some none))

  put_here : (x : X) (done : Result (Unit {0}) X) {new : Option X} (result : Result (Unit {0}) Parcels) → Fills x done s new
      → MatchResult done (λ t. result ≡ Ok t) (λ back. IsErrAnd result (λ r. r ≡ parcels_of back)) → Fits g p (parcels_of x) → PutsAt g p (parcels_of x) result tree (write new)
  put_here x (Ok t) result h is fits = grind arith
  put_here x (Err back) (Ok t) h is fits = absurd is
  put_here x (Err back) (Err r) h is fits = rw h.2 (record {
    nodes = record {
      back = is ∙ ap parcels_of h.0;
      why = λ out kind. h.1 (is_empty s (sym (slot.at []) ∙ ap (child_nodes root_nodes tree) (append-nil p) ∙ out_here p (child_nodes root_nodes tree) out));
      same = tree_same;
    };
    fits = slot.put_fits s slot.fits;
  })

  pub put : {x : X} {new : Option X} {q : Path} {parcels : Parcels} (done : Result (Unit {0}) X) (result : Result (Unit {0}) Parcels) → q ≡ p → parcels ≡ parcels_of x → Fills x done s new
      → MatchResult done (λ t. result ≡ Ok t) (λ back. IsErrAnd result (λ r. r ≡ parcels_of back)) → (IsKindOf q parcels → Fits g q parcels) → PutsAt g q parcels result tree (write new)
  put {x} {parcels = l} done result at is h mapped fits = grind (arith, put_here)
