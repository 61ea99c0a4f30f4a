-- What is whole has each path below it in; what is not has some path that is out.
use Rattle.std.proofs.Common.{◌≡◌, ℕ, zero, suc, ◌+◌, ◌<◌, true, List, [], ◌∷◌, ◌++◌, length, Option, refl, subst, ◌⊎◌, ⊎_elim, inl, inr, arith}
use Rattle.std.specs.Prelude.{None, Some, is_some, IfSome, slice_index_or}
use Rattle.std.specs.List.{AllByRecursion}
use Rattle.affinity.specs.Path.{Path, aggregate, volume, logical, stripe, label, IsPath}
use Rattle.affinity.specs.declared.geometry.Geometry.{Geometry}
use Rattle.affinity.proofs.Preorder.{aggregate_there, volume_there}
use Rattle.stripe.specs.Stripe.{StripePart}
use Rattle.parcel.specs.Fits.{EachFits, Fits, FitsLogical, FitsVolume, FitsAggregate, FitsRoot, FitsStripe}
use Rattle.parcel.specs.Whole.{IsWholeChild, IsWholeLogical, IsWholeVolume, IsWholeAggregate, IsWholeRoot}
use Rattle.parcel.specs.Nodes.{Nodes, child_nodes, parcels_nodes, stripe_nodes, label_nodes, logical_nodes, volume_nodes, aggregate_nodes, root_nodes}
use Rattle.parcel.specs.declared.parts.Label.{Label}
use Rattle.parcel.specs.declared.parts.Logical.{Logical}
use Rattle.parcel.specs.declared.parts.Vol.{Vol}
use Rattle.parcel.specs.declared.parts.Aggr.{Aggr}
use Rattle.parcel.specs.declared.parts.Root.{Root}
use Rattle.parcel.specs.declared.parts.Parcels.{Parcels}
use Rattle.parcel.specs.declared.parts.Parcels.TheVariants as parcels
use Rattle.parcel.proofs.ChildRows.{child_whole_at, fits_in_place}

module _ (g : Geometry) where
  -- ---- whole: each path is in

  -- The nodes at a path have each path below in.
  abbrev IsAllIn : Path → Nodes → Type 0
  IsAllIn p n = (q : Path) → IsPath g (p ++ q) → is_some (n q) ≡ true

  stripe_in : (a v s : ℕ) (x : Option StripePart) → IsWholeChild (λ p. Unit {0}) x → IsAllIn (a ∷ v ∷ 0 ∷ s ∷ []) (child_nodes stripe_nodes x)
  stripe_in a v s None h q path = absurd h
  stripe_in a v s (Some p) h [] path = refl
  stripe_in a v s (Some p) h (i ∷ q) path = absurd path

  label_in : (a v : ℕ) (x : Option Label) → IsWholeChild (λ l. Unit {0}) x → IsAllIn (a ∷ v ∷ 1 ∷ []) (child_nodes label_nodes x)
  label_in a v None h q path = absurd h
  label_in a v (Some p) h [] path = refl
  label_in a v (Some p) h (i ∷ q) path = absurd path

  third_below : (a v s : ℕ) (q : Path) → IsPath g (a ∷ v ∷ 0 ∷ s ∷ q) → s < g.stripes
  third_below a v s [] h = h.2
  third_below a v s (x ∷ q) h = absurd h

  logical_in : (a v : ℕ) (x : Option Logical) → IfSome x (FitsLogical g) → IsWholeChild IsWholeLogical x → IsAllIn (a ∷ v ∷ 0 ∷ []) (child_nodes logical_nodes x)
  logical_in a v None f h q path = absurd h
  logical_in a v (Some l) f h [] path = refl
  logical_in a v (Some l) f h (s ∷ q) path =
      stripe_in a v s (slice_index_or l.stripes.items s None) (child_whole_at (λ p. Unit {0}) l.stripes.items s (omega (arith, f.count, third_below a v s q path)) h) q path

  volume_in : (a v : ℕ) (x : Option Vol) → IfSome x (FitsVolume g) → IsWholeChild IsWholeVolume x → IsAllIn (a ∷ v ∷ []) (child_nodes volume_nodes x)
  volume_in a v None f h q path = absurd h
  volume_in a v (Some w) f h [] path = refl
  volume_in a v (Some w) f h (zero ∷ q) path = logical_in a v w.logical f.logical h.0 q path
  volume_in a v (Some w) f h (suc zero ∷ q) path = label_in a v w.label h.1 q path
  volume_in a v (Some w) f h (suc (suc i) ∷ q) path = absurd path

  aggregate_in : (a : ℕ) (x : Option Aggr) → IfSome x (FitsAggregate g) → IsWholeChild IsWholeAggregate x → IsAllIn (a ∷ []) (child_nodes aggregate_nodes x)
  aggregate_in a None f h q path = absurd h
  aggregate_in a (Some r) f h [] path = refl
  aggregate_in a (Some r) f h (v ∷ q) path =
      volume_in a v (slice_index_or r.volumes.items v None) (fits_in_place (λ v. FitsVolume g) r.volumes.items f.volumes v _ refl)
      (child_whole_at IsWholeVolume r.volumes.items v (omega (arith, f.count, (volume_there g a v q path).1)) h) q path

  root_in : (x : Option Root) → IfSome x (FitsRoot g) → IsWholeChild IsWholeRoot x → IsAllIn [] (child_nodes root_nodes x)
  root_in None f h q path = absurd h
  root_in (Some r) f h [] path = refl
  root_in (Some r) f h (a ∷ q) path =
      aggregate_in a (slice_index_or r.aggregates.items a None) (fits_in_place (λ a. FitsAggregate g) r.aggregates.items f.aggregates a _ refl)
      (child_whole_at IsWholeAggregate r.aggregates.items a (omega (arith, f.count, aggregate_there g a q path)) h) q path

  -- Parcels that fit are whole: each path from theirs on is in.
  pub whole_is_in : (p : Path) (l : Parcels) → Fits g p l → IsAllIn p (parcels_nodes l)
  whole_is_in [] (parcels.Root r) h q path = root_in (Some r) h.0 h.1 q path
  whole_is_in (a ∷ []) (parcels.Aggr r) h q path = aggregate_in a (Some r) h.0 h.1 q path
  whole_is_in (a ∷ v ∷ []) (parcels.Vol w) h q path = volume_in a v (Some w) h.0 h.1 q path
  whole_is_in (a ∷ v ∷ zero ∷ []) (parcels.Logical l) h q path = logical_in a v (Some l) h.0 h.1 q path
  whole_is_in (a ∷ v ∷ zero ∷ s ∷ []) (parcels.Stripe p) h q path = stripe_in a v s (Some p) tt q path
  whole_is_in (a ∷ v ∷ suc zero ∷ []) (parcels.Label l) h q path = label_in a v (Some l) tt q path
  whole_is_in p l h q path = absurd h

  -- ---- whole, or some path is out

  -- Some path of the nodes at a path is out.
  abbrev pub IsGapped : Path → Nodes → Type 0
  IsGapped p n = (q : Path) × IsPath g (p ++ q) × (n q ≡ None)

  module _ {X : Type 0} (p : Path) (nodes : X → Nodes) (Fits : ℕ → X → Type 0) (IsWhole : X → Type 0) (n : ℕ)
      (each : (k : ℕ) (x : Option X) → k < n → IfSome x (Fits k) → IsWholeChild IsWhole x ⊎ IsGapped (p ++ k ∷ []) (child_nodes nodes x)) where
    -- a child of the row has a gap, where the row's first child is number i
    abbrev HasGapFrom : ℕ → List (Option X) → Type 0
    HasGapFrom i xs = (k : ℕ) × IsGapped (p ++ (i + k) ∷ []) (child_nodes nodes (slice_index_or xs k None))

    row_from : (i : ℕ) (xs : List (Option X)) → i + length xs ≡ n → EachFits Fits i xs → AllByRecursion (IsWholeChild IsWhole) xs ⊎ HasGapFrom i xs
    row_from i [] count fits = inl tt
    row_from i (x ∷ xs) count fits = ⊎_elim
        (λ whole. ⊎_elim (λ rest. inl (whole, rest))
        (λ gap. inr (suc gap.0, subst (λ k. IsGapped (p ++ k ∷ []) (child_nodes nodes (slice_index_or xs gap.0 None))) (omega arith) gap.1))
        (row_from (suc i) xs (omega (arith, count)) fits.1))
        (λ gap. inr (0, subst (λ k. IsGapped (p ++ k ∷ []) (child_nodes nodes x)) (omega arith) gap))
        (each i x (omega (arith, count)) fits.0)

    row_or : (xs : List (Option X)) → length xs ≡ n → EachFits Fits 0 xs
        → AllByRecursion (IsWholeChild IsWhole) xs ⊎ ((k : ℕ) × IsGapped (p ++ k ∷ []) (child_nodes nodes (slice_index_or xs k None)))
    row_or xs count fits = grind (arith, row_from 0 xs (omega (arith, count)) fits)

  -- A child is whole, or some path of it is out.
  abbrev pub IsWholeOrGapped : {X : Type 0} → Path → (X → Nodes) → (X → Type 0) → Option X → Type 0
  IsWholeOrGapped p nodes IsWhole x = IsWholeChild IsWhole x ⊎ IsGapped p (child_nodes nodes x)

  -- a child that has nothing below
  pub leaf_or : {X : Type 0} (nodes : X → Nodes) (p : Path) → IsPath g (p ++ []) → (x : Option X) → IsWholeOrGapped p nodes (λ x. Unit {0}) x
  leaf_or nodes p path None = inr ([], path, refl)
  leaf_or nodes p path (Some x) = inl tt

  pub logical_or : (a v : ℕ) → IsPath g (logical a v) → (x : Option Logical) → IfSome x (FitsLogical g) → IsWholeOrGapped (logical a v) logical_nodes IsWholeLogical x
  logical_or a v path None f = inr ([], path, refl)
  logical_or a v path (Some l) f = ⊎_elim inl (λ gap. inr (gap.0 ∷ gap.1.0, gap.1.1, gap.1.2))
      (row_or (logical a v) stripe_nodes (FitsStripe g) (λ p. Unit {0}) g.stripes (λ s x below fits. leaf_or stripe_nodes (stripe a v s) (path.0, path.1, below) x) l.stripes.items f.count f.stripes)

  pub volume_or : (a v : ℕ) → IsPath g (volume a v) → (x : Option Vol) → IfSome x (FitsVolume g) → IsWholeOrGapped (volume a v) volume_nodes IsWholeVolume x
  volume_or a v path None f = inr ([], path, refl)
  volume_or a v path (Some w) f = ⊎_elim
      (λ logical. ⊎_elim (λ label. inl (logical, label)) (λ gap. inr (1 ∷ gap.0, gap.1, gap.2)) (leaf_or label_nodes (label a v) path w.label))
      (λ gap. inr (0 ∷ gap.0, gap.1, gap.2))
      (logical_or a v path w.logical f.logical)

  pub aggregate_or : (a : ℕ) → IsPath g (aggregate a) → (x : Option Aggr) → IfSome x (FitsAggregate g) → IsWholeOrGapped (aggregate a) aggregate_nodes IsWholeAggregate x
  aggregate_or a path None f = inr ([], path, refl)
  aggregate_or a path (Some r) f = ⊎_elim inl (λ gap. inr (gap.0 ∷ gap.1.0, gap.1.1, gap.1.2))
      (row_or (aggregate a) volume_nodes (λ v. FitsVolume g) IsWholeVolume g.volumes (λ v x below fits. volume_or a v (path, below) x fits) r.volumes.items f.count f.volumes)

  pub root_or : (x : Option Root) → IfSome x (FitsRoot g) → IsWholeOrGapped [] root_nodes IsWholeRoot x
  root_or None f = inr ([], tt, refl)
  root_or (Some r) f = ⊎_elim inl (λ gap. inr (gap.0 ∷ gap.1.0, gap.1.1, gap.1.2))
      (row_or [] aggregate_nodes (λ a. FitsAggregate g) IsWholeAggregate g.aggregates (λ a x below fits. aggregate_or a below x fits) r.aggregates.items f.count f.aggregates)
