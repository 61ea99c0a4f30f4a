-- What is written back as it was changes nothing, and the tree still fits with a volume that fits.
use Rattle.std.proofs.Common.{arith}
use mathlib.Core.HLevel.{is_prop→PathP}
use Rattle.std.proofs.Common.{◌≡◌, ℕ, ◌≤◌, length, Option, true≢false, refl, sym, ap, ◌∙◌}
use Rattle.std.proofs.Props.{props}
use Rattle.std.specs.Prelude.{None, Some, is_some, IfSome, slice_index_or, slice_set}
use Rattle.std.specs.Global.{Vec}
use Rattle.std.specs.Option.{option_and_then, option_map}
use Rattle.std.specs.Vec.{with_item}
use Rattle.std.proofs.lemmas.List.{set-get_or}
use Rattle.affinity.specs.declared.geometry.Geometry.{Geometry}
use Rattle.parcel.specs.Fits.{FitsVolume, FitsRoot}
use Rattle.parcel.specs.Lends.{aggregate_of_tree, volume_of_tree, with_aggregate, with_volume}
use Rattle.parcel.specs.declared.parts.Vol.{Vol}
use Rattle.parcel.specs.declared.parts.Aggr.{Aggr}
use Rattle.parcel.specs.declared.parts.Root.{Root}
use Rattle.parcel.proofs.Slots.{aggregate_child, volume_child}

-- ---- a child that is written back as it was changes nothing

pub item_kept : {X : Type 0} (xs : Vec (Option X)) (i : ℕ) (x : Option X) → x ≡ slice_index_or xs.items i None → with_item xs i x ≡ xs
item_kept xs i x at j =
    let same = ap (slice_set xs.items i) at ∙ set-get_or xs.items i None in
    record {
      ptr = xs.ptr;
      len = xs.len;
      cap = xs.cap;
      alloc = xs.alloc;
      items = same j;
      ok = is_prop→PathP (λ k. (xs.len ≡ length (same k)) × (xs.len ≤ xs.cap)) (λ k. hlevel props) (with_item xs i x).ok xs.ok j;
      small = xs.small;
    }

pub aggregate_kept : (o : Option Root) (a : ℕ) {x : Aggr} → aggregate_of_tree o a ≡ Some x → with_aggregate o a (Some x) ≡ o
aggregate_kept None a at = refl
aggregate_kept (Some r) a at = ap (λ xs. Some (record { aggregates = xs })) (item_kept r.aggregates a _ (sym at))

pub volume_kept : (o : Option Root) (a v : ℕ) {w : Vol} → volume_of_tree o a v ≡ Some w → with_volume o a v (Some w) ≡ o
volume_kept o a v {w} at = by (aggregate_of_tree o a) refl at
  where
    by : (x : Option Aggr) → aggregate_of_tree o a ≡ x → option_and_then (λ r. slice_index_or r.volumes.items v None) x ≡ Some w
        → with_aggregate o a (option_map (λ (r : Aggr). record { volumes = with_item r.volumes v (Some w) }) x) ≡ o
    by None is at = absurd (true≢false (sym (ap is_some at)))
    by (Some r) is at = ap (λ xs. with_aggregate o a (Some (record { volumes = xs }))) (item_kept r.volumes v _ (sym at)) ∙ aggregate_kept o a is

-- ---- the tree with a volume that was written

pub fits_with : (g : Geometry) (v : ℕ) (w : Vol) (a : ℕ) (o : Option Root) → IfSome o (FitsRoot g) → FitsVolume g w → IfSome (with_volume o a v (Some w)) (FitsRoot g)
fits_with g v w a None fits new = tt
fits_with g v w a (Some r) fits new = grind (arith, aggregate_child g a, volume_child g v)
