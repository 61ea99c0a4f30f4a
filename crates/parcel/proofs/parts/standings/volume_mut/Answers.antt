-- The row of volumes goes back into its aggregate.
use borrow.Follows.Closed.{read_of}
use Rattle.std.proofs.Common.{◌≡◌, sym, ap, ◌∙◌}
use Rattle.std.specs.Option.{ghost_name_of, option_and_then, option_copied_mut, option_map}
use Rattle.std.specs.Prelude.{None, Some, slice_index_or}
use Rattle.std.specs.Vec.{with_item}
use Rattle.parcel.specs.Lends.{aggregate_of_tree, with_aggregate}
use Rattle.parcel.specs.declared.parts.Aggr.{Aggr}
use Rattle.parcel.proofs.VolumeWritten.{aggregate_kept}
use Rattle.parcel.proofs.parts.standings.volume_mut.Goals as goal

pub returns : goal.returns
returns c =
    let root = c.args.root.now in
    let a = c.args.a in
    let v = c.args.v in
    let is : aggregate_of_tree root a ≡ Some c.in_ok-aggregate_mut.field-0.now = sym c.aggregate_mut.ensures.value ∙ ap option_copied_mut c.in_ok-aggregate_mut.was in (
      λ i. read_of (ghost_name_of c.child_mut.result)
          (λ w. with_aggregate root a (option_map (λ (r : Aggr). record { volumes = with_item r.volumes v (Some w) }) (sym is i))) (aggregate_kept root a is i),
      record { writes_back = tt; value = c.child_mut.ensures.value ∙ ap (option_and_then (λ (r : Aggr). slice_index_or r.volumes.items v None)) (sym is) },
    )
