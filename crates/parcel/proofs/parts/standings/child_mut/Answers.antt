-- A child that is out is lent to nobody, so its row is as it was.
use borrow.Follows.Closed.{read_of}
use Rattle.std.proofs.Common.{◌∙◌, arith}
use Rattle.std.specs.Option.{ghost_name_of}
use Rattle.std.specs.Prelude.{None, Some}
use Rattle.std.specs.Vec.{with_item}
use Rattle.parcel.proofs.VolumeWritten.{item_kept}
use Rattle.parcel.proofs.parts.standings.child_mut.Goals as goal

pub returns : goal.returns
returns g c =
    let row = c.args.row.now in
    let i = c.args.i in
    let at = c.in_ok-get_mut.ensures.item.4 (omega arith) None in (
      λ j. read_of (ghost_name_of c.as_mut.result) (λ w. with_item row i (Some w)) (item_kept row i c.in_ok-get_mut.field-0.now at j),
      record { writes_back = tt; value = c.as_mut.ensures.value ∙ at },
    )
