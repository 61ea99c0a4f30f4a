-- The Volume Logical goes back into its volume.
use borrow.Follows.Closed.{read_of}
use Rattle.std.proofs.Common.{◌≡◌, sym, ap, ◌∙◌}
use Rattle.std.specs.Option.{ghost_name_of, option_and_then, option_copied_mut, option_map}
use Rattle.std.specs.Prelude.{Some}
use Rattle.parcel.specs.Lends.{volume_of_tree, with_volume}
use Rattle.parcel.specs.declared.parts.Vol.{Vol}
use Rattle.parcel.proofs.VolumeWritten.{volume_kept}
use Rattle.parcel.proofs.parts.standings.logical_mut.Goals as goal

pub returns : goal.returns
returns c =
    let root = c.args.root.now in
    let a = c.args.a in
    let v = c.args.v in
    let is : volume_of_tree root a v ≡ Some c.in_ok-volume_mut.field-0.now = sym c.volume_mut.ensures.value ∙ ap option_copied_mut c.in_ok-volume_mut.was in (
      λ i. read_of (ghost_name_of c.as_mut.result) (λ l. with_volume root a v (option_map (λ (w : Vol). record w { logical = Some l }) (sym is i))) (volume_kept root a v is i),
      record { writes_back = tt; value = c.as_mut.ensures.value ∙ ap (option_and_then (λ (w : Vol). w.logical)) (sym is) },
    )
