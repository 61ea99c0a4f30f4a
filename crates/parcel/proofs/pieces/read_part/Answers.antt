-- The part is the volume itself or one of its stripes.
use Rattle.std.proofs.Common.{◌≡◌, ℕ, suc, ◌-◌, ◌*◌, sym, ap, subst, arith, ◌∙◌, Some}
use Rattle.affinity.proofs.Elements.{all_bytes}
use Rattle.device_map.specs.declared.layout.TheConstants.{BLOCK_ENTRY_SIZE}
use Rattle.protocol.specs.Messages.{AreSizedBytes}
use Rattle.image.specs.Pieces.{piece_part_size}
use Rattle.parcel.specs.Pieces.{IsPieceOfVolumeRead}
use Rattle.parcel.proofs.ReadPieces.{stripe_is_read, volume_is_read}
use Rattle.parcel.proofs.pieces.read_part.Goals as goal

pub returns-then-part-eq0 : goal.returns-then-part-eq0
returns-then-part-eq0 c =
    grind (arith, volume_is_read c.requires.fits c.requires.whole c.read_volume.ensures.good c.read_volume.ensures.taken c.read_volume.ensures.kept)

pub returns : goal.returns
returns c =
    let g = c.args.g.now in
    let s : ℕ = c.args.part - 1 in
    let next : suc s ≡ c.args.part = omega (arith, c.if-part-eq0.false) in
    let are : AreSizedBytes (g.quota * BLOCK_ENTRY_SIZE) c.args.bytes.now = (c.requires.size ∙ sym (ap (piece_part_size g) next), all_bytes c.args.bytes.now (λ i. (c.type_inv.bytes i).fits)) in
    subst (λ (part : ℕ). IsPieceOfVolumeRead c.args.version g part c.args.bytes.now c.read_stripe.result c.args.volume.now (record c.args.volume.now { logical = Some c.read_stripe.new.logical })) next
    (stripe_is_read c.in-Some.is c.requires.whole c.read_stripe.ensures.fits c.read_stripe.ensures.whole c.read_stripe.ensures.files c.read_stripe.ensures.piece c.read_stripe.ensures.blocks are)
