-- The volume of the piece is in, and the state has of it what the volume has.
use Rattle.std.proofs.Common.{sym, subst, ◌∙◌}
use Rattle.image.specs.Pieces.{part_piece}
use Rattle.image.specs.declared.layout.TheConstants.{VERSION}
use Rattle.parcel.specs.Tree.{IsWholeTree, state_in}
use Rattle.parcel.proofs.ReadPieces.{piece_is_there, has_volume}
use Rattle.parcel.proofs.pieces.write_piece.Goals as goal

pub write_part-requires-clause-fits : goal.write_part-requires-clause-fits
write_part-requires-clause-fits c =
    let at = c.place_of_piece-place.ensures in
    (piece_is_there _ c.t.view_is c.t.invariant c.requires.whole c.requires.piece at.aggregate at.volume c.in-Some.ensures).0

pub write_part-requires-clause-whole : goal.write_part-requires-clause-whole
write_part-requires-clause-whole c =
    let at = c.place_of_piece-place.ensures in
    (piece_is_there _ c.t.view_is c.t.invariant c.requires.whole c.requires.piece at.aggregate at.volume c.in-Some.ensures).1

pub unreachable-requires : goal.unreachable-requires
unreachable-requires c =
    let at = c.place_of_piece-place.ensures in
    (piece_is_there _ c.t.view_is c.t.invariant c.requires.whole c.requires.piece at.aggregate at.volume c.in-None.ensures).1

pub returns : goal.returns
returns c =
    let g = c.t.inside.geometry in
    let at = c.place_of_piece-place in
    let whole = subst IsWholeTree (sym c.t.view_is) c.requires.whole in
    rw (sym c.t.view_is)
    (c.write_part.ensures _ at.result.aggregate at.result.volume whole.state (has_volume g c.t.inside.root at.result.aggregate at.result.volume c.in-Some.ensures)
    ∙ (λ i. part_piece VERSION g (state_in (record { geometry = g; root = c.t.inside.root })) (at.ensures.aggregate i) (at.ensures.volume i) (at.ensures.part i)))
