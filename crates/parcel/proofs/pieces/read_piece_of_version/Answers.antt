-- The bytes were read into the volume of the piece; if they are good, the state is the one before, with the piece taken in.
use Rattle.std.proofs.Common.{◌≡◌, ℕ, List, true≢false, None, refl, sym, ◌∙◌, ap, subst}
use Rattle.affinity.specs.declared.geometry.Geometry.{Geometry}
use Rattle.affinity.specs.Path.{volume, IsPath}
use Rattle.affinity.proofs.Elements.{all_bytes}
use Rattle.meaning.specs.State.{State, IsState}
use Rattle.image.specs.Pieces.{aggregate_of, volume_of, part_of, piece_of, part_piece, piece_part_size, with_part, with_piece}
use Rattle.image.proofs.PieceNumbers.{in_aggregates, in_volumes}
use Rattle.parcel.specs.Nodes.{child_nodes, root_nodes, tree_state}
use Rattle.parcel.specs.Pieces.{CanReadPiece}
use Rattle.parcel.proofs.ReadPieces.{has_volume, piece_is_there}
use Rattle.parcel.proofs.PiecesTaken.{part_state, read_good, read_taken, read_in}
use Rattle.parcel.proofs.VolumeWritten.{fits_with}
use Rattle.parcel.proofs.pieces.read_piece_of_version.Goals as goal

piece_there : (version : ℕ) (g : Geometry) (x : State) (n : ℕ) (bytes : List ℕ) {a v p : ℕ} → a ≡ aggregate_of g n → v ≡ volume_of g n → p ≡ part_of g n
    → part_piece version g (with_part version g x a v p bytes) a v p ≡ piece_of version g (with_piece version g x n bytes) n
piece_there version g x n bytes a v p i = part_piece version g (with_part version g x (a i) (v i) (p i) bytes) (a i) (v i) (p i)

pub read_part-requires-clause-fits : goal.read_part-requires-clause-fits
read_part-requires-clause-fits c =
    let at = c.place_of_piece-place.ensures in
    (piece_is_there _ c.t.view_is c.t.invariant c.requires.whole c.requires.piece at.aggregate at.volume c.in-Some.ensures.value).0

pub read_part-requires-clause-whole : goal.read_part-requires-clause-whole
read_part-requires-clause-whole c =
    let at = c.place_of_piece-place.ensures in
    (piece_is_there _ c.t.view_is c.t.invariant c.requires.whole c.requires.piece at.aggregate at.volume c.in-Some.ensures.value).1

pub unreachable-requires : goal.unreachable-requires
unreachable-requires c =
    let at = c.place_of_piece-place.ensures in
    (piece_is_there _ c.t.view_is c.t.invariant c.requires.whole c.requires.piece at.aggregate at.volume c.in-None.ensures.value).1

pub invariant_of-t : goal.invariant_of-t
invariant_of-t c =
    let at = c.place_of_piece-place.result in
    fits_with c.t.inside.geometry at.volume c.read_part.new.volume at.aggregate c.t.inside.root c.t.invariant c.read_part.ensures.fits

pub invariant_of-t-2 : goal.invariant_of-t-2
invariant_of-t-2 c =
    let at = c.place_of_piece-place.result in
    fits_with c.t.inside.geometry at.volume c.read_part.new.volume at.aggregate c.t.inside.root c.t.invariant c.read_part.ensures.fits

pub returns-then-not-read_part : goal.returns-then-not-read_part
returns-then-not-read_part c =
    let g = c.t.inside.geometry in
    let bytes : List ℕ = c.args.bytes.now in
    let at = c.place_of_piece-place in
    let can = subst (CanReadPiece c.args.n bytes) (sym c.t.view_is) c.requires in
    let x : State = tree_state g (child_nodes root_nodes c.t.inside.root) in
    let good = read_good at.result.aggregate at.result.volume c.t.inside.root c.in-Some.ensures.value c.read_part.ensures can.whole.state in
    let same = piece_there c.args.version g x c.args.n bytes at.ensures.aggregate at.ensures.volume at.ensures.part in
    rw (sym c.t.view_is) (record {
      good = (λ on. absurd (true≢false (sym on)), λ spelled. sym c.if-not-read_part.true ∙ good.1 (spelled ∙ sym same));
      taken = tt;
      whole = tt;
      geometry = refl;
    })

pub returns : goal.returns
returns c =
    let g = c.t.inside.geometry in
    let n : ℕ = c.args.n in
    let bytes : List ℕ = c.args.bytes.now in
    let at = c.place_of_piece-place in
    let a : ℕ = at.result.aggregate in
    let v : ℕ = at.result.volume in
    let can = subst (CanReadPiece n bytes) (sym c.t.view_is) c.requires in
    let x : State = tree_state g (child_nodes root_nodes c.t.inside.root) in
    let read = c.read_part.ensures in
    let found = c.in-Some.ensures.value in
    let good = read_good a v c.t.inside.root found read can.whole.state in
    let same = piece_there c.args.version g x n bytes at.ensures.aggregate at.ensures.volume at.ensures.part in
    let path : IsPath g (volume a v) = subst (λ q. IsPath g q) (λ i. volume (sym at.ensures.aggregate i) (sym at.ensures.volume i)) (in_aggregates g n can.piece, in_volumes g n) in
    let taken = read_taken a v c.t.inside.root found read c.t.invariant path c.if-not-read_part.false in
    let empty : at.result.part ≡ 0 → (f b : ℕ) → x.blocks (a, v, f, b) ≡ None =
    λ first f b. (λ i. x.blocks (at.ensures.aggregate i, at.ensures.volume i, f, b)) ∙ can.empty (sym at.ensures.part ∙ first) f b in
    let state = part_state c.args.version can.whole.state path c.in-Some.volume.now (has_volume g c.t.inside.root a v found) empty
    (can.size ∙ ap (piece_part_size g) (sym at.ensures.part), all_bytes bytes (λ i. (c.type_inv.bytes i).fits)) (good.0 c.if-not-read_part.false) in
    rw (sym c.t.view_is) (record {
      good = (λ on. good.0 c.if-not-read_part.false ∙ same, λ spelled. refl);
      taken = taken ∙ (λ i. with_part c.args.version g x (at.ensures.aggregate i) (at.ensures.volume i) (at.ensures.part i) bytes);
      whole = record { all_in = read_in a v c.t.inside.root found read c.t.invariant path can.whole.all_in; state = subst (λ (y : State). IsState g y) (sym taken) state };
      geometry = refl;
    })
