-- A dirty piece is encoded at its place, the others stay, and all pieces with the head make up the image.
use Rattle.std.proofs.Common.{◌≡◌, ◌+◌, ◌-◌, ◌<◌, ◌≤◌, ℕ, List, length, rules, refl, sym, ◌∙◌, ap, subst, arith}
use Rattle.std.proofs.lemmas.Grind.{common_steps}
use Rattle.image.specs.Image.{image_of}
use Rattle.image.proofs.Measures.{length-piece, state_is_measured}
use Rattle.meaning.specs.State.{IsState}
use Rattle.image.specs.Pieces.{piece_count, piece_of}
use Rattle.checkpoint.specs.Extents.{AreCleanExtentsOf}
use Rattle.image.proofs.JoinedPieces.{piece_inside, whole_image}
use Rattle.image.specs.declared.layout.TheConstants.{VERSION}
use Rattle.checkpoint.proofs.Snapshots.{all_put, headed, none_behind, pass_one, put_one}
use Rattle.affinity.specs.declared.geometry.Geometry.{Geometry}
use Rattle.device_map.specs.Layout.{image_size}
use Rattle.parcel.specs.Tree.{state_in}
use Rattle.checkpoint.proofs.snapshot.update_snapshot.Goals as goal
use Rattle.checkpoint.proofs.snapshot.update_snapshot.Goals.{then-is_dirty, else-is_dirty}

pub write_head-requires : goal.write_head-requires
write_head-requires c = omega (arith, c.requires.size, whole_image c.args.tree.now.geometry)

pub loop-n-init : goal.loop-n-init
loop-n-init c = record {
  place = refl;
  size = refl;
  rest = refl;
  so_far = λ right. none_behind c.geometry-g.result (state_in c.args.tree.now) c.write_head.new.bytes c.write_head.ensures.head;
}

pub overflow_add-end : goal.overflow_add-end
overflow_add-end c =
    let same : c.geometry-g.result ≡ c.args.tree.now.geometry = c.geometry-g.ensures in
    let few : c.loop-n.n < piece_count c.geometry-g.result = omega (arith, ap piece_count same, c.loop-n-test.true, c.requires.dirty) in
    let inside = piece_inside c.geometry-g.result c.loop-n.n few in
    let size : image_size c.geometry-g.result ≡ image_size c.args.tree.now.geometry = ap image_size same in
    omega (arith, inside, size, c.requires.size, c.loop-n.invariant.place, c.loop-n.invariant.size, c.write_head.ensures.size, c.piece_size.ensures.size)

pub slice_bounds-write_piece-end : goal.slice_bounds-write_piece-end
slice_bounds-write_piece-end c =
    let same : c.geometry-g.result ≡ c.args.tree.now.geometry = c.geometry-g.ensures in
    let few : c.loop-n.n < piece_count c.geometry-g.result = omega (arith, ap piece_count same, c.loop-n-test.true, c.requires.dirty) in
    let within : c.loop-n.at + c.piece_size.result ≤ length c.loop-n.bytes =
    omega (arith, piece_inside c.geometry-g.result c.loop-n.n few, ap image_size same) in
    search rules

pub loop-n-preserved : goal.loop-n-preserved
loop-n-preserved c =
    let x = state_in c.args.tree.now in
    let first : List ℕ = c.write_head.new.bytes in
    let same : c.geometry-g.result ≡ c.args.tree.now.geometry = c.geometry-g.ensures in
    let few : c.loop-n.n < piece_count c.geometry-g.result = omega (arith, ap piece_count same, c.loop-n-test.true, c.requires.dirty) in
    let size : length first ≡ image_size c.geometry-g.result = c.write_head.ensures.size ∙ c.requires.size ∙ sym (ap image_size same) in
    elim c.if-is_dirty.branch [
      | then-is_dirty w ↦
          let over : c.loop-n.at + c.piece_size.result - c.loop-n.at ≡ c.piece_size.result = omega arith in
          let piece : w.write_piece.new.out ≡ piece_of VERSION c.geometry-g.result x c.loop-n.n = w.write_piece.ensures ∙ ap (λ (g : Geometry). piece_of VERSION g x c.loop-n.n) (sym same) in
          let is_state = subst (λ (g : Geometry). IsState g x) (sym same) c.requires.whole.state in
          let long : length w.write_piece.new.out ≡ c.piece_size.result = ap length piece
          ∙ length-piece 2 c.geometry-g.result x (state_is_measured c.geometry-g.result x is_state) c.loop-n.n ∙ sym c.piece_size.ensures.size in
          rw (w.at-is, w.bytes-is)
          (put_one c.geometry-g.result x c.args.dirty.now first c.loop-n.n c.loop-n.at c.piece_size.result c.loop-n.bytes size few
          c.piece_size.ensures.size c.loop-n.invariant (c.loop-n.at + c.piece_size.result - c.loop-n.at) w.write_piece.new.out over long piece)
      | else-is_dirty w ↦
          rw (w.at-is, w.bytes-is)
          (pass_one c.geometry-g.result x c.args.dirty.now first c.loop-n.n c.loop-n.at c.piece_size.result c.loop-n.bytes size few c.piece_size.ensures.size c.loop-n.invariant
          (grind (arith, common_steps)))
    ]

pub returns-clause-image : goal.returns-clause-image
returns-clause-image c = λ right.
    let x = state_in c.args.tree.now in
    let same : c.geometry-g.result ≡ c.args.tree.now.geometry = c.geometry-g.ensures in
    let all : c.loop-n.n ≡ piece_count c.geometry-g.result = omega (arith, ap piece_count same, c.loop-n-test.false, c.loop-n.auto.n-end, c.requires.dirty) in
    let size : length c.loop-n.bytes ≡ image_size c.geometry-g.result = c.loop-n.invariant.size ∙ c.write_head.ensures.size ∙ c.requires.size ∙ sym (ap image_size same) in
    let right' = headed c.geometry-g.result x c.args.dirty.now c.args.bytes.now c.write_head.new.bytes c.write_head.ensures.head c.write_head.ensures.rest
    (subst (λ (g : Geometry). AreCleanExtentsOf g x c.args.dirty.now c.args.bytes.now) (sym same) right) in
    all_put c.geometry-g.result x all c.loop-n.invariant.place size (c.loop-n.invariant.so_far right')
    ∙ ap (λ (g : Geometry). image_of VERSION g x) same
