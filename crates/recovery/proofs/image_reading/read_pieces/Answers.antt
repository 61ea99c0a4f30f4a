-- A piece is read from its place in the image; one that can't be taken in is the first bad one.
use Rattle.std.proofs.Common.{◌≡◌, ℕ, ◌+◌, ◌<◌, ◌≤◌, length, refl, ◌∙◌, ap, arith}
use Rattle.oplog.proofs.Results.{err_is}
use Rattle.affinity.specs.declared.geometry.Geometry.{Geometry}
use Rattle.image.specs.Pieces.{piece_count}
use Rattle.device_map.specs.Layout.{image_part, layout_of, part_bytes, part_at}
use Rattle.parcel.specs.Tree.{state_in}
use Rattle.recovery.proofs.Replays.{same_bytes}
use Rattle.recovery.proofs.PieceWalk.{all_read, bad_queued, free_at_first, free_queued, good_queued, next_place, no_bad_piece, read_there, room_left, decoded_turn}
use Rattle.recovery.proofs.image_reading.read_pieces.Goals as goal

pub loop-n-init : goal.loop-n-init
loop-n-init g c = record {
  whole = c.requires.whole;
  geometry = refl;
  at = ap (λ (m : ℕ). m + 64) c.image_at.ensures ∙ ap (λ (h : Geometry). part_at (layout_of h) (image_part c.args.number) + 64) c.geometry-g.ensures;
  free = free_at_first c.args.tree.now.geometry (state_in c.args.tree.now) c.requires.empty;
  len = refl;
  faults = refl;
  untouched = λ k. refl;
  decoded = λ k. c.requires.empty;
  good = λ k i few. absurd (omega (arith, few));
}

pub read_bytes-requires : goal.read_bytes-requires
read_bytes-requires g c =
    let below : c.loop-n.n < piece_count c.args.tree.now.geometry = omega (arith, c.loop-n-test.true, c.piece_count-n-end.ensures.count ∙ ap piece_count c.geometry-g.ensures) in
    room_left c.geometry-g.ensures c.args.number c.loop-n.n c.loop-n.buffer c.requires.number below c.loop-n.invariant.at c.piece_size.ensures.size
    (length (g.D.Disk.medium c.loop-n.disk).now) (omega (arith, c.requires.long_enough, c.loop-n.invariant.len))

pub overflow_add-at-in-loop-n : goal.overflow_add-at-in-loop-n
overflow_add-at-in-loop-n g c =
    let below : c.loop-n.n < piece_count c.args.tree.now.geometry = omega (arith, c.loop-n-test.true, c.piece_count-n-end.ensures.count ∙ ap piece_count c.geometry-g.ensures) in
    let room = room_left c.geometry-g.ensures c.args.number c.loop-n.n c.loop-n.buffer c.requires.number below c.loop-n.invariant.at c.piece_size.ensures.size
    (length (g.D.Disk.medium c.args.disk.now).now) c.requires.long_enough in
    omega (arith, c.read_bytes.auto.out, g.met.D.Disk.fits c.args.disk.now, room)

pub returns-in_err-take_piece-clause-refused : goal.returns-in_err-take_piece-clause-refused
returns-in_err-take_piece-clause-refused g c =
    rw (err_is c.from_residual-in_err-take_piece.ensures.1) (λ k.
    let now = (g.D.Disk.medium c.args.disk.now).now in
    let below : c.loop-n.n < piece_count c.args.tree.now.geometry = omega (arith, c.loop-n-test.true, c.piece_count-n-end.ensures.count ∙ ap piece_count c.geometry-g.ensures) in
    let few : c.piece_size.result ≤ length c.loop-n.buffer =
    omega (arith, c.piece_size.ensures.most, ap (λ (h : Geometry). h.quota) c.geometry-g.ensures, c.requires.room, c.loop-n.auto.buffer) in
    let there =
    read_there c.geometry-g.ensures c.args.number c.loop-n.n c.loop-n.buffer c.requires.number below c.loop-n.invariant.at c.piece_size.ensures.size few
    (same_bytes (g.D.Disk.medium c.args.disk.now) (g.D.Disk.medium c.loop-n.disk) (c.loop-n.invariant.untouched k)) (c.in_ok-read_bytes.ensures.bytes k) in
    bad_queued c.loop-n.invariant.geometry (part_bytes (layout_of c.args.tree.now.geometry) (image_part c.args.number) now) c.loop-n.n (c.requires.version k) below
    (c.loop-n.invariant.decoded k) there c.in_err-take_piece.ensures.good.1 (c.loop-n.invariant.good k) _ c.in_err-take_piece.ensures.bad)

pub loop-n-preserved : goal.loop-n-preserved
loop-n-preserved g c =
    let bytes = part_bytes (layout_of c.args.tree.now.geometry) (image_part c.args.number) (g.D.Disk.medium c.args.disk.now).now in
    let below : c.loop-n.n < piece_count c.args.tree.now.geometry = omega (arith, c.loop-n-test.true, c.piece_count-n-end.ensures.count ∙ ap piece_count c.geometry-g.ensures) in
    let few : c.piece_size.result ≤ length c.loop-n.buffer =
    omega (arith, c.piece_size.ensures.most, ap (λ (h : Geometry). h.quota) c.geometry-g.ensures, c.requires.room, c.loop-n.auto.buffer) in
    let there = λ (k : g.D.Disk.keeps).
    read_there c.geometry-g.ensures c.args.number c.loop-n.n c.loop-n.buffer c.requires.number below c.loop-n.invariant.at c.piece_size.ensures.size few
    (same_bytes (g.D.Disk.medium c.args.disk.now) (g.D.Disk.medium c.loop-n.disk) (c.loop-n.invariant.untouched k)) (c.in_ok-read_bytes.ensures.bytes k) in
    record {
      whole = c.in_ok-take_piece.ensures.whole;
      geometry = c.take_piece.ensures.geometry ∙ c.loop-n.invariant.geometry;
      at = next_place c.geometry-g.ensures c.args.number c.loop-n.n c.loop-n.buffer c.requires.number below c.loop-n.invariant.at c.piece_size.ensures.size
          (length c.read_bytes.new.out) few c.read_bytes.auto.out;
      free = free_queued c.args.version c.loop-n.invariant.geometry c.read_bytes.new.out c.in_ok-take_piece.ensures.taken c.loop-n.invariant.free;
      len = c.read_bytes.ensures.call.len ∙ c.loop-n.invariant.len;
      faults = c.in_ok-read_bytes.ensures.call.counts ∙ c.loop-n.invariant.faults;
      untouched = λ k. c.read_bytes.ensures.call.untouched k ∙ c.loop-n.invariant.untouched k;
      decoded = λ k.
          decoded_turn c.loop-n.invariant.geometry bytes c.loop-n.n (c.requires.version k) below (c.loop-n.invariant.decoded k) (there k) c.in_ok-take_piece.ensures.taken;
      good = λ k.
          good_queued c.loop-n.invariant.geometry bytes c.loop-n.n (c.requires.version k) below (c.loop-n.invariant.decoded k) (there k)
          (c.in_ok-take_piece.ensures.good.0 refl) (c.loop-n.invariant.good k);
    }

pub returns-clause-read : goal.returns-clause-read
returns-clause-read g c = λ k.
    all_read c.args.tree.now.geometry c.args.number (g.D.Disk.medium c.args.disk.now).now c.requires.number c.requires.long_enough (g.met.D.Disk.bytes c.args.disk.now) (c.requires.head k)
    (omega (arith, c.piece_count-n-end.ensures.count ∙ ap piece_count c.geometry-g.ensures)) (c.loop-n.invariant.decoded k) (c.loop-n.invariant.good k)

pub returns-clause-good : goal.returns-clause-good
returns-clause-good g c = λ k.
    let all : c.loop-n.n ≡ piece_count c.args.tree.now.geometry = omega (arith, c.loop-n-test.false, c.loop-n.auto.n-end, c.piece_count-n-end.ensures.count ∙ ap piece_count c.geometry-g.ensures) in
    no_bad_piece c.args.tree.now.geometry (part_bytes (layout_of c.args.tree.now.geometry) (image_part c.args.number) (g.D.Disk.medium c.args.disk.now).now)
    (λ i below. c.loop-n.invariant.good k i (omega (arith, below, all)))
