-- Bytes are taken in exactly where they are the encoding of what they decode to, in the version of the image.
use Rattle.std.proofs.Common.{◌≡◌, ℕ, sym, ◌∙◌}
use Rattle.image.specs.Pieces.{piece_of, with_piece}
use Rattle.parcel.specs.Tree.{state_in}
use Rattle.recovery.proofs.PieceWalk.{not_taken, second_version, was_taken}
use Rattle.recovery.proofs.image_reading.take_piece.Goals as goal
use Rattle.recovery.proofs.image_reading.take_piece.Goals.{then-version-eq-FIRST_VERSION, else-version-eq-FIRST_VERSION}

pub returns-then-is_err-clause-good : goal.returns-then-is_err-clause-good
returns-then-is_err-clause-good c =
    let P : ℕ → Type 0 = λ v. c.args.piece.now ≡ piece_of v c.args.tree.now.geometry (with_piece v c.args.tree.now.geometry (state_in c.args.tree.now) c.args.n c.args.piece.now) c.args.n in
    elim c.if-version-eq-FIRST_VERSION.branch [
      | then-version-eq-FIRST_VERSION w ↦ not_taken w.taken-is (sym c.is_err.ensures.value ∙ c.if-is_err.true) w.if-version-eq-FIRST_VERSION.true P w.read_piece_1-taken.ensures.good
      | else-version-eq-FIRST_VERSION w ↦ not_taken w.taken-is (sym c.is_err.ensures.value ∙ c.if-is_err.true)
          (second_version c.args.version c.requires.known w.if-version-eq-FIRST_VERSION.false) P w.read_piece-taken.ensures.good
    ]

pub returns-clause-good : goal.returns-clause-good
returns-clause-good c =
    let P : ℕ → Type 0 = λ v. c.args.piece.now ≡ piece_of v c.args.tree.now.geometry (with_piece v c.args.tree.now.geometry (state_in c.args.tree.now) c.args.n c.args.piece.now) c.args.n in
    elim c.if-version-eq-FIRST_VERSION.branch [
      | then-version-eq-FIRST_VERSION w ↦ was_taken w.taken-is (sym c.is_err.ensures.value ∙ c.if-is_err.false) w.if-version-eq-FIRST_VERSION.true P w.read_piece_1-taken.ensures.good
      | else-version-eq-FIRST_VERSION w ↦ was_taken w.taken-is (sym c.is_err.ensures.value ∙ c.if-is_err.false)
          (second_version c.args.version c.requires.known w.if-version-eq-FIRST_VERSION.false) P w.read_piece-taken.ensures.good
    ]
