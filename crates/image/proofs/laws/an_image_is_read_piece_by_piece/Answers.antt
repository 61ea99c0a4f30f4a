-- The lemmas on the walk over the pieces.
use Rattle.image.proofs.GoodPieces.{first_are_a_state, no_blocks_yet, good_is_seen, good_is_read, read_is_good}
use Rattle.image.proofs.laws.an_image_is_read_piece_by_piece.Goals as goal

pub returns-clause-state : goal.returns-clause-state
returns-clause-state c g bytes are n few good = first_are_a_state g bytes are n few good

pub returns-clause-no_blocks : goal.returns-clause-no_blocks
returns-clause-no_blocks c = no_blocks_yet

pub returns-clause-good : goal.returns-clause-good
returns-clause-good c = good_is_seen

pub returns-clause-all_good : goal.returns-clause-all_good
returns-clause-all_good c = good_is_read

pub returns-clause-only_good : goal.returns-clause-only_good
returns-clause-only_good c = read_is_good
