-- The lemma `read_is_a_state` of `GoodPieces`.
use Rattle.image.proofs.GoodPieces.{read_is_a_state}
use Rattle.image.proofs.laws.what_is_read_is_a_state.Goals as goal

pub returns : goal.returns
returns c g bytes x are is = read_is_a_state g bytes are x is
