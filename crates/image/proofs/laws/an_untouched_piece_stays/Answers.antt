-- The lemma `piece_stays` of `Untouched`.
use Rattle.image.proofs.Untouched.{piece_stays}
use Rattle.image.proofs.laws.an_untouched_piece_stays.Goals as goal

pub returns : goal.returns
returns c version g x m n is off = piece_stays version g x is m n off
