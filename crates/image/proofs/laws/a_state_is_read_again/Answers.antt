-- The lemma `read_again` of `ReadImage`.
use Rattle.image.proofs.ReadImage.{read_again}
use Rattle.image.proofs.laws.a_state_is_read_again.Goals as goal

pub returns : goal.returns
returns c = read_again
