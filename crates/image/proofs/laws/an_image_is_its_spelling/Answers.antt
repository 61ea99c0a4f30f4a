-- The lemma `spelling` of `ReadImage`.
use Rattle.image.proofs.ReadImage.{spelling}
use Rattle.image.proofs.laws.an_image_is_its_spelling.Goals as goal

pub returns : goal.returns
returns c = spelling
