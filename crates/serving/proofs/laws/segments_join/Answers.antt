-- The lemma that two segments, one after the other, are one.
use Rattle.serving.proofs.RunsBetween.{passes_on}
use Rattle.serving.proofs.laws.segments_join.Goals as goal

pub returns : goal.returns
returns g c old mid new arriving more replies others h k = passes_on h k
