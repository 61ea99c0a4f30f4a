-- The bits of files that the geometry doesn't have are masked out.
use Rattle.std.proofs.Common.{arith}
use Rattle.std.proofs.lemmas.Nat.{and_mask}
use Rattle.parcel.proofs.pieces.volumes.VolumePiece.decoded.Goals as goal

pub returns : goal.returns
returns c = grind (arith, and_mask)
