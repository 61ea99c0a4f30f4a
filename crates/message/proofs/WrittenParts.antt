-- A part of a buffer that was written.
use Rattle.std.proofs.Common.{arith, ◌≡◌, ℕ, ◌+◌, ◌≤◌, List, ◌++◌, length, take}
use Rattle.std.proofs.lemmas.Grind.{common_steps}
use Rattle.std.proofs.Math.Seq.{take-append-add}
use Rattle.std.proofs.lemmas.List.{take-append-le}
use borrow.Rule.Slice.PartMut.{put_mid}

-- the front of a part that was written, after what was before it
pub take-put_mid : (old part : List ℕ) (at k n : ℕ) → at ≤ length old → n ≤ length part → take (at + n) (put_mid at k old part) ≡ take at old ++ take n part
take-put_mid old part at k n low high = grind (arith, common_steps, take-append-add, take-append-le)
