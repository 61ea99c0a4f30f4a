-- An array of `BLOCK_SIZE` bytes is a block: it has that length, and each byte is below 256.
use Rattle.std.proofs.Common.{rules, ◌<◌, subst}
use Rattle.std.specs.List.{AllByRecursion}
use Rattle.affinity.proofs.Elements.{all_bytes}
use Rattle.protocol.proofs.known_sizes.know_block.Goals as goal

pub returns : goal.returns
returns c = (search rules, subst (AllByRecursion (λ b. b < 256)) c.as_slice-bytes.ensures (all_bytes c.as_slice-bytes.result.now (λ i. search rules)))
