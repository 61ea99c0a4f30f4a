-- Pairs of digits, one to as many as a block has bytes, are decoded to the front of the zeros; all else spells no bytes.
use Rattle.std.proofs.lemmas.Grind.{common_steps}
use Rattle.std.proofs.Common.{sym, refl, arith}
use Rattle.protocol.specs.declared.sizes.TheConstants.{BLOCK_SIZE}
use Rattle.message.proofs.Blocks.{no_bytes, bytes_decoded, bytes_not_decoded}
use Rattle.message.proofs.heads.decode_bytes.Goals as goal

pub returns-then-size-eq0 : goal.returns-then-size-eq0
returns-then-size-eq0 c = grind (arith, common_steps, no_bytes)

pub returns-in_err-decode_to_slice : goal.returns-in_err-decode_to_slice
returns-in_err-decode_to_slice c = rw c.from_residual.ensures (bytes_not_decoded BLOCK_SIZE c.args.digits.now
    c.decode_to_slice.new.out refl (omega arith) c.decode_to_slice.ensures.value (sym c.in_err-decode_to_slice.was))

pub returns : goal.returns
returns c = bytes_decoded BLOCK_SIZE c.args.digits.now c.decode_to_slice.new.out refl
    (omega arith) (omega arith) c.decode_to_slice.ensures.value (sym c.in_ok-decode_to_slice.was)
