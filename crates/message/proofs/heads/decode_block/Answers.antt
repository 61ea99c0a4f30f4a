-- The digits spell a block exactly where they spell its bytes.
use Rattle.std.proofs.Common.{◌≡◌, ℕ, List, Option, Some, None}
use Rattle.std.specs.Prelude.{MatchOption}
use Rattle.protocol.specs.declared.sizes.TheConstants.{BLOCK_SIZE}
use Rattle.protocol.specs.Words.{block_in_word, bytes_in_word}
use Rattle.message.proofs.Blocks.{bytes_block, no_block}
use Rattle.message.proofs.heads.decode_block.Goals as goal

-- what is shown of the bytes is shown of the block
told : (r : Option (Unit {0})) (digits out : List ℕ) → MatchOption r (bytes_in_word BLOCK_SIZE digits ≡ None) (λ _. bytes_in_word BLOCK_SIZE digits ≡ Some out)
    → MatchOption r (block_in_word digits ≡ None) (λ _. block_in_word digits ≡ Some (record { 0 = out }))
told (Some u) digits out h = bytes_block digits (record { 0 = out }) h
told None digits out h = no_block digits h

pub returns : goal.returns
returns c = told c.decode_bytes.result c.args.digits.now c.decode_bytes.new.out c.decode_bytes.ensures
