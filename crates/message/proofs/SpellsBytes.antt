-- The digits of a block or a label, as words and by what they encode.
use Rattle.std.proofs.lemmas.Grind.{common_steps}
use Rattle.std.proofs.Common.{◌≡◌, ℕ, List, Some, ap, sym, ◌∙◌, arith}
use Rattle.hex.proofs.HexLemmas.{decode_of-ok}
use Rattle.protocol.specs.declared.sizes.TheConstants.{BLOCK_SIZE, LABEL_SIZE}
use Rattle.protocol.specs.declared.messages.Block.{Block}
use Rattle.protocol.specs.Words.{bytes_in_word, block_in_word, label_in_word}
use Rattle.protocol.specs.Grammar.{SpellsBytes}
use Rattle.message.proofs.Blocks.{bytes_parts, bytes_from, block_bytes, bytes_block, label_bytes}

bytes_say : (size : ℕ) (digits whole : List ℕ) → bytes_in_word size digits ≡ Some whole → SpellsBytes size digits whole
bytes_say size digits whole h = grind (arith, common_steps, bytes_parts, decode_of-ok)

say_bytes : (size : ℕ) (digits whole : List ℕ) → SpellsBytes size digits whole → bytes_in_word size digits ≡ Some whole
say_bytes size digits whole h =
    let ok = decode_of-ok digits h.0 h.1 in
    let len = ok.2 in
    let low = h.2 in
    let high = h.3 in
    bytes_from size digits h.0 (record { low = omega arith; high = omega arith; decoded = h.1 }) ∙ ap Some (sym h.4)

pub block_says : (digits : List ℕ) (content : Block) → block_in_word digits ≡ Some content → SpellsBytes BLOCK_SIZE digits content.0
block_says digits content h = bytes_say BLOCK_SIZE digits content.0 (block_bytes digits content h)

pub says_block : (digits : List ℕ) (content : Block) → SpellsBytes BLOCK_SIZE digits content.0 → block_in_word digits ≡ Some content
says_block digits content h = bytes_block digits content (say_bytes BLOCK_SIZE digits content.0 h)

pub label_says : (digits bytes : List ℕ) → label_in_word digits ≡ Some bytes → SpellsBytes LABEL_SIZE digits bytes
label_says digits bytes h = bytes_say LABEL_SIZE digits bytes (sym (label_bytes digits) ∙ h)

pub says_label : (digits bytes : List ℕ) → SpellsBytes LABEL_SIZE digits bytes → label_in_word digits ≡ Some bytes
says_label digits bytes h = label_bytes digits ∙ say_bytes LABEL_SIZE digits bytes h
