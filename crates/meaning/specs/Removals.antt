-- Inner: A state without some of its blocks.
use Rattle.std.specs.Prelude.{Bool}
use Rattle.meaning.specs.State.{State, BlockKey, clearing}

-- the state without the blocks that the test picks
abbrev pub without_blocks : (BlockKey → Bool) → State → State
without_blocks selected x = record x { blocks = clearing selected x.blocks }
