-- A new tree has no block.
use Rattle.std.proofs.Common.{rules}
use Rattle.serial_tests.proofs.NewTrees.{no_block}
use Rattle.serial_tests.proofs.parcel_pieces.read_both.Goals as goal

pub read_piece-requires : goal.read_piece-requires
read_piece-requires c = record {
  whole = search rules;
  piece = search rules;
  size = search rules;
  empty = λ first f b. no_block _ c.requires.new.empty _;
}
