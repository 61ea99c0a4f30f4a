-- A label is the first bytes of the data.
use Rattle.std.proofs.Common.{◌≡◌, length, length-take-le, ap, sym, arith}
use Rattle.protocol.specs.declared.sizes.TheConstants.{BLOCK_SIZE, LABEL_SIZE}
use Rattle.message.specs.Heads.{has_data}
use Rattle.message.proofs.records.assembled.Goals as goal

pub slice_bounds-copy_from_slice-end-in-SetLabel-2 : goal.slice_bounds-copy_from_slice-end-in-SetLabel-2
slice_bounds-copy_from_slice-end-in-SetLabel-2 c =
    let size : length c.args.behind.now ≡ BLOCK_SIZE = c.requires (ap has_data c.in-SetLabel.is) in
    sym (length-take-le LABEL_SIZE c.args.behind.now (omega arith))

pub copy_from_slice-requires-in-SetLabel : goal.copy_from_slice-requires-in-SetLabel
copy_from_slice-requires-in-SetLabel = slice_bounds-copy_from_slice-end-in-SetLabel-2
