-- The head of an image has 64 bytes, as many as the part that it is copied into.
use Rattle.std.proofs.Common.{length, sym, ◌∙◌, ap, length-take-le}
use Rattle.checkpoint.proofs.snapshot.write_head.Goals as goal

pub copy_from_slice-requires : goal.copy_from_slice-requires
copy_from_slice-requires c = length-take-le 64 c.args.bytes.now c.requires ∙ sym (ap length c.head_of.ensures)
