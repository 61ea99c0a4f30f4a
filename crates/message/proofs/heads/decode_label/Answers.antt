-- A label is 32 bytes.
use Rattle.std.proofs.Common.{sym, ◌∙◌}
use Rattle.message.proofs.Blocks.{label_bytes}
use Rattle.message.proofs.heads.decode_label.Goals as goal

pub returns : goal.returns
returns c = c.bytes_in_word.ensures ∙ sym (label_bytes c.args.digits.now)
