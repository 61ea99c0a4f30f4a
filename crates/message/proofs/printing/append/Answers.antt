-- Writing a part of the buffer keeps what is before and behind it.
use Rattle.std.proofs.Common.{refl, arith}
use Rattle.message.proofs.AppendsText.{appends_part}
use Rattle.message.proofs.printing.append.Goals as goal

pub returns : goal.returns
returns c = appends_part (omega (arith, c.told-out)) c.copy_from_slice.ensures.after (omega arith) refl
