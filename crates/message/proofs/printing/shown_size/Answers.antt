-- A zero at the end is left out until there is none, or one byte is left.
use Rattle.std.proofs.lemmas.Grind.{common_steps}
use Rattle.std.proofs.Common.{length, ap, arith}
use Rattle.std.proofs.lemmas.List.{take_all}
use Rattle.protocol.specs.Replies.{without_trailing_zeros}
use Rattle.message.proofs.Zeros.{one_fewer, last_stays}
use Rattle.message.proofs.printing.shown_size.Goals as goal

pub loop-size-init : goal.loop-size-init
loop-size-init c = record { shown = ap without_trailing_zeros (take_all (length c.args.bytes.now) c.args.bytes.now (omega arith)); some = omega arith; bound = omega arith }

pub loop-size-preserved : goal.loop-size-preserved
loop-size-preserved c = grind (arith, common_steps, one_fewer)

pub returns-else-bytes-size-eq0-clause-shown : goal.returns-else-bytes-size-eq0-clause-shown
returns-else-bytes-size-eq0-clause-shown c = grind (arith, common_steps, last_stays)
