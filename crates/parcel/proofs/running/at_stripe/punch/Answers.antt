-- The block is gone from its stripe, which is the effect of a punch that passes its checks.
use Rattle.std.proofs.Common.{arith}
use Rattle.parcel.proofs.running.at_stripe.punch.Goals as goal

pub returns-clause-step : goal.returns-clause-step
returns-clause-step c = grind arith

pub returns-in_err-guard_file-clause-step : goal.returns-in_err-guard_file-clause-step
returns-in_err-guard_file-clause-step c = grind arith
