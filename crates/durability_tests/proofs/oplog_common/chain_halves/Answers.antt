-- The other half was cleared, so it is ready for records once it is chained and current.
use Rattle.std.proofs.Common.{arith}
use Rattle.oplog.proofs.Ready.{ready_chained}
use Rattle.durability_tests.proofs.oplog_common.chain_halves.Goals as goal

pub returns-clause-ready : goal.returns-clause-ready
returns-clause-ready g c = λ k.
    ready_chained c.args.log.now c.requires.half
    c.in_ok-clear_other.ensures.log c.in_ok-open_chain.ensures.log (omega (arith, c.requires.long_enough, c.clear_other.ensures.call.len, c.open_chain.ensures.call.len))
    (c.in_ok-clear_other.ensures.cleared k) (c.in_ok-open_chain.ensures.chained k)
