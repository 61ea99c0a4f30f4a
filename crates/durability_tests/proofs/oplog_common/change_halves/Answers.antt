-- The other half was cleared, so it is ready for records once it is named and current.
use Rattle.std.proofs.Common.{arith}
use Rattle.oplog.proofs.Ready.{ready_named}
use Rattle.durability_tests.proofs.oplog_common.change_halves.Goals as goal

pub returns-clause-ready : goal.returns-clause-ready
returns-clause-ready g c = λ k.
    ready_named c.args.log.now c.requires.current_is_named
    c.in_ok-clear_other.ensures.log c.in_ok-flip_root.ensures.log (omega (arith, c.requires.long_enough, c.clear_other.ensures.call.len, c.flip_root.ensures.call.len))
    (c.in_ok-clear_other.ensures.cleared k) (c.in_ok-flip_root.ensures.flipped k)
