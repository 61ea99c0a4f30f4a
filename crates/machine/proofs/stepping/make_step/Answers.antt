-- A step of the core alone leaves the hands with the jobs of what is in flight: by `core_holds`.
use Rattle.std.proofs.Common.{refl}
use Rattle.histories.specs.declared.outcomes.Step.TheVariants as steps
use Rattle.scheduler.proofs.MachineSteps.{core_holds}
use Rattle.machine.proofs.stepping.make_step.Goals as goal

pub returns-in-Arrive-clause-holds : goal.returns-in-Arrive-clause-holds
returns-in-Arrive-clause-holds g c = core_holds g.D.Disk.keeps c.args.core.now c.take_in.new.core c.args.hands.now (steps.Arrive c.in-Arrive.message)
    c.take_in.result c.requires c.take_in.ensures refl

pub returns-in-Log-clause-holds : goal.returns-in-Log-clause-holds
returns-in-Log-clause-holds g c = core_holds g.D.Disk.keeps c.args.core.now c.log.new.core c.args.hands.now (steps.Log c.in-Log.count)
    c.log.result c.requires c.log.ensures refl

pub returns-in-Answer-clause-holds : goal.returns-in-Answer-clause-holds
returns-in-Answer-clause-holds g c = core_holds g.D.Disk.keeps c.args.core.now c.answer.new.core c.args.hands.now steps.Answer
    c.answer.result c.requires c.answer.ensures refl

pub returns-in-Point-clause-holds : goal.returns-in-Point-clause-holds
returns-in-Point-clause-holds g c = core_holds g.D.Disk.keeps c.args.core.now c.point.new.core c.args.hands.now steps.Point
    c.point.result c.requires c.point.ensures refl

pub returns-in-Cut-clause-holds : goal.returns-in-Cut-clause-holds
returns-in-Cut-clause-holds g c = core_holds g.D.Disk.keeps c.args.core.now c.cut.new.core c.args.hands.now steps.Cut
    c.cut.result c.requires c.cut.ensures refl

pub returns-in-Piece-clause-holds : goal.returns-in-Piece-clause-holds
returns-in-Piece-clause-holds g c = core_holds g.D.Disk.keeps c.args.core.now c.piece.new.core c.args.hands.now steps.Piece
    c.piece.result c.requires c.piece.ensures refl

pub returns-in-Flip-clause-holds : goal.returns-in-Flip-clause-holds
returns-in-Flip-clause-holds g c = core_holds g.D.Disk.keeps c.args.core.now c.flip.new.core c.args.hands.now steps.Flip
    c.flip.result c.requires c.flip.ensures refl
