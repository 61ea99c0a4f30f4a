-- A write within an image changes, at each moment, that image alone; an empty run writes nothing.
use Rattle.std.proofs.Common.{arith}
use Rattle.std.proofs.lemmas.Result.{on_ok_weaker}
use Rattle.checkpoint.proofs.PieceRuns.{nothing_written, part_begun, run_inside, run_moments, run_ready, run_same, run_written}
use Rattle.device_map.specs.Layout.{layout_of, image_part}
use Rattle.oplog.proofs.PartLemmas.{same_but_none}
use Rattle.checkpoint.proofs.extents.write_run.Goals as goal

pub returns-clause-any_moment : goal.returns-clause-any_moment
returns-clause-any_moment g c = λ k.
    run_moments c.args.g.now c.args.area c.requires.area c.image_at.ensures c.args.from _
    (run_inside c.args.bytes.now c.args.from c.args.end _ c.requires.order c.requires.inside c.requires.size) _ _ (c.write.ensures.any_moment k)

pub returns-clause-same : goal.returns-clause-same
returns-clause-same g c = λ k.
    run_same c.args.g.now c.args.area c.requires.area c.image_at.ensures c.args.from _
    (run_inside c.args.bytes.now c.args.from c.args.end _ c.requires.order c.requires.inside c.requires.size) (c.write.ensures.touched k)

pub returns-clause-ready : goal.returns-clause-ready
returns-clause-ready g c = λ k.
    run_ready c.args.g.now c.args.area c.requires.area c.image_at.ensures c.args.from _
    (run_inside c.args.bytes.now c.args.from c.args.end _ c.requires.order c.requires.inside c.requires.size) (c.write.ensures.touched k)

pub returns-clause-written : goal.returns-clause-written
returns-clause-written g c =
    on_ok_weaker c.write.result
    (λ written k.
    run_written c.args.g.now c.args.area c.requires.area c.image_at.ensures c.args.from _ (g.D.Disk.medium c.args.disk.now) (g.D.Disk.medium c.write.new.disk)
    (run_inside c.args.bytes.now c.args.from c.args.end _ c.requires.order c.requires.inside c.requires.size) c.requires.long_enough (written k))
    c.write.ensures.written

pub returns-then-from-end-clause-any_moment : goal.returns-then-from-end-clause-any_moment
returns-then-from-end-clause-any_moment g c = λ k. part_begun (layout_of c.args.g.now) (image_part c.args.area) _

pub returns-then-from-end-clause-same : goal.returns-then-from-end-clause-same
returns-then-from-end-clause-same g c = λ k. same_but_none (layout_of c.args.g.now) (image_part c.args.area) _

pub returns-then-from-end-clause-written : goal.returns-then-from-end-clause-written
returns-then-from-end-clause-written g c = λ k. nothing_written _ c.args.from _ c.args.bytes.now (omega (arith, c.requires.order, c.if-from-end.true))
