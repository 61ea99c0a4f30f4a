-- The half is one of the log's, so its open gates are those of the log's front there.
use Rattle.std.proofs.Common.{◌∙◌, length}
use Rattle.device_map.specs.Layout.{layout_of}
use Rattle.oplog.specs.HalfContent.{front}
use Rattle.oplog.proofs.halves.Halves.front.Goals as goal

pub returns-in-Ok-clause-front : goal.returns-in-Ok-clause-front
returns-in-Ok-clause-front g c = λ k.
    c.in-Ok.ensures.front k
    ∙ (λ i. length (front (layout_of (c.half-log_half.ensures.geometry i)) (c.half-log_half.ensures.number i) (g.D.Disk.medium c.args.disk.now).now))
