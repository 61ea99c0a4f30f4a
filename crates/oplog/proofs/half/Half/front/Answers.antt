-- The gates that are read are the half's, and the open ones before the first shut one make up the front.
use Rattle.std.proofs.Common.{◌∙◌, arith}
use Rattle.device_map.specs.Layout.{layout_of}
use Rattle.oplog.proofs.Gates.{open_at_most}
use Rattle.oplog.proofs.PartsRead.{front_read}
use Rattle.oplog.proofs.half.Half.front.Goals as goal

pub returns-clause-front : goal.returns-clause-front
returns-clause-front g c = λ k.
    c.count_open.ensures
    ∙ front_read (layout_of c.args.self.geometry) c.args.self.number c.args.self.number_range (g.D.Disk.medium c.args.disk.now).now
    c.gate_at.ensures (omega arith) (c.in_ok-read_at.ensures.reads k).ok.1

pub returns-clause-within : goal.returns-clause-within
returns-clause-within g c = omega (arith, c.count_open.ensures, open_at_most c.read_at.new.out)
