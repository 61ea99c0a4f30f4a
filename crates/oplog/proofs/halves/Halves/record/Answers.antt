-- The bytes that are read are the record's, and have a message exactly where they are that message's record.
use Rattle.std.proofs.Common.{◌≡◌, ◌+◌, ◌*◌, ◌<◌, refl, ap, sym, ◌∙◌, subst, arith}
use Rattle.oplog.specs.HalfContent.{record_at}
use Rattle.device_map.specs.Layout.{layout_of, part_at, half_part}
use Rattle.device_map.specs.declared.layout.TheConstants.{CHAIN_ZONE_SIZE}
use Rattle.protocol.specs.declared.sizes.TheConstants.{RECORD_SIZE}
use Rattle.oplog.specs.Log.{Log, IsOfRecord, layout_of_log}
use Rattle.oplog.proofs.Results.{on_ok}
use Rattle.oplog.proofs.PartsRead.{record_read}
use Rattle.oplog.proofs.halves.Halves.record.Goals as goal
use Rattle.oplog.proofs.halves.Halves.record.Goals.{in-Some, in-None}

pub returns-clause-record : goal.returns-clause-record
returns-clause-record g c = λ k.
    let now = (g.D.Disk.medium c.args.disk.now).now in
    let bytes = record_at (layout_of c.self.inside.geometry) c.args.half c.args.i now in
    let few = subst (λ (log : Log). c.args.i < log.geometry.half) (sym c.self.view_is) c.requires.i in
    let same = c.half.ensures.geometry ∙ sym (ap (λ (l : Log). l.geometry) c.self.view_is) in
    let at = c.record_at-at.ensures
    ∙ (λ j. part_at (layout_of (same j)) (half_part (c.half.ensures.number j)) + (CHAIN_ZONE_SIZE + (same j).half + c.args.i * RECORD_SIZE)) in
    let read : c.read_at.new.out ≡ bytes =
    record_read (layout_of c.self.inside.geometry) c.args.half c.requires.half now c.args.i few
    at (omega arith) (on_ok c.read_at.result _ (sym c.is_err.ensures.value ∙ c.if-is_err.false) (c.read_at.ensures.reads k).ok).1 in
    subst (λ (log : Log). IsOfRecord log.geometry (record_at (layout_of_log log) c.args.half c.args.i now) c.match-change_in_record.result) c.self.view_is
    (elim c.match-change_in_record.branch [
      | in-Some w ↦ subst (λ r. IsOfRecord c.self.inside.geometry bytes r) (sym w.result-is) (sym read ∙ w.in-Some.ensures.some.0)
      | in-None w ↦ subst (λ r. IsOfRecord c.self.inside.geometry bytes r) (sym w.result-is) (λ m whole logged is. w.in-None.ensures.none refl m whole logged (read ∙ is))
    ])
