-- Records are synced before their gates open, so a crash leaves the front with the first m of the batch.
use Rattle.std.proofs.Common.{get_or, sym, arith}
use Rattle.std.proofs.lemmas.List.{length-map}
use Rattle.std.proofs.lemmas.Result.{on_ok_weaker}
use Rattle.message.specs.Records.{record_of}
use Rattle.message.proofs.RecordLemmas.{in_range_has_room}
use Rattle.device_map.specs.Layout.{layout_of}
use Rattle.oplog.specs.ChangeRecords.{records_of}
use Rattle.oplog.proofs.BatchMoments.{bodies_moments, gates_moments, batch_added}
use Rattle.oplog.proofs.half.Half.append_batch.Goals as goal

pub stage-requires-clause-fit : goal.stage-requires-clause-fit
stage-requires-clause-fit g c = λ k d within. in_range_has_room c.args.self.geometry (get_or c.args.messages.now k d) (c.requires.changes k d within).1

pub returns-in_err-store-clause-any_moment : goal.returns-in_err-store-clause-any_moment
returns-in_err-store-clause-any_moment g c = λ k.
    bodies_moments (layout_of c.args.self.geometry) c.args.self.number c.args.used (records_of c.args.messages.now) c.args.self.number_range c.stage.ensures.sizes
    (omega (arith, length-map c.args.messages.now record_of)) _ _ c.requires.long_enough (g.met.D.Disk.bytes c.args.disk.now) (c.requires.ready k) _ _
    (omega (arith, c.record_at.ensures)) c.stage.ensures.staged
    (c.store.ensures.any_moment k)

pub returns-clause-any_moment : goal.returns-clause-any_moment
returns-clause-any_moment g c = λ k.
    gates_moments (layout_of c.args.self.geometry) c.args.self.number c.args.used (records_of c.args.messages.now) c.args.self.number_range c.stage.ensures.sizes
    (omega (arith, length-map c.args.messages.now record_of)) _ _ c.requires.long_enough (g.met.D.Disk.bytes c.args.disk.now) (c.requires.ready k) _ _
    (omega (arith, c.record_at.ensures)) c.stage.ensures.staged
    (c.in_ok-store.ensures.stored k) _ _ (sym (length-map c.args.messages.now record_of)) (c.in_ok-store.ensures.any_moment k) (c.open_gates.ensures.any_moment k)

pub returns-clause-added : goal.returns-clause-added
returns-clause-added g c =
    on_ok_weaker c.open_gates.result
    (λ opened k.
    batch_added (layout_of c.args.self.geometry) c.args.self.number c.args.used (records_of c.args.messages.now) c.args.self.number_range c.stage.ensures.sizes
    (omega (arith, length-map c.args.messages.now record_of)) _ _ c.requires.long_enough (g.met.D.Disk.bytes c.args.disk.now) (c.requires.ready k) _ _
    (omega (arith, c.record_at.ensures)) c.stage.ensures.staged
    (c.in_ok-store.ensures.stored k) _ _ (sym (length-map c.args.messages.now record_of)) (opened k))
    c.open_gates.ensures.opened
