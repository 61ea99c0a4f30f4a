-- A record's bytes encode one message or none. The record is run if there is a message whose reply is `Done`; otherwise it is bad.
use Rattle.std.proofs.Common.{Some, sym, ◌∙◌, ap, subst}
use Rattle.oplog.proofs.Results.{err_is}
use Rattle.affinity.specs.declared.geometry.Geometry.{Geometry}
use Rattle.oplog.specs.Log.{layout_of_log}
use Rattle.oplog.specs.ChangeRecords.{IsChangeInRange}
use Rattle.oplog.proofs.ChangeRecords.{records_are_bytes}
use Rattle.parcel.specs.Tree.{state_in}
use Rattle.recovery.proofs.AfterRecord.{carried, not_run, read_fault}
use Rattle.recovery.proofs.replaying.replay_record.Goals as goal

pub returns-in_err-m-clause-refused : goal.returns-in_err-m-clause-refused
returns-in_err-m-clause-refused g c =
    rw (err_is c.from_residual.ensures.1) (λ k.
    let bytes = records_are_bytes (layout_of_log c.args.log.now) c.args.half c.args.i (g.D.Disk.medium c.args.disk.now).now c.requires.half c.requires.i
    c.requires.usable.long_enough (g.met.D.Disk.bytes c.args.disk.now) in
    read_fault c.requires.geometry (state_in c.args.tree.now) c.args.half c.args.i _ bytes.0 bytes.1
    c.in_err-m.field-0.0 (c.in_err-m.ensures.record k) c.in_err-m.ensures.names_record)

pub returns-in-Done-clause-done : goal.returns-in-Done-clause-done
returns-in-Done-clause-done g c = λ k.
    carried c.args.tree.now.geometry (state_in c.args.tree.now) c.in_ok-m.m _ c.in_ok-m.ensures.change.0
    (subst (λ (i : Geometry). IsChangeInRange i c.in_ok-m.m) c.requires.geometry c.in_ok-m.ensures.change.1) (c.in_ok-m.ensures.record k) (sym c.in-Done.ensures.reply)
    ∙ ap (λ x. Some x) (sym c.step.ensures.state)

pub returns-in_default-clause-refused : goal.returns-in_default-clause-refused
returns-in_default-clause-refused g c = λ k.
    not_run c.requires.geometry (state_in c.args.tree.now) c.args.half c.args.i _ c.in_ok-m.m
    c.in_ok-m.ensures.change.0 c.in_ok-m.ensures.change.1 (c.in_ok-m.ensures.record k) (λ done. c.in_default.not-Done (c.step.ensures.reply ∙ done))
