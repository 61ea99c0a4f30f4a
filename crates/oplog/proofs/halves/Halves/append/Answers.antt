-- If a log is ready for records, its current half is.
use Rattle.std.proofs.Common.{◌+◌, ◌∙◌, length, sym, ap, subst}
use Rattle.disk.specs.CrashImages.{CrashImagesAre}
use Rattle.device_map.specs.Layout.{layout_of}
use Rattle.oplog.specs.Changes.{HasAppendedAll, HasAppendedPrefix, IsReady}
use Rattle.oplog.specs.ChangeRecords.{records_of}
use Rattle.oplog.specs.Calls.{IsReadyFor, Grows, HasAdded}
use Rattle.oplog.specs.Log.{Log}
use Rattle.oplog.proofs.Results.{on_ok}
use Rattle.oplog.proofs.HasMoreIn.{of_half}
use Rattle.oplog.proofs.halves.Halves.append.Goals as goal

pub append-requires-clause-ready : goal.append-requires-clause-ready
append-requires-clause-ready g c = λ k.
    of_half (λ h n. IsReady (layout_of h) n c.self.inside.used (g.D.Disk.medium c.args.disk.now))
    (sym (c.half-half.ensures.geometry ∙ sym (ap (λ (l : Log). l.geometry) c.self.view_is))) (sym c.half-half.ensures.number)
    (subst (λ (log : Log). IsReadyFor log (g.D.Disk.medium c.args.disk.now)) (sym c.self.view_is) (c.requires.ready k))

pub returns-then-is_err-clause-any_moment : goal.returns-then-is_err-clause-any_moment
returns-then-is_err-clause-any_moment g c = λ k.
    subst (λ (log : Log). Grows log c.args.messages.now (g.D.Disk.medium c.args.disk.now) (g.D.Disk.medium c.append.new.disk)) c.self.view_is
    (of_half (λ h n. CrashImagesAre (g.D.Disk.medium c.args.disk.now) (g.D.Disk.medium c.append.new.disk)
    (HasAppendedPrefix (layout_of h) n (records_of c.args.messages.now) (g.D.Disk.medium c.args.disk.now)))
    (c.half-half.ensures.geometry ∙ sym (ap (λ (l : Log). l.geometry) c.self.view_is)) c.half-half.ensures.number (c.append.ensures.any_moment k))

pub returns-clause-any_moment : goal.returns-clause-any_moment
returns-clause-any_moment g c = λ k.
    subst (λ (log : Log). Grows log c.args.messages.now (g.D.Disk.medium c.args.disk.now) (g.D.Disk.medium c.append.new.disk)) c.self.view_is
    (of_half (λ h n. CrashImagesAre (g.D.Disk.medium c.args.disk.now) (g.D.Disk.medium c.append.new.disk)
    (HasAppendedPrefix (layout_of h) n (records_of c.args.messages.now) (g.D.Disk.medium c.args.disk.now)))
    (c.half-half.ensures.geometry ∙ sym (ap (λ (l : Log). l.geometry) c.self.view_is)) c.half-half.ensures.number (c.append.ensures.any_moment k))

pub returns-clause-added : goal.returns-clause-added
returns-clause-added g c = λ k.
    subst (λ (log : Log). HasAdded log c.args.messages.now (g.D.Disk.medium c.args.disk.now) (g.D.Disk.medium c.append.new.disk)) c.self.view_is
    (of_half (λ h n. HasAppendedAll (layout_of h) n c.self.inside.used (records_of c.args.messages.now) (g.D.Disk.medium c.args.disk.now) (g.D.Disk.medium c.append.new.disk))
    (c.half-half.ensures.geometry ∙ sym (ap (λ (l : Log). l.geometry) c.self.view_is)) c.half-half.ensures.number
    (on_ok c.append.result _ (sym c.is_err.ensures.value ∙ c.if-is_err.false) c.append.ensures.added k))

pub returns-clause-log : goal.returns-clause-log
returns-clause-log g c = ap (λ (log : Log). record log { used = log.used + length c.args.messages.now }) c.self.view_is
