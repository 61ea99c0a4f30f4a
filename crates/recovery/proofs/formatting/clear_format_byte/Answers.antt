-- Once synced, a crash leaves the format byte as it is; a 0 over a 1 leaves the old bytes, or a device that isn't formatted.
use Rattle.std.proofs.Common.{sym, ◌∙◌, arith}
use Rattle.std.proofs.lemmas.Result.{on_ok_weaker}
use Rattle.recovery.proofs.Unformatted.{begun, synced_shut, now_synced, now_kept, now_read, shutting, stored_shut}
use Rattle.disk.proofs.Calls.{after_read, after_sync}
use Rattle.oplog.proofs.Beyond.{beyond_sync, beyond_then, beyond_write}
use Rattle.recovery.proofs.formatting.clear_format_byte.Goals as goal

pub returns-in_err-sync-clause-any_moment : goal.returns-in_err-sync-clause-any_moment
returns-in_err-sync-clause-any_moment g c = λ k. after_sync _ _ _ _ (begun _) c.sync.result (c.sync.ensures.syncs k)

pub returns-in_err-read_at-clause-any_moment : goal.returns-in_err-read_at-clause-any_moment
returns-in_err-read_at-clause-any_moment g c = λ k.
    after_read _ _ _ _ (after_sync _ _ _ _ (begun _) c.sync.result (c.sync.ensures.syncs k)) _ _ c.read_at.result (c.read_at.ensures.reads k)

pub returns-then-not-is_formatted-clause-any_moment : goal.returns-then-not-is_formatted-clause-any_moment
returns-then-not-is_formatted-clause-any_moment g c = λ k.
    after_read _ _ _ _ (after_sync _ _ _ _ (begun _) c.sync.result (c.sync.ensures.syncs k)) _ _ c.read_at.result (c.read_at.ensures.reads k)

pub returns-clause-any_moment : goal.returns-clause-any_moment
returns-clause-any_moment g c = λ k.
    shutting (g.met.D.Disk.bytes c.args.disk.now)
    (now_synced _ _ _ _ (c.in_ok-sync.ensures.syncs k).ok (c.in_ok-read_at.ensures.reads k).ok (c.read_at.auto.out))
    (now_kept _ _ _ _ (c.in_ok-sync.ensures.syncs k).ok (c.in_ok-read_at.ensures.reads k).ok (c.read_at.auto.out))
    (now_read _ _ _ _ (c.in_ok-sync.ensures.syncs k).ok (c.in_ok-read_at.ensures.reads k).ok (c.read_at.auto.out) ∙ c.is_formatted.ensures.formatted c.if-not-is_formatted.false)
    (after_read _ _ _ _ (after_sync _ _ _ _ (begun _) c.sync.result (c.sync.ensures.syncs k)) _ _ c.read_at.result (c.read_at.ensures.reads k))
    (c.store.ensures.any_moment k)

pub returns-clause-unformatted : goal.returns-clause-unformatted
returns-clause-unformatted g c =
    on_ok_weaker c.store.result
    (λ stored k. stored_shut _ _ _ (omega (arith, c.requires, c.sync.ensures.call.len, c.read_at.ensures.call.1)) (c.read_at.ensures.call.1 ∙ c.sync.ensures.call.len) (stored k))
    c.store.ensures.stored

pub returns-then-not-is_formatted-clause-unformatted : goal.returns-then-not-is_formatted-clause-unformatted
returns-then-not-is_formatted-clause-unformatted g c = λ k.
    synced_shut _ (g.D.Disk.medium c.read_at.new.self)
    (now_synced (g.D.Disk.medium c.args.disk.now) (g.D.Disk.medium c.sync.new.self) (g.D.Disk.medium c.read_at.new.self) _
    (c.in_ok-sync.ensures.syncs k).ok (c.in_ok-read_at.ensures.reads k).ok (c.read_at.auto.out))
    (c.read_at.ensures.call.1 ∙ c.sync.ensures.call.len)
    (λ is_formatted. c.is_formatted.ensures.unformatted c.if-not-is_formatted.true (sym (now_read (g.D.Disk.medium c.args.disk.now) (g.D.Disk.medium c.sync.new.self)
    (g.D.Disk.medium c.read_at.new.self) _ (c.in_ok-sync.ensures.syncs k).ok (c.in_ok-read_at.ensures.reads k).ok (c.read_at.auto.out))
    ∙ is_formatted))

pub returns-in_err-sync-clause-beyond : goal.returns-in_err-sync-clause-beyond
returns-in_err-sync-clause-beyond g c = λ k l. beyond_sync l _ _ c.sync.result (c.sync.ensures.syncs k)

pub returns-in_err-read_at-clause-beyond : goal.returns-in_err-read_at-clause-beyond
returns-in_err-read_at-clause-beyond g c = λ k l. after_read _ _ _ _ (beyond_sync l _ _ c.sync.result (c.sync.ensures.syncs k)) _ _ c.read_at.result (c.read_at.ensures.reads k)

pub returns-then-not-is_formatted-clause-beyond : goal.returns-then-not-is_formatted-clause-beyond
returns-then-not-is_formatted-clause-beyond g c = λ k l. after_read _ _ _ _ (beyond_sync l _ _ c.sync.result (c.sync.ensures.syncs k)) _ _ c.read_at.result (c.read_at.ensures.reads k)

pub returns-clause-beyond : goal.returns-clause-beyond
returns-clause-beyond g c = λ k l.
    beyond_then l _ _ _ (after_read _ _ _ _ (beyond_sync l _ _ c.sync.result (c.sync.ensures.syncs k)) _ _ c.read_at.result
    (c.read_at.ensures.reads k)) (beyond_write l 0 1 _ _ (omega arith) (c.store.ensures.any_moment k))
