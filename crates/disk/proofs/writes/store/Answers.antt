-- The sync after the write leaves nothing to a crash that the write did not.
use Rattle.disk.proofs.Calls.{after_sync}
use Rattle.disk.proofs.writes.store.Goals as goal

pub returns-clause-any_moment : goal.returns-clause-any_moment
returns-clause-any_moment g c = λ k. after_sync _ _ _ _ (c.in_ok-write.ensures.any_moment k) c.sync.result (c.sync.ensures.syncs k)
