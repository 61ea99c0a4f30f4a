-- A sync changes no byte, so until it is over a crash leaves what one before it could.
use Rattle.disk.proofs.Calls.{after_sync}
use Rattle.disk.proofs.CrashImagesAre.{started}
use Rattle.oplog.proofs.Beyond.{beyond_sync}
use Rattle.checkpoint.proofs.opening.first_sync.Goals as goal

pub returns-then-is_err-clause-any_moment : goal.returns-then-is_err-clause-any_moment
returns-then-is_err-clause-any_moment g c = λ k.
    after_sync _ _ _ _ (started _ _ (λ c' left. left)) c.sync.result (c.sync.ensures.syncs k)

pub returns-clause-any_moment : goal.returns-clause-any_moment
returns-clause-any_moment g c = λ k.
    after_sync _ _ _ _ (started _ _ (λ c' left. left)) c.sync.result (c.sync.ensures.syncs k)

pub returns-then-is_err-clause-beyond : goal.returns-then-is_err-clause-beyond
returns-then-is_err-clause-beyond g c = λ k l. beyond_sync l _ _ c.sync.result (c.sync.ensures.syncs k)

pub returns-clause-beyond : goal.returns-clause-beyond
returns-clause-beyond g c = λ k l. beyond_sync l _ _ c.sync.result (c.sync.ensures.syncs k)
