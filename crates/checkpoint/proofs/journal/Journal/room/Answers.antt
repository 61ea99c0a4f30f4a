-- The invariant of a journal that hasn't failed: whatever a crash leaves now recovers to the committed state.
use Rattle.std.proofs.Common.{◌∙◌, ap}
use Rattle.checkpoint.specs.Journal.{JournalView}
use Rattle.checkpoint.proofs.JournalLemmas.{recoverable_of}
use Rattle.checkpoint.proofs.journal.Journal.room.Goals as goal

pub returns-clause-recoverable : goal.returns-clause-recoverable
returns-clause-recoverable g c = λ fine k.
    rw (← c.self.view_is) (recoverable_of (c.self.invariant.sound (ap (λ (h : JournalView). h.failed) c.self.view_is ∙ fine) k))
