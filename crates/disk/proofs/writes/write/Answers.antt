-- Outside its range a write changes no byte, at any moment, and leaves none unsynced that wasn't before.
use Rattle.disk.proofs.OneWrite.{written, touched}
use Rattle.disk.proofs.writes.write.Goals as goal

pub returns-clause-any_moment : goal.returns-clause-any_moment
returns-clause-any_moment g c = λ k. written _ _ _ _ c.write_at.result c.requires (g.met.D.Disk.bytes c.args.disk.now) (c.write_at.ensures.writes k)

pub returns-clause-touched : goal.returns-clause-touched
returns-clause-touched g c = λ k. touched _ _ _ _ c.write_at.result c.requires (c.write_at.ensures.writes k)
