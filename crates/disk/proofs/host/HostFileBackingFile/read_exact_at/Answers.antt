-- A read that succeeds gives the bytes of the ghost device, which stays as it is.
use Rattle.std.proofs.Common.{refl, rules, ◌≡◌}
use Rattle.disk.specs.RealFile.{read_gives}
use Rattle.disk.proofs.host.HostFileBackingFile.read_exact_at.Goals as goal

pub returns-else-is_err-clause-reads : goal.returns-else-is_err-clause-reads
returns-else-is_err-clause-reads g c = λ keeps.
    let gives = read_gives keeps c.args.at c.read_exact_at-answer.new.buf c.args.self.now.ghost_device.medium.now in
    let same : c.args.self.now.ghost_device.medium ≡ c.args.self.now.ghost_device.medium = refl in
    search rules
