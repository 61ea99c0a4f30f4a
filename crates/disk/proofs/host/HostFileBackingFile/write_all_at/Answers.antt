-- What is written are bytes below 256, so all bytes of the ghost device still are.
use Rattle.std.proofs.Common.{sym, subst}
use Rattle.disk.specs.CrashImages.{AreBytes}
use Rattle.disk.specs.Device.{Medium}
use Rattle.disk.proofs.Bytes.{bytes_fit, bytes-overlaid}
use Rattle.disk.proofs.host.HostFileBackingFile.write_all_at.Goals as goal

pub invariant_of-self-else-is_err-clause-are_bytes : goal.invariant_of-self-else-is_err-clause-are_bytes
invariant_of-self-else-is_err-clause-are_bytes g c =
    let self = c.args.self.now in
    subst (λ (m : Medium). AreBytes m.now) (sym c.note-else-is_err.ensures)
    (bytes-overlaid self.ghost_device.medium.now c.args.at c.args.bytes.now self.are_bytes (bytes_fit c.args.bytes.now (λ i. (c.type_inv.bytes i).fits)))
