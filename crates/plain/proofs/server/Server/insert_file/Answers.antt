-- A file is added to the volume that is found, and no other volume changes: the effect of a create.
use Rattle.std.proofs.Common.{rules, Some, refl, sym}
use Rattle.std.specs.BTreeMap as map
use Rattle.meaning.specs.KeyOrders.{volume_order, block_order}
use Rattle.meaning.proofs.FileBits.{with_bit}
use Rattle.plain.proofs.Volumes.{new_file_state}
use Rattle.plain.proofs.server.Server.insert_file.Goals as goal

pub returns-clause-state : goal.returns-clause-state
returns-clause-state c =
    let was = sym c.in-Some.ensures.value in
    let now = record c.in-Some.volume.now { files = with_bit c.in-Some.volume.now.files c.args.f } in
    new_file_state (map.get volume_order c.args.self.now.volumes) (map.get volume_order (c.get_mut.follows.lender now)) c.args.a c.args.v (Some now)
    ((c.get_mut.follows.holds now).3 (search rules)).0 (map.get block_order c.args.self.now.blocks) was c.args.f c.requires.file refl
