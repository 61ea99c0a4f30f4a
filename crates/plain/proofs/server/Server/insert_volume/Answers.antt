-- A volume with nothing in it is inserted at its key, which is the effect of a makevol.
use Rattle.std.proofs.Common.{refl, sym}
use Rattle.std.specs.BTreeMap as map
use Rattle.meaning.specs.KeyOrders.{volume_order, block_order}
use Rattle.plain.proofs.Removals.{is_none}
use Rattle.plain.proofs.Volumes.{new_volume_state}
use Rattle.plain.proofs.server.Server.insert_volume.Goals as goal

pub returns-clause-state : goal.returns-clause-state
returns-clause-state c =
    new_volume_state (map.get volume_order c.args.self.now.volumes) (map.get volume_order c.insert.new.self) c.args.a c.args.v _
    c.in_ok-insert.ensures.updates.0 (map.get block_order c.args.self.now.blocks) (sym (is_none _ c.requires.absent)) refl
