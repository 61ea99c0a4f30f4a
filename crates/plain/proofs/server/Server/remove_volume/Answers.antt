-- The volume's blocks are gone, and then its key is removed: the effect of a dropvol.
use Rattle.std.proofs.Common.{None, refl, ap, ◌∙◌}
use Rattle.std.specs.BTreeMap as map
use Rattle.meaning.specs.State.{State, dropping, clearing, is_volume, is_file_of}
use Rattle.meaning.specs.KeyOrders.{volume_order, block_order}
use Rattle.plain.proofs.Volumes.{no_volume_state}
use Rattle.plain.proofs.server.Server.remove_volume.Goals as goal

pub returns-clause-state : goal.returns-clause-state
returns-clause-state c =
    no_volume_state (map.get volume_order c.clear_volume.new.self.volumes) (map.get volume_order c.remove.new.self) c.args.a c.args.v None
    c.remove.ensures.updates.0 (map.get block_order c.clear_volume.new.self.blocks) refl
    ∙ ap (λ (y : State). record y {
      made = dropping (is_volume c.args.a c.args.v) y.made;
      sealed = dropping (is_volume c.args.a c.args.v) y.sealed;
      files = dropping (is_file_of c.args.a c.args.v) y.files;
      labels = clearing (is_volume c.args.a c.args.v) y.labels;
    }) c.clear_volume.ensures.state
