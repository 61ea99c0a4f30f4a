-- The volume that is found is sealed or unsealed, and no other changes: the effect of a seal or an unseal.
use Rattle.std.proofs.Common.{rules, Some, refl, sym}
use Rattle.std.specs.BTreeMap as map
use Rattle.meaning.specs.KeyOrders.{volume_order, block_order}
use Rattle.plain.proofs.Volumes.{sealed_state}
use Rattle.plain.proofs.server.Server.set_sealed.Goals as goal

pub returns-clause-state : goal.returns-clause-state
returns-clause-state c =
    let was = sym c.in-Some.ensures.value in
    let now = record c.in-Some.volume.now { sealed = c.args.sealed } in
    sealed_state (map.get volume_order c.args.self.now.volumes) (map.get volume_order (c.get_mut.follows.lender now)) c.args.a c.args.v (Some now)
    ((c.get_mut.follows.holds now).3 (search rules)).0 (map.get block_order c.args.self.now.blocks) was c.args.sealed refl
