-- The zeros that are stored are as many as the chain byte, the bytes beside it and the gates.
use Rattle.std.proofs.Common.{◌≡◌, ◌+◌, ◌∙◌, ap, length, replicate}
use Rattle.std.proofs.lemmas.List.{length-replicate}
use Rattle.device_map.specs.declared.layout.TheConstants.{CHAIN_ZONE_SIZE}
use Rattle.oplog.proofs.half.Half.clear.Goals as goal

pub returns-clause-any_moment : goal.returns-clause-any_moment
returns-clause-any_moment g c = λ k.
    let size : length c.zeros.result.now ≡ CHAIN_ZONE_SIZE + c.args.self.geometry.half
    = ap length c.zeros.ensures ∙ length-replicate (CHAIN_ZONE_SIZE + c.capacity.result) 0 ∙ ap (λ n. CHAIN_ZONE_SIZE + n) c.capacity.ensures in
    rw (← c.start.ensures) (rw (← size) (c.store.ensures.any_moment k))

pub returns-clause-cleared : goal.returns-clause-cleared
returns-clause-cleared g c =
    let zeros : c.zeros.result.now ≡ replicate (CHAIN_ZONE_SIZE + c.args.self.geometry.half) 0 = c.zeros.ensures ∙ ap (λ n. replicate (CHAIN_ZONE_SIZE + n) 0) c.capacity.ensures in
    rw (← c.start.ensures) (rw (← zeros) c.store.ensures.stored)
