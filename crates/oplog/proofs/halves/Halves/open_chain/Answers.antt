-- One byte is stored, the chain byte of the named half, and no other changes at any moment.
use Rattle.std.proofs.Common.{◌≡◌, ℕ, ap, sym, ◌∙◌, subst}
use Rattle.affinity.specs.declared.geometry.Geometry.{Geometry}
use Rattle.oplog.specs.Changes.{Chained}
use Rattle.oplog.specs.Calls.{IsLongEnough}
use Rattle.device_map.specs.Layout.{layout_of, part_at, half_part}
use Rattle.oplog.specs.Log.{Log, layout_of_log}
use Rattle.oplog.proofs.Results.{on_ok}
use Rattle.oplog.proofs.OneStore.{chain_moments, chained}
use Rattle.oplog.proofs.halves.Halves.open_chain.Goals as goal

-- where the half begins, by the log's geometry and the number
at_half : {g h : Geometry} {n k start : ℕ} → h ≡ g → k ≡ n → start ≡ part_at (layout_of h) (half_part k) → start ≡ part_at (layout_of g) (half_part n)
at_half same is begins = begins ∙ (λ i. part_at (layout_of (same i)) (half_part (is i)))

pub returns-then-is_err-clause-any_moment : goal.returns-then-is_err-clause-any_moment
returns-then-is_err-clause-any_moment g c = λ k.
    rw (← c.self.view_is) (chain_moments (layout_of c.self.inside.geometry) c.self.inside.named c.start.result c.self.invariant.named
    (at_half (c.half-half.ensures.geometry ∙ sym (ap (λ (l : Log). l.geometry) c.self.view_is)) c.half-half.ensures.number c.start.ensures) _ _ (c.store.ensures.any_moment k))

pub returns-clause-any_moment : goal.returns-clause-any_moment
returns-clause-any_moment g c = λ k.
    rw (← c.self.view_is) (chain_moments (layout_of c.self.inside.geometry) c.self.inside.named c.start.result c.self.invariant.named
    (at_half (c.half-half.ensures.geometry ∙ sym (ap (λ (l : Log). l.geometry) c.self.view_is)) c.half-half.ensures.number c.start.ensures) _ _ (c.store.ensures.any_moment k))

pub returns-clause-chained : goal.returns-clause-chained
returns-clause-chained g c = λ k.
    let whole = subst (λ (log : Log). IsLongEnough log (g.D.Disk.medium c.args.disk.now)) (sym c.self.view_is) c.requires.usable.long_enough in
    subst (λ (log : Log). Chained (layout_of_log log) log.named (g.D.Disk.medium c.args.disk.now) (g.D.Disk.medium c.store.new.disk)) c.self.view_is
    (chained (layout_of c.self.inside.geometry) c.self.inside.named c.start.result c.self.invariant.named
    (at_half (c.half-half.ensures.geometry ∙ sym (ap (λ (l : Log). l.geometry) c.self.view_is)) c.half-half.ensures.number c.start.ensures) _ _ whole
    (on_ok c.store.result _ (sym c.is_err.ensures.value ∙ c.if-is_err.false) c.store.ensures.stored k))
