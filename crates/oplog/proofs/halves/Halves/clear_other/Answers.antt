-- The zeros cover the chain byte of the other half, the bytes beside it and its gates, and nothing else changes.
use Rattle.std.proofs.Common.{◌+◌, replicate, ap, sym, ◌∙◌, subst, arith}
use Rattle.oplog.specs.Calls.{IsLongEnough}
use Rattle.disk.specs.Device.{SameOutside}
use Rattle.disk.specs.CrashImages.{CrashesChangeOnly}
use Rattle.disk.specs.Store.{Stored}
use Rattle.device_map.specs.Layout.{layout_of, part_at, half_part, other}
use Rattle.device_map.specs.declared.layout.TheConstants.{CHAIN_ZONE_SIZE}
use Rattle.oplog.specs.Log.{Log}
use Rattle.oplog.proofs.Results.{on_ok}
use Rattle.oplog.proofs.OneStore.{clear_moments, cleared}
use Rattle.oplog.proofs.HasMoreIn.{of_half}
use Rattle.oplog.proofs.halves.Halves.clear_other.Goals as goal

pub returns-then-is_err-clause-any_moment : goal.returns-then-is_err-clause-any_moment
returns-then-is_err-clause-any_moment g c = λ k.
    rw (← c.self.view_is) (clear_moments (layout_of c.self.inside.geometry) (other c.self.inside.named) (omega arith) _ _
    (of_half (λ h n. CrashesChangeOnly (g.D.Disk.medium c.args.disk.now) (g.D.Disk.medium c.clear.new.disk)
    (SameOutside (part_at (layout_of h) (half_part n)) (CHAIN_ZONE_SIZE + h.half)))
    (c.half-half.ensures.geometry ∙ sym (ap (λ (l : Log). l.geometry) c.self.view_is)) (c.half-half.ensures.number ∙ c.other.ensures) (c.clear.ensures.any_moment k)))

pub returns-clause-any_moment : goal.returns-clause-any_moment
returns-clause-any_moment g c = λ k.
    rw (← c.self.view_is) (clear_moments (layout_of c.self.inside.geometry) (other c.self.inside.named) (omega arith) _ _
    (of_half (λ h n. CrashesChangeOnly (g.D.Disk.medium c.args.disk.now) (g.D.Disk.medium c.clear.new.disk)
    (SameOutside (part_at (layout_of h) (half_part n)) (CHAIN_ZONE_SIZE + h.half)))
    (c.half-half.ensures.geometry ∙ sym (ap (λ (l : Log). l.geometry) c.self.view_is)) (c.half-half.ensures.number ∙ c.other.ensures) (c.clear.ensures.any_moment k)))

pub returns-clause-cleared : goal.returns-clause-cleared
returns-clause-cleared g c = λ k.
    let whole = subst (λ (log : Log). IsLongEnough log (g.D.Disk.medium c.args.disk.now)) (sym c.self.view_is) c.requires.usable.long_enough in
    rw (← c.self.view_is) (cleared (layout_of c.self.inside.geometry) (other c.self.inside.named) (omega arith) _ _ whole
    (of_half (λ h n. Stored (part_at (layout_of h) (half_part n)) (replicate (CHAIN_ZONE_SIZE + h.half) 0) (g.D.Disk.medium c.args.disk.now) (g.D.Disk.medium c.clear.new.disk))
    (c.half-half.ensures.geometry ∙ sym (ap (λ (l : Log). l.geometry) c.self.view_is)) (c.half-half.ensures.number ∙ c.other.ensures)
    (on_ok c.clear.result _ (sym c.is_err.ensures.value ∙ c.if-is_err.false) c.clear.ensures.cleared k)))
