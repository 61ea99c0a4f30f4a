-- One byte is stored, the root byte, and no other changes at any moment.
use Rattle.std.proofs.Common.{ℕ, [], ◌∷◌, sym, ◌∙◌, subst, arith}
use Rattle.oplog.specs.Calls.{IsLongEnough}
use Rattle.disk.specs.Store.{Stored}
use Rattle.device_map.specs.Layout.{layout_of, other}
use Rattle.oplog.specs.Log.{Log}
use Rattle.oplog.proofs.Results.{on_ok}
use Rattle.oplog.proofs.OneStore.{root_moments, named}
use Rattle.oplog.proofs.halves.Halves.flip_root.Goals as goal

pub returns-then-is_err-clause-any_moment : goal.returns-then-is_err-clause-any_moment
returns-then-is_err-clause-any_moment g c = λ k.
    rw (← c.self.view_is) (root_moments (layout_of c.self.inside.geometry) (other c.self.inside.named) _ _ (c.store.ensures.any_moment k))

pub returns-clause-any_moment : goal.returns-clause-any_moment
returns-clause-any_moment g c = λ k.
    rw (← c.self.view_is) (root_moments (layout_of c.self.inside.geometry) (other c.self.inside.named) _ _ (c.store.ensures.any_moment k))

pub returns-clause-flipped : goal.returns-clause-flipped
returns-clause-flipped g c = λ k.
    let whole = subst (λ (log : Log). IsLongEnough log (g.D.Disk.medium c.args.disk.now)) (sym c.self.view_is) c.requires.usable.long_enough in
    rw (← c.self.view_is) (named (layout_of c.self.inside.geometry) (other c.self.inside.named) _ _ (omega arith) whole
    (subst (λ (n : ℕ). Stored 64 (n ∷ []) (g.D.Disk.medium c.args.disk.now) (g.D.Disk.medium c.store.new.disk)) c.other-other_half.ensures
    (on_ok c.store.result _ (sym c.is_err.ensures.value ∙ c.if-is_err.false) c.store.ensures.stored k)))
