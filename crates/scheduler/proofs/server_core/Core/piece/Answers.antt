-- A refusal touches nothing; the write of a piece keeps the committed state at each moment.
use Rattle.std.proofs.Common.{[], ap, sym, subst, ◌∙◌, rules}
use Rattle.disk.specs.Device.{Costs}
use Rattle.oplog.proofs.Beyond.{beyond_none}
use Rattle.oplog.specs.Beyond.{KeepsBeyond}
use Rattle.device_map.specs.Layout.{layout_of}
use Rattle.scheduler.proofs.JournalKeepsCore.{stands}
use Rattle.scheduler.proofs.CheckpointKeepsCore.{called_core, piece_core, step_moment}
use Rattle.scheduler.specs.CoreView.{CoreView}
use Rattle.scheduler.specs.View.{parts}
use Rattle.scheduler.proofs.server_core.Core.piece.Goals as goal

pub returns-then-failed-clause-any_moment : goal.returns-then-failed-clause-any_moment
returns-then-failed-clause-any_moment g c = λ keep. stands c.self.invariant.core c.self.view_is keep []

pub returns-in_default-clause-any_moment : goal.returns-in_default-clause-any_moment
returns-in_default-clause-any_moment g c = λ keep. stands c.self.invariant.core c.self.view_is keep []

pub invariant_of-self : goal.invariant_of-self
invariant_of-self g c =
    called_core c.self.invariant
    (piece_core g.D.Disk.keeps (parts c.self.inside) c.self.invariant.core c.piece.new.self c.piece.ensures.any_moment c.piece.result (sym c.failed.ensures ∙ c.if-failed.false)
    c.piece.ensures.committed
    c.piece.ensures.after)

pub returns-clause-any_moment : goal.returns-clause-any_moment
returns-clause-any_moment g c =
    step_moment g.D.Disk.keeps (parts c.self.inside) c.self.invariant.core (sym c.failed.ensures ∙ c.if-failed.false)
    c.piece.new.self c.piece.ensures.any_moment c.self.view_is

pub returns-then-failed-clause-beyond : goal.returns-then-failed-clause-beyond
returns-then-failed-clause-beyond g c = λ keep. beyond_none (layout_of c.args.self.now.geometry) c.args.self.now.medium

pub returns-in_default-clause-beyond : goal.returns-in_default-clause-beyond
returns-in_default-clause-beyond g c = λ keep. beyond_none (layout_of c.args.self.now.geometry) c.args.self.now.medium

pub returns-clause-beyond : goal.returns-clause-beyond
returns-clause-beyond g c = λ keep.
    subst (λ (o : CoreView). KeepsBeyond (layout_of o.geometry) o.medium c.piece.new.self.medium) c.self.view_is (c.piece.ensures.beyond keep)

pub returns-clause-costs : goal.returns-clause-costs
returns-clause-costs g c = λ some keep.
    let cost = c.piece.ensures.costs (λ none. some (sym (ap (λ (o : CoreView). o.pieces_left) c.self.view_is) ∙ none)) keep in
    subst (λ (o : CoreView). Costs c.map_err.result 1 o.medium c.piece.new.self.medium) c.self.view_is (search rules)
