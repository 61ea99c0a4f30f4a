-- A call that is refused before it reaches the journal touches nothing. The flip ends the online checkpoint, and keeps the committed
-- state at each moment.
use Rattle.std.proofs.Common.{[], sym, subst, ◌∙◌}
use Rattle.oplog.proofs.Beyond.{beyond_none}
use Rattle.oplog.specs.Beyond.{KeepsBeyond}
use Rattle.device_map.specs.Layout.{layout_of}
use Rattle.scheduler.proofs.JournalKeepsCore.{stands}
use Rattle.scheduler.proofs.LogCall.{none_taken}
use Rattle.scheduler.proofs.CheckpointKeepsCore.{called_core, flip_core, step_moment}
use Rattle.scheduler.specs.CoreView.{CoreView}
use Rattle.scheduler.specs.View.{parts}
use Rattle.scheduler.proofs.server_core.Core.flip.Goals as goal

pub returns-then-failed-clause-any_moment : goal.returns-then-failed-clause-any_moment
returns-then-failed-clause-any_moment g c = λ keep. stands c.self.invariant.core c.self.view_is keep []

pub returns-in_default-clause-any_moment : goal.returns-in_default-clause-any_moment
returns-in_default-clause-any_moment g c = λ keep. stands c.self.invariant.core c.self.view_is keep []

pub returns-then-pieces_left-gt0-clause-any_moment : goal.returns-then-pieces_left-gt0-clause-any_moment
returns-then-pieces_left-gt0-clause-any_moment g c = λ keep. stands c.self.invariant.core c.self.view_is keep []

pub invariant_of-self : goal.invariant_of-self
invariant_of-self g c =
    called_core c.self.invariant
    (flip_core g.D.Disk.keeps (parts c.self.inside) c.self.invariant.core c.flip.new.self c.flip.ensures.any_moment c.flip.result (sym c.failed.ensures ∙ c.if-failed.false) c.flip.ensures.committed
    c.flip.ensures.after)

pub returns-clause-any_moment : goal.returns-clause-any_moment
returns-clause-any_moment g c =
    step_moment g.D.Disk.keeps (parts c.self.inside) c.self.invariant.core (sym c.failed.ensures ∙ c.if-failed.false)
    c.flip.new.self c.flip.ensures.any_moment c.self.view_is

pub returns-then-failed-clause-beyond : goal.returns-then-failed-clause-beyond
returns-then-failed-clause-beyond g c = λ keep. beyond_none (layout_of c.args.self.now.geometry) c.args.self.now.medium

pub returns-in_default-clause-beyond : goal.returns-in_default-clause-beyond
returns-in_default-clause-beyond g c = λ keep. beyond_none (layout_of c.args.self.now.geometry) c.args.self.now.medium

pub returns-then-pieces_left-gt0-clause-beyond : goal.returns-then-pieces_left-gt0-clause-beyond
returns-then-pieces_left-gt0-clause-beyond g c = λ keep. beyond_none (layout_of c.args.self.now.geometry) c.args.self.now.medium

pub returns-clause-beyond : goal.returns-clause-beyond
returns-clause-beyond g c = λ keep.
    subst (λ (o : CoreView). KeepsBeyond (layout_of o.geometry) o.medium c.flip.new.self.medium) c.self.view_is (c.flip.ensures.beyond keep)

pub returns-then-failed-clause-costs : goal.returns-then-failed-clause-costs
returns-then-failed-clause-costs g c = λ keep. none_taken c.args.self.now.medium 3

pub returns-in_default-clause-costs : goal.returns-in_default-clause-costs
returns-in_default-clause-costs g c = λ keep. none_taken c.args.self.now.medium 3

pub returns-then-pieces_left-gt0-clause-costs : goal.returns-then-pieces_left-gt0-clause-costs
returns-then-pieces_left-gt0-clause-costs g c = λ keep. none_taken c.args.self.now.medium 3
