-- No message is held, so the tree is whole and has the committed state, and the point keeps that state.
use Rattle.std.proofs.Common.{[], subst}
use Rattle.checkpoint.specs.Costs.{longest_point}
use Rattle.oplog.proofs.Beyond.{beyond_none}
use Rattle.oplog.specs.Beyond.{KeepsBeyond}
use Rattle.device_map.specs.Layout.{layout_of}
use Rattle.scheduler.proofs.JournalKeepsCore.{stands}
use Rattle.scheduler.proofs.LogCall.{none_taken}
use Rattle.scheduler.proofs.CheckpointKeepsCore.{called_core, not_refused, point_core, point_state, point_whole, point_works, step_moment}
use Rattle.scheduler.specs.CoreView.{CoreView}
use Rattle.scheduler.specs.View.{parts}
use Rattle.scheduler.proofs.server_core.Core.point.Goals as goal

pub returns-in-Some-clause-any_moment : goal.returns-in-Some-clause-any_moment
returns-in-Some-clause-any_moment g c = λ keep. stands c.self.invariant.core c.self.view_is keep []

pub point-requires-clause-whole : goal.point-requires-clause-whole
point-requires-clause-whole g c = point_whole g.D.Disk.keeps (parts c.self.inside) c.self.invariant.core (not_refused c.self.view_is c.point_refusal.ensures c.in_default.is)

pub point-requires-clause-state : goal.point-requires-clause-state
point-requires-clause-state g c = point_state g.D.Disk.keeps (parts c.self.inside) c.self.invariant.core (not_refused c.self.view_is c.point_refusal.ensures c.in_default.is)

pub invariant_of-self : goal.invariant_of-self
invariant_of-self g c =
    called_core c.self.invariant
    (point_core g.D.Disk.keeps (parts c.self.inside) c.self.invariant.core c.point.new.self c.point.ensures.any_moment c.point.result
    (not_refused c.self.view_is c.point_refusal.ensures c.in_default.is) c.point.ensures.committed c.point.ensures.after)

pub returns-clause-any_moment : goal.returns-clause-any_moment
returns-clause-any_moment g c =
    step_moment g.D.Disk.keeps (parts c.self.inside) c.self.invariant.core (point_works g.D.Disk.keeps (parts c.self.inside) c.self.invariant.core
    (not_refused c.self.view_is c.point_refusal.ensures c.in_default.is)) c.point.new.self c.point.ensures.any_moment c.self.view_is

pub returns-in-Some-clause-beyond : goal.returns-in-Some-clause-beyond
returns-in-Some-clause-beyond g c = λ keep. beyond_none (layout_of c.args.self.now.geometry) c.args.self.now.medium

pub returns-clause-beyond : goal.returns-clause-beyond
returns-clause-beyond g c = λ keep.
    subst (λ (o : CoreView). KeepsBeyond (layout_of o.geometry) o.medium c.point.new.self.medium) c.self.view_is (c.point.ensures.beyond keep)

pub returns-in-Some-clause-costs : goal.returns-in-Some-clause-costs
returns-in-Some-clause-costs g c = λ keep. none_taken c.args.self.now.medium (longest_point c.args.self.now.geometry)
