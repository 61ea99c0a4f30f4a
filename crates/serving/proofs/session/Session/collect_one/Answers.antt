-- What was collected is given to the core, and the session keeps its invariant.
use Rattle.std.proofs.Common.{◌<◌, List, Option, None, ap, inl, length, sym, subst, ◌∙◌, refl}
use Rattle.std.proofs.lemmas.List.{length-set}
use Rattle.parcel.specs.JobRun.{JobView}
use Rattle.serving.specs.View.{session_view}
use Rattle.serving.specs.SessionSteps.{HasMoved}
use Rattle.serving.specs.Session.{SessionView, steps_ahead}
use Rattle.serving.proofs.Collected.{came_back, gives_back}
use Rattle.serving.proofs.StepsAhead.{returned}
use Rattle.serving.proofs.SessionInvariant.{holds_of, on_machine}
use Rattle.serving.proofs.session.Session.collect_one.Goals as goal

pub give_back-requires : goal.give_back-requires
give_back-requires g c =
    let s = c.in-Some.ensures.some in
    let old = c.self.inside in
    let place = subst (λ (p : SessionView). c.args.k < length p.dispatch_seat.lent) (sym c.self.view_is) c.requires.place in
    came_back g.D.Disk.keeps old.core old.dispatch_seat.lent c.know_recovery.ensures.no_doubt c.know_recovery.ensures.now (holds_of g.D.Disk.keeps _ _ c.self.invariant.run)
    c.args.k place s.0 c.in-Some.done s.1 s.2

pub invariant_of-self-2 : goal.invariant_of-self-2
invariant_of-self-2 g c =
    let s = c.in-Some.ensures.some in
    let old = c.self.inside in
    let place = subst (λ (p : SessionView). c.args.k < length p.dispatch_seat.lent) (sym c.self.view_is) c.requires.place in
    let back = c.give_back.ensures.state_after in
    let given = gives_back g.D.Disk.keeps old.core old.dispatch_seat.lent c.know_recovery.ensures.no_doubt c.know_recovery.ensures.now
    (holds_of g.D.Disk.keeps _ _ c.self.invariant.run) c.args.k place s.0 c.in-Some.done s.1 s.2 c.give_back.new.self
    c.give_back.ensures.geometry c.give_back.ensures.untouched back.0 back.1 back.2 back.3 _ in
    let places = ap (λ (l : List (Option JobView)). length l) s.3 ∙ length-set old.dispatch_seat.lent c.args.k None in
    record { run = on_machine g.D.Disk.keeps _ _ c.self.invariant.run _ _ (rw s.3 given) c.in-Some.ensures.bench places; bench = c.in-Some.ensures.bench ∙ c.self.invariant.bench }

pub returns-clause-moves : goal.returns-clause-moves
returns-clause-moves g c =
    let s = c.in-Some.ensures.some in
    let old = c.self.inside in
    let place = subst (λ (p : SessionView). c.args.k < length p.dispatch_seat.lent) (sym c.self.view_is) c.requires.place in
    let back = c.give_back.ensures.state_after in
    let less = returned old.core.geometry c.args.k _ _ old.dispatch_seat.lent _ _ back.0 place back.1 back.3 s.3 in
    let new = session_view g.R.Read.remaining g.L.ReplySink.sent g.L.ReplySink.sent_at (record old { core = c.give_back.new.self; dispatch_seat = c.collect.new.seat }) in
    subst (λ (p : SessionView). HasMoved p new) c.self.view_is
    (record { moved = inl less.0; pieces_left = less.1; trigger = refl; as_before = (refl, refl); unread = (refl, refl) })

pub returns-clause-some : goal.returns-clause-some
returns-clause-some g c =
    let s = c.in-Some.ensures.some in
    let old = c.self.inside in
    let place = subst (λ (p : SessionView). c.args.k < length p.dispatch_seat.lent) (sym c.self.view_is) c.requires.place in
    let back = c.give_back.ensures.state_after in
    let less = returned old.core.geometry c.args.k _ _ old.dispatch_seat.lent _ _ back.0 place back.1 back.3 s.3 in
    let new = session_view g.R.Read.remaining g.L.ReplySink.sent g.L.ReplySink.sent_at (record old { core = c.give_back.new.self; dispatch_seat = c.collect.new.seat }) in
    subst (λ (p : SessionView). steps_ahead new < steps_ahead p) c.self.view_is less.0
