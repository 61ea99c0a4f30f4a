-- The lemmas on a line that is consumed with its message, if it has one.
use Rattle.std.proofs.Common.{◌∙◌, ◌++◌, ◌∷◌, [], ℕ, Err, Ok, ap, refl, subst, sym, List, Option, Result, ◌≡◌}
use Rattle.histories.specs.declared.outcomes.ArriveRefusal.TheVariants as arrivals
use Rattle.reorder_buffer.specs.ReorderBuffer.{AreConsecutive, with_tickets}
use Rattle.histories.specs.declared.outcomes.ArriveRefusal.{ArriveRefusal}
use Rattle.scheduler.specs.declared.hands.HandContent.{HandContent}
use Rattle.protocol.specs.Grammar.{message_of}
use Rattle.scheduler.specs.Calls.{ArrivesByLine}
use Rattle.serving.specs.Lines.{NoMessage, OutOfRange, Pending}
use Rattle.serving.specs.Runs.{HandsHaveJobs}
use Rattle.serving.proofs.Arrivals.{few_by_line, still_by_line}
use Rattle.serving.proofs.TakesLines.{ComesSo, comes_as, next_of_line, not_full}
use Rattle.serving.proofs.input.take.Given.{Over}
use Rattle.serving.proofs.input.take.Goals.{After-arrive_line}
use Rattle.serving.proofs.input.take.Goals as goal

-- by the result of the arrival
came_so : (g : Over) (c : After-arrive_line g) (hands : List HandContent) → HandsHaveJobs (record { core = c.args.core.now; hands = hands })
    → {r : Result (Option ℕ) ArriveRefusal} → c.arrive_line.result ≡ r
    → ComesSo g.D.Disk.keeps (record { core = c.args.core.now; hands = hands }) (record { core = c.arrive_line.new.self; hands = hands }) (message_of c.args.line.now) r
came_so g c hands h is = comes_as g.D.Disk.keeps c.args.core.now c.arrive_line.new.self c.know_recovery.ensures.no_doubt c.know_recovery.ensures.now
    c.arrive_line.ensures.geometry c.arrive_line.ensures.untouched hands h (message_of c.args.line.now) c.arrive_line.result _ c.arrive_line.ensures.arrives is

pub returns-in-Ok-Some-clause-takes : goal.returns-in-Ok-Some-clause-takes
returns-in-Ok-Some-clause-takes g c hands h =
    let came = came_so g (goal.at.returns-in-Ok-Some-clause-takes g c).After-arrive_line hands h (c.in-Ok-Some.is ∙ ap Ok c.in-Ok-Some.field-0-is) in
    (Pending c.in-Ok-Some.ticket, came, c.push.ensures.lines)

pub returns-in-Ok-None-clause-takes : goal.returns-in-Ok-None-clause-takes
returns-in-Ok-None-clause-takes g c hands h =
    let came = came_so g (goal.at.returns-in-Ok-None-clause-takes g c).After-arrive_line hands h (c.in-Ok-None.is ∙ ap Ok c.in-Ok-None.field-0-is) in
    (NoMessage, came, c.push-in-Ok-None.ensures.lines)

pub returns-in-Err-Range-clause-takes : goal.returns-in-Err-Range-clause-takes
returns-in-Err-Range-clause-takes g c hands h =
    let came = came_so g (goal.at.returns-in-Err-Range-clause-takes g c).After-arrive_line hands h (c.in-Err-Range.is ∙ ap Err c.in-Err-Range.field-0-is) in
    (OutOfRange, came, c.push-in-Err-Range.ensures.lines)

pub returns-in-Err-Exhausted-clause-takes : goal.returns-in-Err-Exhausted-clause-takes
returns-in-Err-Exhausted-clause-takes g c hands h =
    let came = came_so g (goal.at.returns-in-Err-Exhausted-clause-takes g c).After-arrive_line hands h (c.in-Err-Exhausted.is ∙ ap Err c.in-Err-Exhausted.field-0-is) in
    (came.0, arrivals.Exhausted, came.1, came.2, refl, refl)

pub unreachable-requires : goal.unreachable-requires
unreachable-requires g c =
    let came = ArrivesByLine c.args.core.now c.arrive_line.new.self (message_of c.args.line.now) in
    not_full _ _ _ c.requires.a_slot (subst came (c.in-Err-Full.is ∙ ap Err c.in-Err-Full.field-0-is) c.arrive_line.ensures.arrives)

pub returns-in-Err-Failed-clause-takes : goal.returns-in-Err-Failed-clause-takes
returns-in-Err-Failed-clause-takes g c hands h =
    let came = came_so g (goal.at.returns-in-Err-Failed-clause-takes g c).After-arrive_line hands h (c.in-Err-Failed.is ∙ ap Err c.in-Err-Failed.field-0-is) in
    (came.0, arrivals.Failed, came.1, came.2, refl, refl)

pub push-requires-clause-order : goal.push-requires-clause-order
push-requires-clause-order g c ticket is =
    let old = c.args.core.now in
    let next = next_of_line old c.arrive_line.new.self (message_of c.args.line.now) c.in-Ok-Some.ticket
    (subst (ArrivesByLine old c.arrive_line.new.self (message_of c.args.line.now)) (c.in-Ok-Some.is ∙ ap Ok c.in-Ok-Some.field-0-is) c.arrive_line.ensures.arrives) in
    subst (λ (t : ℕ). AreConsecutive (with_tickets c.args.reorder_buffer.now.lines ++ Pending t ∷ [])) (sym next) c.requires.order

pub returns-in-Ok-Some-clause-steps : goal.returns-in-Ok-Some-clause-steps
returns-in-Ok-Some-clause-steps g c lent = few_by_line _ _ _ _ c.arrive_line.ensures.arrives lent

pub returns-in-Ok-None-clause-steps : goal.returns-in-Ok-None-clause-steps
returns-in-Ok-None-clause-steps g c lent = few_by_line _ _ _ _ c.arrive_line.ensures.arrives lent

pub returns-in-Err-Range-clause-steps : goal.returns-in-Err-Range-clause-steps
returns-in-Err-Range-clause-steps g c lent = few_by_line _ _ _ _ c.arrive_line.ensures.arrives lent

pub returns-in-Err-Exhausted-clause-steps : goal.returns-in-Err-Exhausted-clause-steps
returns-in-Err-Exhausted-clause-steps g c lent = few_by_line _ _ _ _ c.arrive_line.ensures.arrives lent

pub returns-in-Err-Failed-clause-steps : goal.returns-in-Err-Failed-clause-steps
returns-in-Err-Failed-clause-steps g c lent = few_by_line _ _ _ _ c.arrive_line.ensures.arrives lent

pub returns-in-Err-Exhausted-clause-still : goal.returns-in-Err-Exhausted-clause-still
returns-in-Err-Exhausted-clause-still g c =
    still_by_line _ _ (message_of c.args.line.now) arrivals.Exhausted (subst (ArrivesByLine c.args.core.now c.arrive_line.new.self (message_of c.args.line.now))
    (c.in-Err-Exhausted.is ∙ ap Err c.in-Err-Exhausted.field-0-is) c.arrive_line.ensures.arrives)

pub returns-in-Err-Failed-clause-still : goal.returns-in-Err-Failed-clause-still
returns-in-Err-Failed-clause-still g c =
    still_by_line _ _ (message_of c.args.line.now) arrivals.Failed (subst (ArrivesByLine c.args.core.now c.arrive_line.new.self (message_of c.args.line.now))
    (c.in-Err-Failed.is ∙ ap Err c.in-Err-Failed.field-0-is) c.arrive_line.ensures.arrives)
