-- At most one of the two steps sends something: the other finds a whole line, or nothing that waits.
use Rattle.std.proofs.Common.{arith, ℕ, List, Option, ap, sym, subst, ⊎_elim, length}
use Rattle.message.specs.AppendsBeginning.{AppendsBeginning}
use Rattle.plain.proofs.answering.send_before_line.Goals as goal

pub returns-clause-begun : goal.returns-clause-begun
returns-clause-begun g c =
    let contents = g.W.Write.contents in
    let first = c.send_before_read in
    ⊎_elim
    (λ holds. let idle = first.ensures.idle holds in
    subst (λ (b : Option (List ℕ)). AppendsBeginning b (contents c.make_room.new.w) c.args.out.now) (ap contents idle.2)
    (subst (AppendsBeginning (contents first.new.w) (contents c.make_room.new.w)) idle.1 c.make_room.ensures.begun))
    (λ none. let idle = c.make_room.ensures.idle (omega (arith, ap length none)) in
    subst (λ (b : Option (List ℕ)). AppendsBeginning (contents c.args.w.now) b c.args.out.now) (sym (ap contents idle.2)) first.ensures.begun)
    c.in_ok-send_before_read.ensures.none_waits
