-- All pieces of the message's volume are looked at, and it changes none of another volume.
use Rattle.std.proofs.Common.{◌≡◌, ◌<◌, Bool, List, ℕ, false, length, sym, ◌∙◌, arith}
use Rattle.image.specs.Touched.{may_change}
use Rattle.checkpoint.proofs.DirtyPieces.{all_looked, none_looked, one_passed, one_touched}
use Rattle.checkpoint.proofs.dirty.dirty_one.Goals as goal
use Rattle.checkpoint.proofs.dirty.dirty_one.Goals.{then-touched, else-touched}

pub loop-n-init : goal.loop-n-init
loop-n-init c =
    let none : (flags : List Bool) → _ = λ flags. none_looked c.args.g.now c.args.m.now _ flags c.first_piece-first.ensures.first in
    (none c.args.named.now, none c.args.other.now)

pub loop-n-preserved : goal.loop-n-preserved
loop-n-preserved c =
    let named = c.loop-n.invariant.0 in
    let other = c.loop-n.invariant.1 in
    let few : c.loop-n.n < length c.loop-n.named = omega (arith, c.loop-n-test.true, named.size) in
    let few' : c.loop-n.n < length c.loop-n.other = omega (arith, c.loop-n-test.true, other.size, c.requires) in
    elim c.if-touched.branch [
      | then-touched w ↦
          let on = sym c.touched.ensures ∙ w.if-touched.true in
          rw (w.named-is, w.other-is) (one_touched _ _ c.loop-n.n _ _ few on named, one_touched _ _ c.loop-n.n _ _ few' on other)
      | else-touched w ↦
          let off : may_change c.args.g.now c.args.m.now c.loop-n.n ≡ false = sym c.touched.ensures ∙ w.if-touched.false in
          rw (w.named-is, w.other-is) (one_passed _ _ c.loop-n.n _ _ off named, one_passed _ _ c.loop-n.n _ _ off other)
    ]

pub returns-clause-named : goal.returns-clause-named
returns-clause-named c = all_looked _ _ c.loop-n.n _ _ (λ n few after. omega arith) c.loop-n.invariant.0

pub returns-clause-other : goal.returns-clause-other
returns-clause-other c = all_looked _ _ c.loop-n.n _ _ (λ n few after. omega arith) c.loop-n.invariant.1
