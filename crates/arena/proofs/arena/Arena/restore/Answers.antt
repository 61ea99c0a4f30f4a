-- A slot whose value is out holds none, and is on no list.
use Rattle.std.proofs.Common.{◌≡◌, true, false, is_some, None, sym, subst, ◌∙◌, slice_index_or, arith, length}
use Rattle.std.proofs.lemmas.Bool.{true≢false}
use Rattle.std.specs.List.{concat}
use Rattle.arena.specs.Lists.{count_of}
use Rattle.arena.specs.ArenaView.{ArenaView, is_lent}
use Rattle.arena.proofs.KeepsView.{restore-kept, lent-alone, not_lent-outside, not_lent-listed, not_lent, refused-answer, refused-arena, restored-answer, restored-arena}
use Rattle.arena.proofs.arena.Arena.restore.Given.{Over}
use Rattle.arena.proofs.arena.Arena.restore.Goals as goal
use Rattle.arena.proofs.arena.Arena.restore.Goals.{then-i-capacity-via-then-i-capacity, then-i-capacity-via-else-i-capacity+then-holds, then-i-capacity-via-else-i-capacity+else-holds+then-not-is_alone}

not_out : (g : Over) (c : goal.Joined-then-i-capacity g) → is_lent c.args.self.now c.args.i ≡ false
not_out g c = elim c.then-i-capacity.branch [
  | then-i-capacity-via-then-i-capacity w ↦ not_lent-outside c.args.self.now c.args.i (omega (arith, c.capacity.ensures.count))
  | then-i-capacity-via-else-i-capacity+then-holds w ↦ not_lent c.args.self.now c.args.i (sym w.holds.ensures.answer ∙ w.if-holds.true)
  | then-i-capacity-via-else-i-capacity+else-holds+then-not-is_alone w ↦ (
      let P = λ (m : ArenaView g.row.T.Denot). is_lent m c.args.i ≡ false in
      subst P c.self.view_is (not_lent-listed c.args.i c.self.invariant (λ none. true≢false (sym (w.is_alone.ensures.1 none) ∙ w.if-not-is_alone.true))))
]

is_out : (g : Over) (c : goal.After-fill g) → is_lent c.args.self.now c.args.i ≡ true
is_out g c =
    let count : c.capacity.result ≡ length c.self.inside.values.items = rw (← c.self.view_is) at c.capacity.ensures.count in
    let alone : count_of c.args.i (concat c.self.inside.links.lists) ≡ 0 = c.is_alone.ensures.0 c.if-not-is_alone.false in
    let empty : is_some (slice_index_or c.self.inside.values.items c.args.i None) ≡ false = rw (← c.self.view_is) at (sym c.holds.ensures.answer ∙ c.if-holds.false) in
    let P = λ (m : ArenaView g.row.T.Denot). is_lent m c.args.i ≡ true in
    subst P c.self.view_is (lent-alone c.args.i c.self.invariant (omega arith) empty alone)

pub returns-then-i-capacity-clause-answer : goal.returns-then-i-capacity-clause-answer
returns-then-i-capacity-clause-answer g c = refused-answer c.args.self.now c.args.i c.args.value (not_out g c)

pub returns-then-i-capacity-clause-arena : goal.returns-then-i-capacity-clause-arena
returns-then-i-capacity-clause-arena g c = refused-arena c.args.self.now c.args.i c.args.value (not_out g c)

pub invariant_of-self : goal.invariant_of-self
invariant_of-self g c =
    let count : c.capacity.result ≡ length c.self.inside.values.items = rw (← c.self.view_is) at c.capacity.ensures.count in
    let alone : count_of c.args.i (concat c.self.inside.links.lists) ≡ 0 = c.is_alone.ensures.0 c.if-not-is_alone.false in
    rw c.fill.ensures (restore-kept c.args.i c.args.value c.self.invariant (omega arith) alone)

pub returns-clause-answer : goal.returns-clause-answer
returns-clause-answer g c = restored-answer c.args.self.now c.args.i c.args.value (is_out g c)

pub returns-clause-arena : goal.returns-clause-arena
returns-clause-arena g c = restored-arena c.self.inside.links c.args.i c.args.value (is_out g c) c.fill.ensures c.self.view_is

pub returns-clause-partitioned : goal.returns-clause-partitioned
returns-clause-partitioned g c = (invariant_of-self g c).partitioned
