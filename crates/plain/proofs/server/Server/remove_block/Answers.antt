-- Where a block goes, its stripe had at least one and has one fewer; where there is none, nothing changes.
use Rattle.std.proofs.Common.{rules, ◌≡◌, ◌+◌, true, false, sym, ◌∙◌, subst}
use Rattle.std.specs.Prelude.{is_some}
use Rattle.std.specs.BTreeMap as map
use Rattle.meaning.specs.State.{blocks_in_stripe}
use Rattle.meaning.proofs.Sums.{one_if}
use Rattle.meaning.specs.KeyOrders.{block_order}
use Rattle.plain.specs.Server.{StripeKey, is_stripe, server_state, noted}
use Rattle.meaning.proofs.Keys.{no_block}
use Rattle.plain.proofs.Writes.{AreCounts}
use Rattle.plain.proofs.Removals.{some_noted, less_counts, no_block_there}
use Rattle.plain.proofs.server.Server.remove_block.Goals as goal

pub note_one_less-requires : goal.note_one_less-requires
note_one_less-requires c =
    let x = server_state c.args.self.now in
    let there : is_some (x.blocks (c.args.a, c.args.v, c.args.f, c.args.b)) ≡ true = search rules in
    let block = c.requires.sound.state.blocks (c.args.a, c.args.v, c.args.f, c.args.b) there in
    let file = c.requires.sound.state.files (c.args.a, c.args.v, c.args.f) block.1 in
    record {
      some = some_noted c.args.g.now x c.args.a c.args.v c.args.f c.args.b file.0 block.0 there _
          (subst (λ s. noted c.args.self.now (c.args.a, c.args.v, c.group_of.result) ≡ blocks_in_stripe c.args.g.now x c.args.a c.args.v s)
          c.group_of.ensures.value (c.requires.sound.counted (c.args.a, c.args.v, c.group_of.result)));
    }

pub returns-then-is_some-clause-state : goal.returns-then-is_some-clause-state
returns-then-is_some-clause-state c = c.note_one_less.ensures.state ∙ (λ i. record (server_state c.args.self.now) {
  blocks = no_block (map.get block_order c.args.self.now.blocks) (map.get block_order c.remove.new.self) c.args.a c.args.v c.args.f c.args.b c.remove.ensures.updates.0 i;
})

pub returns-then-is_some-clause-counted : goal.returns-then-is_some-clause-counted
returns-then-is_some-clause-counted c =
    let x = server_state c.args.self.now in
    let there : is_some (x.blocks (c.args.a, c.args.v, c.args.f, c.args.b)) ≡ true = search rules in
    let block = c.requires.sound.state.blocks (c.args.a, c.args.v, c.args.f, c.args.b) there in
    let file = c.requires.sound.state.files (c.args.a, c.args.v, c.args.f) block.1 in
    subst (AreCounts c.args.g.now (noted c.note_one_less.new.self)) (sym (returns-then-is_some-clause-state c))
    (less_counts c.args.g.now x c.args.a c.args.v c.args.f c.args.b file.0 block.0 there (noted c.args.self.now) (noted c.note_one_less.new.self) c.requires.sound.counted
    (subst (λ s. (k : StripeKey) → noted c.note_one_less.new.self k + one_if (is_stripe c.args.a c.args.v s k) ≡ noted c.args.self.now k) c.group_of.ensures.value c.note_one_less.ensures.noted))

pub returns-else-is_some-clause-state : goal.returns-else-is_some-clause-state
returns-else-is_some-clause-state c = λ i. record (server_state c.args.self.now) {
  blocks = no_block (map.get block_order c.args.self.now.blocks) (map.get block_order c.remove.new.self) c.args.a c.args.v c.args.f c.args.b c.remove.ensures.updates.0 i;
}

pub returns-else-is_some-clause-counted : goal.returns-else-is_some-clause-counted
returns-else-is_some-clause-counted c =
    let x = server_state c.args.self.now in
    let absent : is_some (x.blocks (c.args.a, c.args.v, c.args.f, c.args.b)) ≡ false = search rules in
    subst (AreCounts c.args.g.now (noted c.args.self.now)) (sym (returns-else-is_some-clause-state c ∙ no_block_there x c.args.a c.args.v c.args.f c.args.b absent)) c.requires.sound.counted
