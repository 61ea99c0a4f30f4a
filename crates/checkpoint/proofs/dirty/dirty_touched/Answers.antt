-- Each message adds its flags to those of the messages before it.
use Rattle.std.proofs.Common.{◌∙◌, refl, arith}
use Rattle.std.proofs.lemmas.List.{take_all}
use Rattle.checkpoint.proofs.DirtyPieces.{message_more, no_message}
use Rattle.checkpoint.proofs.dirty.dirty_touched.Goals as goal

pub loop-m-init : goal.loop-m-init
loop-m-init c = record {
  named_size = refl;
  other_size = refl;
  named = no_message c.args.g.now c.args.named.now;
  other = no_message c.args.g.now c.args.other.now;
}

pub loop-m-preserved : goal.loop-m-preserved
loop-m-preserved c =
    let so_far = c.loop-m.invariant in
    record {
      named_size = c.dirty_one.ensures.sizes.0 ∙ so_far.named_size;
      other_size = c.dirty_one.ensures.sizes.1 ∙ so_far.other_size;
      named = message_more c.args.g.now c.args.named.now c.args.messages.now c.loop-m.m-index _ c.loop-m.named c.dirty_one.new.named (omega arith) so_far.named c.dirty_one.ensures.named;
      other = message_more c.args.g.now c.args.other.now c.args.messages.now c.loop-m.m-index _ c.loop-m.other c.dirty_one.new.other (omega arith) so_far.other c.dirty_one.ensures.other;
    }

pub returns-clause-named : goal.returns-clause-named
returns-clause-named c = rw (← take_all c.loop-m.m-index c.args.messages.now (omega arith)) c.loop-m.invariant.named

pub returns-clause-other : goal.returns-clause-other
returns-clause-other c = rw (← take_all c.loop-m.m-index c.args.messages.now (omega arith)) c.loop-m.invariant.other
