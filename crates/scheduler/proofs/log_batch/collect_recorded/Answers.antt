-- The chain of slots whose messages ran is walked slot by slot: each slot has a message, and the log keeps it if it is a change that was carried out.
use Rattle.std.proofs.Common.{sym, ap, ◌∙◌, refl, length, arith}
use Rattle.std.specs.Prelude.{cond, option_copied}
use Rattle.affinity.specs.Kind.{is_changing}
use Rattle.histories.proofs.Room.{at_most_one}
use Rattle.scheduler.proofs.RecordedIn.{chain_short, changing_more, gathered_more, ran_goes_on, ran_is_there, ran_next}
use Rattle.scheduler.proofs.log_batch.collect_recorded.Goals as goal
use Rattle.scheduler.specs.declared.core_memory.TheConstants.{RAN}

pub loop-init : goal.loop-init
loop-init c = record {
  at = c.front-at.ensures.slot;
  found = refl;
  few = omega arith;
  batch = c.requires.empty;
  short = let none = ap length c.requires.empty in omega (arith, none);
  capacity = refl;
}

pub unreachable-requires : goal.unreachable-requires
unreachable-requires c = ran_goes_on c.args.slots.now c.loop.counter c.args.count c.loop-test.true c.requires.count (sym c.loop.invariant.at ∙ c.in_default.is)

pub unreachable-requires-in_default-get : goal.unreachable-requires-in_default-get
unreachable-requires-in_default-get c = ran_is_there c.args.slots.now c.args.replies.now c.requires.chains c.loop.counter c.in-Some.i (sym c.loop.invariant.at ∙ c.in-Some.is)
    (sym c.get.ensures.value ∙ ap option_copied c.in_default-get.is)

pub push_if_recorded-requires : goal.push_if_recorded-requires
push_if_recorded-requires c = record {
  room =
      let few = c.loop.invariant.short in
      let low = c.loop-test.true in
      let count = c.requires.count in
      let chain = chain_short c.args.slots.now RAN c.requires.chains.partitioned in
      let room = c.requires.room in
      let same = c.loop.invariant.capacity in
      omega (arith, few, low, count, chain, room, same);
}

pub loop-preserved : goal.loop-preserved
loop-preserved c =
    let first = sym c.loop.invariant.at ∙ c.in-Some.is in
    let value = sym (ap option_copied c.in-Some-get.is) ∙ c.get.ensures.value in
    record {
      at = c.next-at.ensures.slot ∙ ran_next c.args.slots.now c.args.replies.now c.requires.chains c.loop.counter c.in-Some.i first;
      found = changing_more c.args.slots.now c.args.replies.now c.requires.chains c.loop.counter c.in-Some.i first c.in-Some-get.slot.now value
          c.loop.found c.one_if-found.result c.loop.invariant.found
          (c.one_if-found.ensures ∙ ap (λ b. cond b 1 0) (c.changing.ensures ∙ ap is_changing c.kind.ensures));
      few = let is = c.one_if-found.ensures in let one = at_most_one c.changing.result in let few = c.loop.invariant.few in omega (arith, is, one, few);
      batch = c.push_if_recorded.ensures.batch
          ∙ gathered_more c.args.slots.now c.args.replies.now c.requires.chains c.loop.counter c.in-Some.i first c.in-Some-get.slot.now value _ refl c.loop.batch.items c.loop.invariant.batch;
      short = let more = c.push_if_recorded.ensures.few in let few = c.loop.invariant.short in omega (arith, more, few);
      capacity = c.push_if_recorded.ensures.capacity ∙ c.loop.invariant.capacity;
    }
