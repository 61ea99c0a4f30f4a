-- The next record is put behind those before it, and is as long as they are.
use Rattle.std.proofs.Common.{arith}
use Rattle.std.proofs.lemmas.Grind.{common_steps}
use Rattle.oplog.proofs.Staged.{staged_more, sized_more}
use Rattle.oplog.proofs.staging.stage.Goals as goal

pub loop-i-preserved : goal.loop-i-preserved
loop-i-preserved c = record {
  room = grind (arith, common_steps);
  staged = staged_more c.args.messages.now c.loop-i.i _ (omega arith) _ c.loop-i.out c.put_record.new.place c.put_record.ensures (omega arith) (omega arith) c.loop-i.invariant.staged;
  sized = sized_more c.args.messages.now c.loop-i.i _ (omega arith) c.put_record.new.place c.put_record.ensures (omega arith) c.loop-i.invariant.sized;
}
