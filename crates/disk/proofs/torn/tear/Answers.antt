-- An unsynced byte becomes what this kind of crash leaves there, and a synced one stays.
use Rattle.std.proofs.Common.{arith}
use Rattle.disk.specs.CrashImages.{torn_byte}
use Rattle.disk.proofs.TornSoFar.{torn_more, kept_more}
use Rattle.disk.proofs.torn.tear.Goals as goal
use Rattle.disk.proofs.torn.tear.Goals.{then-is_unsynced, else-is_unsynced}

pub loop-i-preserved : goal.loop-i-preserved
loop-i-preserved c =
    let put = torn_byte c.args.kind.now c.args.last_synced.now c.args.last_written.now in
    elim c.if-is_unsynced.branch [
      | then-is_unsynced w ↦
          let more = torn_more put c.loop-i.i c.loop-i.below c.args.unsynced.now c.loop-i.bytes (omega arith) (omega arith) w.if-is_unsynced.true in
          record { few = omega arith; torn = cc }
      | else-is_unsynced w ↦
          let more = kept_more put c.loop-i.i c.loop-i.below c.args.unsynced.now c.loop-i.bytes (omega arith) (omega arith) w.if-is_unsynced.false in
          record { few = omega arith; torn = cc }
    ]
