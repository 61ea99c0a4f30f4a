-- A flag that is set adds one to the count, a clear one adds nothing.
use Rattle.std.proofs.Common.{◌≡◌, arith, true, false, get_or}
use Rattle.std.proofs.lemmas.Grind.{common_steps}
use Rattle.checkpoint.proofs.DirtyPieces.{count_after}
use Rattle.checkpoint.proofs.dirty.count_dirty.Goals as goal
use Rattle.checkpoint.proofs.dirty.count_dirty.Goals.{then-is_dirty, else-is_dirty}

pub loop-is_dirty-preserved : goal.loop-is_dirty-preserved
loop-is_dirty-preserved c =
    elim c.if-is_dirty.branch [
      | then-is_dirty w ↦
          let dirty_at : get_or c.args.dirty.now c.loop-is_dirty.is_dirty-index false ≡ true = grind (arith, common_steps) in
          let more = count_after true c.args.dirty.now c.loop-is_dirty.is_dirty-index (omega arith) dirty_at in
          record { count = omega (arith, more, w.count-is, c.loop-is_dirty.invariant.count); most = omega (arith, w.count-is, c.loop-is_dirty.invariant.most) }
      | else-is_dirty w ↦
          let clean : get_or c.args.dirty.now c.loop-is_dirty.is_dirty-index false ≡ false = grind (arith, common_steps) in
          let more = count_after false c.args.dirty.now c.loop-is_dirty.is_dirty-index (omega arith) clean in
          record { count = omega (arith, more, w.count-is, c.loop-is_dirty.invariant.count); most = omega (arith, w.count-is, c.loop-is_dirty.invariant.most) }
    ]
