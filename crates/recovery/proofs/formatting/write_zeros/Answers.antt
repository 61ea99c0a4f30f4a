-- Each write stays within the range, and begins where the zeros before it end.
use Rattle.std.proofs.Common.{◌+◌, refl, sym, ◌∙◌, arith}
use Rattle.std.proofs.lemmas.List.{length-take}
use Rattle.std.proofs.lemmas.Grind.{common_steps}
use Rattle.oplog.proofs.PartLemmas.{nothing_over}
use Rattle.recovery.proofs.CrashesChangeOnly.{changed_then, changed_within, nothing_changed, some_zeros, zeros_more}
use Rattle.disk.specs.Device.{overlaid}
use Rattle.recovery.proofs.formatting.write_zeros.Goals as goal

pub zeros-init : goal.zeros-init
zeros-init g c = record {
  inside = omega arith;
  len = refl;
  faults = refl;
  moments = λ k. nothing_changed (g.D.Disk.medium c.args.disk.now) c.args.at c.args.count;
  written = λ k. sym (nothing_over (g.D.Disk.medium c.args.disk.now).now c.args.at);
}

pub returns-in_err-write-clause-any_moment : goal.returns-in_err-write-clause-any_moment
returns-in_err-write-clause-any_moment g c = λ k.
    changed_then (c.zeros.invariant.moments k)
    (changed_within (omega arith) (omega (arith, c.min-size.ensures, length-take c.min-size.result c.args.zeros.now)) (c.write.ensures.any_moment k))

pub zeros-preserved : goal.zeros-preserved
zeros-preserved g c = record {
  inside = grind (arith, common_steps);
  len = grind (arith, common_steps);
  faults = grind (arith, common_steps);
  moments = λ k.
      changed_then (c.zeros.invariant.moments k)
      (changed_within (omega arith) (omega (arith, c.min-size.ensures, length-take c.min-size.result c.args.zeros.now)) (c.write.ensures.any_moment k));
  written = λ k.
      c.in_ok-write.ensures.written k ∙ (λ i. overlaid (c.zeros.invariant.written k i) (c.args.at + c.zeros.done)
      (some_zeros c.args.zeros.now c.min-size.result c.requires.zeros (omega (arith, c.min-size.ensures)) i))
      ∙ zeros_more (g.D.Disk.medium c.args.disk.now).now c.args.at c.zeros.done c.min-size.result;
}
