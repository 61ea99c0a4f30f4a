-- A crash in the next batch leaves a prefix of all messages, since the batches before it are in the front.
use Rattle.std.proofs.Common.{◌≡◌, ◌∙◌, ℕ, ◌+◌, ◌-◌, ◌*◌, List, ap, length, take, subst, arith, refl}
use Rattle.std.proofs.lemmas.List.{length-map, length-take-le, take_all}
use Rattle.std.proofs.lemmas.Result.{err_from_is_err_and}
use Rattle.disk.specs.Device.{moment_number}
use Rattle.oplog.specs.Log.{batch_count}
use Rattle.oplog.proofs.BatchCounts.{batch_left, one_batch, whole_batch}
use Rattle.std.proofs.lemmas.Grind.{common_steps}
use Rattle.device_map.specs.Layout.{layout_of}
use Rattle.protocol.specs.declared.messages.Msg.{Msg}
use Rattle.message.specs.Records.{record_of}
use Rattle.oplog.specs.Changes.{IsReady, HasAppendedAll}
use Rattle.oplog.specs.ChangeRecords.{records_of}
use Rattle.oplog.proofs.Batches.{begun, messages_moments, messages_more}
use Rattle.oplog.proofs.half.Half.append.Goals as goal

pub loop-done-init : goal.loop-done-init
loop-done-init g c = record {
  inside = omega arith;
  none = λ _. refl;
  buffer = refl;
  len = refl;
  faults = refl;
  whole = λ more. refl;
  takes = λ k. omega arith;
  so_far = λ k. begun (layout_of c.args.self.geometry) c.args.self.number c.args.used (records_of c.args.messages.now) (g.D.Disk.medium c.args.disk.now) (c.requires.ready k);
}

pub append_batch-requires-clause-ready : goal.append_batch-requires-clause-ready
append_batch-requires-clause-ready g c = λ k.
    let count : length (records_of (take c.loop-done.done c.args.messages.now)) ≡ c.loop-done.done = length-map _ record_of ∙ length-take-le _ _ c.loop-done.invariant.inside in
    subst (λ (j : ℕ). IsReady (layout_of c.args.self.geometry) c.args.self.number (c.args.used + j) (g.D.Disk.medium c.loop-done.disk)) count (c.loop-done.invariant.so_far k).has.ready

pub returns-clause-any_moment : goal.returns-clause-any_moment
returns-clause-any_moment g c = λ k. (c.loop-done.invariant.so_far k).moments

pub returns-clause-added : goal.returns-clause-added
returns-clause-added g c = λ k.
    let all : take c.loop-done.done c.args.messages.now ≡ c.args.messages.now = take_all c.loop-done.done c.args.messages.now c.loop-done-test.false in
    subst (λ (ms : List Msg). HasAppendedAll (layout_of c.args.self.geometry) c.args.self.number c.args.used (records_of ms) (g.D.Disk.medium c.args.disk.now)
    (g.D.Disk.medium c.loop-done.disk)) all (c.loop-done.invariant.so_far k).has

pub returns-in_err-append_batch-clause-any_moment : goal.returns-in_err-append_batch-clause-any_moment
returns-in_err-append_batch-clause-any_moment g c = λ k.
    messages_moments (layout_of c.args.self.geometry) c.args.self.number c.args.used c.loop-done.done (c.min-end.result - c.loop-done.done) c.args.messages.now (omega arith)
    (g.D.Disk.medium c.args.disk.now) (g.D.Disk.medium c.loop-done.disk) (g.D.Disk.medium c.append_batch.new.disk) (c.loop-done.invariant.so_far k) (c.append_batch.ensures.any_moment k)

pub returns-in_err-append_batch-clause-costs : goal.returns-in_err-append_batch-clause-costs
returns-in_err-append_batch-clause-costs g c =
    rw (err_from_is_err_and c.from_residual.result c.from_residual.ensures.1).1
    (λ k.
    let left = batch_left c.loop-done.done (length c.args.messages.now) (omega arith) (c.loop-done.invariant.whole (omega arith)) in
    omega (arith, left, c.loop-done.invariant.takes k, c.in_err-append_batch.ensures.costs k))

pub returns-clause-costs : goal.returns-clause-costs
returns-clause-costs g c = λ k.
    let all : c.loop-done.done ≡ length c.args.messages.now = omega arith in
    c.loop-done.invariant.takes k ∙ ap (λ (n : ℕ). moment_number (g.D.Disk.medium c.args.disk.now) + 4 * batch_count n) all

pub loop-done-preserved : goal.loop-done-preserved
loop-done-preserved g c = record {
  inside = grind (arith, common_steps);
  none = λ empty. absurd (omega (arith, empty));
  buffer = grind (arith, common_steps);
  len = grind (arith, common_steps);
  faults = grind (arith, common_steps);
  whole = λ more. whole_batch c.loop-done.done c.min-end.result (length c.args.messages.now) (c.loop-done.invariant.whole (omega arith)) c.min-end.ensures (omega (arith, more));
  takes = λ k.
      let one = one_batch c.loop-done.done c.min-end.result (length c.args.messages.now) (omega arith) (c.loop-done.invariant.whole (omega arith)) c.min-end.ensures in
      omega (arith, one, c.loop-done.invariant.takes k, c.in_ok-append_batch.ensures.costs k);
  so_far = λ k.
      let end : c.loop-done.done + (c.min-end.result - c.loop-done.done) ≡ c.min-end.result = omega arith in
      rw (← end)
      (messages_more (layout_of c.args.self.geometry) c.args.self.number c.args.used c.loop-done.done (c.min-end.result - c.loop-done.done) c.args.messages.now (omega arith)
      (g.D.Disk.medium c.args.disk.now) (g.D.Disk.medium c.loop-done.disk) (g.D.Disk.medium c.append_batch.new.disk)
      (c.loop-done.invariant.so_far k) (c.append_batch.ensures.any_moment k) (c.in_ok-append_batch.ensures.added k));
}
