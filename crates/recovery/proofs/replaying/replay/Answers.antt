-- Counting only reads the device. All records before this one were run, so one that can't be is the first bad one; else the run goes on.
use Rattle.std.proofs.Common.{ℕ, List, Ok, Some, refl, sym, ◌∙◌, ap, arith}
use Rattle.std.proofs.lemmas.List.{at_drop_all}
use Rattle.oplog.proofs.Results.{err_is}
use Rattle.device_map.specs.Layout.{device_size, layout_of}
use Rattle.oplog.specs.HalfContent.{front}
use Rattle.oplog.specs.Log.{Log, layout_of_log}
use Rattle.oplog.specs.Recovery.{run}
use Rattle.parcel.specs.Tree.{state_in}
use Rattle.recovery.specs.OpeningCalls.{IsReadingCall}
use Rattle.recovery.specs.Recovery.{decoding}
use Rattle.recovery.proofs.ReadingCalls.{after, passed_on}
use Rattle.recovery.proofs.Replays.{apply_same, at_first, at_next, bad_at, record_fault_same, same_bytes}
use Rattle.recovery.proofs.replaying.replay.Goals as goal

pub loop-i-init : goal.loop-i-init
loop-i-init g c = record {
  whole = c.requires.whole;
  geometry = refl;
  log = c.in_ok-count.ensures.log;
  len = c.front.ensures.call.len;
  faults = c.in_ok-count.ensures.call.counts;
  untouched = λ k. c.front.ensures.untouched k;
  at = λ k. at_first _ _ _ _ _;
}

pub returns-in_err-replay_record-clause-refused : goal.returns-in_err-replay_record-clause-refused
returns-in_err-replay_record-clause-refused g c =
    rw (err_is c.from_residual-in_err-replay_record.ensures.1) (λ k.
    bad_at c.args.tree.now.geometry (layout_of_log c.args.log.now) c.args.half (g.D.Disk.medium c.args.disk.now).now (state_in c.args.tree.now) c.loop-i.i (state_in c.loop-i.tree)
    (omega (arith, c.loop-i-test.true, c.in_ok-count.ensures.front k)) (c.loop-i.invariant.at k) _
    (record_fault_same c.loop-i.invariant.log (same_bytes (g.D.Disk.medium c.args.disk.now) (g.D.Disk.medium c.loop-i.disk) (c.loop-i.invariant.untouched k)) c.args.half
    c.loop-i.invariant.geometry (state_in c.loop-i.tree) c.loop-i.i _ (c.in_err-replay_record.ensures.refused k)))

pub loop-i-preserved : goal.loop-i-preserved
loop-i-preserved g c = record {
  whole = c.in_ok-replay_record.ensures.whole;
  geometry = c.in_ok-replay_record.ensures.geometry ∙ c.loop-i.invariant.geometry;
  log = c.in_ok-replay_record.ensures.log ∙ c.loop-i.invariant.log;
  len = c.replay_record.ensures.call.len ∙ c.loop-i.invariant.len;
  faults = c.in_ok-replay_record.ensures.call.counts ∙ c.loop-i.invariant.faults;
  untouched = λ k. c.replay_record.ensures.call.untouched k ∙ c.loop-i.invariant.untouched k;
  at = λ k.
      at_next c.args.tree.now.geometry (layout_of_log c.args.log.now) c.args.half (g.D.Disk.medium c.args.disk.now).now (state_in c.args.tree.now)
      c.loop-i.i (state_in c.loop-i.tree) (state_in c.replay_record.new.tree)
      (omega (arith, c.loop-i-test.true, c.in_ok-count.ensures.front k))
      (sym (apply_same c.loop-i.invariant.log (same_bytes (g.D.Disk.medium c.args.disk.now) (g.D.Disk.medium c.loop-i.disk) (c.loop-i.invariant.untouched k)) c.args.half
      c.loop-i.invariant.geometry (state_in c.loop-i.tree) c.loop-i.i)
      ∙ c.in_ok-replay_record.ensures.done k)
      (c.loop-i.invariant.at k);
}

pub returns-in_err-count-clause-refused : goal.returns-in_err-count-clause-refused
returns-in_err-count-clause-refused g c = rw (err_is c.from_residual.ensures.1, c.in_err-count.ensures.call.device) (λ k. tt)

pub returns-in_err-count-clause-call : goal.returns-in_err-count-clause-call
returns-in_err-count-clause-call g c = rw (err_is c.from_residual.ensures.1, c.in_err-count.ensures.call.device) (record {
  counts = rw c.in_err-count.ensures.call.device at c.in_err-count.ensures.call.counts;
  len = c.front.ensures.call.len;
  untouched = c.front.ensures.untouched;
  never_out_of_memory = λ is. cc;
})

pub replay_record-requires-clause-usable : goal.replay_record-requires-clause-usable
replay_record-requires-clause-usable g c = record {
  not_failed = ap (λ (l : Log). l.failed) c.loop-i.invariant.log ∙ c.requires.usable.not_failed;
  long_enough = omega (arith, ap (λ (l : Log). device_size (layout_of l.geometry)) c.loop-i.invariant.log, c.loop-i.invariant.len, c.requires.usable.long_enough);
}

pub returns-in_err-replay_record-clause-call : goal.returns-in_err-replay_record-clause-call
returns-in_err-replay_record-clause-call g c =
    let before : IsReadingCall g.D.Disk.keeps (Ok c.loop-i.i) (g.D.Disk.medium c.args.disk.now) (g.D.Disk.medium c.loop-i.disk) =
    record { counts = c.loop-i.invariant.faults; len = c.loop-i.invariant.len; untouched = c.loop-i.invariant.untouched; never_out_of_memory = tt } in
    rw (err_is c.from_residual-in_err-replay_record.ensures.1) (passed_on (after before c.in_err-replay_record.ensures.call))

pub returns-clause-done : goal.returns-clause-done
returns-clause-done g c = λ k.
    let records = front (layout_of_log c.args.log.now) c.args.half (g.D.Disk.medium c.args.disk.now).now in
    (c.loop-i.invariant.at k).ran
    ∙ at_drop_all (λ (rs : List (List ℕ)). run (decoding c.args.tree.now.geometry) (Some (state_in c.loop-i.tree)) rs) records c.loop-i.i
    (omega (arith, c.loop-i-test.false, c.in_ok-count.ensures.front k))

pub returns-clause-call : goal.returns-clause-call
returns-clause-call g c =
    record { counts = c.loop-i.invariant.faults; len = c.loop-i.invariant.len; untouched = c.loop-i.invariant.untouched; never_out_of_memory = tt }
