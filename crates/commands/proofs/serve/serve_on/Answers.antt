-- A refused opening leaves input and output; else the device is given back with all that its server promises.
use Rattle.std.proofs.Common.{refl}
use Rattle.serving.specs.Exchange.{exchange}
use Rattle.commands.specs.Faults.{command_result}
use Rattle.commands.proofs.Acknowledged.{keeps_acknowledged}
use Rattle.commands.proofs.KeepsPromise.{opened_server, opening_keeps_promise, opens_server, run_keeps_promise}
use Rattle.commands.proofs.Promise.{leaves_recovered, leaves_run}
use Rattle.commands.proofs.ServedDevice.{ends_on_device, crashes_safely, has_served_by}
use Rattle.commands.proofs.serve.serve_on.Goals as goal

pub returns-in-Err-clause-ends : goal.returns-in-Err-clause-ends
returns-in-Err-clause-ends g c = rw c.from-in-Err.ensures
    ((λ k. (c.in-Err.ensures.refused k, c.in-Err.ensures.unwritten k)), refl, refl, c.in-Err.ensures.device)

pub returns-in-Err-clause-opens : goal.returns-in-Err-clause-opens
returns-in-Err-clause-opens g c keep geometry server held = opens_server keep geometry server (g.D.Disk.medium c.args.disk) held c.args.service _ _ _
    (g.met.D.Disk.bytes c.args.disk) (returns-in-Err-clause-ends g c)

pub returns-in-Err-clause-kept : goal.returns-in-Err-clause-kept
returns-in-Err-clause-kept g c = rw c.from-in-Err.ensures refl

pub returns-in-Err-clause-goes_on : goal.returns-in-Err-clause-goes_on
returns-in-Err-clause-goes_on g c =
    let input = g.R.Read.remaining c.args.r.now in
    let before = g.W.Write.contents c.args.w.now in
    let refused = c.in-Err.ensures in
    rw c.from-in-Err.ensures
    (leaves_run c.args.service (g.D.Disk.medium c.args.disk) (g.D.Disk.medium c.in-Err.error.disk) _ (exchange input input before before)
    (g.met.D.Disk.bytes c.args.disk) ((λ k. (refused.refused k, refused.unwritten k)), refl, refl, refused.device) refused.any_moment refl)

pub returns-in-Err-clause-promise : goal.returns-in-Err-clause-promise
returns-in-Err-clause-promise g c keep synced geometry server crashed held leaves =
    let input = g.R.Read.remaining c.args.r.now in
    let before = g.W.Write.contents c.args.w.now in
    run_keeps_promise keep geometry server (g.D.Disk.medium c.args.disk) held synced crashed c.args.service (g.D.Disk.medium c.in-Err.error.disk) _
    (exchange input input before before) leaves (returns-in-Err-clause-ends g c) (returns-in-Err-clause-kept g c) (returns-in-Err-clause-goes_on g c keep geometry)

pub run_opened-core-requires-clause-fresh : goal.run_opened-core-requires-clause-fresh
run_opened-core-requires-clause-fresh g c = λ lifetimes bounds. rw c.from.ensures at c.in-Ok.ensures.opened

pub run_opened-core-requires-clause-opened : goal.run_opened-core-requires-clause-opened
run_opened-core-requires-clause-opened g c = λ lifetimes bounds. rw c.of-found.ensures (λ keep geometry server held.
    let own = opened_server keep geometry server (g.D.Disk.medium c.args.disk) held c.in-Ok.core
    (record { header = c.in-Ok.ensures.header; recovered_before = c.in-Ok.ensures.recovered_before }) in
    (own.0, (rw c.from.ensures at c.in-Ok.ensures.opened).slots_are, own.1))

pub run_opened-core-requires-clause-opening : goal.run_opened-core-requires-clause-opening
run_opened-core-requires-clause-opening g c = λ lifetimes bounds. rw c.of-found.ensures (λ keep synced geometry server crashed held since.
    opening_keeps_promise keep geometry server (g.D.Disk.medium c.args.disk) held synced crashed c.args.service.slots c.in-Ok.core.medium _ _
    (c.in-Ok.ensures.any_moment keep) since)

pub returns : goal.returns
returns g c =
    let keeps = g.D.Disk.keeps in
    let service = c.args.service in
    let old = g.D.Disk.medium c.args.disk in
    let start = c.in-Ok.core in
    let now = c.run_opened-core.result.0 in
    let end = c.run_opened-core.result.1 in
    let streams = exchange (g.R.Read.remaining c.args.r.now) (g.R.Read.remaining c.run_opened-core.new.r) (g.W.Write.contents c.args.w.now)
    (g.W.Write.contents c.run_opened-core.new.w) in
    let by = has_served_by keeps service old start now end streams (rw c.from.ensures at c.in-Ok.ensures.opened)
    (record { header = c.in-Ok.ensures.header; recovered_before = c.in-Ok.ensures.recovered_before })
    c.in-Ok.ensures.any_moment c.in-Ok.ensures.no_fault c.run_opened-core.ensures c.know_recovery.ensures.now in
    let ends = ends_on_device end by c.know_recovery.ensures.no_doubt (rw c.into_disk.ensures at (g.met.D.Disk.bytes c.into_disk.result)) in
    let goes_on = leaves_run service old now.medium (command_result end) streams (g.met.D.Disk.bytes c.args.disk) ends (crashes_safely end by)
    (leaves_recovered end by) in
    rw (c.into_disk.ensures, c.command_result.ensures) (record {
      ends = ends;
      crash_safe = crashes_safely end by;
      kept = keeps_acknowledged end by;
      recovers = leaves_recovered end by;
      promise = λ keep synced geometry server crashed held leaves. run_keeps_promise keep geometry server old held synced crashed service now.medium
          (command_result end) streams leaves ends (keeps_acknowledged end by) (goes_on keep geometry);
      opens = λ keep geometry server held. opens_server keep geometry server old held service now.medium (command_result end) streams
          (g.met.D.Disk.bytes c.args.disk) ends;
      goes_on = goes_on;
    })
