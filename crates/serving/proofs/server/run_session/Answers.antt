-- The session's invariant where it begins; and what the call promises, given what `know_recovery` ensures of the core at the end.
use Rattle.std.proofs.Common.{◌≡◌, List, [], Option, ap, refl, sym, subst, ℕ, ◌∙◌, arith}
use Rattle.std.specs.Prelude.{OnOk}
use Rattle.std.proofs.lemmas.Bool.{and_left}
use Rattle.scheduler.specs.CoreView.{CoreView}
use Rattle.serving.specs.Exchange.{exchange}
use Rattle.serving.specs.Kill.{IsKillSafe}
use Rattle.oplog.specs.Recovery.{records_in}
use Rattle.serving.specs.Session.{SessionView}
use Rattle.serving.specs.SessionEnds.{reported}
use Rattle.serving.specs.Start.{Start, start_machine}
use Rattle.serving.proofs.SessionEnds.{PromisesAll, emptied_at_end, ends_or_declines, first_at, promises_from, refuses_none}
use Rattle.serving.proofs.SessionInvariant.{begun, kill_safe}
use Rattle.serving.proofs.server.run_session.Goals as goal

pub invariant_of-session : goal.invariant_of-session
invariant_of-session g c =
    let memory = c.args.memory in
    let line_reader = c.new.ensures in
    record {
      run = first_at g.D.Disk.keeps c.requires.can_begin (record {
        none_outstanding = refl;
        output_works = refl;
        reads = refl;
        none_waits = memory.none_waits;
        all = line_reader.unread;
        none_read = and_left _ _ line_reader.open;
        not_ended = line_reader.open;
        slots = ap (λ (b : _). b.slots) memory.at_bench.0;
        none_lent = memory.none_lent;
        some_place = omega (arith, c.requires.workers);
      });
      bench = memory.at_bench.0;
    }

pub returns : goal.returns
returns g c =
    let s : Start = record {
      core = c.args.core;
      places = c.args.memory.bench.slots;
      every = c.args.trigger.every;
      input = g.R.Read.remaining c.args.reader.now;
      before = g.L.ReplySink.sent c.args.sink;
    } in
    let now = c.with_workers-ended.new.task in
    let last = c.session.inside in
    let gives = c.with_workers-ended.ensures in
    let end = reported c.with_workers-ended.result in
    let safe = IsKillSafe g.D.Disk.keeps g.L.ReplySink.start now.sent now.sent_at now.core in
    let ends = ends_or_declines now (g.D.Disk.keeps → records_in now.core.geometry now.core.medium.now ≡ []) safe _ c.with_workers-ended.result gives.gives _ gives.not_begun end refl in
    let all = subst (λ (b : Option (List ℕ)). PromisesAll g.D.Disk.keeps s.every (start_machine s) last.core (exchange s.input b s.before (g.L.ReplySink.sent last.sink)) end)
    (sym (ap (λ (l : _). g.R.Read.remaining l.reader.now) c.into_inner-reader.ensures))
    (promises_from (begun c.requires.can_begin.start_is c.session.invariant.run) c.session.view_is
    (record { core = refl; input = ap (λ (l : _). g.R.Read.remaining l.reader.now) c.new.ensures.source; before = refl }) end ends) in
    record {
      same = c.into_inner-reader.result.same ∙ sym c.requires.reader;
      serves = rw c.hand_back.ensures.ended (record {
        run = all.run c.hand_back.ensures.no_doubt c.hand_back.ensures.recovers;
        ends = all.ends;
        no_workers = refuses_none c.args.memory.bench.slots c.requires.workers _ _ end ends;
        emptied = subst (λ (k : CoreView). OnOk end (g.D.Disk.keeps → records_in k.geometry k.medium.now ≡ [])) (sym (ap (λ (p : SessionView). p.core) c.session.view_is))
            (emptied_at_end now (g.D.Disk.keeps → records_in now.core.geometry now.core.medium.now ≡ []) safe _ c.with_workers-ended.result gives.gives _ refl);
      });
      safe = rw c.hand_back.ensures.ended (kill_safe g.D.Disk.keeps _ _ c.session.invariant.run c.hand_back.ensures.no_doubt c.hand_back.ensures.recovers);
    }
