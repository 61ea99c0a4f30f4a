-- What is promised without workers or memory, and what is promised of a server that ran.
use Rattle.std.proofs.Common.{refl, rules}
use Rattle.serving.proofs.SessionEnds.{safe_at_start, serves_as}
use Rattle.serving.proofs.ServePromise.{no_memory_ran, no_workers_ran}
use Rattle.serving.proofs.server.serve_to.Goals as goal

pub returns-then-workers-eq0 : goal.returns-then-workers-eq0
returns-then-workers-eq0 g c =
    let none = c.know_recovery.ensures.no_doubt in
    let leaves = c.know_recovery.ensures.now in
    record {
      serves = record {
        run = no_workers_ran g.D.Disk.keeps c.args.core c.args.workers c.args.every c.requires.idle none leaves (g.R.Read.remaining c.args.r.now) (g.L.ReplySink.sent c.args.sink);
        ends = (refl, refl, refl);
        no_workers = c.if-workers-eq0.true;
        emptied = tt;
      };
      safe = safe_at_start c.requires.start c.requires.at_start c.requires.idle c.requires.works none leaves;
    }

pub returns-in_default : goal.returns-in_default
returns-in_default g c =
    let none = c.know_recovery.ensures.no_doubt in
    let leaves = c.know_recovery.ensures.now in
    record {
      serves = record {
        run = no_memory_ran g.D.Disk.keeps c.args.core c.args.workers c.args.every c.requires.idle none leaves (g.R.Read.remaining c.args.r.now) (g.L.ReplySink.sent c.args.sink);
        ends = (refl, refl, refl);
        no_workers = c.if-workers-eq0.false;
        emptied = tt;
      };
      safe = safe_at_start c.requires.start c.requires.at_start c.requires.idle c.requires.works none leaves;
    }

pub returns : goal.returns
returns g c = record {
  serves = serves_as c.in-Ok.ensures.places (search rules) (rw c.new.ensures.0 at c.run_session-ended.ensures.serves);
  safe = c.run_session-ended.ensures.safe;
}
