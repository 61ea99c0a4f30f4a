-- Where the call begins, and the name by which the writer is lent.
use Rattle.std.proofs.Common.{Some}
use Rattle.serving.proofs.writer.serve.Given as goal

-- where the call begins, and the loan of the writer
abbrev pub ghosts-with_writer : goal.ghosts-with_writer
ghosts-with_writer g a = record {
  start = Some (record {
    core = a.core;
    places = a.workers;
    every = a.every;
    input = g.R.Read.remaining a.r.now;
    before = g.W.Write.contents a.w.now;
  });
  name = a.w.ghost_name;
}
