-- The answers so far are the serial server's, and so is the state after them, with its counts right. What was written stays.
use Rattle.std.proofs.Common.{ℕ, List}
use Rattle.std.specs.Io.KnownBytes.{Appends}
use Rattle.message.specs.Reader.{unread, is_drained, KnowsEnd}
use Rattle.message.specs.BufferedOutput.{all_output}
use Rattle.plain.specs.Server.{server_state, IsConsistent}
use Rattle.meaning.specs.Progress.{HasAnswered}
use Rattle.plain.proofs.answering.answer_all.Given as goal

abbrev pub invariant-loop : goal.invariant-loop
invariant-loop g l = record {
  sound : IsConsistent l.g l.server;
  knows : KnowsEnd g.R.Read.remaining l.lines;
  answered : HasAnswered l.g (server_state l.initial.server) (unread g.R.Read.remaining l.initial.lines) (unread g.R.Read.remaining l.lines)
      (is_drained l.lines) (server_state l.server) (all_output (g.W.Write.contents l.initial.w) l.initial.out) (all_output (g.W.Write.contents l.w) l.out);
  written : (written : List ℕ) × Appends (g.W.Write.contents l.initial.w) (g.W.Write.contents l.w) written;
}
