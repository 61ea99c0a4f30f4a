-- At the end of the input all lines are answered. After 2^64 - 1 lines with more to come it gives up: a beginning of the output was written.
use Rattle.std.proofs.Common.{◌≡◌, ℕ, List, [], ◌++◌, Option, ap, arith, refl, sym, ◌∙◌, subst}
use Rattle.std.specs.Prelude.{IfSome}
use Rattle.std.proofs.KnownBytes.{Appends-nil, Appends-trans}
use Rattle.std.proofs.lemmas.Result.{IfOk-from_err}
use Rattle.message.specs.Reader.{unread}
use Rattle.message.specs.BufferedOutput.{all_output}
use Rattle.message.specs.AppendsBeginning.{AppendsBeginning}
use Rattle.message.proofs.BufferedOutput.{none_waits}
use Rattle.plain.specs.Server.{server_state}
use Rattle.plain.proofs.Beginnings.{begins_output}
use Rattle.plain.proofs.SessionSteps.{begins, stops_short}
use Rattle.meaning.specs.Output.{IsBeginning, WritesOutput, serial_output}
use Rattle.plain.proofs.answering.answer_all.Goals as goal

pub loop-init : goal.loop-init
loop-init g c = record {
  sound = c.requires.sound;
  knows = c.requires.knows;
  answered = rw c.requires.not_drained begins;
  written = ([], Appends-nil (g.W.Write.contents c.args.w.now));
}

pub loop-preserved : goal.loop-preserved
loop-preserved g c = record {
  sound = c.in_ok-answer_next.ensures.sound;
  knows = c.in_ok-answer_next.ensures.knows c.loop.invariant.knows;
  answered = rw c.if-not-branch.false at c.in_ok-answer_next.ensures.answered (server_state c.args.server.now) (unread g.R.Read.remaining c.args.lines.now)
      (all_output (g.W.Write.contents c.args.w.now) c.args.out.now) c.loop.invariant.answered;
  written = (
    c.loop.invariant.written.0 ++ c.in_ok-answer_next.ensures.begun.0,
    Appends-trans _ _ _ _ _ c.loop.invariant.written.1 c.in_ok-answer_next.ensures.begun.3,
  );
}

-- the input has ended
pub returns-then-not-branch-clause-ends : goal.returns-then-not-branch-clause-ends
returns-then-not-branch-clause-ends g c = record {
  ok = rw c.if-not-branch.true at c.in_ok-answer_next.ensures.answered (server_state c.args.server.now) (unread g.R.Read.remaining c.args.lines.now)
      (all_output (g.W.Write.contents c.args.w.now) c.args.out.now) c.loop.invariant.answered;
  end = (rw c.if-not-branch.true at c.in_ok-answer_next.ensures.end c.loop.invariant.knows) refl;
  read = λ is. cc;
  out_of_memory = λ is. cc;
  begun = λ is. cc;
}

pub returns-then-not-branch-clause-written : goal.returns-then-not-branch-clause-written
returns-then-not-branch-clause-written g c = (
  c.loop.invariant.written.0 ++ c.in_ok-answer_next.ensures.begun.0,
  Appends-trans _ _ _ _ _ c.loop.invariant.written.1 c.in_ok-answer_next.ensures.begun.3,
)

pub returns-in_err-answer_next-clause-written : goal.returns-in_err-answer_next-clause-written
returns-in_err-answer_next-clause-written g c = (
  c.loop.invariant.written.0 ++ c.in_err-answer_next.ensures.begun.0,
  Appends-trans _ _ _ _ _ c.loop.invariant.written.1 c.in_err-answer_next.ensures.begun.3,
)

-- a read or a write failed, or there was no memory
pub returns-in_err-answer_next-clause-ends : goal.returns-in_err-answer_next-clause-ends
returns-in_err-answer_next-clause-ends g c =
    let contents = g.W.Write.contents c.args.w.now in
    let before = all_output contents c.args.out.now in
    let input = unread g.R.Read.remaining c.args.lines.now in
    let start = server_state c.args.server.now in
    let now = all_output (g.W.Write.contents c.loop.w) c.loop.out in
    let new = g.W.Write.contents c.answer_next.new.w in
    let none : before ≡ contents = ap (all_output contents) c.requires.none_waits ∙ none_waits contents in
    record {
      ok = IfOk-from_err c.from_residual.result _ c.from_residual.ensures.0;
      end = IfOk-from_err c.from_residual.result _ c.from_residual.ensures.0;
      read = λ is. c.in_err-answer_next.ensures.read start input before c.loop.invariant.answered (grind arith);
      out_of_memory = λ is. c.in_err-answer_next.ensures.out_of_memory start input before c.loop.invariant.answered (grind arith);
      begun = λ is. subst (λ (b : Option (List ℕ)). IfSome input (λ bytes. AppendsBeginning b new (serial_output c.args.g.now start bytes))) (sym none)
          (begins_output c.args.g.now start contents (g.W.Write.contents c.loop.w) new c.loop.invariant.written.0 c.loop.out
          c.loop.invariant.written.1 c.in_err-answer_next.ensures.begun input
          (subst (λ (b : Option (List ℕ)). WritesOutput input b now (IsBeginning c.args.g.now start)) none (stops_short c.loop.invariant.answered)));
    }

pub returns-then-is_drained-clause-written : goal.returns-then-is_drained-clause-written
returns-then-is_drained-clause-written g c = c.loop.invariant.written

-- more lines than can be counted
pub returns-clause-ends : goal.returns-clause-ends
returns-clause-ends g c = record { ok = tt; end = tt; read = λ is. cc; out_of_memory = λ is. stops_short c.loop.invariant.answered; begun = λ is. cc }

pub returns-clause-written : goal.returns-clause-written
returns-clause-written g c = c.loop.invariant.written
