-- Where memory ran out, what was answered is sent before the end, so the output is a beginning of the serial one. Where that fails, too.
use Rattle.std.proofs.Common.{◌≡◌, ℕ, List, Option, ap, arith, ◌∙◌, subst}
use Rattle.std.specs.Prelude.{IfSome, IsErrOf, OnOk}
use Rattle.std.specs.Io.KnownBytes.{IsAtEnd}
use Rattle.std.proofs.lemmas.Result.{IfOk-from_err, on_ok_weaker}
use Rattle.message.specs.BufferedOutput.{all_output}
use Rattle.message.specs.AppendsBeginning.{AppendsBeginning}
use Rattle.message.proofs.BufferedOutput.{none_waits}
use Rattle.meaning.specs.State.{empty}
use Rattle.meaning.specs.Output.{AnswersWholeLines, IsBeginning, WritesOutput, serial_output}
use Rattle.plain.specs.declared.fault.PlainFault.TheVariants.{Write}
use Rattle.plain.proofs.Beginnings.{begins_at_end, begins_output}
use Rattle.plain.proofs.SessionSteps.{writes_sent}
use Rattle.plain.proofs.over_streams.serve_from.Goals as goal

-- what waited was sent
pub returns : goal.returns
returns g c =
    let ended = c.answer_lent-answered.ensures.ends in
    let sent : (P : List ℕ → List ℕ → Type 0)
    → WritesOutput (g.R.Read.remaining c.args.r.now) (all_output (g.W.Write.contents c.args.w.now) c.in-Ok-new.out)
    (all_output (g.W.Write.contents c.answer_lent-answered.new.w) c.answer_lent-answered.new.out) P
    → WritesOutput (g.R.Read.remaining c.args.r.now) (g.W.Write.contents c.args.w.now) (g.W.Write.contents c.send.new.w) P =
    λ P h. writes_sent (g.W.Write.contents c.args.w.now) _ _ c.in-Ok-new.ensures c.in_ok-send.ensures.none_waits
    (g.R.Read.remaining c.args.r.now) P h c.in_ok-send.ensures.kept in
    record {
      ok = on_ok_weaker c.answer_lent-answered.result.0 (sent (λ input written. written ≡ serial_output c.args.g.now empty input)) ended.ok;
      end = subst (λ (left : Option (List ℕ)). OnOk c.answer_lent-answered.result.0 (IsAtEnd left)) (grind arith) ended.end;
      read = λ is. subst (λ (left : Option (List ℕ)). WritesOutput (g.R.Read.remaining c.args.r.now) (g.W.Write.contents c.args.w.now)
          (g.W.Write.contents c.send.new.w) (AnswersWholeLines c.args.g.now empty left)) (grind arith)
          (sent (AnswersWholeLines c.args.g.now empty (g.R.Read.remaining c.answer_lent-answered.result.1.now)) (ended.read is));
      out_of_memory = λ is. sent (IsBeginning c.args.g.now empty) (ended.out_of_memory is);
      begun = λ is. grind arith;
    }

-- a write had failed before
pub returns-in-Err-Write : goal.returns-in-Err-Write
returns-in-Err-Write g c =
    let contents = g.W.Write.contents c.args.w.now in
    let ended = c.answer_lent-answered.ensures.ends in
    let new = g.W.Write.contents c.answer_lent-answered.new.w in
    record {
      ok = rw c.in-Err-Write.is tt;
      end = rw c.in-Err-Write.is tt;
      read = λ is. grind arith;
      out_of_memory = λ is. grind arith;
      begun = λ is. subst (λ (b : Option (List ℕ)). IfSome (g.R.Read.remaining c.args.r.now)
          (λ bytes. AppendsBeginning b new (serial_output c.args.g.now empty bytes)))
          (ap (all_output contents) c.in-Ok-new.ensures ∙ none_waits contents) (ended.begun is);
    }

-- it fails now
pub returns-in_err-send : goal.returns-in_err-send
returns-in_err-send g c =
    let contents = g.W.Write.contents c.args.w.now in
    let input = g.R.Read.remaining c.args.r.now in
    let answered = c.answer_lent-answered in
    let ended = answered.ensures.ends in
    let now = all_output (g.W.Write.contents answered.new.w) answered.new.out in
    let other : IsErrOf answered.result.0 Write → ⊥ = λ e. grind arith in
    record {
      ok = IfOk-from_err c.from_residual.result _ c.from_residual.ensures.0;
      end = IfOk-from_err c.from_residual.result _ c.from_residual.ensures.0;
      read = λ is. grind arith;
      out_of_memory = λ is. grind arith;
      begun = λ is. begins_output c.args.g.now empty contents (g.W.Write.contents answered.new.w) (g.W.Write.contents c.send.new.w) answered.ensures.written.0
          answered.new.out answered.ensures.written.1 c.send.ensures.begun input
          (subst (λ (b : Option (List ℕ)). WritesOutput input b now (IsBeginning c.args.g.now empty))
          (ap (all_output contents) c.in-Ok-new.ensures ∙ none_waits contents)
          (begins_at_end c.args.g.now empty (g.R.Read.remaining answered.result.1.now) input (all_output contents c.in-Ok-new.out) now answered.result.0 other
          ended.ok ended.read ended.out_of_memory));
    }
