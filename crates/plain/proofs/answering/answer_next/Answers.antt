-- Whatever comes next, a line, one too long, the end or a fault, each whole line before it has its answer.
use Rattle.std.proofs.Common.{refl, sym, ap, ◌∙◌, subst, ℕ, List, Option, Ok}
use Rattle.std.specs.Prelude.{IfSome}
use Rattle.std.proofs.lemmas.Result.{IfOk-from_err}
use Rattle.std.proofs.lemmas.Option.{IfSome_then}
use Rattle.protocol.specs.FirstLine.{LosesLineStart}
use Rattle.message.specs.Reader.{unread, line_of, source}
use Rattle.protocol.specs.Grammar.{message_of}
use Rattle.protocol.specs.Replies.{no_message}
use Rattle.message.specs.BufferedOutput.{all_output}
use Rattle.message.proofs.BufferedOutput.{adds_so_far}
use Rattle.plain.specs.Server.{server_state}
use Rattle.meaning.specs.Output.{answer_line as line_answer, state_after_line}
use Rattle.plain.proofs.SessionSteps.{goes_on, answers_line, answers_long_line, ends, fails, stops_short}
use Rattle.plain.proofs.answering.answer_next.Goals as goal

pub returns-then-is_drained-clause-answered : goal.returns-then-is_drained-clause-answered
returns-then-is_drained-clause-answered g c = λ start input before h. ends h (c.is_drained.ensures.nothing c.if-is_drained.true)

pub returns-in-Ok-clause-answered : goal.returns-in-Ok-clause-answered
returns-in-Ok-clause-answered g c = λ start input before h.
    let contents = g.W.Write.contents c.send_before_line.new.w in
    let answer = line_answer c.args.g.now (server_state c.args.server.now) (message_of (line_of c.next_line.new.self)) in
    answers_line (line_of c.next_line.new.self)
    (goes_on {newer = all_output contents c.send_before_line.new.out} h c.in_ok-send_before_line.ensures.kept) (sym c.if-is_drained.ensures.value)
    (rw c.in-Ok-Line.field-0-is at c.in-Ok-Line.ensures.found) (rw c.in-Ok-Line.field-0-is at c.in-Ok-Line.ensures.closes)
    (c.in-Ok.ensures.state refl ∙ ap (λ z. state_after_line c.args.g.now (server_state c.args.server.now) (message_of z)) c.line.ensures) refl
    (adds_so_far contents c.send_before_line.new.out c.answer_line.new.out answer (rw c.line.ensures at (c.in-Ok.ensures.added refl)))

pub returns-in-Err-answer_line-clause-out_of_memory : goal.returns-in-Err-answer_line-clause-out_of_memory
returns-in-Err-answer_line-clause-out_of_memory g c = λ start input before h is.
    rw (c.in-Err-answer_line.ensures.out_of_memory refl)
    (stops_short (goes_on {newer = all_output (g.W.Write.contents c.send_before_line.new.w) c.send_before_line.new.out} h c.in_ok-send_before_line.ensures.kept))

pub returns-in-Ok-TooLong-clause-answered : goal.returns-in-Ok-TooLong-clause-answered
returns-in-Ok-TooLong-clause-answered g c = λ start input before h.
    let contents = g.W.Write.contents c.send_before_line.new.w in
    answers_long_line
    (goes_on {newer = all_output contents c.send_before_line.new.out} h c.in_ok-send_before_line.ensures.kept) (sym c.if-is_drained.ensures.value)
    (rw c.in-Ok-TooLong.field-0-is at c.in-Ok-TooLong.ensures.found) (rw c.in-Ok-TooLong.field-0-is at c.in-Ok-TooLong.ensures.closes) refl
    (adds_so_far contents c.send_before_line.new.out c.add_no_message.new.self no_message c.add_no_message.ensures)

pub returns-in-Err-clause-read : goal.returns-in-Err-clause-read
returns-in-Err-clause-read g c = λ start input before h _.
    let unread_before = unread g.R.Read.remaining c.args.lines.now in
    let P : Option (List ℕ) → Type 0 = λ left. IfSome unread_before (λ bs. LosesLineStart bs left) in
    fails (g.R.Read.remaining (source c.next_line.new.self))
    (goes_on {newer = all_output (g.W.Write.contents c.send_before_line.new.w) c.send_before_line.new.out} h c.in_ok-send_before_line.ensures.kept)
    (sym c.if-is_drained.ensures.value) (subst P c.in-Err.ensures.lost c.in-Err.ensures.found)

pub returns-in-Ok-End-clause-answered : goal.returns-in-Ok-End-clause-answered
returns-in-Ok-End-clause-answered g c = λ start input before h.
    ends (goes_on {newer = all_output (g.W.Write.contents c.send_before_line.new.w) c.send_before_line.new.out} h c.in_ok-send_before_line.ensures.kept)
    (IfSome_then (unread g.R.Read.remaining c.args.lines.now) (rw c.in-Ok-End.field-0-is at c.in-Ok-End.ensures.found) (λ bs at_end. at_end.none))

pub returns-in-Ok-End-clause-end : goal.returns-in-Ok-End-clause-end
returns-in-Ok-End-clause-end g c = λ knows _.
    c.next_line.ensures.at_end knows (c.next_line.ensures.end (c.in-Ok-End.is ∙ ap Ok c.in-Ok-End.field-0-is))

pub returns-in_err-send_before_line-clause-answered : goal.returns-in_err-send_before_line-clause-answered
returns-in_err-send_before_line-clause-answered g c = λ start input before h. IfOk-from_err c.from_residual.result _ c.from_residual.ensures.0
