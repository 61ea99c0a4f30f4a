-- The answer to a line has one newline, at its end: so a text of answers has no more newlines than there are answers.
use Rattle.std.proofs.Common.{◌≤◌, List, [], ◌∷◌, length, map, arith}
use Rattle.protocol.specs.Replies.{reply_text}
use Rattle.protocol.proofs.Newlines.{both, in_reply, newlines}
use Rattle.meaning.specs.Output.{joined}
use Rattle.serving.specs.Lines.{Completed, Line, answer_text}

in_answer : (line : Line) → newlines (answer_text line) ≤ 1
in_answer (Completed ticket reply) = let all = both (reply_text reply) (10 ∷ []) in let none = in_reply reply in omega (arith, all, none)
in_answer line = omega arith

pub in_answers : (lines : List Line) → newlines (joined (map answer_text lines)) ≤ length lines
in_answers [] = omega arith
in_answers (line ∷ lines) =
    let all = both (answer_text line) (joined (map answer_text lines)) in
    let one = in_answer line in
    let more = in_answers lines in
    omega (arith, all, one, more)
