-- The lemmas on lines of which the answers are known.
use Rattle.std.proofs.Common.{[], ap, inr, ◌∙◌, append-nil, take, length}
use Rattle.histories.proofs.Elements.{contains_in, in_contained}
use Rattle.meaning.specs.Output.{output_lines}
use Rattle.serving.proofs.HaveSerialReplies.{asked_leads_there, sent_lines_are_serial}
use Rattle.serving.proofs.laws.known_lines_are_serial.Goals as goal

pub returns-clause-output : goal.returns-clause-output
returns-clause-output c g x n ls replies sent_lines unsent reply_pairs known answered =
    sent_lines_are_serial g replies [] unsent x n ls sent_lines (λ p is. inr (in_contained _ p (reply_pairs p (contains_in replies p is)))) known answered
    ∙ ap (λ l. take (length sent_lines) (output_lines g x l)) (append-nil ls)

pub returns-clause-state : goal.returns-clause-state
returns-clause-state c = asked_leads_there
