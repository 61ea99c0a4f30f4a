-- The head is that of the message which the line spells.
use Rattle.protocol.specs.Grammar.{message_of}
use Rattle.message.proofs.Spells.{read_iff_spelled}
use Rattle.message.proofs.heads.parse_line.Goals as goal

pub message-requires : goal.message-requires
message-requires c = (message_of c.args.line.now, c.head_of_line.ensures)

pub returns-clause-value : goal.returns-clause-value
returns-clause-value c = c.message.ensures (message_of c.args.line.now) c.head_of_line.ensures

pub returns-clause-exact : goal.returns-clause-exact
returns-clause-exact c = read_iff_spelled c.args.line.now _ (c.message.ensures (message_of c.args.line.now) c.head_of_line.ensures)
