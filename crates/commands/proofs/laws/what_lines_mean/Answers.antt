-- The lemmas on the grammar and on the serial server.
use Rattle.std.proofs.Common.{refl}
use Rattle.protocol.specs.Grammar.{message_of}
use Rattle.message.proofs.Spells.{read_iff_spelled}
use Rattle.commands.proofs.SerialServer.{answers_are, lines_commute}
use Rattle.commands.proofs.laws.what_lines_mean.Goals as goal

pub returns-clause-messages : goal.returns-clause-messages
returns-clause-messages c = λ line. read_iff_spelled line (message_of line) refl

pub returns-clause-answers : goal.returns-clause-answers
returns-clause-answers c = answers_are

pub returns-clause-conflict : goal.returns-clause-conflict
returns-clause-conflict c = lines_commute
