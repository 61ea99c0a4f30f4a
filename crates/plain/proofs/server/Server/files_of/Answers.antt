-- A volume has as many files as its field `files` has bits set, and a volume that isn't there has none.
use Rattle.std.proofs.Common.{arith}
use Rattle.std.proofs.lemmas.Grind.{common_steps}
use Rattle.plain.proofs.Totals.{files_counted, none_counted}
use Rattle.plain.proofs.server.Server.files_of.Goals as goal

pub returns-in-Some : goal.returns-in-Some
returns-in-Some c = grind (arith, common_steps, files_counted)

pub returns-in-None : goal.returns-in-None
returns-in-None c = grind (arith, common_steps, none_counted)
