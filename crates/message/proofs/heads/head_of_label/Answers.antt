-- The two numbers are read one behind the other; where one is missing, the line spells no setlabel.
use Rattle.std.proofs.Common.{arith}
use Rattle.std.proofs.lemmas.Grind.{common_steps}
use Rattle.message.proofs.GrammarByKind.{onward_some, of_label_digits, of_label_digits-told, label_from_volume, label_from_volume-onward, of_label-onward}
use Rattle.message.proofs.heads.head_of_label.Goals as goal

pub returns : goal.returns
returns c = grind (arith, common_steps, of_label-onward, onward_some, label_from_volume, label_from_volume-onward, of_label_digits, of_label_digits-told)
