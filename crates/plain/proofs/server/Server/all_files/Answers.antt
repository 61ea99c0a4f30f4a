-- The files of the volumes that are walked are all files, which fit into 32 bits.
use Rattle.std.proofs.lemmas.Grind.{common_steps}
use Rattle.std.proofs.Common.{ap, ◌∙◌, arith}
use Rattle.plain.proofs.Walks.{total}
use Rattle.plain.proofs.Totals.{file_number, files_total, files-few}
use Rattle.plain.proofs.server.Server.all_files.Goals as goal

pub loop-volume-init : goal.loop-volume-init
loop-volume-init c =
    let all = ap (total file_number) (c.into_iter-volume-iterator.ensures.into_iter_gives ∙ c.values-volume-items.ensures.rest)
    ∙ files_total c.args.g.now c.args.self.now c.requires.sound.state c.values-volume-items.ensures.ordered in
    omega (arith, all)

pub overflow_add-total : goal.overflow_add-total
overflow_add-total c = grind (arith, common_steps, files-few, total, file_number)
