-- The numbers that are noted for the stripes of a volume sum up to its blocks, which fit into 32 bits.
use Rattle.std.proofs.lemmas.Grind.{common_steps}
use Rattle.std.proofs.Common.{ℕ, ap, ◌∙◌, arith}
use Rattle.meaning.specs.State.{FileKey}
use Rattle.plain.proofs.Totals.{blocks-few_in_volume}
use Rattle.plain.proofs.Walks.{total, blocks_walked}
use Rattle.plain.proofs.server.Server.blocks_of.Goals as goal

pub loop-count-init : goal.loop-count-init
loop-count-init c =
    let all = ap (total (λ (e : FileKey × ℕ). e.1)) (c.into_iter-count-iterator.ensures.into_iter_gives ∙ c.range-count-items.ensures.between tt)
    ∙ blocks_walked c.args.g.now c.args.self.now c.args.a c.args.v c.requires.counted c.range-count-items.ensures.ordered in
    omega (arith, all)

pub overflow_add-total : goal.overflow_add-total
overflow_add-total c = grind (arith, common_steps, blocks-few_in_volume, total)
