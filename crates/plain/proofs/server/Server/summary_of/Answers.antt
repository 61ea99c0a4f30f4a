-- All keys are in range, so the lengths of the two maps are totals, which fit into 32 bits.
use Rattle.std.proofs.lemmas.Grind.{common_steps}
use Rattle.std.proofs.Common.{◌∙◌, arith}
use Rattle.protocol.specs.declared.replies.Reply.TheVariants.{Summary}
use Rattle.plain.specs.Server.{server_state}
use Rattle.plain.proofs.Totals.{volumes_total, blocks_total, volumes-few, blocks-few}
use Rattle.plain.proofs.server.Server.summary_of.Goals as goal

pub overflow_cast-result : goal.overflow_cast-result
overflow_cast-result c =
    let total = volumes_total c.args.g.now c.args.self.now c.requires.sound.state c.len-volumes.ensures.ordered in
    let few = volumes-few c.args.g.now (server_state c.args.self.now) in
    omega (arith, c.len-volumes.ensures.len)

pub overflow_cast-result-2 : goal.overflow_cast-result-2
overflow_cast-result-2 c = grind (arith, common_steps, blocks_total, blocks-few)

pub returns : goal.returns
returns c = λ i. Summary
    ((c.len-volumes.ensures.len ∙ volumes_total c.args.g.now c.args.self.now c.requires.sound.state c.len-volumes.ensures.ordered) i)
    (c.all_files.ensures i)
    ((c.len-blocks.ensures.len ∙ blocks_total c.args.g.now c.args.self.now c.requires.sound.state c.len-blocks.ensures.ordered) i)
