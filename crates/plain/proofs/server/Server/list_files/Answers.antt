-- The bits of a volume's field `files` are its files, and a volume that isn't there has none.
use Rattle.std.proofs.Common.{arith}
use Rattle.std.proofs.lemmas.Grind.{common_steps}
use Rattle.std.proofs.Common.{ap, sym}
use Rattle.protocol.specs.declared.replies.Reply.TheVariants.{Files}
use Rattle.std.specs.BTreeMap as map
use Rattle.meaning.specs.KeyOrders.{volume_order, block_order}
use Rattle.plain.proofs.Totals.{listed, none_listed}
use Rattle.plain.proofs.server.Server.list_files.Goals as goal

pub returns-in-Some : goal.returns-in-Some
returns-in-Some c = ap Files (sym (listed c.args.g.now (map.get volume_order c.args.self.now.volumes) (map.get block_order c.args.self.now.blocks)
    c.requires.sound.state c.args.a c.args.v (sym c.in-Some.ensures.value)))

pub returns-in-None : goal.returns-in-None
returns-in-None c = grind (arith, common_steps, none_listed)
