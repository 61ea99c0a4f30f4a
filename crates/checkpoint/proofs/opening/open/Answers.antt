-- The parts that were opened make a sound journal, of the state to which the device recovers.
use Rattle.std.proofs.Common.{◌+◌, sym, ◌∙◌, ap}
use Rattle.disk.specs.Device.{moment_number}
use Rattle.checkpoint.specs.Costs.{opening_cost}
use Rattle.checkpoint.specs.Journal.{JournalView}
use Rattle.checkpoint.proofs.AreLoaded.{opened}
use Rattle.checkpoint.proofs.opening.open.Goals as goal

pub new-journal-requires-clause-sound : goal.new-journal-requires-clause-sound
new-journal-requires-clause-sound g c = λ k. (c.in-Ok.ensures.made_of k).sound

pub returns-in-Ok-clause-opened : goal.returns-in-Ok-clause-opened
returns-in-Ok-clause-opened g c = λ k.
    opened c.in-Ok.parts (g.D.Disk.medium c.args.d) (g.D.Disk.medium c.open_on.new.disk) c.new-journal.result c.in-Ok.ensures.made
    (c.in-Ok.ensures.made_of k) c.new-journal.ensures

pub returns-in-Ok-clause-costs : goal.returns-in-Ok-clause-costs
returns-in-Ok-clause-costs g c = λ k.
    let m = g.D.Disk.medium c.args.d in
    ap (λ (j : JournalView). moment_number j.medium) c.new-journal.ensures ∙ c.in-Ok.ensures.costs k
    ∙ sym (ap (λ (j : JournalView). moment_number m + opening_cost j.geometry m.now) c.new-journal.ensures)
