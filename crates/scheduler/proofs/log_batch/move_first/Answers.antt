-- Of the messages that ran there is a first one, and it becomes the last of the logged ones.
use Rattle.std.proofs.Common.{sym, subst, ◌∙◌}
use Rattle.arena.specs.ArenaView.{IsPartitioned, ArenaView}
use Rattle.scheduler.proofs.HasLogged.{first_is_there, first_logged}
use Rattle.scheduler.specs.HasLogged.{HasLogged}
use Rattle.scheduler.specs.declared.core_memory.Slot.{Slot}
use Rattle.scheduler.proofs.log_batch.move_first.Goals as goal

pub unreachable-requires : goal.unreachable-requires
unreachable-requires c = first_is_there c.args.slots.now c.requires.some (sym c.front.ensures.slot ∙ c.in_default.is)

pub returns : goal.returns
returns c = subst (λ (arena : ArenaView Slot). HasLogged 1 c.args.slots.now arena) (sym c.move_to.ensures.arena)
    (first_logged c.args.slots.now c.requires.chains c.in-Some.slot (sym c.front.ensures.slot ∙ c.in-Some.is) (subst IsPartitioned c.move_to.ensures.arena c.move_to.ensures.partitioned))
