-- The three messages at this place, each by the contract of its own function.
use Rattle.parcel.proofs.running.at_logical.run_at_logical.Goals as goal

pub returns-in-Create-clause-step : goal.returns-in-Create-clause-step
returns-in-Create-clause-step c = rw (c.in-Create.is, c.reply_to_change.ensures) (c.create.ensures.step c.in-Create.field-0 c.in-Create.field-1 (rw c.in-Create.is at c.requires.range))

pub returns-in-Delete-clause-step : goal.returns-in-Delete-clause-step
returns-in-Delete-clause-step c = rw (c.in-Delete.is, c.reply_to_change-in-Delete.ensures) (c.delete.ensures.step c.in-Delete.field-0 c.in-Delete.field-1 (rw c.in-Delete.is at c.requires.range))

pub returns-in-List-clause-step : goal.returns-in-List-clause-step
returns-in-List-clause-step c = rw c.in-List.is (c.list.ensures c.in-List.field-0 c.in-List.field-1 (rw c.in-List.is at c.requires.range))
