-- Of the two messages at a label, the one that sets it, by the contract of its function.
use Rattle.parcel.proofs.running.at_label.run_at_label.Goals as goal

pub returns-in-SetLabel-clause-step : goal.returns-in-SetLabel-clause-step
returns-in-SetLabel-clause-step c = rw (c.in-SetLabel.is, c.reply_to_change.ensures) (c.set_label.ensures c.in-SetLabel.field-0 c.in-SetLabel.field-1 (rw c.in-SetLabel.is at c.requires.range))

pub returns-in-SetLabel-clause-runnable : goal.returns-in-SetLabel-clause-runnable
returns-in-SetLabel-clause-runnable c = rw c.in-SetLabel.is (record { range = rw c.in-SetLabel.is at c.requires.range; fits = tt })

pub returns-in-Label-clause-step : goal.returns-in-Label-clause-step
returns-in-Label-clause-step c = rw c.in-Label.is (c.get_label.ensures c.in-Label.field-0 c.in-Label.field-1 (rw c.in-Label.is at c.requires.range))
