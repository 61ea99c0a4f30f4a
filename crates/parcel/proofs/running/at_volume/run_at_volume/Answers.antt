-- The three messages at a volume, each by the contract of its own function.
use Rattle.parcel.proofs.running.at_volume.run_at_volume.Goals as goal

pub returns-in-Seal-clause-step : goal.returns-in-Seal-clause-step
returns-in-Seal-clause-step c = λ t. rw (c.in-Seal.is, c.reply_to_change.ensures) (c.set_sealed.ensures.step c.args.g.now c.in-Seal.field-0 c.in-Seal.field-1 (rw c.in-Seal.is at c.requires.range))

pub returns-in-Unseal-clause-step : goal.returns-in-Unseal-clause-step
returns-in-Unseal-clause-step c = λ t.
    rw (c.in-Unseal.is, c.reply_to_change-in-Unseal.ensures)
    (c.set_sealed-in-Unseal.ensures.step c.args.g.now c.in-Unseal.field-0 c.in-Unseal.field-1 (rw c.in-Unseal.is at c.requires.range))

pub returns-in-Usage-clause-step : goal.returns-in-Usage-clause-step
returns-in-Usage-clause-step c = λ t. rw c.in-Usage.is (c.usage.ensures c.in-Usage.field-0 c.in-Usage.field-1 (rw c.in-Usage.is at c.requires.range))
