-- The two kinds of message that belong at an aggregate, `makevol` and `dropvol`, each by the contract of its own function.
use Rattle.parcel.proofs.running.at_aggregate.run_at_aggregate.Goals as goal

pub returns-in-MakeVol-clause-step : goal.returns-in-MakeVol-clause-step
returns-in-MakeVol-clause-step c = λ t. rw (c.in-MakeVol.is, c.reply_to_change.ensures) (c.make_volume.ensures.step c.in-MakeVol.field-0 t (rw c.in-MakeVol.is at c.requires.range))

pub returns-in-DropVol-clause-step : goal.returns-in-DropVol-clause-step
returns-in-DropVol-clause-step c = λ t. rw (c.in-DropVol.is, c.reply_to_change-in-DropVol.ensures) (c.drop_volume.ensures.step c.in-DropVol.field-0 t (rw c.in-DropVol.is at c.requires.range))
