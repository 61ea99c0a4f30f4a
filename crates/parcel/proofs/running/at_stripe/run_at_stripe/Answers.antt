-- Writes and punches at a stripe, each by the contract of its own function.
use Rattle.parcel.proofs.running.at_stripe.run_at_stripe.Goals as goal

pub returns-in-Write-clause-step : goal.returns-in-Write-clause-step
returns-in-Write-clause-step c = rw (c.in-Write.is, c.reply_to_change.ensures) (c.write.ensures.step c.in-Write.field-0 c.in-Write.field-1 (rw c.in-Write.is at c.requires.range))

pub returns-in-Punch-clause-step : goal.returns-in-Punch-clause-step
returns-in-Punch-clause-step c = rw (c.in-Punch.is, c.reply_to_change-in-Punch.ensures) (c.punch.ensures.step c.args.g.now c.in-Punch.field-0 c.in-Punch.field-1 (rw c.in-Punch.is at c.requires.range))

pub returns-in-Punch-clause-runnable : goal.returns-in-Punch-clause-runnable
returns-in-Punch-clause-runnable c =
    let runnable = rw c.in-Punch.is at c.requires in
    rw c.in-Punch.is (record { range = runnable.range; fits = c.punch.ensures.fits c.args.g.now runnable.fits })

pub write-requires-clause-fits : goal.write-requires-clause-fits
write-requires-clause-fits c = rw c.in-Write.is at c.requires.fits

pub returns-in-Write-clause-runnable : goal.returns-in-Write-clause-runnable
returns-in-Write-clause-runnable c = rw c.in-Write.is (record { range = rw c.in-Write.is at c.requires.range; fits = c.write.ensures.fits })

pub returns-in-Read-clause-step : goal.returns-in-Read-clause-step
returns-in-Read-clause-step c = rw c.in-Read.is (c.read.ensures c.args.g.now c.in-Read.field-0 c.in-Read.field-1 (rw c.in-Read.is at c.requires.range))
