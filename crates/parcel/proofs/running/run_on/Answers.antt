-- The six kinds of places, each by the contract of what runs there.
use Rattle.parcel.proofs.running.run_on.Goals as goal

pub returns-in-Root-clause-step : goal.returns-in-Root-clause-step
returns-in-Root-clause-step c = rw c.in-Root.is (c.run_at_root.ensures.step c.args.standing)

pub returns-in-Aggr-clause-step : goal.returns-in-Aggr-clause-step
returns-in-Aggr-clause-step c = rw c.in-Aggr.is (c.run_at_aggregate.ensures.step c.args.standing)

pub returns-in-Vol-clause-step : goal.returns-in-Vol-clause-step
returns-in-Vol-clause-step c = rw c.in-Vol.is (c.run_at_volume.ensures.step c.args.standing)

pub returns-in-Logical-clause-step : goal.returns-in-Logical-clause-step
returns-in-Logical-clause-step c = rw c.in-Logical.is c.run_at_logical.ensures.step

pub returns-in-Stripe-clause-step : goal.returns-in-Stripe-clause-step
returns-in-Stripe-clause-step c = rw c.in-Stripe.is c.run_at_stripe.ensures.step

pub returns-in-Label-clause-step : goal.returns-in-Label-clause-step
returns-in-Label-clause-step c = rw c.in-Label.is c.run_at_label.ensures.step
