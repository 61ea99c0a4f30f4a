-- The totals so far are the sum over the volumes so far.
use Rattle.std.proofs.Common.{◌≡◌}
use Rattle.parcel.specs.Shown.{aggregate_facts}
use Rattle.parcel.specs.Totals.{sum_totals, totals_of}
use Rattle.parcel.proofs.running.totals.aggregate_totals.Given as goal

abbrev pub invariant-loop-v : goal.invariant-loop-v
invariant-loop-v l = l.totals ≡ sum_totals l.v (λ v. totals_of l.g (aggregate_facts l.g l.aggregate v))
