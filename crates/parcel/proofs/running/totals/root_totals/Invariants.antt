-- The totals so far are the sum over the aggregates so far.
use Rattle.std.proofs.Common.{◌≡◌}
use Rattle.parcel.specs.Shown.{root_facts}
use Rattle.parcel.specs.Totals.{sum_totals, totals_of}
use Rattle.parcel.proofs.running.totals.root_totals.Given as goal

abbrev pub invariant-loop-a : goal.invariant-loop-a
invariant-loop-a l = l.totals ≡ sum_totals l.a (λ a. sum_totals l.g.volumes (λ v. totals_of l.g (root_facts l.g l.root a v)))
