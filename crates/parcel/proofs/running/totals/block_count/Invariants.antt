-- The total so far is what the stripes so far count, at most 64 each.
use Rattle.std.proofs.Common.{◌≡◌, ◌≤◌, ◌*◌}
use Rattle.meaning.specs.State.{sum_below, blocks_in_stripe}
use Rattle.parcel.specs.Shown.{blocks_of}
use Rattle.parcel.proofs.StripeTotals.{holding}
use Rattle.parcel.proofs.running.totals.block_count.Given as goal

abbrev pub invariant-loop-s : goal.invariant-loop-s
invariant-loop-s l = record {
  total : l.total ≡ sum_below l.s (blocks_in_stripe l.g (holding (blocks_of l.g l.logical.stripes.items)) 0 0);
  most : l.total ≤ l.s * 64;
}
