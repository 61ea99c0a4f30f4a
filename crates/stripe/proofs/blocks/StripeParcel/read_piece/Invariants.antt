-- The entries so far were read.
use Rattle.std.proofs.Common.{◌≡◌, length}
use Rattle.stripe.proofs.EntriesRead.{HasRead}
use Rattle.stripe.proofs.blocks.StripeParcel.read_piece.Given as goal

abbrev pub invariant-loop-n : goal.invariant-loop-n
invariant-loop-n l = record {
  quota : l.self.quota ≡ l.fn.self.quota;
  count : length l.self.entries ≡ l.n;
  read : HasRead l.fn.g l.fn.files l.fn.s l.fn.bytes l.self.entries l.n;
}
