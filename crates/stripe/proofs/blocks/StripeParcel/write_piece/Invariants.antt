-- The entries so far are at the front.
use Rattle.std.proofs.Common.{◌≡◌, ◌*◌, length, take}
use Rattle.std.specs.List.{flat_map}
use Rattle.device_map.specs.declared.layout.TheConstants.{BLOCK_ENTRY_SIZE}
use Rattle.stripe.specs.Entries.{entry_bytes}
use Rattle.stripe.proofs.blocks.StripeParcel.write_piece.Given as goal

abbrev pub invariant-loop-n : goal.invariant-loop-n
invariant-loop-n l = (l.at ≡ l.n * BLOCK_ENTRY_SIZE) × (length l.out ≡ l.self.quota * BLOCK_ENTRY_SIZE) × (take l.at l.out ≡ flat_map entry_bytes (take l.n l.self.entries))
