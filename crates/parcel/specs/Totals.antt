-- Inner: How much volumes hold.
use Rattle.std.specs.Prelude.{ℕ, length, Option, is_some, if◌then◌else◌}
use Rattle.std.specs.Option.{option_map_or}
use Rattle.affinity.specs.declared.geometry.Geometry.{Geometry}
use Rattle.protocol.specs.declared.messages.Block.{Block}
use Rattle.meaning.specs.State.{sum_below, count_below}
use Rattle.stripe.specs.Stripe.{StripePart}
use Rattle.parcel.specs.Volume.{VolumeFacts}
use Rattle.parcel.specs.declared.running.totals.Totals.{Totals}

-- how many blocks lie in a stripe, where it is in
abbrev pub entry_count : Option StripePart → ℕ
entry_count o = option_map_or (λ p. length p.entries) o 0

-- how many of the blocks that the geometry allows exist
abbrev pub block_total : Geometry → (ℕ → ℕ → Option Block) → ℕ
block_total g blocks = sum_below g.files (λ f. count_below g.blocks (λ b. is_some (blocks f b)))

-- how much one volume holds, and whether it is made
abbrev pub totals_of : Geometry → VolumeFacts → Totals
totals_of g h = record { volumes = if h.made then 1 else 0; files = count_below g.files h.files; blocks = block_total g h.blocks }

-- the totals of all numbers below n, added up
abbrev pub sum_totals : ℕ → (ℕ → Totals) → Totals
sum_totals n each = record {
  volumes = sum_below n (λ i. (each i).volumes);
  files = sum_below n (λ i. (each i).files);
  blocks = sum_below n (λ i. (each i).blocks);
}
