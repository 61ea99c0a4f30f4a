-- Inner: The order of the keys of blocks.
use Rattle.std.specs.Prelude.{◌^◌, ◌<◌}
use Rattle.std.specs.Cmp.{IsTotalOrder, nat_cmp_total, on_total, then_total}
use Rattle.meaning.specs.State.{VolumeKey, FileKey, BlockKey}
use Rattle.meaning.specs.KeyOrders.{volume_order, file_order, block_order}

pub volume_order_total : IsTotalOrder volume_order
volume_order_total = then_total (on_total (λ (k : VolumeKey). k.0) nat_cmp_total) (on_total (λ (k : VolumeKey). k.1) nat_cmp_total)

pub file_order_total : IsTotalOrder file_order
file_order_total = then_total (on_total (λ (k : FileKey). (k.0, k.1)) volume_order_total) (on_total (λ (k : FileKey). k.2) nat_cmp_total)

pub block_order_total : IsTotalOrder block_order
block_order_total =
    then_total (on_total (λ (k : BlockKey). (k.0, k.1, k.2)) file_order_total) (on_total (λ (k : BlockKey). k.3) nat_cmp_total)

-- Each of the four numbers has 16 bits.
pub record IsBlockKey (k : BlockKey) : Type 0 where
  pub aggregate : k.0 < 2 ^ 16
  pub volume : k.1 < 2 ^ 16
  pub file : k.2 < 2 ^ 16
  pub block : k.3 < 2 ^ 16
