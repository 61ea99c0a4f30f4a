-- A new tree has no block.
use Rattle.std.proofs.Common.{◌≡◌, None, ap}
use Rattle.meaning.specs.State.{State, BlockKey, empty}

pub no_block : (x : State) → x ≡ empty → (k : BlockKey) → x.blocks k ≡ None
no_block x none k = ap (λ (y : State). y.blocks k) none
