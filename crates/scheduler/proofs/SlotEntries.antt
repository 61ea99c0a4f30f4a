-- The entries of the messages in slots.
use Rattle.std.proofs.Common.{◌≡◌, List, [], ◌∷◌, map, refl, ap}
use Rattle.histories.specs.CoreState.{entries}
use Rattle.scheduler.specs.Slots.{SlotView, entry_of, replied_of}

-- the entries of those that ran or are logged
pub entries_of : (ys : List SlotView) → entries (map replied_of ys) ≡ map entry_of ys
entries_of [] = refl
entries_of (y ∷ ys) = ap (λ es. entry_of y ∷ es) (entries_of ys)
