-- Statement for engineers: The dirty flags of a journal: for each of the two images, which of its pieces may differ from those of what is
-- committed.
use Rattle.std.specs.Prelude.{◌≡◌, ◌↔◌, ◌<◌, ℕ, suc, Bool, true, false, List, [], ◌∷◌, get_or, length, replicate}
use Rattle.std.specs.List.{AllByRecursion}
use Rattle.affinity.specs.declared.geometry.Geometry.{Geometry}
use Rattle.image.specs.Pieces.{piece_count}
use Rattle.image.specs.Touched.{may_change}
use Rattle.protocol.specs.declared.messages.Msg.{Msg}
use Rattle.checkpoint.specs.declared.journal.Buffers.{Buffers}

pub record DirtyPieces : Type 0 where
  -- of the image that is named
  pub named : List Bool
  -- of the other one, as it is; during a cut, as it will be at the cut's end
  pub other : List Bool

-- the dirty flags of both images
abbrev pub dirty_pieces_of : Buffers → DirtyPieces
dirty_pieces_of b = record { named = b.named_dirty.items; other = b.other_dirty.items }

-- how many are dirty
abbrev pub count_dirty : List Bool → ℕ
count_dirty [] = 0
count_dirty (true ∷ dirty) = suc (count_dirty dirty)
count_dirty (false ∷ dirty) = count_dirty dirty

-- No flag before this number is set.
abbrev pub AreCleanBefore : ℕ → List Bool → Type 0
AreCleanBefore n dirty = (i : ℕ) → i < n → get_or dirty i false ≡ false

-- The flags after these messages: a piece is clean exactly where it was before and none of the messages touches (may change) it.
abbrev pub DirtiesTouched : Geometry → List Msg → List Bool → List Bool → Type 0
DirtiesTouched g ms old new = (n : ℕ) → n < piece_count g
    → (get_or new n true ≡ false) ↔ ((get_or old n true ≡ false) × AllByRecursion (λ m. may_change g m n ≡ false) ms)

-- the flags of both images after these messages
pub record AreBothTouched (g : Geometry) (ms : List Msg) (old new : DirtyPieces) : Type 0 where
  pub named : DirtiesTouched g ms old.named new.named
  pub other : DirtiesTouched g ms old.other new.other

-- ---- the flags after a step

-- The other image was written and named: none of its pieces is dirty. The image that was named keeps its flags.
abbrev pub pointed_dirty : DirtyPieces → DirtyPieces
pointed_dirty dirty = record { named = replicate (length dirty.other) false; other = dirty.named }

-- A cut has begun: the pieces of the other image that were dirty are pending, and no piece of it is dirty now.
abbrev pub cut_dirty : DirtyPieces → DirtyPieces
cut_dirty dirty = record { named = dirty.named; other = replicate (length dirty.other) false }

-- The other image is named from now on: each keeps its flags.
abbrev pub flipped_dirty : DirtyPieces → DirtyPieces
flipped_dirty dirty = record { named = dirty.other; other = dirty.named }

-- A device was just opened: the named image is that of its state, and of the other one nothing is known.
abbrev pub opened_dirty : Geometry → DirtyPieces
opened_dirty g = record { named = replicate (piece_count g) false; other = replicate (piece_count g) true }
