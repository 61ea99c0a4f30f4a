-- Statement for engineers: An image as the extents in which it is written: its head with the first piece, then each other piece.
use Rattle.std.specs.Prelude.{◌≡◌, ◌<◌, ◌+◌, ℕ, zero, suc, Bool, true, false, List, ◌++◌, get_or, Option, Some}
use Rattle.affinity.specs.declared.geometry.Geometry.{Geometry}
use Rattle.image.specs.Image.{image_head}
use Rattle.image.specs.Pieces.{piece_at, piece_count, piece_of, piece_size}
use Rattle.image.specs.declared.layout.TheConstants.{VERSION}
use Rattle.device_map.specs.Layout.{slice}
use Rattle.device_map.specs.declared.layout.TheConstants.{IMAGE_HEAD_SIZE}
use Rattle.meaning.specs.State.{State}

-- where extent n begins in its image, and how many bytes it has
abbrev pub extent_at : Geometry → ℕ → ℕ
extent_at g zero = 0
extent_at g (suc n) = piece_at g (suc n)

abbrev pub extent_size : Geometry → ℕ → ℕ
extent_size g zero = IMAGE_HEAD_SIZE + piece_size g 0
extent_size g (suc n) = piece_size g (suc n)

-- the bytes of extent n of an image
abbrev pub extent_in : Geometry → List ℕ → ℕ → List ℕ
extent_in g bytes n = slice bytes (extent_at g n) (extent_size g n)

-- extent n of the image of a state, in the version that is written
abbrev pub extent_of : Geometry → State → ℕ → List ℕ
extent_of g x zero = image_head VERSION ++ piece_of VERSION g x 0
extent_of g x (suc n) = piece_of VERSION g x (suc n)

-- Two lists of bytes are the same in each clean extent.
abbrev pub AgreeOnClean : Geometry → List Bool → List ℕ → List ℕ → Type 0
AgreeOnClean g dirty xs ys = (n : ℕ) → n < piece_count g → get_or dirty n true ≡ false → extent_in g xs n ≡ extent_in g ys n

-- Each clean extent is the one of this state.
abbrev pub AreCleanExtentsOf : Geometry → State → List Bool → List ℕ → Type 0
AreCleanExtentsOf g x dirty bytes = (n : ℕ) → n < piece_count g → get_or dirty n true ≡ false → extent_in g bytes n ≡ extent_of g x n

-- Every extent is dirty.
abbrev pub AreAllDirty : Geometry → List Bool → Type 0
AreAllDirty g dirty = (n : ℕ) → n < piece_count g → get_or dirty n true ≡ true

-- If there is a state x: each clean extent of these bytes (a piece, the first with the image's head) is that of x.
abbrev pub IsUpToDate : Geometry → Option State → List Bool → List ℕ → Type 0
IsUpToDate g x dirty bytes = (y : State) → x ≡ Some y → AreCleanExtentsOf g y dirty bytes
