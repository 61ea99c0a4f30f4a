-- Format for operators: An image: a head with the version, then the pieces of a state. In each version a state has one
-- encoding, and bytes are an image exactly where they are the image of what they decode to.
use Rattle.std.specs.Prelude.{◌≡◌, ℕ, zero, suc, ◌-◌, ◌<◌, Bool, true, ◌&&◌, ◌||◌, ◌==◌, if◌then◌else◌, List, ◌∷◌, ◌++◌, get_or, replicate, Option, Some, None}
use Rattle.std.specs.Str.{bytes_eq}
use Rattle.affinity.specs.declared.geometry.Geometry.{Geometry}
use Rattle.device_map.specs.Layout.{slice}
use Rattle.device_map.specs.declared.layout.TheConstants.{IMAGE_HEAD_SIZE}
use Rattle.meaning.specs.State.{State, empty}
use Rattle.image.specs.declared.layout.TheConstants.{FIRST_VERSION, VERSION}
use Rattle.image.specs.Pieces.{piece_count, piece_at, piece_size, piece_of, joined_below, decoded_by, with_piece}

-- ---- writing

-- the head of an image: its version, and zeros
abbrev pub image_head : ℕ → List ℕ
image_head version = version ∷ replicate (IMAGE_HEAD_SIZE - 1) 0

-- a state as an image of this version
abbrev pub image_of : ℕ → Geometry → State → List ℕ
image_of version g x = image_head version ++ joined_below (piece_count g) (piece_of version g x)

-- ---- reading

-- the version of an image: its first byte
abbrev pub version_in : List ℕ → ℕ
version_in bytes = get_or bytes 0 0

-- the bytes of piece n
abbrev pub piece_in : Geometry → List ℕ → ℕ → List ℕ
piece_in g bytes n = slice bytes (piece_at g n) (piece_size g n)

-- what the bytes of an image decode to
abbrev pub decoded_state : ℕ → Geometry → List ℕ → State
decoded_state version g bytes = decoded_by version g (piece_in g bytes)

-- whether images of this version are read
abbrev pub is_version : ℕ → Bool
is_version version = (version == FIRST_VERSION) || (version == VERSION)

-- The bytes are of a version that is read, and the image of what they decode to.
abbrev pub is_image : Geometry → List ℕ → Bool
is_image g bytes = let version = version_in bytes in is_version version
    && bytes_eq bytes (image_of version g (decoded_state version g bytes))

-- the state of an image, if these bytes are one
abbrev pub image_state : Geometry → List ℕ → Option State
image_state g bytes = if is_image g bytes then Some (decoded_state (version_in bytes) g bytes) else None

-- Piece n is good: it is piece n of the state to which the image decodes.
abbrev pub is_good : Geometry → List ℕ → ℕ → Bool
is_good g bytes n = let version = version_in bytes in bytes_eq (piece_in g bytes n) (piece_of version g (decoded_state version g bytes) n)

-- The head is a version and zeros.
abbrev pub has_head : List ℕ → Bool
has_head bytes = let version = version_in bytes in is_version version && bytes_eq (slice bytes 0 IMAGE_HEAD_SIZE) (image_head version)

-- ---- piece by piece

-- the state that the first n pieces decode to, taken in one after the other
abbrev pub decoded_before : ℕ → Geometry → List ℕ → ℕ → State
decoded_before version g bytes zero = empty
decoded_before version g bytes (suc n) = with_piece version g (decoded_before version g bytes n) n (piece_in g bytes n)

-- The first n pieces are good.
abbrev pub AreGood : Geometry → List ℕ → ℕ → Type 0
AreGood g bytes n = (i : ℕ) → i < n → is_good g bytes i ≡ true
