-- Format for operators: The header of a device: that it is formatted, and its server's geometry.
use Rattle.std.specs.Prelude.{◌≡◌, ℕ, Bool, List, [], ◌∷◌, ◌++◌, take, replicate}
use Rattle.std.specs.List.{flat_map}
use Rattle.std.specs.Str.{bytes_eq}
use Rattle.affinity.specs.Geometry.{numbers_of}
use Rattle.affinity.specs.declared.geometry.Geometry.{Geometry}
use Rattle.byteorder.specs.Endian.{little_bytes}
use Rattle.device_map.specs.declared.layout.TheConstants.{HEADER_SIZE}

-- the format byte of a formatted device, 1, and `WAFFSRV`
abbrev pub magic : List ℕ
magic = 1 ∷ 87 ∷ 65 ∷ 70 ∷ 70 ∷ 83 ∷ 82 ∷ 86 ∷ []

-- the header of a device of this geometry: the magic, its eight numbers (two bytes each, the lower one first) and 40 zeros
abbrev pub header_of : Geometry → List ℕ
header_of g = magic ++ flat_map (little_bytes 2) (numbers_of g) ++ replicate 40 0

-- whether these bytes are the header of this geometry
abbrev pub is_header : Geometry → List ℕ → Bool
is_header g bytes = bytes_eq bytes (header_of g)

-- Bytes that begin with the header of this geometry.
abbrev pub HasHeader : Geometry → List ℕ → Type 0
HasHeader g c = take HEADER_SIZE c ≡ header_of g
