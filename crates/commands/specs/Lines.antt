-- Format for engineers: The lines that commands print: a word, and numbers behind it.
use Rattle.std.specs.Prelude.{ℕ, List, [], ◌∷◌, ◌++◌, codes}
use Rattle.std.specs.List.{flat_map}
use Rattle.affinity.specs.Geometry.{numbers_of}
use Rattle.affinity.specs.declared.geometry.Geometry.{Geometry}
use Rattle.recovery.specs.declared.inspecting.Shown.{Shown}
use Rattle.protocol.specs.Replies.{output_line, reply_line, spaced}
use Rattle.device_map.specs.Layout.{device_size, layout_of}

-- a word, and behind it a space and the decimal digits of each number
abbrev pub number_line : List ℕ → List ℕ → List ℕ
number_line word numbers = output_line (word ++ flat_map spaced numbers)

-- what is printed of a device that was made: its length in bytes
abbrev pub formatted_line : Geometry → List ℕ
formatted_line g = number_line (codes "formatted") (device_size (layout_of g) ∷ [])

-- what is printed of a device that is shown: its geometry, the area that is named, how many records are in force, the reply to
-- `summary`, and the version of the named image
abbrev pub shown_lines : Shown → List ℕ
shown_lines shown =
    number_line (codes "geometry") (numbers_of shown.geometry)
    ++ number_line (codes "area") (shown.area ∷ [])
    ++ number_line (codes "records") (shown.records ∷ [])
    ++ reply_line shown.summary
    ++ number_line (codes "image") (shown.version ∷ [])
