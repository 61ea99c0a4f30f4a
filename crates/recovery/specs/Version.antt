-- Format for engineers: The version of the image that a device names.
use Rattle.std.specs.Prelude.{ℕ, List}
use Rattle.affinity.specs.declared.geometry.Geometry.{Geometry}
use Rattle.image.specs.Image.{version_in}
use Rattle.device_map.specs.Layout.{image_part, layout_of, part_bytes}
use Rattle.oplog.specs.Recovery.{named_area}

abbrev pub named_version : Geometry → List ℕ → ℕ
named_version g c = version_in (part_bytes (layout_of g) (image_part (named_area (layout_of g) c)) c)
