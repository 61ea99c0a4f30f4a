-- Statement for engineers: What lies behind the last part of a device that is longer than its parts (header, root zone, halves, images).
use Rattle.std.specs.Prelude.{◌≡◌, List, ℕ, drop}
use Rattle.disk.specs.Device.{Medium}
use Rattle.disk.specs.CrashImages.{CrashesChangeOnly}
use Rattle.device_map.specs.Layout.{Layout, device_size}

-- What lies after the parts is the same.
abbrev pub IsSameBeyond : Layout → List ℕ → List ℕ → Type 0
IsSameBeyond l old c = drop (device_size l) c ≡ drop (device_size l) old

-- After the parts a crash at any moment from `old` to `new` leaves what a crash of `old` might have left there.
abbrev pub KeepsBeyond : Layout → Medium → Medium → Type 0
KeepsBeyond l old new = CrashesChangeOnly old new (IsSameBeyond l)
