-- Statement for engineers: What a crash leaves while a device is made, and what is on it step by step.
use Rattle.std.specs.Prelude.{◌≡◌, ◌≢◌, ◌⊎◌, ◌+◌, ◌-◌, ℕ, List, ◌∷◌, length, get_or, replicate, Some}
use Rattle.affinity.specs.declared.geometry.Geometry.{Geometry}
use Rattle.recovery.specs.Recovery.{recovered_state}
use Rattle.recovery.specs.Refusals.{IsUnformatted}
use Rattle.disk.specs.Device.{Medium}
use Rattle.disk.specs.CrashImages.{IsCrashImage}
use Rattle.device_map.specs.Layout.{slice, layout_of, part_at, half_part, image_part, image_size}
use Rattle.device_map.specs.declared.layout.TheConstants.{HEADER_SIZE, ROOT_ZONE_SIZE, CHAIN_ZONE_SIZE}
use Rattle.image.specs.declared.layout.TheConstants.{VERSION}
use Rattle.meaning.specs.State.{empty}

-- What a crash of the device `before` might leave, or a device that isn't formatted, or one that recovers to the empty state.
abbrev pub FormatCrashImages : Geometry → Medium → List ℕ → Type 0
FormatCrashImages g before c = IsCrashImage before c ⊎ (IsUnformatted c ⊎ (recovered_state g c ≡ Some empty))

-- n bytes, the first of them not 1
pub record HasNoFormatByte (n : ℕ) (c : List ℕ) : Type 0 where
  pub size : length c ≡ n
  pub first_byte : get_or c 0 0 ≢ 1

-- Whatever a crash leaves now is n bytes, the first of them not 1.
abbrev pub StaysUnformatted : ℕ → Medium → Type 0
StaysUnformatted n m = (c : List ℕ) → IsCrashImage m c → HasNoFormatByte n c

-- These bytes lie at offset `at`.
abbrev pub HasBytesAt : List ℕ → ℕ → List ℕ → Type 0
HasBytesAt c at bytes = slice c at (length bytes) ≡ bytes

-- What an empty device needs besides its header: zeros from the root zone to the gates of half 0, in the chain zone and
-- gates of half 1, and in image 0, but for its first byte, the version.
pub record IsAllButHeader (g : Geometry) (c : List ℕ) : Type 0 where
  pub root : HasBytesAt c HEADER_SIZE (replicate (ROOT_ZONE_SIZE + (CHAIN_ZONE_SIZE + g.half)) 0)
  pub one : HasBytesAt c (part_at (layout_of g) (half_part 1)) (replicate (CHAIN_ZONE_SIZE + g.half) 0)
  pub image : HasBytesAt c (part_at (layout_of g) (image_part 0)) (VERSION ∷ replicate (image_size g - 1) 0)
