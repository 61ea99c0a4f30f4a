-- Statement for operators: What a device recovers to by one of its areas.
use Rattle.std.specs.Prelude.{◌≡◌, ℕ, true, List, Option, is_some}
use Rattle.affinity.specs.declared.geometry.Geometry.{Geometry}
use Rattle.recovery.specs.Recovery.{recovered_state, decoding}
use Rattle.disk.specs.Device.{Medium}
use Rattle.oplog.specs.Crash.{CrashRecovers}
use Rattle.oplog.specs.Log.{Log}
use Rattle.oplog.specs.Recovery.{run}
use Rattle.oplog.specs.HalfContent.{front}
use Rattle.device_map.specs.Layout.{layout_of, image_part, part_bytes}
use Rattle.meaning.specs.State.{State}
use Rattle.image.specs.Image.{image_state}

-- the state of area n of a device with these bytes by itself: its image, with the records of its half run on it
abbrev pub area_state : Geometry → ℕ → List ℕ → Option State
area_state g n c = run (decoding g) (image_state g (part_bytes (layout_of g) (image_part n) c)) (front (layout_of g) n c)

-- Whatever a crash leaves now names area n, has half h as its current one, and recovers to x.
abbrev pub RecoversByArea : Geometry → ℕ → ℕ → Option State → Medium → Type 0
RecoversByArea g n h x m = CrashRecovers (decoding g) (layout_of g) n h x m

-- these records run on a state
abbrev pub run_on : Geometry → Option State → List (List ℕ) → Option State
run_on g x records = run (decoding g) x records

-- The device recovers to some state, and so does whatever a crash leaves now, by the named area with this half as the current one. How much
-- room the half has isn't known by it.
pub record RecoversWith (log : Log) (half : ℕ) (m : Medium) : Type 0 where
  pub some : is_some (recovered_state log.geometry m.now) ≡ true
  pub recovers : RecoversByArea log.geometry log.named half (recovered_state log.geometry m.now) m

-- The device recovers to a state by the named area and its half alone.
abbrev pub RecoversByNamedAlone : Log → Medium → Type 0
RecoversByNamedAlone log m = RecoversWith log log.named m
