-- Statement for engineers: What is reported of a device.
use Rattle.std.specs.Prelude.{◌≡◌, ℕ, List, Some, None, length}
use Rattle.recovery.specs.declared.inspecting.Shown.{Shown}
use Rattle.recovery.specs.Header.{HasHeader}
use Rattle.recovery.specs.Recovery.{recovered_state}
use Rattle.recovery.specs.Refusals.{refused}
use Rattle.image.specs.Image.{version_in}
use Rattle.protocol.specs.declared.messages.Msg.TheVariants.{Summary}
use Rattle.device_map.specs.Layout.{layout_of, image_part, part_bytes}
use Rattle.oplog.specs.Recovery.{in_force, named_area}
use Rattle.meaning.specs.Step.{reply_to}
use Rattle.meaning.specs.State.{State}

-- This is what a device with these bytes holds: it isn't refused, and recovers to a state of which the summary is reported.
pub record IsShown (c : List ℕ) (s : Shown) : Type 0 where
  -- the numbers are those of its header
  pub header : HasHeader s.geometry c
  pub sound : refused s.geometry c ≡ None
  pub area : s.area ≡ named_area (layout_of s.geometry) c
  -- those in the front of the named half and, where that half is chained, in the front of the other
  pub records : s.records ≡ length (in_force (layout_of s.geometry) s.area c)
  pub version : s.version ≡ version_in (part_bytes (layout_of s.geometry) (image_part s.area) c)
  pub state : State
  pub held : recovered_state s.geometry c ≡ Some state
  pub summary : s.summary ≡ reply_to s.geometry state Summary
