-- Statement for engineers: What the calls of a log ask of its device and do to it, in the words of contracts.
use Rattle.std.specs.Prelude.{◌≡◌, ◌≤◌, ℕ, false, List, length}
use Rattle.disk.specs.Device.{Medium}
use Rattle.disk.specs.CrashImages.{CrashImagesAre}
use Rattle.protocol.specs.declared.messages.Msg.{Msg}
use Rattle.oplog.specs.declared.half.Half.{Half}
use Rattle.device_map.specs.Layout.{layout_of, device_size}
use Rattle.oplog.specs.Changes.{HasAppendedPrefix, HasAppendedAll, IsReady}
use Rattle.oplog.specs.ChangeRecords.{records_of}
use Rattle.oplog.specs.Log.{Log, layout_of_log}

-- ---- what they ask

-- The device is long enough for all its parts.
abbrev pub IsLongEnough : Log → Medium → Type 0
IsLongEnough log m = device_size (layout_of_log log) ≤ length m.now

-- The device hasn't failed in a call, and is long enough.
pub record IsUsable (log : Log) (m : Medium) : Type 0 where
  pub not_failed : log.failed ≡ false
  pub long_enough : IsLongEnough log m

-- The current half has as many records as the log says, shut gates behind them, and nothing unsynced.
abbrev pub IsReadyFor : Log → Medium → Type 0
IsReadyFor log m = IsReady (layout_of_log log) log.current log.used m

-- ---- what a crash leaves at any moment of a call, and what is there at `Ok`

-- A crash at any moment leaves the current half with a prefix of these messages appended.
abbrev pub Grows : Log → List Msg → Medium → Medium → Type 0
Grows log messages old new = CrashImagesAre old new (HasAppendedPrefix (layout_of_log log) log.current (records_of messages) old)

-- The current half has all of these messages appended, and none of them is unsynced.
abbrev pub HasAdded : Log → List Msg → Medium → Medium → Type 0
HasAdded log messages old new = HasAppendedAll (layout_of_log log) log.current log.used (records_of messages) old new

-- ---- what calls of one half ask and do

abbrev pub HalfGrows : Half → List Msg → Medium → Medium → Type 0
HalfGrows half messages old new = CrashImagesAre old new (HasAppendedPrefix (layout_of half.geometry) half.number (records_of messages) old)

abbrev pub HalfHasAdded : Half → ℕ → List Msg → Medium → Medium → Type 0
HalfHasAdded half used messages old new = HasAppendedAll (layout_of half.geometry) half.number used (records_of messages) old new
