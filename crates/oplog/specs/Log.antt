-- Statement for engineers: A log as contracts see it, and what its calls make of it and answer.
use Rattle.std.specs.Prelude.{◌≡◌, ℕ, ◌+◌, ◌-◌, ◌/◌, Bool, true, false, ◌&&◌, ◌==◌, if◌then◌else◌, List, length, IfErr, Result, Ok, Err}
use Rattle.affinity.specs.declared.geometry.Geometry.{Geometry}
use Rattle.disk.specs.Device.{Medium}
use Rattle.protocol.specs.declared.messages.Msg.{Msg}
use Rattle.message.specs.Records.{record_of}
use Rattle.oplog.specs.declared.halves.LogFault.{LogFault}
use Rattle.oplog.specs.declared.halves.LogFault.TheVariants.{Device, BadRecord}
use Rattle.device_map.specs.Layout.{Layout, layout_of, other}
use Rattle.oplog.specs.declared.half.TheConstants.{RECORDS_PER_WRITE}
use Rattle.oplog.specs.ChangeRecords.{IsNoChangeRecord}

-- how many batches of up to `RECORDS_PER_WRITE` records n records make
abbrev pub batch_count : ℕ → ℕ
batch_count n = (n + (RECORDS_PER_WRITE - 1)) / RECORDS_PER_WRITE

pub record Log : Type 0 where
  pub geometry : Geometry
  -- the half that the root zone names
  pub named : ℕ
  -- the half that records are appended to, and how many it has
  pub current : ℕ
  pub used : ℕ
  -- whether the half that isn't named was cleared since it was last named or current
  pub cleared : Bool
  -- whether the device has failed in a call
  pub failed : Bool

-- where the parts of its device lie
abbrev pub layout_of_log : Log → Layout
layout_of_log log = layout_of log.geometry

-- a log of which nothing is known: half 0 is named and current, and there is no room
abbrev pub new_log : Geometry → Log
new_log g = record { geometry = g; named = 0; current = 0; used = g.half; cleared = false; failed = false }

-- the log with this half named and current, and no room
abbrev pub with_half_named : ℕ → Log → Log
with_half_named h log = record log {
  named = h;
  current = h;
  used = log.geometry.half;
  cleared = log.cleared && (h == log.named) && (log.current == log.named);
}

-- The log with the other half named. If the current half was the named one, the other half becomes current too: with all its room if it
-- was cleared, else with none.
abbrev pub flipped : Log → Log
flipped log =
    if log.current == log.named then record log {
      named = other log.named;
      current = other log.named;
      used = if log.cleared then 0 else log.geometry.half;
      cleared = false;
    }
    else record log { named = other log.named; cleared = false }

-- The log with the other half's records in force behind those of the named one: the other half is current, with all its room.
abbrev pub chained : Log → Log
chained log = record log { current = other log.named; used = 0; cleared = false }

-- the log after a call with this answer: at `Ok` as given, at `Device` failed, and else as before
abbrev pub log_after : {T : Type 0} → Result T LogFault → Log → Log → Log
log_after (Ok _) log done = done
log_after (Err Device) log done = record log { failed = true }
log_after (Err (BadRecord h i)) log done = log

-- A call adds one to the count of failures exactly where it returns `Device`.
abbrev pub CountsLogFault : {T : Type 0} → Result T LogFault → ℕ → ℕ → Type 0
CountsLogFault (Ok _) old new = new ≡ old
CountsLogFault (Err Device) old new = new ≡ old + 1
CountsLogFault (Err (BadRecord h i)) old new = new ≡ old

-- What every call of a log does to its device: it counts a failure exactly where it returns `Device`, and the device stays
-- as long as it was.
abbrev pub IsLogCall : {T : Type 0} → Result T LogFault → Medium → Medium → Type 0
IsLogCall result old new = CountsLogFault result old.faults new.faults × (length new.now ≡ length old.now)

-- What a call that reads no record does to its device: the same, and only the device is ever at fault.
pub record ReadsNoRecord {T : Type 0} (result : Result T LogFault) (old new : Medium) : Type 0 where
  pub counts : CountsLogFault result old.faults new.faults
  pub len : length new.now ≡ length old.now
  pub device : IfErr result (λ e. e ≡ Device)

-- the answer to a call for the record with these bytes
abbrev pub IsOfRecord : Geometry → List ℕ → Result Msg LogFault → Type 0
IsOfRecord g bytes (Ok m) = bytes ≡ record_of m
IsOfRecord g bytes (Err Device) = Unit {0}
IsOfRecord g bytes (Err (BadRecord h i)) = IsNoChangeRecord g bytes

-- If the answer is that a record is bad, it names record i of half h.
abbrev pub NamesRecord : ℕ → ℕ → Result Msg LogFault → Type 0
NamesRecord h i (Ok m) = Unit {0}
NamesRecord h i (Err Device) = Unit {0}
NamesRecord h i (Err (BadRecord a b)) = (a ≡ h) × (b ≡ i)
