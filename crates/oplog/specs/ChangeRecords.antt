-- Statement for engineers: The messages that the log keeps, and their records.
use Rattle.std.specs.Prelude.{◌≡◌, ◌≢◌, ℕ, ◌<◌, ◌≤◌, true, List, length, map, Some}
use Rattle.std.specs.List.{All}
use Rattle.affinity.specs.declared.geometry.Geometry.{Geometry}
use Rattle.affinity.specs.Kind.{is_changing}
use Rattle.disk.specs.CrashImages.{AreBytes}
use Rattle.protocol.specs.declared.messages.Msg.{Msg}
use Rattle.protocol.specs.Messages.{IsMessage, kind, is_in_range}
use Rattle.message.specs.Records.{message_in_fields, record_of}
use Rattle.device_map.specs.Layout.{Layout, device_size}
use Rattle.protocol.specs.declared.sizes.TheConstants.{RECORD_SIZE}
use Rattle.oplog.specs.HalfContent.{record_at}

-- The message is of a changing kind, and its numbers are in range.
abbrev pub IsChangeInRange : Geometry → Msg → Type 0
IsChangeInRange g m = (is_changing (kind m) ≡ true) × (is_in_range g m ≡ true)

-- These bytes are the record of no change in range.
abbrev pub IsNoChangeRecord : Geometry → List ℕ → Type 0
IsNoChangeRecord g bytes = (m : Msg) → IsMessage m → IsChangeInRange g m → bytes ≢ record_of m

-- each of these messages is a change in range
abbrev pub AreChangesInRange : Geometry → List Msg → Type 0
AreChangesInRange g messages = All (λ (m : Msg). IsChangeInRange g m) messages

-- the records of messages, each as its bytes
abbrev pub records_of : List Msg → List (List ℕ)
records_of messages = map record_of messages

-- ---- laws of bad records: those that a read answers with `BadRecord`, as their bytes are the record of no change in range

-- On a device that is made of bytes each record is made of bytes, and `RECORD_SIZE` of them, whatever its gate is.
abbrev pub RecordsAreBytes : Type 0
RecordsAreBytes = (l : Layout) (h i : ℕ) (c : List ℕ) → h < 2 → i < l.capacity → device_size l ≤ length c → AreBytes c
    → (length (record_at l h i c) ≡ RECORD_SIZE) × AreBytes (record_at l h i c)

-- The bytes of a bad record may still be read as a change in range (`message_in_fields`): even then they aren't the record of that change.
-- `IsMessage` isn't asked for, so its data need not be bytes.
abbrev pub BadRecordIsOfNoChange : Type 0
BadRecordIsOfNoChange = (g : Geometry) (bytes : List ℕ) → length bytes ≡ RECORD_SIZE → AreBytes bytes → IsNoChangeRecord g bytes
    → (m : Msg) → message_in_fields bytes ≡ Some m → IsChangeInRange g m → bytes ≢ record_of m
