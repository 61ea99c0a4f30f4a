-- Statement for operators: What a device recovers to: the state of its named image, with the records in force run on it.
use Rattle.std.specs.Prelude.{ℕ, Bool, ◌&&◌, if◌then◌else◌, List, Option, Some, None}
use Rattle.std.specs.Str.{bytes_eq}
use Rattle.affinity.specs.declared.geometry.Geometry.{Geometry}
use Rattle.recovery.specs.Header.{is_header}
use Rattle.image.specs.Image.{image_state}
use Rattle.protocol.specs.declared.messages.Msg.{Msg}
use Rattle.protocol.specs.Messages.{is_in_range}
use Rattle.message.specs.Records.{message_in_fields, record_of}
use Rattle.device_map.specs.Layout.{layout_of}
use Rattle.oplog.specs.Recovery.{Decoding, recovers}
use Rattle.meaning.specs.Step.{is_recorded, next_state, reply_to}
use Rattle.meaning.specs.State.{State}

-- The bytes are the record of the message, which is in range, changing, and carried out in this state.
abbrev pub is_record_there : Geometry → State → List ℕ → Msg → Bool
is_record_there g x bytes m = bytes_eq bytes (record_of m) && is_in_range g m && is_recorded m (reply_to g x m)

-- the state after these bytes, whose fields decode to this message; none where they aren't its record, or it can't be run in the state
abbrev pub apply_decoded : Geometry → State → List ℕ → Option Msg → Option State
apply_decoded g x bytes None = None
apply_decoded g x bytes (Some m) = if is_record_there g x bytes m then Some (next_state g x m) else None

-- the state after the record with these bytes; none where they are no record that can be run in the state
abbrev pub after_record : Geometry → State → List ℕ → Option State
after_record g x bytes = apply_decoded g x bytes (message_in_fields bytes)

-- how images, records and headers are decoded
abbrev pub decoding : Geometry → Decoding State
decoding g = record { read = image_state g; apply = after_record g; is_header = is_header g }

-- the state that a device of this geometry recovers to; none where its header, length, chain bytes, image or a record in force is bad
abbrev pub recovered_state : Geometry → List ℕ → Option State
recovered_state g c = recovers (decoding g) (layout_of g) c
