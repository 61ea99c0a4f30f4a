-- Statement for operators: A journal as contracts see it, and what its calls leave.
use Rattle.std.specs.Prelude.{◌≡◌, ◌≤◌, ℕ, ◌+◌, Bool, true, List, [], ◌∷◌, length, take, Option, Some, None, is_some, Result, Ok, Err, ◌-◌}
use Rattle.affinity.specs.declared.geometry.Geometry.{Geometry}
use Rattle.recovery.specs.Recovery.{recovered_state}
use Rattle.disk.specs.Device.{Medium}
use Rattle.disk.specs.CrashImages.{IsCrashImage, CrashImagesAre}
use Rattle.checkpoint.specs.DirtyPieces.{DirtyPieces}
use Rattle.protocol.specs.declared.messages.Msg.{Msg}
use Rattle.protocol.specs.Messages.{IsMessage}
use Rattle.oplog.specs.ChangeRecords.{IsChangeInRange}
use Rattle.oplog.specs.Recovery.{records_in}
use Rattle.oplog.specs.Log.{Log}
use Rattle.meaning.specs.Step.{state_after_all, is_recorded, next_state, reply_to}
use Rattle.meaning.specs.State.{State}

pub record JournalView : Type 0 where
  pub geometry : Geometry
  -- how many more records the current half takes
  pub room : ℕ
  -- how many pieces of a cut are still to be written, while one is in progress
  pub pieces_left : Option ℕ
  -- which pieces of each image may differ from those of the committed state's image
  pub dirty : DirtyPieces
  -- whether the device has failed in a call
  pub failed : Bool
  pub medium : Medium

-- what the device recovers to
abbrev pub committed : JournalView → Option State
committed j = recovered_state j.geometry j.medium.now

-- the records in force on the device of a journal
abbrev pub records : JournalView → List (List ℕ)
records j = records_in j.geometry j.medium.now

-- The device recovers to a state, and so does whatever a crash leaves now, with the same records in force. While no cut is in
-- progress, these records and the room for more make up exactly one half.
pub record IsRecoverable (j : JournalView) : Type 0 where
  pub some : is_some (committed j) ≡ true
  pub each : (c : List ℕ) → IsCrashImage j.medium c → recovered_state j.geometry c ≡ committed j
  pub same_records : (c : List ℕ) → IsCrashImage j.medium c → records_in j.geometry c ≡ records j
  pub room : j.pieces_left ≡ None → length (records j) + j.room ≡ j.geometry.half

-- A crash at any moment from `old` to `new` leaves a device that recovers to the same as `old`.
abbrev pub RecoversStill : Geometry → Medium → Medium → Type 0
RecoversStill g old new = CrashImagesAre old new (λ c. recovered_state g c ≡ recovered_state g old.now)

-- Run from x on, one after the other, each of the messages gets a record in the log: it is changing, in range, and carried out.
abbrev pub AreCarriedOut : Geometry → State → List Msg → Type 0
AreCarriedOut g x [] = Unit {0}
AreCarriedOut g x (m ∷ ms) = IsMessage m × IsChangeInRange g m × (is_recorded m (reply_to g x m) ≡ true)
    × AreCarriedOut g (next_state g x m) ms

-- These bytes recover to x with a prefix of these messages run on it.
pub record RecoversWithPrefix (g : Geometry) (x : State) (ms : List Msg) (c : List ℕ) : Type 0 where
  pub added : ℕ
  pub at_most : added ≤ length ms
  pub is : recovered_state g c ≡ Some (state_after_all g x (take added ms))

-- a journal after a call with this result: at `Ok` it is `done`; else it is as before, with the device of `done`, and has failed
abbrev pub after_call : {T E : Type 0} → Result T E → JournalView → JournalView → JournalView
after_call (Ok _) done old = done
after_call (Err _) done old = record old { failed = true; medium = done.medium }

-- the journal with this log, these dirty flags (of the named image, and of the other one) and this device
abbrev pub journal_view_of : Log → List Bool → List Bool → Option ℕ → Medium → JournalView
journal_view_of log named others pieces_left m = record {
  geometry = log.geometry;
  room = log.geometry.half - log.used;
  pieces_left = pieces_left;
  dirty = record { named = named; other = others };
  failed = log.failed;
  medium = m;
}
