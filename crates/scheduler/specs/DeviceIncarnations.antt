-- Statement for operators: The incarnations of a device: it is formatted, opened, a machine runs on it, and a crash comes. Then it is
-- opened again.
use Rattle.std.specs.Prelude.{◌≡◌, ◌⊎◌, ◌≤◌, ℕ, List, [], ◌∷◌, map, Some}
use Rattle.std.specs.List.{AllByRecursion}
use Rattle.affinity.specs.declared.geometry.Geometry.{Geometry}
use Rattle.recovery.specs.Header.{HasHeader}
use Rattle.recovery.specs.Recovery.{recovered_state}
use Rattle.disk.specs.Device.{Medium, IsSynced, moment_number}
use Rattle.disk.specs.CrashImages.{AreBytes, left_since}
use Rattle.checkpoint.specs.Opening.{OpeningCrashImages}
use Rattle.histories.specs.Events.{Event}
use Rattle.histories.specs.MachineState.{MachineState}
use Rattle.histories.specs.CoreState.{IsIdle}
use Rattle.histories.specs.Incarnations.{AreLogsOf, AllHoldAnswered, Incarnation, Ran, Unopened, in_order}
use Rattle.histories.specs.Runs.{IsLegal}
use Rattle.scheduler.specs.DeviceEvents.{RecoversForRun}
use Rattle.protocol.specs.declared.messages.Msg.{Msg}
use Rattle.meaning.specs.Step.{state_after_all}
use Rattle.meaning.specs.State.{empty}

-- An incarnation of a device: the device when it was opened (`at_open`) and after its last call (`at_end`); the first moment at which the
-- crash may have come; the geometry; and the incarnation without its device.
pub record DeviceIncarnation : Type 0 where
  pub at_open : Medium
  pub at_end : Medium
  pub earliest_crash : ℕ
  pub geometry : Geometry
  pub incarnation : Incarnation

-- What the next incarnation begins with: what is left by a crash at moment t or later, with nothing unsynced; or the device as it is, if no
-- crash came and it is opened again.
abbrev pub IsPassedOn : Medium → ℕ → Medium → Type 0
IsPassedOn m t next = ((left_since m t next.now) × IsSynced next) ⊎ ((next ≡ m) × (t ≤ moment_number m) × AreBytes m.now)

-- The device was opened with the geometry of its header, and with no message in the core; the run was made, and the crash came after at
-- least k of its events had ended.
pub record IsRunIncarnation (l : DeviceIncarnation) (start : MachineState) (events : List Event) (k : ℕ) : Type 0 where
  pub header : HasHeader l.geometry l.at_open.now
  pub recovered_before : recovered_state l.geometry l.at_open.now ≡ Some start.core.committed
  pub idle : IsIdle start.core
  pub legal : IsLegal l.geometry start events
  pub crash : (c : List ℕ) → left_since l.at_end l.earliest_crash c → RecoversForRun l.geometry start events k c

-- The crash came during the opening, or in a run.
abbrev pub IsIncarnationOf : DeviceIncarnation → Incarnation → Type 0
IsIncarnationOf l Unopened = OpeningCrashImages l.at_open l.at_end × (l.earliest_crash ≡ moment_number l.at_open)
IsIncarnationOf l (Ran start events k) = IsRunIncarnation l start events k

-- A device may have had these incarnations, one after the other, beginning with what is left of `m` at moment t or later.
abbrev pub HasIncarnations : Medium → ℕ → List DeviceIncarnation → Type 0
HasIncarnations m t [] = Unit {0}
HasIncarnations m t (l ∷ incarnations) =
    IsPassedOn m t l.at_open × IsIncarnationOf l l.incarnation × HasIncarnations l.at_end l.earliest_crash incarnations

-- The server had the geometry `g`, if it was opened.
abbrev pub IsOfGeometry : Geometry → Geometry → Incarnation → Type 0
IsOfGeometry g opened Unopened = Unit {0}
IsOfGeometry g opened (Ran start events k) = opened ≡ g

-- Each server that was opened had the geometry `g`.
abbrev pub HaveGeometry : Geometry → List DeviceIncarnation → Type 0
HaveGeometry g incarnations = AllByRecursion (λ l. IsOfGeometry g l.geometry l.incarnation) incarnations

-- The crash that ended the last of the incarnations may have left these bytes.
abbrev pub LeftByLast : Medium → ℕ → List DeviceIncarnation → List ℕ → Type 0
LeftByLast m t [] c = left_since m t c
LeftByLast m t (l ∷ incarnations) c = LeftByLast l.at_end l.earliest_crash incarnations c

-- the incarnations without their devices
abbrev pub incarnations_of : List DeviceIncarnation → List Incarnation
incarnations_of incarnations = map (λ l. l.incarnation) incarnations

-- The bytes recover to what the serial server reaches, from the empty state on, by the logs of all incarnations, one after the other.
-- The log of each incarnation is one that a crash of its run leaves: a prefix of what it logged or was to log, which begins with every
-- change that was answered.
pub record RecoversForIncarnations (g : Geometry) (incarnations : List Incarnation) (c : List ℕ) : Type 0 where
  pub logs : List (List Msg)
  pub are_logs : AreLogsOf g empty incarnations logs
  pub answered : AllHoldAnswered incarnations logs
  pub is : recovered_state g c ≡ Some (state_after_all g empty (in_order logs))
