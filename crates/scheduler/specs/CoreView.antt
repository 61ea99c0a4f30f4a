-- Statement for operators: A core as contracts see it: its core state, and what a crash leaves of its device.
use Rattle.std.specs.Prelude.{◌≡◌, ℕ, Bool, false, List, [], Option, None, if◌then◌else◌}
use Rattle.affinity.specs.declared.geometry.Geometry.{Geometry}
use Rattle.disk.specs.Device.{Medium}
use Rattle.disk.specs.CrashImages.{IsCrashImage, CrashImagesAre}
use Rattle.checkpoint.specs.Journal.{RecoversWithPrefix}
use Rattle.histories.specs.CoreState.{Entry, Replied, CoreState}
use Rattle.protocol.specs.declared.messages.Msg.{Msg}
use Rattle.parcel.specs.Tree.{TreeView, state_in}
use Rattle.meaning.specs.Step.{state_after_all}

-- what contracts see of a core
pub record CoreView : Type 0 where
  pub geometry : Geometry
  -- the messages, by how far each has come: as in the core state
  pub waiting : List Entry
  pub in_flight : List Entry
  pub ran : List Replied
  pub logged : List Replied
  -- the tree when the core was opened, and the messages appended to the log since then: they lead to the committed state
  pub opened : TreeView
  pub since_open : List Msg
  -- how many more records the current half of the log takes, the ticket of the next message, and how many messages the core can have
  -- at once
  pub room : ℕ
  pub next : ℕ
  pub slots : ℕ
  -- whether the device has failed, and what was to be appended to the log when it did
  pub failed : Bool
  pub doubt : List Msg
  -- how many pieces are left to write, while an online checkpoint is in progress; else `None`
  pub pieces_left : Option ℕ
  pub medium : Medium

-- the core state of `histories` for this view
abbrev pub core_state_of : CoreView → CoreState
core_state_of c = record {
  waiting = c.waiting;
  in_flight = c.in_flight;
  ran = c.ran;
  logged = c.logged;
  committed = state_after_all c.geometry (state_in c.opened) c.since_open;
  room = c.room;
  next = c.next;
  slots = c.slots;
  failed = c.failed;
  doubt = c.doubt;
  pieces_left = c.pieces_left;
}

-- A crash now leaves the committed state, with a prefix of the messages in `doubt`.
abbrev pub RecoversNow : CoreView → Type 0
RecoversNow c = (bytes : List ℕ) → IsCrashImage c.medium bytes → RecoversWithPrefix c.geometry (core_state_of c).committed c.doubt bytes

-- A crash at any moment of a call leaves the state committed before it, with a prefix of the messages that the call is to append, or,
-- where the device had failed before, of those in `doubt`.
abbrev pub RecoversThroughout : List Msg → CoreView → CoreView → Type 0
RecoversThroughout appended old new =
    CrashImagesAre old.medium new.medium (RecoversWithPrefix old.geometry (core_state_of old).committed
    (if old.failed then old.doubt else appended))

-- A core that was just opened: nothing waits or is held, no ticket was given, and the log has all its room (`half` records).
pub record IsJustOpened (slots : ℕ) (c : CoreView) : Type 0 where
  pub none_waits : c.waiting ≡ []
  pub none_in_flight : c.in_flight ≡ []
  pub none_ran : c.ran ≡ []
  pub none_logged : c.logged ≡ []
  pub room : c.room ≡ c.geometry.half
  pub next : c.next ≡ 0
  pub slots_are : c.slots ≡ slots
  pub works : c.failed ≡ false
  pub no_doubt : c.doubt ≡ []
  pub no_cut : c.pieces_left ≡ None
