-- Statement for clients: What a crash may leave of a device: now, at some moment of a sequence of calls or at each, and by its kind.
use Rattle.std.specs.Prelude.{◌⊎◌, ◌≤◌, ℕ, List, [], ◌∷◌, length, ◌+◌, ◌%◌, ◌<◌, Bool, true, false, slice_index, ◌≡◌, All}
use Rattle.disk.specs.Device.{Moment, Medium, moments, moment_number}
use Rattle.disk.specs.declared.torn.Torn.{Torn}
use Rattle.disk.specs.declared.torn.Torn.TheVariants.{Old, New, Fill, Mixed}

-- ---- now

-- each number of the list is a byte
abbrev pub AreBytes : List ℕ → Type 0
AreBytes numbers = All (λ b. b < 256) numbers

-- A list of the same length that has the same items at all offsets that are not unsynced. An offset past the end of the
-- flags counts as unsynced.
abbrev pub SameButUnsynced : List ℕ → List Bool → List ℕ → Type 0
SameButUnsynced [] unsynced [] = Unit {0}
SameButUnsynced [] unsynced (x ∷ c) = ⊥
SameButUnsynced (b ∷ now) unsynced [] = ⊥
SameButUnsynced (b ∷ now) [] (x ∷ c) = SameButUnsynced now [] c
SameButUnsynced (b ∷ now) (true ∷ unsynced) (x ∷ c) = SameButUnsynced now unsynced c
SameButUnsynced (b ∷ now) (false ∷ unsynced) (x ∷ c) = (x ≡ b) × SameButUnsynced now unsynced c

-- A crash leaves any bytes at the unsynced offsets and keeps all others. It changes no length.
pub record IsTornFrom (now : List ℕ) (unsynced : List Bool) (c : List ℕ) : Type 0 where
  pub same : SameButUnsynced now unsynced c
  pub bytes : AreBytes c

-- what a crash may leave of the device as it is now
abbrev pub IsCrashImage : Medium → List ℕ → Type 0
IsCrashImage m c = IsTornFrom m.now m.unsynced c

-- ---- at some moment, or at every one

-- a crash at one of these moments, the newest first, whose number is at least t may leave c
abbrev pub LeftByMoments : List Moment → ℕ → List ℕ → Type 0
LeftByMoments [] t c = ⊥
LeftByMoments (m ∷ earlier) t c = ((t ≤ length earlier) × IsTornFrom m.now m.unsynced c) ⊎ LeftByMoments earlier t c

-- a crash at some moment from number t on might have left c
abbrev pub left_since : Medium → ℕ → List ℕ → Type 0
left_since m t c = LeftByMoments (moments m) t c

-- A crash at any moment from `old` to `new`, both among them, leaves only what has P.
pub record CrashImagesAre (old new : Medium) (P : List ℕ → Type 0) : Type 0 where
  pub later : moment_number old ≤ moment_number new
  pub each : (c : List ℕ) → left_since new (moment_number old) c → P c
  -- A crash since an earlier moment t leaves what a crash from t to `old` could have left, or what has P.
  pub before : (t : ℕ) (c : List ℕ) → t ≤ moment_number old → left_since new t c → left_since old t c ⊎ P c

-- The bytes c are what a crash of the device `before` might have left (`old`), changed in this way.
pub record After (before : Medium) (Change : List ℕ → List ℕ → Type 0) (c : List ℕ) : Type 0 where
  pub old : List ℕ
  pub left : IsCrashImage before old
  pub change : Change old c

-- A crash at any moment from `old` to `new` leaves what a crash of `old` might have left, changed in this way.
abbrev pub CrashesChangeOnly : Medium → Medium → (List ℕ → List ℕ → Type 0) → Type 0
CrashesChangeOnly old new Change = CrashImagesAre old new (After old Change)

-- ---- by the kind of crash

-- The pattern of a `Mixed` crash isn't empty.
abbrev pub HasPattern : Torn → Type 0
HasPattern (Mixed pattern) = 0 < length pattern.items
HasPattern _ = Unit {0}

-- What a crash of this kind puts at the unsynced offset i, with k unsynced ones below it.
abbrev pub torn_byte : Torn → List ℕ → List ℕ → ℕ → ℕ → ℕ
torn_byte Old last_synced last_written i k = slice_index last_synced i
torn_byte New last_synced last_written i k = slice_index last_written i
torn_byte (Fill x) last_synced last_written i k = x
torn_byte (Mixed pattern) last_synced last_written i k = slice_index pattern.items (k % length pattern.items)

-- These bytes, which lie from offset i on and have k unsynced ones below them, with `put i k` at each unsynced offset.
abbrev pub torn_from : (ℕ → ℕ → ℕ) → ℕ → ℕ → List Bool → List ℕ → List ℕ
torn_from put i k unsynced [] = []
torn_from put i k [] (b ∷ now) = b ∷ now
torn_from put i k (true ∷ unsynced) (b ∷ now) = put i k ∷ torn_from put (i + 1) (k + 1) unsynced now
torn_from put i k (false ∷ unsynced) (b ∷ now) = b ∷ torn_from put (i + 1) k unsynced now
