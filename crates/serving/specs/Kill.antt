-- Statement for engineers: What a kill leaves, at any moment since the last send began.
use Rattle.std.specs.Prelude.{ℕ, false, List, Option, IsSomeAnd}
use Rattle.disk.specs.CrashImages.{left_since}
use Rattle.disk.specs.Device.{Medium, moment_number}
use Rattle.meaning.specs.ClosedPart.{are_in_conflict}
use Rattle.scheduler.specs.CoreView.{CoreView}
use Rattle.serving.specs.AnyRuns.{KeepsPromise}
use Rattle.serving.specs.SerialServer.{server_of, server_on}
use Rattle.serving.specs.Start.{Start}

-- A server that began so, and is killed when its output is `sent`, has kept the promise of a run, whatever a crash left of its device at
-- any moment from `sent_at` to `now`. The run began with the server that the core then had. `sent_at` is the device as it was when the last
-- send began, or at the start of the call, if nothing was sent: so these are all the moments at which this was the output.
abbrev pub IsKillSafeFrom : Type 0 → Start → Option (List ℕ) → Medium → CoreView → Type 0
IsKillSafeFrom keeps s sent sent_at now = let g = s.core.geometry in keeps → (c : List ℕ) → left_since now.medium (moment_number sent_at) c
    → KeepsPromise (server_on g) (are_in_conflict g) (server_of s.core) s.core.slots s.input false s.before sent c

-- The same from this start. Before a call has begun there is no start, and this holds of nothing.
abbrev pub IsKillSafe : Type 0 → Option Start → Option (List ℕ) → Medium → CoreView → Type 0
IsKillSafe keeps start sent sent_at now = IsSomeAnd start (λ s. IsKillSafeFrom keeps s sent sent_at now)
