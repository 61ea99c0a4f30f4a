-- Statement for engineers: The seats as clauses see them.
use Rattle.std.specs.Prelude.{◌≡◌, ℕ, ◌+◌, ◌≤◌, suc, Bool, List, [], ◌∷◌, ◌++◌, length, map, take, drop, slice_set, is_some, Option, None, Some}
use Rattle.atomic_table.specs.Table.{Me}
use Rattle.atomic_table.specs.Seated.{TableId}
use Rattle.parcel.specs.JobRun.{JobView, IsJobRun}
use Rattle.parcel.specs.declared.job.Done.{Done}
use Rattle.workers.specs.Rule.{lent_at}
use Rattle.workers.specs.declared.job_cell.CellContent.{CellContent}
use Rattle.workers.specs.declared.job_cell.CellContent.TheVariants.{Delivered}
use Rattle.workers.specs.declared.seats.SeatRole.{SeatRole}
use Rattle.workers.specs.declared.seats.SeatRole.TheVariants.{Dispatcher, Idle}
use Rattle.workers.specs.declared.words.TheConstants.{FIRST_PLACE, MOST_PLACES}

-- the dispatcher's seat: which bench it belongs to, and the job that is lent at each place
pub record DispatchSeatView : Type 0 where
  pub bench : TableId
  pub lent : List (Option JobView)

-- how many places a bench has: its table has a slot for each
abbrev pub places_of : TableId → ℕ
places_of z = z.slots

-- a table that serves as a bench: it has a word for each of its places, behind the words before `FIRST_PLACE`
abbrev pub IsBench : TableId → Type 0
IsBench z = (z.words ≡ places_of z + FIRST_PLACE) × (places_of z ≤ MOST_PLACES)

-- a seat at this table, which serves as a bench
abbrev pub IsAtBench : TableId → TableId → Type 0
IsAtBench table seat = (seat ≡ table) × IsBench table

-- the jobs that are lent, as far as a seat knows: all for the dispatcher's, none for a worker's. `untaken` is how many places' slots the
-- dispatcher's seat has not taken out of the table yet: 0 once the bench is open.
abbrev pub lent_of : SeatRole → List (Option JobView)
lent_of (Dispatcher untaken lent) = lent
lent_of _ = []

-- what a worker's seat knows and has while it has no job: no slot
abbrev pub idle : Me (Option CellContent) SeatRole
idle = (Idle, [])

-- the empty slots that the dispatcher's seat has: those of the places where nothing is lent, in order, where the list begins with place i
abbrev pub empty_slots : ℕ → List (Option JobView) → List (ℕ × Option CellContent)
empty_slots i [] = []
empty_slots i (None ∷ lent) = (i, None) ∷ empty_slots (suc i) lent
empty_slots i (Some job ∷ lent) = empty_slots (suc i) lent

-- these slots, rotated: those of place i and later ones, and then those of the places before it
abbrev pub empty_slots_from : ℕ → List (Option JobView) → List (ℕ × Option CellContent)
empty_slots_from i lent = empty_slots i (drop i lent) ++ empty_slots 0 (take i lent)

-- A dispatcher's seat between two calls: it has the slot of each place where nothing is lent, and a flag for each place, true where
-- something is lent.
pub record IsDispatchSeat (z : TableId) (me : Me (Option CellContent) SeatRole) (flags : List Bool) : Type 0 where
  pub bench : IsBench z
  pub seat : me ≡ (Dispatcher 0 (lent_of me.0), empty_slots 0 (lent_of me.0))
  pub flagged : flags ≡ map is_some (lent_of me.0)
  pub places : length flags ≡ places_of z

-- A dispatcher's seat that has just collected at place k, where a job was lent: it took the slot there, with the result of that job.
pub record HasCollected (k : ℕ) (lent : List (Option JobView)) (me : Me (Option CellContent) SeatRole) : Type 0 where
  pub job : JobView
  pub done : Done
  pub was_lent : lent_at lent k ≡ Some job
  pub run : IsJobRun job done
  pub seat : me ≡ (Dispatcher 0 (slice_set lent k None), (k, Some (Delivered done)) ∷ empty_slots_from k lent)
