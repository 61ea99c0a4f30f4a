-- Statement for engineers: What a seat knows after each kind of step: a relation of the seat before, the number found and the seat after.
-- The bench is a table of slots, one for each place, each with an atomic number, its word (`EMPTY`, `OFFERED`, `CLAIMED` or `DELIVERED`). A
-- step finds the number that the word had.
use Rattle.std.specs.Prelude.{◌≡◌, ◌≢◌, ℕ, List, ◌∷◌, slice_set, Option, None, Some}
use Rattle.atomic_table.specs.Table.{Me, Step, rest}
use Rattle.parcel.specs.JobRun.{JobView, IsJobRun}
use Rattle.parcel.specs.declared.job.Done.{Done}
use Rattle.workers.specs.Rule.{lent_at, word_index}
use Rattle.workers.specs.Seats.{lent_of}
use Rattle.workers.specs.declared.job_cell.CellContent.{CellContent}
use Rattle.workers.specs.declared.job_cell.CellContent.TheVariants.{Offered, Delivered}
use Rattle.workers.specs.declared.seats.SeatRole.{SeatRole}
use Rattle.workers.specs.declared.seats.SeatRole.TheVariants.{Dispatcher, Idle, Claimed}
use Rattle.workers.specs.declared.words.TheConstants.{OFFERED, DELIVERED}

-- what a seat knows, and the slots that it has, the one taken last first
abbrev pub SeatState : Type 0
SeatState = Me (Option CellContent) SeatRole

-- the job in the slot that a seat took last
abbrev pub job_on : List (ℕ × Option CellContent) → Option JobView
job_on ((k, Some (Offered job)) ∷ _) = Some job
job_on _ = None

-- While the bench is being opened: the dispatcher's seat takes the slot of place k, which is empty. The number in `Dispatcher` is how
-- many places' slots are still to be taken, those below k: 0 once the bench is open.
abbrev pub TakesSlot : ℕ → SeatState → SeatState → Type 0
TakesSlot k m w = w ≡ (Dispatcher k (lent_of m.0), (k, None) ∷ m.1)

-- The slot that the dispatcher's seat took last goes back to the table with the job in it, which is lent at place k from now on.
abbrev pub Offers : ℕ → SeatState → SeatState → Type 0
Offers k m w = w ≡ (Dispatcher 0 (slice_set (lent_of m.0) k (job_on m.1)), rest m.1)

-- A try to claim: a worker takes the slot of place k with the job if it found the word `OFFERED`; else nothing changes.
abbrev pub Claims : ℕ → SeatState → ℕ → SeatState → Type 0
Claims k m found w =
    (found ≡ OFFERED → (job : JobView) × (w ≡ (Claimed k job, (k, Some (Offered job)) ∷ m.1)))
    × (found ≢ OFFERED → w ≡ m)

-- The worker's slot goes back to the table with the result, and the worker is idle.
abbrev pub Delivers : SeatState → SeatState → Type 0
Delivers m w = w ≡ (Idle, rest m.1)

-- A try to collect: the dispatcher takes the slot of place k with the result of the job lent there if it found the word `DELIVERED`; else
-- nothing changes.
abbrev pub Collects : ℕ → SeatState → ℕ → SeatState → Type 0
Collects k m found w =
    (found ≡ DELIVERED → (job : JobView) × (done : Done) × (lent_at (lent_of m.0) k ≡ Some job) × IsJobRun job done
    × (w ≡ (Dispatcher 0 (slice_set (lent_of m.0) k None), (k, Some (Delivered done)) ∷ m.1)))
    × (found ≢ DELIVERED → w ≡ m)

-- The relation holds for the place whose word this step changes. `st.word` and `word_index k` are positions among the words, no values.
abbrev pub OfPlace : {F : Type 0} → (ℕ → SeatState → ℕ → SeatState → Type 0) → Step F → SeatState → ℕ → SeatState → Type 0
OfPlace relation st m found w = (k : ℕ) → st.word ≡ word_index k → relation k m found w
