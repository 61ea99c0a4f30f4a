-- Statement for engineers: The invariant of the bench's table of atomic words: the state of each place, and what each seat knows of it.
-- It holds between any two steps.
use Rattle.std.specs.Prelude.{◌≡◌, ℕ, ◌+◌, ◌<◌, ◌≤◌, List, length, slice_index, slice_index_or, Option, None, Some}
use mathlib.Core.Option.{none, some}
use lib.ListN.{get_elem?}
use Rattle.atomic_table.specs.Table.{State}
use Rattle.parcel.specs.JobRun.{JobView, IsJobRun}
use Rattle.parcel.specs.declared.job.Done.{Done}
use Rattle.workers.specs.declared.job_cell.CellContent.{CellContent}
use Rattle.workers.specs.declared.job_cell.CellContent.TheVariants.{Offered, Delivered}
use Rattle.workers.specs.declared.seats.SeatRole.{SeatRole}
use Rattle.workers.specs.declared.seats.SeatRole.TheVariants.{Dispatcher, Claimed}
use Rattle.workers.specs.declared.words.TheConstants.{FIRST_PLACE, EMPTY, OFFERED, CLAIMED, DELIVERED}

-- the table as plain data: its words, its slots (`homes`), and what each seat knows (`views`)
abbrev pub BenchTable : Type 0
BenchTable = State (Option CellContent) SeatRole

-- where a slot is: with a seat (`none`), or in the table (`some`, with what it holds)
abbrev pub SlotState : Type 0
SlotState = mathlib.Core.Option.Option (Option CellContent)

-- the job that is lent at each place, if one is
abbrev pub LentJobs : Type 0
LentJobs = List (Option JobView)

abbrev pub lent_at : LentJobs → ℕ → Option JobView
lent_at lent k = slice_index_or lent k None

-- The rule says nothing of the words before `FIRST_PLACE`, which serve to wait and to stop (`src/words.rt`). Behind them each place has its
-- word: `word_index k` is the position of that of place k, not its value.
abbrev pub word_index : ℕ → ℕ
word_index k = k + FIRST_PLACE

-- The state of place k, by its word, by what is lent there and by where its slot is. While the bench is being opened, the dispatcher's
-- seat takes the slots from the last place down: those of the places below `untaken` are still in the table. Once the bench is open,
-- `untaken` is 0.
pub data PlaceState (untaken k word : ℕ) (lent : Option JobView) (slot : SlotState) : Type 0 where
  is_empty : word ≡ EMPTY → lent ≡ None → (k < untaken → slot ≡ some None) → (untaken ≤ k → slot ≡ none)
      → PlaceState untaken k word lent slot
  is_offered : (job : JobView) → word ≡ OFFERED → lent ≡ Some job → slot ≡ some (Some (Offered job)) → PlaceState untaken k word lent slot
  is_claimed : (job : JobView) → word ≡ CLAIMED → lent ≡ Some job → slot ≡ none → PlaceState untaken k word lent slot
  is_delivered : (job : JobView) (done : Done) → word ≡ DELIVERED → lent ≡ Some job → slot ≡ some (Some (Delivered done))
      → IsJobRun job done → PlaceState untaken k word lent slot

-- There is one dispatcher, which knows what is lent. A worker that has claimed a place has the job that is lent there, and no other worker
-- has claimed that place.
pub record BenchRule (s : BenchTable) : Type 0 where
  pub dispatch_seat : ℕ
  pub untaken : ℕ
  pub lent : LentJobs
  pub words : length s.words ≡ word_index (length s.homes)
  pub lent_length : length lent ≡ length s.homes
  pub dispatcher : get_elem? s.views dispatch_seat ≡ some (Dispatcher untaken lent)
  pub no_other : (seat r : ℕ) (l : LentJobs) → get_elem? s.views seat ≡ some (Dispatcher r l) → seat ≡ dispatch_seat
  pub claims : (seat k : ℕ) (job : JobView) → get_elem? s.views seat ≡ some (Claimed k job)
      → (slice_index s.words (word_index k) ≡ CLAIMED) × (lent_at lent k ≡ Some job)
  pub one_claim : (seat other k : ℕ) (job job' : JobView) → get_elem? s.views seat ≡ some (Claimed k job)
      → get_elem? s.views other ≡ some (Claimed k job') → seat ≡ other
  pub places : (k : ℕ) (slot : SlotState) → get_elem? s.homes k ≡ some slot
      → PlaceState untaken k (slice_index s.words (word_index k)) (lent_at lent k) slot
