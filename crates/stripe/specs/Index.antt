-- Statement for engineers: How a `StripeParcel` keeps its blocks.
use Rattle.std.specs.Prelude.{◌≡◌, ℕ, ◌+◌, ◌<◌, ◌≤◌, List, [], length, map, take, drop, slice_index_or, slice_set, unwrap_or, Option, None, IsTrue}
use Rattle.std.specs.List.{AllByRecursion}
use Rattle.protocol.specs.declared.messages.Block.{Block}
use Rattle.arena.specs.Lists.{count_of}
use Rattle.arena.specs.ArenaView.{ArenaView, capacity_of, holds_value, IsPartitioned}
use Rattle.stripe.specs.declared.blocks.IndexEntry.{IndexEntry}
use Rattle.stripe.specs.Stripe.{BlockEntry, PrecedesBlock, IsAscending}
use Rattle.affinity.specs.declared.limits.TheConstants.{MOST_QUOTA}

-- what is looked up where a slot is empty: no real block has no bytes
abbrev pub no_block : Block
no_block = record { 0 = [] }

-- what is looked up past the end of a list of entries
abbrev pub no_entry : BlockEntry
no_entry = record { file = 0; block = 0; content = no_block }

-- the block to whose slot an index entry leads
abbrev pub entry_at : List (Option Block) → IndexEntry → BlockEntry
entry_at values p = record { file = p.file; block = p.block; content = unwrap_or (slice_index_or values p.slot None) no_block }

-- the blocks of an index, in its order
abbrev pub entries_of : List (Option Block) → List IndexEntry → List BlockEntry
entries_of values index = map (entry_at values) index

-- the slots of an index
abbrev pub slots_of : List IndexEntry → List ℕ
slots_of index = map (λ p. p.slot) index

-- The blocks ascend, and each index entry has a slot of its own, which holds a value. All slots but these are free.
pub record IsStored (arena : ArenaView Block) (index : List IndexEntry) : Type 0 where
  pub ascending : IsAscending (entries_of arena.values index)
  pub partitioned : IsPartitioned arena
  pub once : (i : ℕ) → count_of i (slots_of index) ≤ 1
  pub hold : (i : ℕ) → 0 < count_of i (slots_of index) → IsTrue (holds_value arena i)
  pub free : length arena.free + length index ≡ capacity_of arena
  pub small : capacity_of arena ≤ MOST_QUOTA

-- n blocks come before block b of file f: the first n
pub record IsSplit (es : List BlockEntry) (f b n : ℕ) : Type 0 where
  pub within : n ≤ length es
  pub before : AllByRecursion (λ e. PrecedesBlock e.file e.block f b) (take n es)
  pub behind : AllByRecursion (λ e. PrecedesBlock e.file e.block f b → ⊥) (drop n es)

-- block b of file f is at index n
pub record IsAt (es : List BlockEntry) (f b n : ℕ) : Type 0 where
  pub within : n < length es
  pub file : (slice_index_or es n no_entry).file ≡ f
  pub block : (slice_index_or es n no_entry).block ≡ b

-- block b of file f is not there, and would be inserted at index n
pub record IsGap (es : List BlockEntry) (f b n : ℕ) : Type 0 where
  pub within : n ≤ length es
  pub before : AllByRecursion (λ e. PrecedesBlock e.file e.block f b) (take n es)
  pub behind : AllByRecursion (λ e. PrecedesBlock f b e.file e.block) (drop n es)

-- the entries with other content at index n
abbrev pub rewritten : List BlockEntry → ℕ → Block → List BlockEntry
rewritten es n content = slice_set es n (record (slice_index_or es n no_entry) { content = content })
