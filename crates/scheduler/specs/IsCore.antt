-- Inner: What a core keeps true of its parts, and of its fields, between calls.
use Rattle.std.specs.Prelude.{◌≡◌, ◌<◌, ◌≤◌, ◌+◌, Bool, false, List, [], map, length, Some, IfSome, vec_capacity}
use Rattle.std.specs.List.{list_any}
use Rattle.affinity.specs.Path.{Path, is_prefix}
use Rattle.affinity.specs.declared.geometry.Geometry.{Geometry}
use Rattle.arena.specs.ArenaView.{capacity_of}
use Rattle.checkpoint.specs.Journal.{committed}
use Rattle.image.specs.Pieces.{piece_count}
use Rattle.histories.specs.Eligible.{unlogged_changes}
use Rattle.histories.specs.IsSoundCoreState.{IsSoundCoreState}
use Rattle.histories.specs.CoreState.{Entry, CoreState, entries}
use Rattle.protocol.specs.Messages.{path_of}
use Rattle.parcel.specs.TreeHolds.{TreeHolds}
use Rattle.parcel.specs.Tree.{tree_nodes}
use Rattle.meaning.specs.TicketOrder.{messages_of}
use Rattle.meaning.specs.Step.{state_after_all}
use Rattle.meaning.specs.State.{State}
use Rattle.scheduler.specs.CoreView.{RecoversNow}
use Rattle.scheduler.specs.Parts.{Parts}
use Rattle.scheduler.specs.Slots.{ArePlaced, HasChains, entry_of, held_any, queued_of, slots_on}
use Rattle.scheduler.specs.View.{core_state_in, core_view_of, parts}
use Rattle.scheduler.specs.declared.server_core.Core.TheInside.{Inside}
use Rattle.scheduler.specs.declared.core_memory.TheConstants.{RAN}
use Rattle.run_queue.specs.declared.queued_message.QueuedMessage.{QueuedMessage}

-- whether a path is the place of one of these messages, or lies below it
abbrev pub is_below : Geometry → List Entry → Path → Bool
is_below g es q = list_any (λ e. is_prefix (path_of g e.1) q) es

-- the state that all messages which ran so far have led to, logged or not
abbrev pub reached : Geometry → CoreState → State
reached g w = state_after_all g w.committed (messages_of (entries w.ran))

-- What a core keeps true of its parts. `keeps`: the device keeps its bytes.
pub record IsCore (keeps : Type 0) (p : Parts) : Type 0 where
  pub some_slot : 0 < p.capacity
  -- each slot is free or in one of the four lists of `phases`
  pub claimed : p.free
      + (length p.phases.waiting + (length p.phases.logged + (length p.phases.ran + length p.phases.in_flight))) ≡ p.capacity
  pub placed : ArePlaced p.journal.geometry p.phases
  -- the run queue has the core's geometry and as many slots, and its messages are those that wait and those that are held
  pub queue_geometry : p.queue.geometry ≡ p.journal.geometry
  pub queue_slots : p.queue.slots ≡ p.capacity
  pub queue_waiting : p.queue.waiting ≡ map queued_of p.phases.waiting
  pub queue_held : (test : QueuedMessage → Bool) → list_any test p.queue.held ≡ held_any test p.phases
  pub unlogged_is : p.unlogged ≡ unlogged_changes (core_state_in p)
  pub sound : IsSoundCoreState p.journal.geometry (core_state_in p)
  -- the tree holds what was reached, but for the places of messages in flight
  pub geometry : p.tree.geometry ≡ p.journal.geometry
  pub tree : TreeHolds p.journal.geometry (is_below p.journal.geometry (map entry_of p.phases.in_flight)) (tree_nodes p.tree)
      (reached p.journal.geometry (core_state_in p))
  -- the device
  pub is_committed : keeps → p.journal.failed ≡ false → committed p.journal ≡ Some (core_state_in p).committed
  pub recovers : keeps → RecoversNow (core_view_of p)
  pub no_doubt : p.journal.failed ≡ false → p.batch ≡ []
  -- a checkpoint in progress has no more pieces left than there are
  pub few_pieces : IfSome p.journal.pieces_left (λ n. n ≤ piece_count p.journal.geometry)

module _ {D : Type 0} where
  -- What a core keeps true of its fields.
  pub record IsSoundCore (keeps : Type 0) (c : Inside D) : Type 0 where
    pub chains : HasChains c.slots
    pub core : IsCore keeps (parts c)
    -- a batch may have a record of each slot, and each slot has a place for its reply
    pub batch : capacity_of c.slots ≤ vec_capacity c.batch
    pub replies : length c.replies.items ≡ capacity_of c.slots
    pub ran : c.ran ≡ length (slots_on c.slots c.replies.items RAN)
