-- Statement for engineers: What contracts see of a core, made of its parts, and its parts, made of its fields.
use Rattle.std.specs.Prelude.{length, map}
use Rattle.arena.specs.ArenaView.{capacity_of}
use Rattle.histories.specs.CoreState.{CoreState}
use Rattle.scheduler.specs.CoreView.{CoreView, core_state_of}
use Rattle.scheduler.specs.Parts.{Parts}
use Rattle.scheduler.specs.Slots.{entry_of, phases_of, replied_of}
use Rattle.scheduler.specs.declared.server_core.Core.TheInside.{Inside}

-- the core that is made of these parts
abbrev pub core_view_of : Parts → CoreView
core_view_of p = record {
  geometry = p.journal.geometry;
  waiting = map entry_of p.phases.waiting;
  in_flight = map entry_of p.phases.in_flight;
  ran = map replied_of p.phases.ran;
  logged = map replied_of p.phases.logged;
  opened = p.opened;
  since_open = p.since_open;
  room = p.journal.room;
  next = p.next;
  slots = p.capacity;
  failed = p.journal.failed;
  doubt = p.batch;
  pieces_left = p.journal.pieces_left;
  medium = p.journal.medium;
}

abbrev pub core_state_in : Parts → CoreState
core_state_in p = core_state_of (core_view_of p)

module _ {D : Type 0} where
  abbrev pub parts : Inside D → Parts
  parts c = record {
    phases = phases_of c.slots c.replies.items;
    free = length c.slots.free;
    capacity = capacity_of c.slots;
    tree = c.tree;
    journal = c.journal;
    queue = c.queue;
    batch = c.batch.items;
    next = c.next;
    unlogged = c.unlogged;
    opened = c.history.opened;
    since_open = c.history.since_open;
  }

  abbrev pub core_view : Inside D → CoreView
  core_view c = core_view_of (parts c)
