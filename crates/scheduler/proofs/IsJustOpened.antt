-- A core that was just opened keeps what a core keeps.
use Rattle.std.proofs.Common.{◌≡◌, ◌<◌, ◌≤◌, ℕ, [], None, Some, length, refl, sym, ap, subst, ◌∙◌, arith}
use Rattle.std.specs.Prelude.{vec_capacity}
use Rattle.std.proofs.lemmas.List.{length-replicate}
use Rattle.affinity.specs.declared.geometry.Geometry.{Geometry}
use Rattle.arena.proofs.Counts.{length-numbers}
use Rattle.arena.specs.ArenaView.{IsPartitioned, ArenaView, capacity_of, empty_arena}
use Rattle.checkpoint.specs.Journal.{IsRecoverable, committed}
use Rattle.histories.proofs.Idle.{idle_sound}
use Rattle.parcel.proofs.TreeHolds.{holds_alike, holds_whole}
use Rattle.parcel.specs.TreeHolds.{TreeHolds, nowhere}
use Rattle.parcel.specs.Nodes.{tree_state}
use Rattle.parcel.specs.Tree.{IsIn, IsWholeTree, tree_nodes, state_in}
use Rattle.meaning.specs.State.{IsState}
use Rattle.scheduler.specs.View.{core_state_in}
use Rattle.scheduler.specs.IsCore.{IsSoundCore, IsCore, is_below}
use Rattle.scheduler.specs.Parts.{Parts}
use Rattle.scheduler.specs.declared.server_core.Core.TheInside.{Inside}
use Rattle.scheduler.specs.Slots.{phases_of, slots_on}
use Rattle.scheduler.specs.declared.core_memory.Slot.{Slot}
use Rattle.scheduler.specs.declared.core_memory.TheConstants.{RAN, CHAINS}
use Rattle.run_queue.specs.RunQueue.{queue_at_start}

module _ {D : Type 0} {keeps : Type 0} (core : Inside D) (n : ℕ) (same : core.tree.geometry ≡ core.journal.geometry) (whole : IsWholeTree core.tree)
    (some : 0 < n) (no_cut : core.journal.pieces_left ≡ None) (holds : keeps → (committed core.journal ≡ Some (state_in core.tree)) × IsRecoverable core.journal) where
  abbrev none : ArenaView Slot
  none = empty_arena n CHAINS

  abbrev opened : Parts
  opened = record {
    phases = phases_of none core.replies.items;
    free = length none.free;
    capacity = capacity_of none;
    tree = core.tree;
    journal = core.journal;
    queue = queue_at_start core.journal.geometry n;
    batch = [];
    next = 0;
    unlogged = 0;
    opened = core.tree;
    since_open = [];
  }

  size : capacity_of none ≡ n
  size = length-replicate n _

  tree_holds : TreeHolds core.journal.geometry (is_below core.journal.geometry []) (tree_nodes core.tree) (state_in core.tree)
  tree_holds =
      holds_alike core.journal.geometry nowhere (is_below core.journal.geometry []) (tree_nodes core.tree) (state_in core.tree) (λ q. refl)
      (holds_whole core.journal.geometry (tree_nodes core.tree) (state_in core.tree)
      (subst (λ (g : Geometry). IsIn g [] (tree_nodes core.tree)) same whole.all_in)
      (ap (λ (g : Geometry). tree_state g (tree_nodes core.tree)) (sym same))
      (subst (λ (g : Geometry). IsState g (state_in core.tree)) same whole.state))

  pub opened_core : IsCore keeps opened
  opened_core = record {
    some_slot = omega (arith, size, some);
    claimed = let all = length-numbers 0 n in let there = size in omega (arith, all, there);
    placed = record { waiting = tt; in_flight = tt; ran = tt; logged = tt };
    queue_geometry = refl;
    queue_slots = sym size;
    queue_waiting = refl;
    queue_held = λ test. refl;
    unlogged_is = refl;
    sound = idle_sound (core_state_in opened) (record { none_waits = refl; none_held = refl }) core.journal.geometry;
    geometry = same;
    tree = tree_holds;
    is_committed = λ k works. (holds k).0;
    recovers = λ k bytes leaves. record { added = 0; at_most = omega arith; is = (holds k).1.each bytes leaves ∙ (holds k).0 };
    no_doubt = λ works. refl;
    few_pieces = rw no_cut tt;
  }

  -- a core whose fields are as those of the parts above
  pub opened_sound : core.slots ≡ none → IsPartitioned core.slots → core.queue ≡ opened.queue → core.batch.items ≡ [] → n ≤ vec_capacity core.batch
      → length core.replies.items ≡ n → (core.next ≡ 0) × (core.unlogged ≡ 0) × (core.ran ≡ 0) → (core.history.opened ≡ core.tree) × (core.history.since_open ≡ [])
      → IsSoundCore keeps core
  opened_sound arena_is partitioned queue_is batch_is room replies_are counts history =
      let slots : capacity_of core.slots ≡ n = ap (λ (r : ArenaView Slot). capacity_of r) arena_is ∙ size in
      record {
        chains = record { partitioned = partitioned; chain_count = ap (λ (r : ArenaView Slot). length r.chains) arena_is };
        core = subst (IsCore keeps) (λ i. record opened {
          phases = phases_of (sym arena_is i) core.replies.items;
          free = length (sym arena_is i).free;
          capacity = capacity_of (sym arena_is i);
          queue = sym queue_is i;
          batch = sym batch_is i;
          next = sym counts.0 i;
          unlogged = sym counts.1 i;
          opened = sym history.0 i;
          since_open = sym history.1 i;
        }) opened_core;
        batch = subst (λ (m : ℕ). m ≤ vec_capacity core.batch) (sym slots) room;
        replies = replies_are ∙ sym slots;
        ran = counts.2 ∙ ap (λ (r : ArenaView Slot). length (slots_on r core.replies.items RAN)) (sym arena_is);
      }
