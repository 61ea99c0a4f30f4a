-- The call that dispatches a message, by what its callees give.
use Rattle.std.proofs.Common.{◌≡◌, ℕ, ◌+◌, ◌<◌, ◌≤◌, Bool, true, false, List, [], ◌∷◌, ◌++◌, map, length, get_or, Option, Some, None, refl, ap, sym, subst, ◌∙◌, arith, inl, inr}
use Rattle.std.specs.Prelude.{◌==◌, cond, is_some, nat_lt, unwrap_or, vec_capacity}
use Rattle.std.specs.List.{AllByRecursion, Contains}
use Rattle.std.proofs.lemmas.List.Elements.{Contains-append_right}
use Rattle.std.proofs.lemmas.Bool.{true≢false}
use Rattle.std.proofs.lemmas.Bool.Decides.{eqb_tells}
use Rattle.affinity.specs.Interval.{Interval, IsAffinity, IsAffinityOf}
use Rattle.affinity.specs.Path.{Path}
use Rattle.affinity.specs.declared.geometry.Geometry.{Geometry}
use Rattle.affinity.proofs.Elements.{all_join}
use Rattle.arena.proofs.ArenaLemmas.{chained-holds, chained-once}
use Rattle.arena.proofs.Counts.{count_of-append, count_of-cons_is, count_of-cons_other, count_of-cons_same}
use Rattle.arena.specs.Lists.{count_of}
use Rattle.arena.specs.ArenaView.{IsPartitioned, ArenaView, after_move, capacity_of, chain_at, value_at}
use Rattle.histories.proofs.Lists.{all_back}
use Rattle.histories.specs.Eligible.{is_eligible}
use Rattle.histories.specs.Events.{grant}
use Rattle.histories.specs.CoreState.{Entry, CoreState}
use Rattle.protocol.specs.Messages.{path_of}
use Rattle.protocol.specs.declared.messages.Msg.{Msg}
use Rattle.protocol.specs.declared.replies.Reply.{Reply}
use Rattle.protocol.specs.declared.replies.Reply.TheVariants.{Done}
use Rattle.parcel.specs.Fits.{IsRunnable}
use Rattle.parcel.specs.JobRun.{JobView}
use Rattle.parcel.specs.Shown.{Shows}
use Rattle.parcel.specs.Tree.{HasGap, LendsAt, TreeView, tree_nodes}
use Rattle.parcel.specs.declared.parts.Parcels.{Parcels}
use Rattle.parcel.specs.declared.parts.Standing.{Standing}
use Rattle.scheduler.proofs.NextEligible.{Chosen, goes_first}
use Rattle.scheduler.proofs.UnloggedChanges.{one_for}
use Rattle.scheduler.proofs.GrantKeepsCore.{grant_core, grant_state, waits_without, with_grant}
use Rattle.scheduler.proofs.Chains.{MovedSlot, slot_moved}
use Rattle.scheduler.proofs.Splits.{MapSplit, map_split, count_of-split}
use Rattle.scheduler.proofs.Trees.{grant_lends, grant_shows}
use Rattle.scheduler.specs.Calls.{IsGrantOf}
use Rattle.scheduler.specs.declared.server_core.Core.TheInside.{Inside}
use Rattle.scheduler.specs.View.{parts, core_state_in}
use Rattle.scheduler.specs.IsCore.{IsSoundCore, IsCore}
use Rattle.scheduler.specs.Parts.{Parts}
use Rattle.scheduler.specs.Slots.{SlotView, no_slot, slot_view_at, IsPlaced, entry_of, queued_of}
use Rattle.scheduler.specs.declared.core_memory.Slot.{Slot}
use Rattle.scheduler.specs.declared.core_memory.TheConstants.{WAITING, IN_FLIGHT, RAN, LOGGED}
use Rattle.run_queue.specs.RunQueue.{HasJoined, RunQueueView, next_queued, without_slot}
use Rattle.run_queue.specs.declared.queued_message.QueuedMessage.{QueuedMessage}

-- if i is none of these numbers, the slots with these numbers all have other numbers than i
pub numbers_off : (arena : ArenaView Slot) (replies : List Reply) (i : ℕ) (xs : List ℕ) → count_of i xs ≡ 0 → AllByRecursion (λ y. (y.0 == i) ≡ false) (map (slot_view_at arena replies) xs)
numbers_off arena replies i [] none = tt
numbers_off arena replies i (x ∷ xs) none = elim (eqb_tells x i) [
  | inl e ↦ absurd (let some = count_of-cons_is i x xs e.1 in omega (arith, some, none))
  | inr n ↦ (n.0, numbers_off arena replies i xs (sym (count_of-cons_other i x xs n.1) ∙ none))
]

-- an entry that holds a value isn't `None`
pub some_value : (o : Option Slot) → is_some o ≡ true → o ≡ None → ⊥
some_value None holds none = true≢false (sym holds)
some_value (Some s) holds none = true≢false (sym holds ∙ ap is_some none)

module _ {D : Type 0} {keeps : Type 0} (core : Inside D) (is : IsSoundCore keeps core) (room : Bool) (is_room : room ≡ nat_lt core.unlogged core.journal.room)
    (queued : QueuedMessage) (goes : next_queued room core.queue.held core.queue.waiting ≡ Some queued) where
  abbrev p : Parts
  p = parts core

  pub chosen : Chosen (is_eligible core.journal.geometry (core_state_in p)) p.phases.waiting queued
  chosen = goes_first keeps p is.core room is_room queued goes

  abbrev x : SlotView
  x = chosen.at

  pub number : x.0 ≡ queued.slot
  number = ap (λ (t : QueuedMessage). t.slot) chosen.queued

  split : MapSplit (slot_view_at core.slots core.replies.items) (chain_at core.slots WAITING) chosen.before x chosen.behind
  split = map_split (slot_view_at core.slots core.replies.items) (chain_at core.slots WAITING) chosen.before x chosen.behind chosen.whole

  at_queued : split.at ≡ queued.slot
  at_queued = ap (λ (y : SlotView). y.0) split.at_is ∙ number

  recovers : 0 < count_of split.at (chain_at core.slots WAITING)
  recovers = subst (λ xs. 0 < count_of split.at xs) (sym split.whole) (count_of-split split.at split.front split.back)

  pub grant_has_slot : value_at core.slots queued.slot ≡ None → ⊥
  grant_has_slot none = some_value (value_at core.slots queued.slot) (subst (λ n. is_some (value_at core.slots n) ≡ true) at_queued
      (chained-holds core.slots split.at WAITING is.chains.partitioned recovers)) none

  pub grant_slot : (slot : Slot) → Some slot ≡ value_at core.slots queued.slot → x.1 ≡ slot
  grant_slot slot value = sym (ap (λ (y : SlotView). y.1) split.at_is) ∙ ap (λ n. unwrap_or (value_at core.slots n) no_slot) at_queued ∙ ap (λ o. unwrap_or o no_slot) (sym value)

  pub granted_slot : MovedSlot core.slots (after_move core.slots queued.slot IN_FLIGHT) core.replies.items core.replies.items WAITING IN_FLIGHT chosen.before x chosen.behind
  granted_slot = slot_moved core.slots core.replies.items core.replies.items is.chains WAITING IN_FLIGHT (omega arith) (λ same. omega (arith, same)) chosen.before x chosen.behind chosen.whole
      (λ j other. refl) queued.slot (sym number)

  pub grant_place : IsPlaced core.journal.geometry x
  grant_place = (all_back (IsPlaced core.journal.geometry) chosen.before (x ∷ chosen.behind) (subst (AllByRecursion (IsPlaced core.journal.geometry)) chosen.whole is.core.placed.waiting)).0

  grant_path : IsAffinityOf core.tree.geometry (path_of core.journal.geometry x.1.message) queued.affinity
  grant_path = subst (λ (a : Interval). IsAffinityOf core.tree.geometry (path_of core.journal.geometry x.1.message) a) (ap (λ (t : QueuedMessage). t.affinity) chosen.queued)
      (subst (λ (h : Geometry). IsAffinityOf h (path_of core.journal.geometry x.1.message) x.1.affinity) (sym is.core.geometry) grant_place.affinity)

  pub grant_affinity : IsAffinity core.tree.geometry queued.affinity
  grant_affinity = (path_of core.journal.geometry x.1.message, grant_path)

  pub grant_has_room : ((q : Path) → IsAffinityOf core.tree.geometry q queued.affinity → HasGap core.tree.geometry q (tree_nodes core.tree)) → ⊥
  grant_has_room none = grant_lends core.journal.geometry (core_state_in p) is.core.sound
      (entry_of x, map entry_of (chosen.before ++ chosen.behind)) chosen.picked (tree_nodes core.tree)
      is.core.tree (subst (λ h. HasGap h (path_of core.journal.geometry x.1.message) (tree_nodes core.tree)) is.core.geometry
      (none (path_of core.journal.geometry x.1.message) grant_path))

  once_there : count_of split.at (split.front ++ split.at ∷ split.back) ≤ 1
  once_there = subst (λ xs. count_of split.at xs ≤ 1) split.whole (chained-once core.slots split.at WAITING is.chains.partitioned)

  pub grant_others : AllByRecursion (λ y. (y.0 == x.0) ≡ false) (chosen.before ++ chosen.behind)
  grant_others =
      let all = count_of-append split.at split.front (split.at ∷ split.back) in
      let same = count_of-cons_same split.at split.back in
      let once = once_there in
      subst (λ n. AllByRecursion (λ (y : SlotView). (y.0 == n) ≡ false) (chosen.before ++ chosen.behind)) (ap (λ (y : SlotView). y.0) split.at_is)
      (all_join (λ (y : SlotView). (y.0 == split.at) ≡ false) chosen.before chosen.behind
      (subst (AllByRecursion (λ (y : SlotView). (y.0 == split.at) ≡ false)) split.before_is (numbers_off core.slots core.replies.items split.at split.front (omega (arith, once, all, same))))
      (subst (AllByRecursion (λ (y : SlotView). (y.0 == split.at) ≡ false)) split.behind_is (numbers_off core.slots core.replies.items split.at split.back (omega (arith, once, all, same)))))

  -- ---- what holds afterwards

  grant_size : capacity_of (after_move core.slots queued.slot IN_FLIGHT) ≡ capacity_of core.slots
  grant_size = ap (λ (vs : List (Option Slot)). length vs) granted_slot.values

  module _ (slot : Slot) (value : Some slot ≡ value_at core.slots queued.slot) (lent : TreeView) (standing : Standing) (parcels : Parcels)
      (lends : (q : Path) → IsAffinityOf core.tree.geometry q queued.affinity → LendsAt core.tree.geometry q standing parcels (tree_nodes core.tree) (tree_nodes lent)) where
    lends_place : LendsAt core.journal.geometry (path_of core.journal.geometry x.1.message) standing parcels (tree_nodes core.tree) (tree_nodes lent)
    lends_place = subst (λ (h : Geometry). LendsAt h (path_of core.journal.geometry x.1.message) standing parcels (tree_nodes core.tree) (tree_nodes lent)) is.core.geometry
        (lends (path_of core.journal.geometry x.1.message) grant_path)

    pub grant_suits : IsRunnable core.journal.geometry slot.message parcels
    grant_suits = subst (λ (m : Msg). IsRunnable core.journal.geometry m parcels) (ap (λ (s : Slot). s.message) (grant_slot slot value))
        (record { range = grant_place.range; fits = lends_place.fits })

    module _ (same_geometry : lent.geometry ≡ core.tree.geometry) (went : RunQueueView)
        (waits : went ≡ record core.queue { waiting = without_slot queued.slot core.queue.waiting; held = went.held }) (joined : HasJoined queued core.queue.held went.held)
        (more : ℕ) (is_more : more ≡ cond queued.changing 1 0) where
      abbrev pub granted : Inside D
      granted = record core { slots = after_move core.slots queued.slot IN_FLIGHT; tree = lent; queue = went; unlogged = core.unlogged + more }

      abbrev found : Entry × List Entry
      found = (entry_of x, map entry_of (chosen.before ++ chosen.behind))

      reply_there : get_or core.replies.items x.0 Done ≡ x.2
      reply_there = ap (λ n. get_or core.replies.items n Done) (sym (ap (λ (y : SlotView). y.0) split.at_is)) ∙ ap (λ (y : SlotView). y.2) split.at_is

      goes_waits : without_slot queued.slot core.queue.waiting ≡ map queued_of (chosen.before ++ chosen.behind)
      goes_waits = (λ i. without_slot (sym number i) ((is.core.queue_waiting ∙ ap (map queued_of) chosen.whole) i)) ∙ waits_without chosen.before x chosen.behind grant_others

      one_more : more ≡ one_for x
      one_more = is_more ∙ ap (λ (t : QueuedMessage). cond t.changing 1 0) (sym chosen.queued)

      after_is : parts granted ≡ with_grant p (chosen.before ++ chosen.behind) x lent went.held
      after_is = λ i. record (with_grant p (chosen.before ++ chosen.behind) x lent went.held) {
        phases = record {
          waiting = granted_slot.left i;
          in_flight = (granted_slot.joined ∙ (λ j. p.phases.in_flight ++ (x.0, x.1, reply_there j) ∷ [])) i;
          ran = granted_slot.stays RAN (λ same. omega (arith, same)) (λ same. omega (arith, same)) i;
          logged = granted_slot.stays LOGGED (λ same. omega (arith, same)) (λ same. omega (arith, same)) i;
        };
        free = ap (λ (fs : List ℕ). length fs) granted_slot.free i;
        capacity = grant_size i;
        queue = (waits ∙ (λ j. record core.queue { waiting = goes_waits j; held = went.held })) i;
        unlogged = core.unlogged + one_more i;
      }

      joined_at : HasJoined (queued_of x) core.queue.held went.held
      joined_at = subst (λ (t : QueuedMessage). HasJoined t core.queue.held went.held) (sym chosen.queued) joined

      pub grant_call : IsPartitioned (after_move core.slots queued.slot IN_FLIGHT) → IsSoundCore keeps granted
      grant_call partitioned = record {
        chains = record { partitioned = partitioned; chain_count = granted_slot.chain_count ∙ is.chains.chain_count };
        core = subst (IsCore keeps) (sym after_is)
            (grant_core keeps p is.core chosen.before x chosen.behind chosen.whole lent went.held chosen.picked joined_at (same_geometry ∙ is.core.geometry) standing parcels lends_place);
        batch = subst (λ (n : ℕ). n ≤ vec_capacity core.batch) (sym grant_size) is.batch;
        replies = is.replies ∙ sym grant_size;
        ran = is.ran ∙ sym (ap (λ (ps : List SlotView). length ps) (granted_slot.stays RAN (λ same. omega (arith, same)) (λ same. omega (arith, same))));
      }

      grant_call_state : core_state_in (parts granted) ≡ grant (core_state_in p) found
      grant_call_state = ap core_state_in after_is
          ∙ grant_state keeps p is.core chosen.before x chosen.behind chosen.whole lent went.held chosen.picked joined_at (same_geometry ∙ is.core.geometry) standing parcels lends_place

      abbrev job : JobView
      job = record { geometry = core.journal.geometry; ticket = slot.ticket; message = slot.message; standing = standing; parcels = parcels }

      job_same : entry_of x ≡ (slot.ticket, slot.message)
      job_same = ap (λ (s : Slot). (s.ticket, s.message)) (grant_slot slot value)

      pub grant_call_is : core.journal.failed ≡ false → IsGrantOf core.journal.geometry (core_state_in p) (core_state_in (parts granted)) job
      grant_call_is works = record {
        works = works;
        found = found;
        first = chosen.picked;
        entry_is = job_same;
        state_after = grant_call_state;
        is_job = record {
          geometry = refl;
          in_flight = subst (λ (w : CoreState). Contains w.in_flight (slot.ticket, slot.message)) (sym grant_call_state)
              (Contains-append_right (core_state_in p).in_flight (entry_of x ∷ []) (slot.ticket, slot.message) (0, omega arith, job_same));
          lent = subst (λ (m : Msg). Shows core.journal.geometry (path_of core.journal.geometry m) standing parcels (core_state_in p).committed) (ap (λ (s : Slot). s.message) (grant_slot slot value))
              (grant_shows core.journal.geometry (core_state_in p) is.core.sound found chosen.picked (tree_nodes core.tree) is.core.tree standing parcels (tree_nodes lent) lends_place);
        };
      }
