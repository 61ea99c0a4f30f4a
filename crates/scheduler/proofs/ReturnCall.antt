-- The call that takes back the result of a job, by what its callees give.
use Rattle.std.proofs.Common.{◌≡◌, ℕ, zero, suc, ◌+◌, ◌<◌, Bool, true, false, List, [], ◌∷◌, ◌++◌, map, length, get_or, slice_set, Option, Some, refl, ap, sym, subst, ◌∙◌, arith, inl, inr, ◌≤◌}
use Rattle.std.specs.Vec.{with_item}
use Rattle.std.specs.Prelude.{◌==◌, ◌||◌, not, vec_capacity}
use Rattle.std.specs.List.{AllByRecursion, Contains, concat, list_any}
use Rattle.std.proofs.lemmas.Bool.{and_parts, eq-eqb, true≢false, not-true, and_right}
use Rattle.std.proofs.lemmas.Bool.Decides.{eqb_tells}
use Rattle.std.proofs.lemmas.List.{get_or-set_other, get_or-set_same, length-append, length-set, map-append}
use Rattle.std.proofs.Math.Bool.{or-false, or-true}
use Rattle.affinity.specs.Interval.{Interval, IsAffinityOf, interval}
use Rattle.affinity.specs.Path.{Path}
use Rattle.affinity.specs.declared.geometry.Geometry.{Geometry}
use Rattle.arena.proofs.ArenaLemmas.{chained-listed}
use Rattle.arena.proofs.Counts.{count_of-append}
use Rattle.arena.specs.Lists.{count_of}
use Rattle.arena.specs.ArenaView.{IsPartitioned, after_move, capacity_of, chain_at}
use Rattle.histories.proofs.Lists.{all_back, all_front, all_without, any_none}
use Rattle.histories.specs.Events.{give_back, find_in_flight}
use Rattle.histories.specs.CoreState.{entries, Entry, CoreState, are_related_entries}
use Rattle.protocol.specs.Messages.{path_of}
use Rattle.protocol.specs.declared.messages.Msg.{Msg}
use Rattle.protocol.specs.declared.replies.Reply.{Reply}
use Rattle.protocol.specs.declared.replies.Reply.TheVariants.{Done}
use Rattle.parcel.proofs.LendsAndRestores.{kind_of}
use Rattle.parcel.proofs.RunFits.{fits_where_lent}
use Rattle.parcel.specs.Fits.{Fits, IsKindOf}
use Rattle.parcel.specs.Shown.{Shows}
use Rattle.parcel.specs.Tree.{IsOut, RestoresAt, TreeView, tree_nodes}
use Rattle.parcel.specs.declared.job.Done.{Done as Result}
use Rattle.meaning.specs.Step.{next_state, reply_to}
use Rattle.scheduler.proofs.AffinityNumbers.{other_numbers, other_replied}
use Rattle.scheduler.proofs.Chains.{MovedSlot, slot_moved}
use Rattle.scheduler.proofs.ReturnKeepsCore.{out_is, return_core, return_state, returned_is_found, returned_is_placed, with_return}
use Rattle.scheduler.proofs.Splits.{MapSplit, map_split, count_of-split}
use Rattle.scheduler.proofs.Trees.{apart_earlier, apart_others, back_is_out}
use Rattle.affinity.proofs.Elements.{all_weaker, any_moved}
use Rattle.scheduler.specs.Jobs.{IsResultOf}
use Rattle.scheduler.specs.declared.server_core.Core.TheInside.{Inside}
use Rattle.scheduler.specs.View.{parts, core_state_in}
use Rattle.scheduler.specs.IsCore.{IsSoundCore, IsCore}
use Rattle.scheduler.specs.Parts.{Parts}
use Rattle.scheduler.specs.Slots.{SlotView, slots_on, slot_view_at, IsPlaced, entry_of, queued_of}
use Rattle.scheduler.specs.declared.core_memory.Slot.{Slot}
use Rattle.scheduler.specs.declared.core_memory.TheConstants.{WAITING, IN_FLIGHT, RAN, LOGGED}
use Rattle.run_queue.specs.RunQueue.{has_number, has_slot, holds_at}

-- ---- the slot of an entry

-- The slots ys are `before`, `at` and `behind`, and e is the entry of `at`.
pub record Recovers (e : Entry) (ys : List SlotView) : Type 0 where
  pub before : List SlotView
  pub at : SlotView
  pub behind : List SlotView
  pub whole : ys ≡ before ++ at ∷ behind
  pub is : entry_of at ≡ e

recovers_at : (e : Entry) (ys : List SlotView) (k : ℕ) → k < length (map entry_of ys) → get_or (map entry_of ys) k e ≡ e → Recovers e ys
recovers_at e [] k low is = absurd (omega (arith, low))
recovers_at e (y ∷ ys) zero low is = record { before = []; at = y; behind = ys; whole = refl; is = is }
recovers_at e (y ∷ ys) (suc k) low is = let s = recovers_at e ys k (omega (arith, low)) is in record {
  before = y ∷ s.before;
  at = s.at;
  behind = s.behind;
  whole = ap (λ (l : List SlotView). y ∷ l) s.whole;
  is = s.is;
}

pub recovers_in : (e : Entry) (ys : List SlotView) → Contains (map entry_of ys) e → Recovers e ys
recovers_in e ys h = recovers_at e ys h.0 h.1 h.2

-- ---- which message holds an affinity number

-- if no slot in ys has the affinity number n, none has it together with the slot number given
none_at : (n slot : ℕ) (ys : List SlotView) → AllByRecursion (λ y. not (has_number n (queued_of y)) ≡ true) ys → list_any (λ y. holds_at n slot (queued_of y)) ys ≡ false
none_at n slot ys all = any_none _ ys (all_weaker (λ y. not (has_number n (queued_of y)) ≡ true) _
    (λ y other. and_right (has_slot slot (queued_of y)) (has_number n (queued_of y)) (not-true _ other)) ys all)

module _ (keeps : Type 0) (p : Parts) (k : IsCore keeps p) (before : List SlotView) (x : SlotView) (behind : List SlotView)
    (whole : p.phases.in_flight ≡ before ++ x ∷ behind) where
  abbrev g : Geometry
  g = p.journal.geometry

  abbrev w : CoreState
  w = core_state_in p

  all_out : AllByRecursion (IsPlaced g) (before ++ x ∷ behind)
  all_out = subst (AllByRecursion (IsPlaced g)) whole k.placed.in_flight

  abbrev n : ℕ
  n = x.1.affinity.number

  x_placed : IsPlaced g x
  x_placed = (all_back (IsPlaced g) before (x ∷ behind) all_out).0

  earlier : AllByRecursion (λ d. are_related_entries g (entry_of x) d ≡ false) (entries w.logged ++ entries w.ran)
  earlier = apart_earlier g w k.sound (map entry_of before) (entry_of x) (map entry_of behind) (out_is keeps p k before x behind whole)
      (tree_nodes p.tree) k.tree

  others_logged : AllByRecursion (λ y. not (has_number n (queued_of y)) ≡ true) p.phases.logged
  others_logged = other_replied g x x_placed p.phases.logged k.placed.logged (all_front _ (entries w.logged) (entries w.ran) earlier)

  others_ran : AllByRecursion (λ y. not (has_number n (queued_of y)) ≡ true) p.phases.ran
  others_ran = other_replied g x x_placed p.phases.ran k.placed.ran (all_back _ (entries w.logged) (entries w.ran) earlier)

  others_out : AllByRecursion (λ y. not (has_number n (queued_of y)) ≡ true) (before ++ behind)
  others_out = other_numbers g x x_placed (before ++ behind) (all_without (IsPlaced g) before x behind all_out)
      (subst (AllByRecursion (λ d. are_related_entries g (entry_of x) d ≡ false)) (sym (map-append entry_of before behind))
      (apart_others g w k.sound (map entry_of before) (entry_of x) (map entry_of behind) (out_is keeps p k before x behind whole) (tree_nodes p.tree) k.tree))

  -- the slot that holds the affinity number of the message in flight is that message's slot
  pub holder_is : (slot : ℕ) → list_any (holds_at n slot) p.queue.held ≡ true → slot ≡ x.0
  holder_is slot has =
      let t : SlotView → Bool = λ (y : SlotView). holds_at n slot (queued_of y) in
      let here : t x ≡ true =
      sym (or-false (t x)) ∙ ap (λ b. t x || b) (sym (none_at n slot (before ++ behind) others_out))
      ∙ sym (any_moved t before x behind) ∙ ap (list_any t) (sym whole)
      ∙ (λ i. sym (none_at n slot p.phases.logged others_logged) i || (sym (none_at n slot p.phases.ran others_ran) i || list_any t p.phases.in_flight))
      ∙ sym (k.queue_held (holds_at n slot)) ∙ has in
      elim (eqb_tells x.0 slot) [
        | inl e ↦ sym e.1
        | inr e ↦ absurd (true≢false (sym (and_parts (x.0 == slot) (n == n) here).0 ∙ e.0))
      ]

  pub number_is_held : list_any (has_number n) p.queue.held ≡ true
  number_is_held =
      let t : SlotView → Bool = λ (y : SlotView). has_number n (queued_of y) in
      k.queue_held (has_number n) ∙ ap (λ b. list_any t p.phases.logged || (list_any t p.phases.ran || b))
      (ap (list_any t) whole ∙ any_moved t before x behind ∙ ap (λ b. b || list_any t (before ++ behind)) (eq-eqb n n refl))
      ∙ ap (λ b. list_any t p.phases.logged || b) (or-true (list_any t p.phases.ran)) ∙ or-true (list_any t p.phases.logged)

-- ---- the call

module _ {D : Type 0} {keeps : Type 0} (core : Inside D) (is : IsSoundCore keeps core) (done : Result)
    (result : IsResultOf core.journal.geometry (core_state_in (parts core)) done) where
  abbrev p : Parts
  p = parts core

  recovers : Recovers (done.ticket, done.message) p.phases.in_flight
  recovers = recovers_in (done.ticket, done.message) p.phases.in_flight result.in_flight

  abbrev x : SlotView
  x = recovers.at

  abbrev message_is : x.1.message ≡ done.message
  message_is = ap (λ (e : Entry). e.1) recovers.is

  placed : IsPlaced core.journal.geometry x
  placed = returned_is_placed keeps p is.core recovers.before x recovers.behind recovers.whole

  module _ (a : Interval) (at : IsAffinityOf core.journal.geometry (path_of core.journal.geometry done.message) a) where
    number_same : a.number ≡ x.1.affinity.number
    number_same = ap (λ (i : Interval). i.number)
        (at.interval ∙ ap (λ (m : Msg). interval core.journal.geometry (path_of core.journal.geometry m)) (sym message_is) ∙ sym placed.affinity.interval)

    pub back_is_held : list_any (has_number a.number) core.queue.held ≡ true
    back_is_held = ap (λ (m : ℕ). list_any (has_number m) core.queue.held) number_same ∙ number_is_held keeps p is.core recovers.before x recovers.behind recovers.whole

    pub back_fits : (q : Path) → IsAffinityOf core.tree.geometry q a → IsKindOf q done.parcels → Fits core.tree.geometry q done.parcels
    back_fits = subst (λ (h : Geometry). (q : Path) → IsAffinityOf h q a → IsKindOf q done.parcels → Fits h q done.parcels) (sym is.core.geometry)
        (fits_where_lent at result.runnable)

    at_tree : IsAffinityOf core.tree.geometry (path_of core.journal.geometry done.message) a
    at_tree = subst (λ (h : Geometry). IsAffinityOf h (path_of core.journal.geometry done.message) a) (sym is.core.geometry) at

    pub back_goes_in : ((q : Path) → IsAffinityOf core.tree.geometry q a → IsOut q (tree_nodes core.tree) → IsKindOf q done.parcels → ⊥) → ⊥
    back_goes_in refused = refused (path_of core.journal.geometry done.message) at_tree
        (subst (λ (m : Msg). IsOut (path_of core.journal.geometry m) (tree_nodes core.tree)) message_is
        (back_is_out core.journal.geometry (core_state_in p) is.core.sound (map entry_of recovers.before) (entry_of x) (map entry_of recovers.behind)
        (out_is keeps p is.core recovers.before x recovers.behind recovers.whole) (tree_nodes core.tree) is.core.tree placed.affinity.path))
        (kind_of core.journal.geometry (path_of core.journal.geometry done.message) done.parcels result.runnable.fits)

    module _ (slot : ℕ) (has : list_any (holds_at a.number slot) core.queue.held ≡ true) where
      slot_is : slot ≡ x.0
      slot_is = holder_is keeps p is.core recovers.before x recovers.behind recovers.whole slot (ap (λ (m : ℕ). list_any (holds_at m slot) core.queue.held) (sym number_same) ∙ has)

      split : MapSplit (slot_view_at core.slots core.replies.items) (chain_at core.slots IN_FLIGHT) recovers.before x recovers.behind
      split = map_split (slot_view_at core.slots core.replies.items) (chain_at core.slots IN_FLIGHT) recovers.before x recovers.behind recovers.whole

      at_slot : split.at ≡ slot
      at_slot = ap (λ (y : SlotView). y.0) split.at_is ∙ sym slot_is

      pub back_low : slot < capacity_of core.slots
      back_low =
          let some = chained-listed core.slots split.at IN_FLIGHT (subst (λ xs. 0 < count_of split.at xs) (sym split.whole) (count_of-split split.at split.front split.back)) in
          let all = count_of-append split.at core.slots.free (concat core.slots.chains) in
          subst (λ n. n < capacity_of core.slots) at_slot (is.chains.partitioned.within split.at (omega (arith, some, all)))

      module _ (reply : Reply) (reply_is : reply ≡ done.reply) (now : TreeView) (same_geometry : now.geometry ≡ core.tree.geometry)
          (puts : (q : Path) → IsAffinityOf core.tree.geometry q a → RestoresAt core.tree.geometry q done.parcels (tree_nodes core.tree) (tree_nodes now)) where
        abbrev new_replies : List Reply
        new_replies = slice_set core.replies.items slot reply

        abbrev y : SlotView
        y = (x.0, x.1, done.reply)

        moved_slot : MovedSlot core.slots (after_move core.slots slot RAN) core.replies.items new_replies IN_FLIGHT RAN recovers.before x recovers.behind
        moved_slot = slot_moved core.slots core.replies.items new_replies is.chains IN_FLIGHT RAN (omega arith) (λ same. omega (arith, same)) recovers.before x recovers.behind recovers.whole
            (λ j other. get_or-set_other core.replies.items slot j reply Done (λ same. other (same ∙ slot_is))) slot slot_is

        there : slot < length core.replies.items
        there = subst (λ n. slot < n) (sym is.replies) back_low

        reply_here : get_or new_replies x.0 Done ≡ done.reply
        reply_here = ap (λ n. get_or new_replies n Done) (sym slot_is) ∙ get_or-set_same core.replies.items slot reply Done there ∙ reply_is

        abbrev pub returned : Inside D
        returned = record core { slots = after_move core.slots slot RAN; replies = with_item core.replies slot reply; tree = now; ran = core.ran + 1 }

        joined : slots_on (after_move core.slots slot RAN) new_replies RAN ≡ p.phases.ran ++ y ∷ []
        joined = moved_slot.joined ∙ (λ j. p.phases.ran ++ (x.0, x.1, reply_here j) ∷ [])

        back_size : capacity_of (after_move core.slots slot RAN) ≡ capacity_of core.slots
        back_size = ap (λ (vs : List (Option Slot)). length vs) moved_slot.values

        after_is : parts returned ≡ with_return p (recovers.before ++ recovers.behind) y now
        after_is = λ i. record (with_return p (recovers.before ++ recovers.behind) y now) {
          phases = record {
            waiting = moved_slot.stays WAITING (λ same. omega (arith, same)) (λ same. omega (arith, same)) i;
            in_flight = moved_slot.left i;
            ran = joined i;
            logged = moved_slot.stays LOGGED (λ same. omega (arith, same)) (λ same. omega (arith, same)) i;
          };
          free = ap (λ (fs : List ℕ). length fs) moved_slot.free i;
          capacity = back_size i;
        }

        put : RestoresAt core.journal.geometry (path_of core.journal.geometry x.1.message) done.parcels (tree_nodes core.tree) (tree_nodes now)
        put = subst (λ (m : Msg). RestoresAt core.journal.geometry (path_of core.journal.geometry m) done.parcels (tree_nodes core.tree) (tree_nodes now)) (sym message_is)
            (subst (λ (h : Geometry). RestoresAt h (path_of core.journal.geometry done.message) done.parcels (tree_nodes core.tree) (tree_nodes now)) is.core.geometry
            (puts (path_of core.journal.geometry done.message) at_tree))

        fits : Fits core.journal.geometry (path_of core.journal.geometry x.1.message) done.parcels
        fits = subst (λ (m : Msg). Fits core.journal.geometry (path_of core.journal.geometry m) done.parcels) (sym message_is) result.runnable.fits

        shows : Shows core.journal.geometry (path_of core.journal.geometry x.1.message) result.standing done.parcels (next_state core.journal.geometry (core_state_in p).committed x.1.message)
        shows = subst (λ (m : Msg). Shows core.journal.geometry (path_of core.journal.geometry m) result.standing done.parcels
            (next_state core.journal.geometry (core_state_in p).committed m)) (sym message_is) result.shows

        reply_same : done.reply ≡ reply_to core.journal.geometry (core_state_in p).committed x.1.message
        reply_same = result.reply ∙ ap (reply_to core.journal.geometry (core_state_in p).committed) (sym message_is)

        pub back_call : IsPartitioned (after_move core.slots slot RAN) → IsSoundCore keeps returned
        back_call partitioned = record {
          chains = record { partitioned = partitioned; chain_count = moved_slot.chain_count ∙ is.chains.chain_count };
          core = subst (IsCore keeps) (sym after_is)
              (return_core keeps p is.core recovers.before x recovers.behind recovers.whole done.reply reply_same now (same_geometry ∙ is.core.geometry) result.standing done.parcels put fits shows);
          batch = subst (λ (n : ℕ). n ≤ vec_capacity core.batch) (sym back_size) is.batch;
          replies = length-set core.replies.items slot reply ∙ is.replies ∙ sym back_size;
          ran =
              let count = is.ran in
              let more = ap (λ (ps : List SlotView). length ps) joined ∙ length-append p.phases.ran (y ∷ []) in
              omega (arith, count, more);
        }

        pub back_state : (found : Entry × List Entry) × (find_in_flight (core_state_in p) done.ticket ≡ Some found) × (found.0 ≡ (done.ticket, done.message))
            × (core_state_in (parts returned) ≡ give_back core.journal.geometry (core_state_in p) found)
        back_state = (
          (entry_of x, map entry_of (recovers.before ++ recovers.behind)),
          ap (find_in_flight (core_state_in p)) (sym (ap (λ (e : Entry). e.0) recovers.is)) ∙ returned_is_found keeps p is.core recovers.before x recovers.behind recovers.whole,
          recovers.is,
          ap core_state_in after_is
              ∙ return_state keeps p is.core recovers.before x recovers.behind recovers.whole done.reply reply_same now (same_geometry ∙ is.core.geometry) result.standing done.parcels put fits shows,
        )
