-- The call that logs, by what its callees give.
use Rattle.std.proofs.Common.{◌≡◌, ℕ, ◌+◌, ◌-◌, ◌≤◌, Bool, true, false, List, [], ◌++◌, map, length, take, drop, get_or, Option, Some, None, Result, Ok, Err, refl, ap, sym, subst, ◌∙◌, arith}
use Rattle.std.specs.Global.{Global}
use Rattle.std.specs.declared.vec.Vec.{Vec}
use Rattle.scheduler.specs.History.{HistoryView}
use Rattle.std.specs.Prelude.{◌&&◌, is_err, min, nat_lt, not, option_map, slice_index_or, unwrap_or, vec_capacity}
use Rattle.std.proofs.Math.Nat.{min-le_right}
use Rattle.std.proofs.lemmas.Bool.{ltb-false, true≢false}
use Rattle.std.proofs.lemmas.List.{drop-map, drop_min, length-drop, length-map, length-take, map-append, take-append-drop, take-map, take_min}
use Rattle.std.proofs.lemmas.Option.{same_Some}
use Rattle.arena.specs.ArenaView.{ArenaView, IsPartitioned, capacity_of, chain_at}
use Rattle.recovery.specs.Recovery.{recovered_state}
use Rattle.disk.specs.CrashImages.{IsCrashImage, CrashImagesAre}
use Rattle.disk.specs.Device.{Medium, moment_number, Costs}
use Rattle.checkpoint.specs.Journal.{after_call, AreCarriedOut, JournalView, RecoversWithPrefix, IsRecoverable, committed}
use Rattle.histories.proofs.SerialReplies.{state_after_all-joined}
use Rattle.histories.specs.Eligible.{changes}
use Rattle.histories.specs.Events.{batch as batch_of, log, recorded, touches_device}
use Rattle.histories.specs.declared.outcomes.Step.TheVariants as steps
use Rattle.protocol.specs.declared.messages.Msg.{Msg}
use Rattle.protocol.specs.declared.replies.Reply.TheVariants.{Done}
use Rattle.oplog.specs.ChangeRecords.{AreChangesInRange}
use Rattle.oplog.specs.declared.halves.LogFault.{LogFault}
use Rattle.parcel.specs.Tree.{state_in}
use Rattle.meaning.specs.Step.{state_after_all}
use Rattle.meaning.specs.State.{State}
use Rattle.scheduler.proofs.UnloggedChanges.{count-map, changing, changing-append, unlogged_of}
use Rattle.scheduler.proofs.Chains.{same_slots}
use Rattle.scheduler.proofs.LogKeepsCore.{batch_at, batch_carried, batch_fits, batch_changes, doubt_core, log_core, log_throughout, log_state, same_batch, with_doubt, with_log}
use Rattle.scheduler.specs.CoreView.{core_state_of, CoreView, RecoversThroughout}
use Rattle.scheduler.specs.HasLogged.{HasLogged, changing_in, recorded_in}
use Rattle.scheduler.specs.declared.server_core.Core.TheInside.{Inside}
use Rattle.scheduler.specs.View.{parts, core_view_of, core_state_in}
use Rattle.scheduler.specs.IsCore.{IsSoundCore, IsCore}
use Rattle.scheduler.specs.Parts.{Parts}
use Rattle.scheduler.specs.Slots.{SlotView, slots_on, no_slot, slot_view_at, replied_of}
use Rattle.scheduler.specs.declared.core_memory.Slot.{Slot}
use Rattle.scheduler.specs.declared.core_memory.TheConstants.{WAITING, IN_FLIGHT, RAN, LOGGED, CHAINS}

-- ---- the journal's answer

pub broken_from : (r : Result (Unit {0}) LogFault) (done old new : JournalView) → is_err r ≡ true → new ≡ after_call r done old → new ≡ record old { failed = true; medium = done.medium }
broken_from (Ok u) done old new e after = absurd (true≢false (sym e))
broken_from (Err why) done old new e after = after

pub made_from : (r : Result (Unit {0}) LogFault) (done old new : JournalView) → is_err r ≡ false → new ≡ after_call r done old → new ≡ done
made_from (Ok u) done old new e after = after
made_from (Err why) done old new e after = absurd (true≢false e)

-- the writes and syncs that it took
pub broken_takes : (r : Result (Unit {0}) LogFault) (n : ℕ) (w0 w1 : Medium) → is_err r ≡ true → Costs r n w0 w1 → moment_number w1 ≤ moment_number w0 + n
broken_takes (Ok u) n w0 w1 e took = absurd (true≢false (sym e))
broken_takes (Err why) n w0 w1 e took = took

pub made_takes : (r : Result (Unit {0}) LogFault) (n : ℕ) (w0 w1 : Medium) → is_err r ≡ false → Costs r n w0 w1 → moment_number w1 ≡ moment_number w0 + n
made_takes (Ok u) n w0 w1 e took = took
made_takes (Err why) n w0 w1 e took = absurd (true≢false e)

pub none_taken : (w : Medium) (n : ℕ) → moment_number w ≤ moment_number w + n
none_taken w n = omega arith

none_to_log : (failed : Bool) (many : ℕ) → failed ≡ false → (not failed && nat_lt 0 many) ≡ false → many ≡ 0
none_to_log true many works quiet = absurd (true≢false works)
none_to_log false many works quiet = let few = ltb-false 0 many quiet in omega (arith, few)

-- what a call gathered while the device works: the changes that the first `count` messages recorded, which are passed to the journal
pub record Gathers {D : Type 0} (core : Inside D) (n count : ℕ) (messages : Vec Msg Global) (passed : List Msg) : Type 0 where
  pub works : core.journal.failed ≡ false
  pub is_least : count ≡ min n core.ran
  pub gathered : messages.items ≡ recorded_in core.slots core.replies.items (take count (chain_at core.slots RAN))
  pub handed_on : passed ≡ messages.items

module _ {D : Type 0} {keeps : Type 0} (core : Inside D) (is : IsSoundCore keeps core) {n count : ℕ} {messages : Vec Msg Global} {passed : List Msg}
    (gathered : Gathers core n count messages passed) where
  abbrev p : Parts
  p = parts core

  abbrev slots : List ℕ
  slots = chain_at core.slots RAN

  abbrev ran_slots : List SlotView
  ran_slots = slots_on core.slots core.replies.items RAN

  min_is : count ≡ min n (length ran_slots)
  min_is = gathered.is_least ∙ ap (λ (m : ℕ). min n m) is.ran

  take_is : take count ran_slots ≡ take n ran_slots
  take_is = ap (λ (m : ℕ). take m ran_slots) min_is ∙ take_min n ran_slots

  drop_is : drop count ran_slots ≡ drop n ran_slots
  drop_is = ap (λ (m : ℕ). drop m ran_slots) min_is ∙ drop_min n ran_slots

  long : length ran_slots ≡ length slots
  long = length-map slots (slot_view_at core.slots core.replies.items)

  pub log_low : count ≤ length slots
  log_low = let few = min-le_right n (length ran_slots) in let at = long in let same = min_is in omega (arith, few, at, same)

  pub log_count : count ≡ length (take n (core_state_in p).ran)
  log_count = min_is ∙ ap (λ (m : ℕ). min n m) (sym (length-map ran_slots replied_of)) ∙ sym (length-take n (map replied_of ran_slots))

  module _ (logged_changes : ℕ) (logged_changes_is : logged_changes ≡ changing_in core.slots (take count slots)) where
    logged_changes_same : logged_changes ≡ changing (take n ran_slots)
    logged_changes_same = logged_changes_is ∙ sym (count-map (λ (y : SlotView). changes y.1.message) (slot_view_at core.slots core.replies.items)
        (take count slots))
        ∙ ap (λ (l : List SlotView). changing l) (sym (take-map (slot_view_at core.slots core.replies.items) count slots) ∙ take_is)

    pub log_unlogged : logged_changes ≤ core.unlogged
    log_unlogged =
        let unlogged_was = is.core.unlogged_is ∙ unlogged_of p in
        let all = ap (λ (l : List SlotView). changing l) (sym (take-append-drop n ran_slots)) ∙ changing-append (take n ran_slots) (drop n ran_slots) in
        let same = logged_changes_same in
        omega (arith, unlogged_was, all, same)

    unlogged_is : (core.unlogged - logged_changes) + changing (take n ran_slots) ≡ core.unlogged
    unlogged_is = let enough = log_unlogged in let same = logged_changes_same in omega (arith, enough, same)

  messages_are : messages.items ≡ batch_at p n
  messages_are = gathered.gathered ∙ ap (λ (l : List SlotView). recorded (map replied_of l)) (sym (take-map (slot_view_at core.slots core.replies.items) count slots) ∙ take_is)

  passed_at : passed ≡ batch_at p n
  passed_at = gathered.handed_on ∙ messages_are

  pub log_length : length passed ≡ length (batch_of (core_state_in p) n)
  log_length = ap (λ (ms : List Msg). length ms) (passed_at ∙ same_batch keeps p is.core n)

  none_passed : length (batch_of (core_state_in p) n) ≡ 0 → length passed ≡ 0
  none_passed none = log_length ∙ none

  pub log_fits : length passed ≤ core.journal.room
  log_fits = subst (λ (ms : List Msg). length ms ≤ core.journal.room) (sym passed_at) (batch_fits keeps p is.core n)

  pub log_changes : AreChangesInRange core.journal.geometry passed
  log_changes = subst (AreChangesInRange core.journal.geometry) (sym passed_at) (batch_changes keeps p is.core n)

  pub log_carried : keeps → (x : State) → committed core.journal ≡ Some x → AreCarriedOut core.journal.geometry x passed
  log_carried keep x at =
      subst (λ (y : State). AreCarriedOut core.journal.geometry y passed) (same_Some (core_state_in p).committed x (sym (is.core.is_committed keep gathered.works) ∙ at))
      (subst (AreCarriedOut core.journal.geometry (core_state_in p).committed) (sym passed_at) (batch_carried keeps p is.core n))

  module _ (new : JournalView) (any : keeps → (x : State) → committed core.journal ≡ Some x → CrashImagesAre core.journal.medium new.medium
      (RecoversWithPrefix core.journal.geometry x passed)) where
    any_at : keeps → CrashImagesAre core.journal.medium new.medium (RecoversWithPrefix core.journal.geometry (core_state_in p).committed (batch_at p n))
    any_at keep = subst (λ (ms : List Msg). CrashImagesAre core.journal.medium new.medium (RecoversWithPrefix core.journal.geometry (core_state_in p).committed ms)) passed_at
        (any keep (core_state_in p).committed (is.core.is_committed keep gathered.works))

    pub log_call_throughout : {self : CoreView} → core_view_of p ≡ self → keeps
        → RecoversThroughout (batch_of (core_state_of self) n) self (core_view_of (record p { journal = new }))
    log_call_throughout view keep = subst (λ (o : CoreView). RecoversThroughout (batch_of (core_state_of o) n) o
        (core_view_of (record p { journal = new }))) view
        (log_throughout keeps p is.core gathered.works n core.unlogged new.dirty new.medium any_at (core_view_of (record p { journal = new })) refl keep)

    pub log_untouched : (length passed ≡ 0 → new ≡ core.journal) → touches_device (core_state_in p) (steps.Log n) ≡ false → new.medium ≡ core.journal.medium
    log_untouched same quiet = ap (λ (j : JournalView). j.medium) (same (none_passed (none_to_log core.journal.failed (length (batch_of (core_state_in p) n)) gathered.works quiet)))

    -- ---- the device failed

    module _ (broken : new ≡ record core.journal { failed = true; medium = new.medium }) where
      abbrev pub doubting : Inside D
      doubting = record core { journal = new; batch = messages }

      doubting_is : parts doubting ≡ with_doubt p n new.medium
      doubting_is = λ i. record (with_doubt p n new.medium) { journal = broken i; batch = messages_are i }

      pub doubt_call : vec_capacity messages ≡ vec_capacity core.batch → IsSoundCore keeps doubting
      doubt_call same_capacity = record {
        chains = is.chains;
        core = subst (IsCore keeps) (sym doubting_is) (doubt_core keeps p is.core gathered.works n core.unlogged new.dirty new.medium any_at);
        batch = subst (λ (m : ℕ). capacity_of core.slots ≤ m) (sym same_capacity) is.batch;
        replies = is.replies;
        ran = is.ran;
      }

      pub doubt_call_state : core_state_in (parts doubting) ≡ record (core_state_in p) { failed = true; doubt = batch_of (core_state_in p) n }
      doubt_call_state = ap core_state_in doubting_is ∙ (λ i. record (core_state_in p) { failed = true; doubt = same_batch keeps p is.core n i })

      pub some_were_passed : (length passed ≡ 0 → new ≡ core.journal) → length (batch_of (core_state_in p) n) ≡ 0 → ⊥
      some_were_passed same none = true≢false (sym (ap (λ (j : JournalView). j.failed) broken) ∙ ap (λ (j : JournalView). j.failed) (same (none_passed none)) ∙ gathered.works)

    -- ---- the messages are logged

    module _ (made : new ≡ record core.journal { room = core.journal.room - length passed; dirty = new.dirty; medium = new.medium })
        (settles : keeps → committed new ≡ option_map (λ x. state_after_all core.journal.geometry x passed) (committed core.journal)) (recovers : keeps → IsRecoverable new)
        (moved : ArenaView Slot) (has : HasLogged count core.slots moved) (logged_changes : ℕ) (logged_changes_is : logged_changes ≡ changing_in core.slots (take count slots))
        (history : HistoryView) (history_is : history ≡ record { opened = core.history.opened; since_open = core.history.since_open ++ messages.items })
        (emptied : Vec Msg Global) (empty : emptied.items ≡ []) where
      abbrev pub logged : Inside D
      logged = record core {
        slots = moved;
        journal = new;
        batch = emptied;
        unlogged = core.unlogged - logged_changes;
        ran = core.ran - count;
        history = history;
      }

      abbrev room : ℕ
      room = core.journal.room - length (batch_at p n)

      moved_places : (ys : List ℕ) → map (slot_view_at moved core.replies.items) ys ≡ map (slot_view_at core.slots core.replies.items) ys
      moved_places ys = λ z. map (λ i. (i, unwrap_or (slice_index_or (has.values z) i None) no_slot, get_or core.replies.items i Done)) ys

      ran_now : slots_on moved core.replies.items RAN ≡ drop n ran_slots
      ran_now = moved_places (chain_at moved RAN) ∙ ap (map (slot_view_at core.slots core.replies.items)) has.ran ∙ sym (drop-map (slot_view_at core.slots core.replies.items) count slots) ∙ drop_is

      logged_now : slots_on moved core.replies.items LOGGED ≡ slots_on core.slots core.replies.items LOGGED ++ take n ran_slots
      logged_now = moved_places (chain_at moved LOGGED) ∙ ap (map (slot_view_at core.slots core.replies.items)) has.logged
          ∙ map-append (slot_view_at core.slots core.replies.items) (chain_at core.slots LOGGED) (take count slots)
          ∙ ap (λ (l : List SlotView). slots_on core.slots core.replies.items LOGGED ++ l) (sym (take-map (slot_view_at core.slots core.replies.items) count slots) ∙ take_is)

      log_size : capacity_of moved ≡ capacity_of core.slots
      log_size = ap (λ (vs : List (Option Slot)). length vs) has.values

      log_ran : core.ran - count ≡ length (slots_on moved core.replies.items RAN)
      log_ran =
          let now = ap (λ (l : List SlotView). length l) ran_now ∙ length-drop n ran_slots in
          let were = is.ran in
          let same = min_is in
          omega (arith, now, were, same)

      after_is : parts logged ≡ with_log p n (core.unlogged - logged_changes) room new.dirty new.medium
      after_is = λ i. record (with_log p n (core.unlogged - logged_changes) room new.dirty new.medium) {
        phases = record {
          waiting = same_slots core.slots moved core.replies.items WAITING has.values has.waiting i;
          in_flight = same_slots core.slots moved core.replies.items IN_FLIGHT has.values has.in_flight i;
          ran = ran_now i;
          logged = logged_now i;
        };
        free = ap (λ (fs : List ℕ). length fs) has.free i;
        capacity = log_size i;
        journal = (made ∙ (λ j. record core.journal { room = core.journal.room - length (passed_at j); dirty = new.dirty; medium = new.medium })) i;
        batch = empty i;
        opened = (history_is i).opened;
        since_open = (ap (λ (h : HistoryView). h.since_open) history_is ∙ ap (λ (ms : List Msg). core.history.since_open ++ ms) messages_are) i;
      }

      settles_at : keeps → committed (record core.journal { room = room; dirty = new.dirty; medium = new.medium })
          ≡ Some (core_state_in (with_log p n (core.unlogged - logged_changes) room new.dirty new.medium)).committed
      settles_at keep =
          sym (ap committed made) ∙ settles keep
          ∙ ap (option_map (λ x. state_after_all core.journal.geometry x passed)) (is.core.is_committed keep gathered.works)
          ∙ ap (λ (ms : List Msg). Some (state_after_all core.journal.geometry (core_state_in p).committed ms)) passed_at
          ∙ ap Some (sym (state_after_all-joined core.journal.geometry (state_in core.history.opened) core.history.since_open (batch_at p n)))

      recovers_at : keeps → (c : List ℕ) → IsCrashImage new.medium c → recovered_state core.journal.geometry c ≡ committed
          (record core.journal { room = room; dirty = new.dirty; medium = new.medium })
      recovers_at keep c leaves = ap (λ (j : JournalView). recovered_state j.geometry c) (sym made) ∙ (recovers keep).each c leaves ∙ ap committed made

      pub log_call : IsPartitioned moved → length moved.chains ≡ CHAINS → vec_capacity emptied ≡ vec_capacity core.batch → IsSoundCore keeps logged
      log_call partitioned chain_count same_capacity = record {
        chains = record { partitioned = partitioned; chain_count = chain_count };
        core = subst (IsCore keeps) (sym after_is) (log_core keeps p is.core gathered.works n (core.unlogged - logged_changes) new.dirty new.medium
            (unlogged_is logged_changes logged_changes_is) settles_at recovers_at);
        batch = subst (λ (m : ℕ). m ≤ vec_capacity emptied) (sym log_size) (subst (λ (m : ℕ). capacity_of core.slots ≤ m) (sym same_capacity) is.batch);
        replies = is.replies ∙ sym log_size;
        ran = log_ran;
      }

      pub log_call_state : core_state_in (parts logged) ≡ log core.journal.geometry (core_state_in p) n
      log_call_state = ap core_state_in after_is ∙ log_state keeps p is.core gathered.works n (core.unlogged - logged_changes) new.dirty new.medium
