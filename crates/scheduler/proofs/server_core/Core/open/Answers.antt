-- Where there is no memory for the core, the device wasn't called; and an opened core keeps what a core keeps.
use Rattle.std.proofs.Common.{◌≡◌, ◌∙◌, Option, Some, None, map, refl, inl, ap, arith}
use Rattle.std.proofs.lemmas.List.{length-replicate}
use Rattle.oplog.proofs.Results.{err_is}
use Rattle.affinity.specs.declared.geometry.Geometry.{Geometry}
use Rattle.disk.proofs.CrashImagesAre.{started}
use Rattle.disk.specs.CrashImages.{IsCrashImage}
use Rattle.arena.specs.ArenaView.{ArenaView, capacity_of}
use Rattle.checkpoint.specs.Journal.{IsRecoverable, committed}
use Rattle.oplog.proofs.Beyond.{beyond_none}
use Rattle.device_map.specs.Layout.{layout_of}
use Rattle.parcel.specs.Tree.{state_in}
use Rattle.scheduler.proofs.IsJustOpened.{opened_sound}
use Rattle.scheduler.proofs.Refusals.{one_fault, opened_or_refused, recovers_or_refused}
use Rattle.run_queue.specs.RunQueue.{RunQueueView, queue_at_start}
use Rattle.scheduler.specs.Slots.{slots_on, entry_of, replied_of}
use Rattle.scheduler.specs.declared.core_memory.Slot.{Slot}
use Rattle.scheduler.specs.declared.core_memory.TheConstants.{WAITING, IN_FLIGHT, RAN, LOGGED}
use Rattle.scheduler.proofs.server_core.Core.open.Goals as goal

pub returns-in_default-clause-any_moment : goal.returns-in_default-clause-any_moment
returns-in_default-clause-any_moment g c = λ k.
    let m = g.D.Disk.medium c.args.d in
    record { synced = m; first = started m (IsCrashImage m) (λ bytes left. left); rest = inl refl }

pub returns-in_default-clause-unwritten : goal.returns-in_default-clause-unwritten
returns-in_default-clause-unwritten g c = λ k.
    let m = g.D.Disk.medium c.args.d in record { now = refl; later = started m (IsCrashImage m) (λ bytes left. left) }

pub invariant_of-result : goal.invariant_of-result
invariant_of-result g c =
    let holds : g.D.Disk.keeps → (committed c.in_ok-journal.journal ≡ Some (state_in c.in_ok-journal.tree)) × IsRecoverable c.in_ok-journal.journal =
    λ k. let o = c.in_ok-journal.ensures.opened k in (o.is, o.recoverable) in
    let queue = c.set_geometry.ensures ∙ ap (λ (q : RunQueueView). queue_at_start c.geometry.result q.slots) c.in-Ok.ensures.queue
    ∙ ap (λ (h : Geometry). queue_at_start h c.args.slots) c.geometry.ensures in
    opened_sound _ c.args.slots c.in_ok-journal.ensures.tree.0 c.in_ok-journal.ensures.tree.1 c.requires.slots.0 c.in_ok-journal.ensures.begins.1 holds
    c.in-Ok.ensures.arena c.in-Ok.ensures.partitioned queue c.in-Ok.ensures.batch c.in-Ok.ensures.room c.in-Ok.ensures.replies (refl, refl, refl) c.begun.ensures

pub returns-clause-opened : goal.returns-clause-opened
returns-clause-opened g c =
    let arena = c.in-Ok.ensures.arena in
    let replies = c.in-Ok.memory.replies.items in
    record {
      none_waits = ap (λ (r : ArenaView Slot). map entry_of (slots_on r replies WAITING)) arena;
      none_in_flight = ap (λ (r : ArenaView Slot). map entry_of (slots_on r replies IN_FLIGHT)) arena;
      none_ran = ap (λ (r : ArenaView Slot). map replied_of (slots_on r replies RAN)) arena;
      none_logged = ap (λ (r : ArenaView Slot). map replied_of (slots_on r replies LOGGED)) arena;
      room = c.in_ok-journal.ensures.begins.0;
      next = refl;
      slots_are = ap (λ (r : ArenaView Slot). capacity_of r) arena ∙ length-replicate {A = Option Slot} c.args.slots None;
      works = c.in_ok-journal.ensures.begins.2;
      no_doubt = c.in-Ok.ensures.batch;
      no_cut = c.in_ok-journal.ensures.begins.1;
    }

pub returns-in_err-journal-clause-opens : goal.returns-in_err-journal-clause-opens
returns-in_err-journal-clause-opens g c =
    let m = g.D.Disk.medium c.args.d in
    rw (err_is c.from_residual.ensures.1) (λ h x k stood shown.
    recovers_or_refused m.now h x c.in_err-journal.field-0.0.fault (g.met.D.Disk.bytes c.args.d) stood shown (c.in_err-journal.ensures.refused k))

pub returns-in_err-journal-clause-exact : goal.returns-in_err-journal-clause-exact
returns-in_err-journal-clause-exact g c =
    let m = g.D.Disk.medium c.args.d in
    rw (err_is c.from_residual.ensures.1) (λ fault k also also_shown shown. one_fault m.now c.in_err-journal.field-0.0.fault fault shown (c.in_err-journal.ensures.refused k) also_shown also)

pub returns-clause-exact : goal.returns-clause-exact
returns-clause-exact g c = λ fault k also shown.
    let o = c.in_ok-journal.ensures.opened k in
    opened_or_refused (g.D.Disk.medium c.args.d).now c.in_ok-journal.journal.geometry fault o.header o.accepted shown also

pub returns-in_default-clause-beyond : goal.returns-in_default-clause-beyond
returns-in_default-clause-beyond g c = λ k h header. beyond_none (layout_of h) (g.D.Disk.medium c.args.d)

pub returns-in_err-journal-clause-beyond : goal.returns-in_err-journal-clause-beyond
returns-in_err-journal-clause-beyond g c =
    rw (err_is c.from_residual.ensures.1) c.in_err-journal.ensures.beyond

pub returns-clause-beyond : goal.returns-clause-beyond
returns-clause-beyond g c = c.in_ok-journal.ensures.beyond

pub returns-in_default-clause-costs : goal.returns-in_default-clause-costs
returns-in_default-clause-costs g c = λ k. omega arith

pub returns-in_err-journal-clause-costs : goal.returns-in_err-journal-clause-costs
returns-in_err-journal-clause-costs g c =
    rw (err_is c.from_residual.ensures.1) c.in_err-journal.ensures.costs

pub returns-clause-costs : goal.returns-clause-costs
returns-clause-costs g c = c.in_ok-journal.ensures.costs

pub returns-in_err-journal-clause-any_moment : goal.returns-in_err-journal-clause-any_moment
returns-in_err-journal-clause-any_moment g c = rw (err_is c.from_residual.ensures.1) c.in_err-journal.ensures.any_moment

pub returns-in_err-journal-clause-refused : goal.returns-in_err-journal-clause-refused
returns-in_err-journal-clause-refused g c = rw (err_is c.from_residual.ensures.1) c.in_err-journal.ensures.refused

pub returns-in_err-journal-clause-unwritten : goal.returns-in_err-journal-clause-unwritten
returns-in_err-journal-clause-unwritten g c = rw (err_is c.from_residual.ensures.1) c.in_err-journal.ensures.unwritten

pub returns-in_err-journal-clause-device : goal.returns-in_err-journal-clause-device
returns-in_err-journal-clause-device g c = rw (err_is c.from_residual.ensures.1) c.in_err-journal.ensures.device

pub returns-in_err-journal-clause-len : goal.returns-in_err-journal-clause-len
returns-in_err-journal-clause-len g c = rw (err_is c.from_residual.ensures.1) c.in_err-journal.ensures.len

pub returns-clause-any_moment : goal.returns-clause-any_moment
returns-clause-any_moment g c = c.in_ok-journal.ensures.any_moment

pub returns-clause-recovered_before : goal.returns-clause-recovered_before
returns-clause-recovered_before g c = λ k. rw (c.begun.ensures.0, c.begun.ensures.1) (c.in_ok-journal.ensures.opened k).was
