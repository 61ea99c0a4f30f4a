-- What is unsynced lies in the span that the next sync looks at, whether the write succeeds or fails.
use Rattle.std.proofs.Common.{refl, ap, ◌∙◌, length, nat_lt, false, ◌≡◌, ◌+◌, sym, subst, arith}
use Rattle.std.proofs.lemmas.Bool.{le-ltb}
use Rattle.disk.proofs.Overlays.{length-overlaid}
use Rattle.std.proofs.lemmas.List.{with_items_is}
use Rattle.disk.specs.Device.{overlaid, marked, Medium}
use Rattle.disk.specs.CrashImages.{AreBytes}
use Rattle.disk.specs.Span.{HoldsUnsynced}
use Rattle.disk.proofs.Bytes.{bytes_fit, bytes-overlaid}
use Rattle.disk.proofs.Spans.{holds_failed_write, holds_written}
use Rattle.disk.proofs.memory.MemDiskDisk.write_at.Goals as goal

pub invariant_of-self : goal.invariant_of-self
invariant_of-self c =
    let self = c.args.self.now in
    let span = c.with-self.result in
    let last_are = with_items_is self.last_written c.overlay.new.bytes (c.overlay.ensures.len ∙ c.deref_mut.ensures.len) in
    let marks_are = with_items_is self.unsynced c.mark_unsynced.new.marks (c.mark_unsynced.ensures.len ∙ c.deref_mut-2.ensures.len) in
    record {
      now_is = ap (λ (m : Medium). m.now) c.note.ensures ∙ self.now_is;
      unsynced_is = ap (λ (m : Medium). m.unsynced) c.note.ensures
          ∙ (λ i. marked ((self.unsynced_is ∙ sym c.deref_mut-2.ensures.value) i) (sym c.in_ok-start.ensures.start i) (length c.args.bytes.now))
          ∙ sym (marks_are ∙ c.mark_unsynced.ensures.marked);
      last_synced_size = self.last_synced_size;
      last_written_size = ap length last_are ∙ c.overlay.ensures.len ∙ ap length c.deref_mut.ensures.value ∙ self.last_written_size;
      unsynced_size = ap length marks_are ∙ c.mark_unsynced.ensures.len ∙ ap length c.deref_mut-2.ensures.value ∙ self.unsynced_size;
      holds_unsynced = subst (λ (m : Medium). HoldsUnsynced span.start span.end m self.last_synced.items) (sym c.note.ensures)
          (holds_failed_write self.span.start self.span.end span.start span.end c.args.at _ self.ghost_device.medium self.last_synced.items self.span.ordered
          (omega (arith, c.in_ok-start.ensures.start, c.in_ok-start.ensures.inside))
          (omega (arith, c.in_ok-start.ensures.start, c.in_ok-start.ensures.inside))
          (omega (arith, c.in_ok-start.ensures.start, c.in_ok-start.ensures.inside)) c.with-self.ensures.holds_old self.holds_unsynced);
      fits = rw c.note.ensures self.fits;
      are_bytes = subst (λ (m : Medium). AreBytes m.now) (sym c.note.ensures) self.are_bytes;
    }

pub invariant_of-self-2 : goal.invariant_of-self-2
invariant_of-self-2 c =
    let self = c.args.self.now in
    let span = c.with-self.result in
    let last_are = with_items_is self.last_written c.overlay.new.bytes (c.overlay.ensures.len ∙ c.deref_mut.ensures.len) in
    let marks_are = with_items_is self.unsynced c.mark_unsynced.new.marks (c.mark_unsynced.ensures.len ∙ c.deref_mut-2.ensures.len) in
    let bytes_are = with_items_is self.bytes c.overlay-2.new.bytes (c.overlay-2.ensures.len ∙ c.deref_mut-3.ensures.len) in
    let size = ap length bytes_are ∙ c.overlay-2.ensures.len ∙ ap length c.deref_mut-3.ensures.value in
    record {
      now_is = ap (λ (m : Medium). m.now) c.note-2.ensures
          ∙ (λ i. overlaid ((self.now_is ∙ sym c.deref_mut-3.ensures.value) i) (sym c.in_ok-start.ensures.start i) c.args.bytes.now)
          ∙ sym (bytes_are ∙ c.overlay-2.ensures.written);
      unsynced_is = ap (λ (m : Medium). m.unsynced) c.note-2.ensures
          ∙ (λ i. marked ((self.unsynced_is ∙ sym c.deref_mut-2.ensures.value) i) (sym c.in_ok-start.ensures.start i) (length c.args.bytes.now))
          ∙ sym (marks_are ∙ c.mark_unsynced.ensures.marked);
      last_synced_size = self.last_synced_size ∙ sym size;
      last_written_size = ap length last_are ∙ c.overlay.ensures.len ∙ ap length c.deref_mut.ensures.value ∙ self.last_written_size ∙ sym size;
      unsynced_size = ap length marks_are ∙ c.mark_unsynced.ensures.len ∙ ap length c.deref_mut-2.ensures.value ∙ self.unsynced_size ∙ sym size;
      holds_unsynced = subst (λ (m : Medium). HoldsUnsynced span.start span.end m self.last_synced.items) (sym c.note-2.ensures)
          (holds_written self.span.start self.span.end span.start span.end c.args.at _ self.ghost_device.medium self.last_synced.items self.span.ordered
          (omega (arith, c.in_ok-start.ensures.start, c.in_ok-start.ensures.inside))
          (omega (arith, c.in_ok-start.ensures.start, c.in_ok-start.ensures.inside))
          (omega (arith, c.in_ok-start.ensures.start, c.in_ok-start.ensures.inside)) c.with-self.ensures.holds_old self.holds_unsynced
          c.args.bytes.now refl);
      fits = rw (c.note-2.ensures, length-overlaid self.ghost_device.medium.now c.args.at c.args.bytes.now) self.fits;
      are_bytes = subst (λ (m : Medium). AreBytes m.now) (sym c.note-2.ensures)
          (bytes-overlaid self.ghost_device.medium.now c.args.at c.args.bytes.now self.are_bytes (bytes_fit c.args.bytes.now (λ i. (c.type_inv.bytes i).fits)));
    }

pub returns-then-fails-clause-call : goal.returns-then-fails-clause-call
returns-then-fails-clause-call c = (ap (λ (m : Medium). m.faults) c.note.ensures, ap (λ (m : Medium). length m.now) c.note.ensures)

pub returns-then-fails-clause-answer : goal.returns-then-fails-clause-answer
returns-then-fails-clause-answer c =
    let small : nat_lt (length c.args.self.now.ghost_device.medium.now) (c.args.at + length c.args.bytes.now) ≡ false =
    le-ltb _ _ (omega (arith, c.in_ok-start.ensures.start, c.in_ok-start.ensures.inside, c.len.ensures, ap length c.args.self.now.now_is)) in
    rw (small, ← c.count_call-fails.ensures.fails, c.if-fails.true) refl

pub returns-clause-call : goal.returns-clause-call
returns-clause-call c = (
  ap (λ (m : Medium). m.faults) c.note-2.ensures,
  ap (λ (m : Medium). length m.now) c.note-2.ensures ∙ length-overlaid c.args.self.now.ghost_device.medium.now c.args.at c.args.bytes.now,
)

pub returns-clause-answer : goal.returns-clause-answer
returns-clause-answer c =
    let small : nat_lt (length c.args.self.now.ghost_device.medium.now) (c.args.at + length c.args.bytes.now) ≡ false =
    le-ltb _ _ (omega (arith, c.in_ok-start.ensures.start, c.in_ok-start.ensures.inside, c.len.ensures, ap length c.args.self.now.now_is)) in
    rw (small, ← c.count_call-fails.ensures.fails, c.if-fails.false) refl

pub returns-then-fails-clause-after : goal.returns-then-fails-clause-after
returns-then-fails-clause-after c =
    let self = c.args.self.now in
    let last : c.overlay.new.bytes ≡ overlaid self.last_written.items c.args.at c.args.bytes.now = rw (← c.deref_mut.ensures.value, ← c.in_ok-start.ensures.start) c.overlay.ensures.written in
    λ i. record {
      medium = c.note.ensures i;
      last_synced = self.last_synced.items;
      last_written = (with_items_is self.last_written c.overlay.new.bytes (c.overlay.ensures.len ∙ c.deref_mut.ensures.len) ∙ last) i;
      injected_fault = (c.count_call-fails.ensures.after i).injected_fault;
      calls = (c.count_call-fails.ensures.after i).calls;
    }

pub returns-clause-after : goal.returns-clause-after
returns-clause-after c =
    let self = c.args.self.now in
    let last : c.overlay.new.bytes ≡ overlaid self.last_written.items c.args.at c.args.bytes.now = rw (← c.deref_mut.ensures.value, ← c.in_ok-start.ensures.start) c.overlay.ensures.written in
    λ i. record {
      medium = c.note-2.ensures i;
      last_synced = self.last_synced.items;
      last_written = (with_items_is self.last_written c.overlay.new.bytes (c.overlay.ensures.len ∙ c.deref_mut.ensures.len) ∙ last) i;
      injected_fault = (c.count_call-fails.ensures.after i).injected_fault;
      calls = (c.count_call-fails.ensures.after i).calls;
    }
