-- The records in force are those of the named half, and where it is chained those of the other half behind them.
use Rattle.std.proofs.Common.{◌≡◌, ◌+◌, ◌≤◌, ℕ, List, length, Some, sym, ◌∙◌, ap, subst, arith}
use Rattle.oplog.proofs.Results.{err_is}
use Rattle.affinity.specs.declared.geometry.Geometry.{Geometry}
use Rattle.recovery.specs.declared.inspecting.Shown.{Shown}
use Rattle.recovery.specs.OpenFaults.{IsConsistentFault, records_fault}
use Rattle.recovery.specs.Recovery.{decoding}
use Rattle.recovery.specs.Refusals.{IsRefused}
use Rattle.device_map.specs.Layout.{device_size, image_part, layout_of, part_bytes}
use Rattle.image.specs.Image.{version_in}
use Rattle.protocol.specs.declared.messages.Msg.TheVariants.{Summary}
use Rattle.meaning.specs.Step.{reply_to}
use Rattle.oplog.specs.HalfContent.{front}
use Rattle.oplog.specs.Log.{Log}
use Rattle.oplog.specs.Recovery.{run}
use Rattle.parcel.specs.Tree.{TreeView, state_in}
use Rattle.recovery.proofs.NamedHolds.{HoldsInForce, alone_in_force, behind_refused, both_in_force, held_before}
use Rattle.recovery.proofs.ReadingCalls.{after, opening_failed}
use Rattle.recovery.proofs.Refusals.{behind_header}
use Rattle.recovery.proofs.Replays.{same_bytes}
use Rattle.recovery.proofs.inspecting.inspect_on.Goals as goal
use Rattle.recovery.proofs.inspecting.inspect_on.Goals.{then-named+in_ok-more, else-named}

pub returns-in_err-tree-clause-memory : goal.returns-in_err-tree-clause-memory
returns-in_err-tree-clause-memory g c =
    behind_header _ g.D.Disk.keeps (g.D.Disk.medium c.args.disk.now).now
    (λ k. record { geometry = c.in_ok-geometry.geometry; header = c.in_ok-geometry.ensures.header k; parts = c.in_ok-geometry.ensures.long_enough })

pub returns-in_err-more-clause-refused : goal.returns-in_err-more-clause-refused
returns-in_err-more-clause-refused g c =
    rw (err_is c.from_residual-in_err-more.ensures.1) (λ k.
    let w0 = g.D.Disk.medium c.args.disk.now in
    let area = c.in_ok-named.named.area in
    let x = state_in c.load_named.new.tree in
    let holds =
    held_before w0 (g.D.Disk.medium c.read_header.new.disk) c.in_ok-tree.ensures.geometry (c.read_header.ensures.call.untouched k) (c.in_ok-named.ensures.loaded k) in
    let trees = c.in_ok-named.ensures.geometry ∙ c.in_ok-tree.ensures.geometry in
    let logs = ap (λ (l : Log). l.geometry) c.in_ok-named.ensures.log ∙ c.in_ok-tree.ensures.geometry in
    let bytes = same_bytes w0 (g.D.Disk.medium c.load_named.new.disk) (c.load_named.ensures.call.untouched k ∙ c.read_header.ensures.call.untouched k) in
    behind_refused _ _ _ _ (rw c.if-named.true at holds) _
    (subst (λ o. IsConsistentFault o c.in_err-more.field-0.0) (λ i. records_fault (trees i) x (c.other.ensures i) (front (layout_of (logs i)) (c.other.ensures i) (bytes i)))
    (c.in_err-more.ensures.refused k)))

pub overflow_add-result : goal.overflow_add-result
overflow_add-result g c =
    let more : c.if-named.more ≤ 65535 = elim c.if-named.branch [
      | then-named+in_ok-more w ↦ omega (arith, w.more-is, w.in_ok-more.ensures.few, c.load_named.new.log.geometry.half_range)
      | else-named w ↦ omega (arith, w.more-is)
    ] in
    omega (arith, more, c.in_ok-named.ensures.few, c.in_ok-tree.tree.geometry.half_range)

pub returns-clause-shown : goal.returns-clause-shown
returns-clause-shown g c = λ k.
    let geometry = c.in_ok-geometry.geometry in
    let w0 = g.D.Disk.medium c.args.disk.now in
    let area = c.in_ok-named.named.area in
    let x = state_in c.load_named.new.tree in
    let only = c.read_header.ensures.call.untouched k in
    let holds = held_before w0 (g.D.Disk.medium c.read_header.new.disk) c.in_ok-tree.ensures.geometry only (c.in_ok-named.ensures.loaded k) in
    let trees = c.in_ok-named.ensures.geometry ∙ c.in_ok-tree.ensures.geometry in
    let logs = ap (λ (l : Log). l.geometry) c.in_ok-named.ensures.log ∙ c.in_ok-tree.ensures.geometry in
    let same = same_bytes w0 (g.D.Disk.medium c.read_header.new.disk) only in
    let bytes = same_bytes w0 (g.D.Disk.medium c.load_named.new.disk) (c.load_named.ensures.call.untouched k ∙ only) in
    let records : c.in_ok-named.named.records ≡ length (front (layout_of geometry) area w0.now) =
    c.in_ok-named.ensures.records k ∙ (λ i. length (front (layout_of (c.in_ok-tree.ensures.geometry i)) area (same i))) in
    let all : HoldsInForce geometry w0.now area (c.in_ok-named.named.records + c.if-named.more) (state_in c.if-named.tree) = elim c.if-named.branch [
      | then-named+in_ok-more w ↦ (
          let more = w.in_ok-more.ensures.count k ∙ (λ i. length (front (layout_of (logs i)) (w.other.ensures i) (bytes i))) in
          let done = sym (λ i. run (decoding (trees i)) (Some x) (front (layout_of (logs i)) (w.other.ensures i) (bytes i))) ∙ w.in_ok-more.ensures.done k in
          rw (w.tree-is, records, w.more-is, more) (both_in_force geometry w0.now area x (rw w.if-named.true at holds) (state_in w.replay.new.tree) done))
      | else-named w ↦ (
          rw w.tree-is (subst (λ (n : ℕ). HoldsInForce geometry w0.now area n x) (omega (arith, records, w.more-is))
          (alone_in_force geometry w0.now area x (rw w.if-named.false at holds))))
    ] in
    let kept : c.if-named.tree.geometry ≡ geometry = elim c.if-named.branch [
      | then-named+in_ok-more w ↦ ap (λ (y : TreeView). y.geometry) w.tree-is ∙ w.in_ok-more.ensures.geometry ∙ trees
      | else-named w ↦ ap (λ (y : TreeView). y.geometry) w.tree-is ∙ trees
    ] in
    record {
      header = c.in_ok-geometry.ensures.header k;
      sound = all.accepted;
      area = holds.named;
      records = all.counted;
      version = c.in_ok-named.ensures.version k ∙ (λ i. version_in (part_bytes (layout_of (c.in_ok-tree.ensures.geometry i)) (image_part area) (same i)));
      state = state_in c.if-named.tree;
      held = all.held;
      summary = c.step-summary.ensures.reply ∙ ap (λ (h : Geometry). reply_to h (state_in c.if-named.tree) Summary) kept;
    }

pub returns-in_err-geometry-clause-memory : goal.returns-in_err-geometry-clause-memory
returns-in_err-geometry-clause-memory g c = rw (err_is c.from_residual.ensures.1) (λ is. absurd (c.in_err-geometry.ensures.call.never_out_of_memory is))

pub returns-in_err-geometry-clause-call : goal.returns-in_err-geometry-clause-call
returns-in_err-geometry-clause-call g c = rw (err_is c.from_residual.ensures.1) (opening_failed Shown c.in_err-geometry.ensures.call)

pub returns-in_err-tree-clause-call : goal.returns-in_err-tree-clause-call
returns-in_err-tree-clause-call g c =
    rw (err_is c.from_residual-in_err-tree.ensures.1, c.in_err-tree.ensures.fault) (c.in_ok-geometry.ensures.call.counts, c.in_ok-geometry.ensures.call.len)

pub load_named-requires-clause-long_enough : goal.load_named-requires-clause-long_enough
load_named-requires-clause-long_enough g c =
    omega (arith, ap (λ (h : Geometry). device_size (layout_of h)) c.in_ok-tree.ensures.geometry, c.read_header.ensures.call.len, c.in_ok-geometry.ensures.long_enough)

pub load_named-requires-clause-room : goal.load_named-requires-clause-room
load_named-requires-clause-room g c =
    omega (arith, ap (λ (h : Geometry). h.quota) c.in_ok-tree.ensures.geometry, c.in_ok-tree.ensures.buffer, ap (λ (l : List ℕ). length l) c.deref_mut.ensures.value)

pub returns-in_err-named-clause-refused : goal.returns-in_err-named-clause-refused
returns-in_err-named-clause-refused g c =
    rw (err_is c.from_residual-in_err-named.ensures.1) (λ k.
    subst (λ (l : List ℕ). IsRefused l c.in_err-named.field-0.0)
    (same_bytes (g.D.Disk.medium c.args.disk.now) (g.D.Disk.medium c.read_header.new.disk) (c.read_header.ensures.call.untouched k)) (c.in_err-named.ensures.refused k))

pub returns-in_err-named-clause-memory : goal.returns-in_err-named-clause-memory
returns-in_err-named-clause-memory g c = rw (err_is c.from_residual-in_err-named.ensures.1) (λ is. absurd (c.in_err-named.ensures.call.never_out_of_memory is))

pub returns-in_err-named-clause-call : goal.returns-in_err-named-clause-call
returns-in_err-named-clause-call g c =
    rw (err_is c.from_residual-in_err-named.ensures.1) (opening_failed Shown (after c.in_ok-geometry.ensures.call c.in_err-named.ensures.call))

pub replay-requires-clause-usable : goal.replay-requires-clause-usable
replay-requires-clause-usable g c =
    let geometry = ap (λ (l : Log). l.geometry) c.in_ok-named.ensures.log ∙ c.in_ok-tree.ensures.geometry in
    record {
      not_failed = ap (λ (l : Log). l.failed) c.in_ok-named.ensures.log;
      long_enough = omega (
        arith,
        ap (λ (h : Geometry). device_size (layout_of h)) geometry,
        c.load_named.ensures.call.len,
        c.read_header.ensures.call.len,
        c.in_ok-geometry.ensures.long_enough,
      );
    }

pub returns-in_err-more-clause-memory : goal.returns-in_err-more-clause-memory
returns-in_err-more-clause-memory g c = rw (err_is c.from_residual-in_err-more.ensures.1) (λ is. absurd (c.in_err-more.ensures.call.never_out_of_memory is))

pub returns-in_err-more-clause-call : goal.returns-in_err-more-clause-call
returns-in_err-more-clause-call g c =
    rw (err_is c.from_residual-in_err-more.ensures.1) (opening_failed Shown (after c.in_ok-geometry.ensures.call (after c.in_ok-named.ensures.call c.in_err-more.ensures.call)))

pub returns-clause-untouched : goal.returns-clause-untouched
returns-clause-untouched g c = λ k.
    let before = c.load_named.ensures.call.untouched k ∙ c.read_header.ensures.call.untouched k in elim c.if-named.branch [
      | then-named+in_ok-more w ↦ rw w.disk-is (w.replay.ensures.call.untouched k ∙ before)
      | else-named w ↦ rw w.disk-is before
    ]

pub returns-clause-call : goal.returns-clause-call
returns-clause-call g c =
    let before = after c.in_ok-geometry.ensures.call c.in_ok-named.ensures.call in elim c.if-named.branch [
      | then-named+in_ok-more w ↦ rw w.disk-is (w.in_ok-more.ensures.call.counts ∙ before.counts, w.in_ok-more.ensures.call.len ∙ before.len)
      | else-named w ↦ rw w.disk-is (before.counts, before.len)
    ]
