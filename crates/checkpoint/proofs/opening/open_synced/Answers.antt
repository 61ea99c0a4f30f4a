-- Header, memory, load and last point, one after the other: a refusal is one that the bytes show, and what a crash leaves
-- recovers to the same, or is refused alike.
use Rattle.std.proofs.Common.{◌≡◌, ◌≤◌, List, ℕ, length, sym, ◌∙◌, ap, subst, arith}
use Rattle.oplog.proofs.Results.{err_is}
use Rattle.affinity.specs.declared.geometry.Geometry.{Geometry}
use Rattle.recovery.specs.Header.{HasHeader}
use Rattle.recovery.specs.Recovery.{recovered_state}
use Rattle.recovery.specs.Refusals.{refused}
use Rattle.recovery.proofs.OneGeometry.{same_geometry}
use Rattle.recovery.proofs.Refusals.{behind_header, header_half}
use Rattle.recovery.proofs.Replays.{same_bytes}
use Rattle.checkpoint.specs.Costs.{finish_cost}
use Rattle.checkpoint.specs.declared.journal.Buffers.{Buffers}
use Rattle.checkpoint.specs.OpeningSteps.{IsMadeOf}
use Rattle.checkpoint.specs.Extents.{AreAllDirty}
use Rattle.checkpoint.proofs.Costs.{finish_few}
use Rattle.checkpoint.proofs.AreLoaded.{made, made_of}
use Rattle.checkpoint.proofs.OpeningCrashImages.{all_unwritten, alike_after, as_alike, as_before, as_still, still_after, still_now, still_synced, still_then, unread, unwritten_from, unwritten_then}
use Rattle.oplog.specs.Beyond.{KeepsBeyond}
use Rattle.device_map.specs.Layout.{device_size, layout_of}
use Rattle.oplog.specs.Log.{Log}
use Rattle.oplog.proofs.Beyond.{beyond_read, beyond_then}
use Rattle.parcel.specs.Tree.{TreeView, state_in}
use Rattle.meaning.specs.State.{IsState}
use Rattle.disk.specs.CrashImages.{CrashImagesAre}
use Rattle.checkpoint.specs.Opening.{RecoversAsBefore}
use Rattle.checkpoint.proofs.opening.open_synced.Given.{Over}
use Rattle.checkpoint.proofs.opening.open_synced.Goals.{After-checkpoint_recovered}
use Rattle.checkpoint.proofs.opening.open_synced.Goals as goal

headed : (g : Over) (c : After-checkpoint_recovered g) → g.D.Disk.keeps → HasHeader c.in_ok-parts.parts.tree.geometry (g.D.Disk.medium c.args.disk.now).now
headed g c k = subst (λ (h : Geometry). HasHeader h (g.D.Disk.medium c.args.disk.now).now) (sym c.in_ok-parts.ensures.geometry) (c.in_ok-g.ensures.header k)

moments : (g : Over) (c : After-checkpoint_recovered g) → g.D.Disk.keeps
    → CrashImagesAre (g.D.Disk.medium c.args.disk.now) (g.D.Disk.medium c.checkpoint_recovered.new.disk) (RecoversAsBefore (g.D.Disk.medium c.args.disk.now).now)
moments g c k =
    let only = c.read_header.ensures.call.untouched k in
    let fine = sym (ap (λ (l : List ℕ). refused c.in_ok-parts.parts.tree.geometry l) (same_bytes (g.D.Disk.medium c.args.disk.now) (g.D.Disk.medium c.read_header.new.disk) only)) ∙
    c.in_ok-load_in_order.ensures.sound k in
    as_still c.in_ok-parts.parts.tree.geometry _ _ (headed g c k) (rw c.in_ok-parts.ensures.geometry c.in_ok-g.ensures.long_enough) fine
    (still_after c.in_ok-parts.parts.tree.geometry _ (g.D.Disk.medium c.read_header.new.disk) _ (c.requires.synced k) only
    (still_then c.in_ok-parts.parts.tree.geometry _ (g.D.Disk.medium c.load_in_order.new.disk) _ (g.met.D.Disk.bytes c.load_in_order.new.disk) (c.load_in_order.ensures.any_moment k)
    (rw (← c.in_ok-load_in_order.ensures.geometry) (c.checkpoint_recovered.ensures.any_moment k))))

stays : (g : Over) (c : After-checkpoint_recovered g) → g.D.Disk.keeps → (h : Geometry) → HasHeader h (g.D.Disk.medium c.args.disk.now).now
    → KeepsBeyond (layout_of h) (g.D.Disk.medium c.args.disk.now) (g.D.Disk.medium c.checkpoint_recovered.new.disk)
stays g c k h head =
    let l = layout_of c.in_ok-parts.parts.tree.geometry in
    rw (← same_geometry c.in_ok-parts.parts.tree.geometry h (sym (headed g c k) ∙ head))
    (beyond_then l _ (g.D.Disk.medium c.read_header.new.disk) _ (beyond_read l _ _ (c.read_header.ensures.call.untouched k))
    (beyond_then l _ (g.D.Disk.medium c.load_in_order.new.disk) _ (c.load_in_order.ensures.beyond k)
    (rw (← c.in_ok-load_in_order.ensures.geometry) (c.checkpoint_recovered.ensures.beyond k))))

pub returns-in_err-g-clause-any_moment : goal.returns-in_err-g-clause-any_moment
returns-in_err-g-clause-any_moment g c = λ k. as_before _ _ (c.requires.synced k) (c.read_header.ensures.call.untouched k)

pub returns-in_err-g-clause-unwritten : goal.returns-in_err-g-clause-unwritten
returns-in_err-g-clause-unwritten g c =
    rw (err_is c.from_residual.ensures.1) (λ k.
    all_unwritten _ _ _ (unread _ _ (c.read_header.ensures.call.untouched k)) (λ h. header_half _ _ c.in_err-g.ensures.by_header))

pub returns-in_err-parts-clause-any_moment : goal.returns-in_err-parts-clause-any_moment
returns-in_err-parts-clause-any_moment g c = λ k. as_before _ _ (c.requires.synced k) (c.read_header.ensures.call.untouched k)

pub returns-in_err-parts-clause-unwritten : goal.returns-in_err-parts-clause-unwritten
returns-in_err-parts-clause-unwritten g c =
    rw (err_is c.from_residual-in_err-parts.ensures.1) (λ k.
    all_unwritten _ _ _ (unread _ _ (c.read_header.ensures.call.untouched k))
    (λ h. rw c.in_err-parts.ensures.fault tt))

pub returns-in_err-load_in_order-clause-any_moment : goal.returns-in_err-load_in_order-clause-any_moment
returns-in_err-load_in_order-clause-any_moment g c = λ k.
    let head = subst (λ (h : Geometry). HasHeader h (g.D.Disk.medium c.args.disk.now).now) (sym c.in_ok-parts.ensures.geometry) (c.in_ok-g.ensures.header k) in
    let fits = subst (λ (h : Geometry). device_size (layout_of h) ≤ length (g.D.Disk.medium c.args.disk.now).now) (sym c.in_ok-parts.ensures.geometry) c.in_ok-g.ensures.long_enough in
    as_alike c.in_ok-parts.parts.tree.geometry _ (g.D.Disk.medium c.load_in_order.new.disk) head fits
    (still_after c.in_ok-parts.parts.tree.geometry _ _ _ (c.requires.synced k) (c.read_header.ensures.call.untouched k) (c.load_in_order.ensures.any_moment k))
    (alike_after c.in_ok-parts.parts.tree.geometry _ _ _ head (c.requires.synced k) (c.read_header.ensures.call.untouched k) (c.load_in_order.ensures.alike k))

pub returns-in_err-load_in_order-clause-unwritten : goal.returns-in_err-load_in_order-clause-unwritten
returns-in_err-load_in_order-clause-unwritten g c =
    rw (err_is c.from_residual-in_err-load_in_order.ensures.1) (λ k.
    let w0 = g.D.Disk.medium c.args.disk.now in
    let w1 = g.D.Disk.medium c.read_header.new.disk in
    let w2 = g.D.Disk.medium c.load_in_order.new.disk in
    let only = c.read_header.ensures.call.untouched k in
    unwritten_from _ w0 w1 w2 (same_bytes w0 w1 only)
    (unwritten_then w0 w1 w2 (g.met.D.Disk.bytes c.args.disk.now) (still_synced w0 w1 only (c.requires.synced k)) (same_bytes w0 w1 only) (unread w0 w1 only).later)
    (c.in_err-load_in_order.ensures.unwritten k))

pub checkpoint_recovered-requires-clause-recovers : goal.checkpoint_recovered-requires-clause-recovers
checkpoint_recovered-requires-clause-recovers g c = λ k.
    let w1 = g.D.Disk.medium c.read_header.new.disk in
    let w2 = g.D.Disk.medium c.load_in_order.new.disk in
    let t = c.in_ok-parts.parts.tree.geometry in
    ap (λ (h : Geometry). recovered_state h w2.now) c.in_ok-load_in_order.ensures.geometry
    ∙ still_now t w1 w2 (g.met.D.Disk.bytes c.load_in_order.new.disk) (c.load_in_order.ensures.any_moment k) ∙ c.in_ok-load_in_order.ensures.was k

pub returns-in_err-checkpoint_recovered-clause-any_moment : goal.returns-in_err-checkpoint_recovered-clause-any_moment
returns-in_err-checkpoint_recovered-clause-any_moment g c = moments g (goal.at.returns-in_err-checkpoint_recovered-clause-any_moment g c).After-checkpoint_recovered

pub returns-clause-any_moment : goal.returns-clause-any_moment
returns-clause-any_moment g c = moments g (goal.at.returns-clause-any_moment g c).After-checkpoint_recovered

pub returns-clause-made : goal.returns-clause-made
returns-clause-made g c =
    made c.in_ok-parts.ensures.taken c.in_ok-load_in_order.ensures.geometry c.in_ok-load_in_order.ensures.buffers c.in_ok-load_in_order.ensures.loaded c.checkpoint_recovered.ensures.buffers
    c.checkpoint_recovered.ensures.tree c.in_ok-checkpoint_recovered.ensures.log c.checkpoint_recovered.ensures.call.1

pub returns-clause-made_of : goal.returns-clause-made_of
returns-clause-made_of g c = λ k.
    let w0 = g.D.Disk.medium c.args.disk.now in
    let w1 = g.D.Disk.medium c.read_header.new.disk in
    let w2 = g.D.Disk.medium c.load_in_order.new.disk in
    let w3 = g.D.Disk.medium c.checkpoint_recovered.new.disk in
    let t = c.in_ok-parts.parts.tree.geometry in
    let only = c.read_header.ensures.call.untouched k in
    let loaded = c.load_in_order.new.parts in
    let log : loaded.halves.geometry ≡ t = c.in_ok-load_in_order.ensures.geometry in
    let geometry : loaded.tree.geometry ≡ t = c.in_ok-load_in_order.ensures.loaded.geometry ∙ log in
    let head = subst (λ (h : Geometry). HasHeader h w0.now) (sym (geometry ∙ c.in_ok-parts.ensures.geometry)) (c.in_ok-g.ensures.header k) in
    let fine = ap (λ (h : Geometry). refused h w0.now) geometry ∙ sym (ap (λ (l : List ℕ). refused t l) (same_bytes w0 w1 only)) ∙ c.in_ok-load_in_order.ensures.sound k in
    let was = ap (λ (h : Geometry). recovered_state h w0.now) geometry ∙ sym (ap (λ (l : List ℕ). recovered_state t l) (same_bytes w0 w1 only)) ∙ c.in_ok-load_in_order.ensures.was k in
    let held = ap (λ (h : Geometry). recovered_state h w2.now) log
    ∙ still_now t w1 w2 (g.met.D.Disk.bytes c.load_in_order.new.disk) (c.load_in_order.ensures.any_moment k) ∙ c.in_ok-load_in_order.ensures.was k in
    let is_state = subst (λ (h : Geometry). IsState h (state_in loaded.tree)) c.in_ok-load_in_order.ensures.loaded.geometry c.in_ok-load_in_order.ensures.loaded.tree.state in
    let all = subst (λ (b : Buffers). AreAllDirty loaded.halves.geometry b.other_dirty.items) (sym c.checkpoint_recovered.ensures.buffers.flags) c.in_ok-load_in_order.ensures.loaded.all in
    subst (λ (tree : TreeView). IsMadeOf w0.now (record c.checkpoint_recovered.new.parts { tree = tree }) w3) (sym c.checkpoint_recovered.ensures.tree)
    (made_of (g.met.D.Disk.bytes c.checkpoint_recovered.new.disk) (record { header = head; accepted = fine; was = was }) c.in_ok-checkpoint_recovered.ensures.log
    c.in_ok-load_in_order.ensures.loaded.geometry c.checkpoint_recovered.ensures.snapshot all
    (record { alone = c.in_ok-load_in_order.ensures.alone k; is = held; state = is_state }) (c.in_ok-checkpoint_recovered.ensures.pointed k))

pub returns-in_err-g-clause-memory : goal.returns-in_err-g-clause-memory
returns-in_err-g-clause-memory g c =
    rw (err_is c.from_residual.ensures.1) (λ is. absurd (c.in_err-g.ensures.call.never_out_of_memory is))

pub returns-in_err-parts-clause-memory : goal.returns-in_err-parts-clause-memory
returns-in_err-parts-clause-memory g c =
    behind_header _ g.D.Disk.keeps (g.D.Disk.medium c.args.disk.now).now (λ k. record { geometry = c.in_ok-g.g; header = c.in_ok-g.ensures.header k; parts = c.in_ok-g.ensures.long_enough })

pub returns-in_err-load_in_order-clause-memory : goal.returns-in_err-load_in_order-clause-memory
returns-in_err-load_in_order-clause-memory g c =
    behind_header _ g.D.Disk.keeps (g.D.Disk.medium c.args.disk.now).now (λ k. record { geometry = c.in_ok-g.g; header = c.in_ok-g.ensures.header k; parts = c.in_ok-g.ensures.long_enough })

pub returns-in_err-checkpoint_recovered-clause-memory : goal.returns-in_err-checkpoint_recovered-clause-memory
returns-in_err-checkpoint_recovered-clause-memory g c =
    behind_header _ g.D.Disk.keeps (g.D.Disk.medium c.args.disk.now).now (λ k. record { geometry = c.in_ok-g.g; header = c.in_ok-g.ensures.header k; parts = c.in_ok-g.ensures.long_enough })

pub returns-in_err-g-clause-synced : goal.returns-in_err-g-clause-synced
returns-in_err-g-clause-synced g c =
    rw (err_is c.from_residual.ensures.1) (λ other k.
    still_synced (g.D.Disk.medium c.args.disk.now) (g.D.Disk.medium c.read_header.new.disk) (c.read_header.ensures.call.untouched k) (c.requires.synced k))

pub returns-in_err-parts-clause-synced : goal.returns-in_err-parts-clause-synced
returns-in_err-parts-clause-synced g c =
    rw (err_is c.from_residual-in_err-parts.ensures.1) (λ other k.
    still_synced (g.D.Disk.medium c.args.disk.now) (g.D.Disk.medium c.read_header.new.disk) (c.read_header.ensures.call.untouched k) (c.requires.synced k))

pub returns-in_err-checkpoint_recovered-clause-synced : goal.returns-in_err-checkpoint_recovered-clause-synced
returns-in_err-checkpoint_recovered-clause-synced g c =
    rw (err_is c.from_residual-in_err-checkpoint_recovered.ensures.1) (λ other k. absurd (other c.in_err-checkpoint_recovered.ensures.device))

pub returns-in_err-g-clause-beyond : goal.returns-in_err-g-clause-beyond
returns-in_err-g-clause-beyond g c = λ k h head. beyond_read (layout_of h) _ _ (c.read_header.ensures.call.untouched k)

pub returns-in_err-parts-clause-beyond : goal.returns-in_err-parts-clause-beyond
returns-in_err-parts-clause-beyond g c = λ k h head. beyond_read (layout_of h) _ _ (c.read_header.ensures.call.untouched k)

pub returns-in_err-load_in_order-clause-beyond : goal.returns-in_err-load_in_order-clause-beyond
returns-in_err-load_in_order-clause-beyond g c = λ k h head.
    let own = subst (λ (h : Geometry). HasHeader h (g.D.Disk.medium c.args.disk.now).now) (sym c.in_ok-parts.ensures.geometry) (c.in_ok-g.ensures.header k) in
    rw (← same_geometry c.in_ok-parts.parts.tree.geometry h (sym own ∙ head))
    (beyond_then (layout_of c.in_ok-parts.parts.tree.geometry) _ (g.D.Disk.medium c.read_header.new.disk) _
    (beyond_read (layout_of c.in_ok-parts.parts.tree.geometry) _ _ (c.read_header.ensures.call.untouched k)) (c.load_in_order.ensures.beyond k))

pub returns-in_err-checkpoint_recovered-clause-beyond : goal.returns-in_err-checkpoint_recovered-clause-beyond
returns-in_err-checkpoint_recovered-clause-beyond g c = stays g (goal.at.returns-in_err-checkpoint_recovered-clause-beyond g c).After-checkpoint_recovered

pub returns-clause-beyond : goal.returns-clause-beyond
returns-clause-beyond g c = stays g (goal.at.returns-clause-beyond g c).After-checkpoint_recovered

pub returns-in_err-g-clause-costs : goal.returns-in_err-g-clause-costs
returns-in_err-g-clause-costs g c =
    rw (err_is c.from_residual.ensures.1) (λ k. omega (arith, ap length (c.read_header.ensures.call.untouched k)))

pub returns-in_err-parts-clause-costs : goal.returns-in_err-parts-clause-costs
returns-in_err-parts-clause-costs g c =
    rw (err_is c.from_residual-in_err-parts.ensures.1) (λ k. omega (arith, ap length (c.read_header.ensures.call.untouched k)))

pub returns-in_err-load_in_order-clause-costs : goal.returns-in_err-load_in_order-clause-costs
returns-in_err-load_in_order-clause-costs g c =
    rw (err_is c.from_residual-in_err-load_in_order.ensures.1) (λ k.
    let few = finish_few c.in_ok-parts.parts.tree.geometry (g.D.Disk.medium c.read_header.new.disk).now in
    omega (arith, ap length (c.read_header.ensures.call.untouched k), few, c.in_err-load_in_order.ensures.costs k))

pub returns-in_err-checkpoint_recovered-clause-costs : goal.returns-in_err-checkpoint_recovered-clause-costs
returns-in_err-checkpoint_recovered-clause-costs g c =
    rw (err_is c.from_residual-in_err-checkpoint_recovered.ensures.1) (λ k.
    let few = finish_few c.in_ok-parts.parts.tree.geometry (g.D.Disk.medium c.read_header.new.disk).now in
    omega (arith, ap length (c.read_header.ensures.call.untouched k), few, c.in_ok-load_in_order.ensures.costs k, c.in_err-checkpoint_recovered.ensures.costs k))

pub returns-clause-costs : goal.returns-clause-costs
returns-clause-costs g c = λ k.
    let w0 = g.D.Disk.medium c.args.disk.now in
    let w1 = g.D.Disk.medium c.read_header.new.disk in
    let only = c.read_header.ensures.call.untouched k in
    let geometry = ap (λ (l : Log). l.geometry) c.in_ok-checkpoint_recovered.ensures.log ∙ c.in_ok-load_in_order.ensures.geometry in
    let is : finish_cost c.in_ok-parts.parts.tree.geometry w1.now ≡ finish_cost c.checkpoint_recovered.new.parts.halves.geometry w0.now = λ i. finish_cost (sym geometry i) (same_bytes w0 w1 only i) in
    omega (arith, ap length only, is, c.in_ok-load_in_order.ensures.costs k, c.in_ok-checkpoint_recovered.ensures.costs k)

pub returns-in_err-load_in_order-clause-synced : goal.returns-in_err-load_in_order-clause-synced
returns-in_err-load_in_order-clause-synced g c =
    rw (err_is c.from_residual-in_err-load_in_order.ensures.1) (λ other k. c.in_err-load_in_order.ensures.synced other k)
