-- A bad head is refused before the first bad piece, which is refused where the head is good.
use Rattle.std.proofs.Common.{◌≤◌, ℕ, Bool, not, List, length, None, Option, sym, ◌∙◌, ap, subst}
use Rattle.oplog.proofs.Results.{err_is}
use Rattle.affinity.specs.declared.geometry.Geometry.{Geometry}
use Rattle.recovery.specs.declared.fault.OpenFault.TheVariants.{BadPiece, BadVersion}
use Rattle.recovery.specs.Refusals.{fault_if, fault_or_later, first_bad_piece}
use Rattle.image.specs.Image.{has_head, image_state, version_in}
use Rattle.device_map.specs.Layout.{device_size, image_part, layout_of, part_bytes}
use Rattle.recovery.proofs.ReadingCalls.{after, passed_on, returned, unwritten}
use Rattle.recovery.proofs.Refusals.{head_refused, pieces_refused}
use Rattle.recovery.proofs.loading.read_image.Goals as goal

pub returns-in_err-version-clause-refused : goal.returns-in_err-version-clause-refused
returns-in_err-version-clause-refused g c =
    rw (err_is c.from_residual.ensures.1) (λ k.
    let now = (g.D.Disk.medium c.args.disk.now).now in
    head_refused c.args.tree.now.geometry (part_bytes (layout_of c.args.tree.now.geometry) (image_part c.args.area) now) _
    (rw (← c.geometry.ensures) (c.in_err-version.ensures.refused k)))

pub returns-in_err-read_pieces-clause-refused : goal.returns-in_err-read_pieces-clause-refused
returns-in_err-read_pieces-clause-refused g c =
    rw (err_is c.from_residual-in_err-read_pieces.ensures.1) (λ k.
    let now = (g.D.Disk.medium c.args.disk.now).now in
    let same = unwritten c.version_of.ensures.call k in
    pieces_refused c.args.tree.now.geometry (part_bytes (layout_of c.args.tree.now.geometry) (image_part c.args.area) now)
    (sym (ap (λ (h : Geometry). has_head (part_bytes (layout_of h) (image_part c.args.area) now)) c.geometry.ensures) ∙ c.in_ok-version.ensures.head k) _
    (rw (← same) (c.in_err-read_pieces.ensures.refused k)))

pub version_of-requires-clause-long_enough : goal.version_of-requires-clause-long_enough
version_of-requires-clause-long_enough g c =
    subst (λ (h : Geometry). device_size (layout_of h) ≤ length (g.D.Disk.medium c.args.disk.now).now) (sym c.geometry.ensures) c.requires.long_enough

pub returns-in_err-version-clause-call : goal.returns-in_err-version-clause-call
returns-in_err-version-clause-call g c = rw (err_is c.from_residual.ensures.1) (passed_on c.in_err-version.ensures.call)

pub read_pieces-requires-clause-version : goal.read_pieces-requires-clause-version
read_pieces-requires-clause-version g c = λ k.
    let same = unwritten c.version_of.ensures.call k in
    c.in_ok-version.ensures.version k ∙ (λ i. version_in (part_bytes (layout_of (c.geometry.ensures i)) (image_part c.args.area) (sym same i)))

pub read_pieces-requires-clause-head : goal.read_pieces-requires-clause-head
read_pieces-requires-clause-head g c = λ k.
    let same = unwritten c.version_of.ensures.call k in
    sym (λ i. has_head (part_bytes (layout_of (c.geometry.ensures i)) (image_part c.args.area) (sym same i))) ∙ c.in_ok-version.ensures.head k

pub read_pieces-requires-clause-long_enough : goal.read_pieces-requires-clause-long_enough
read_pieces-requires-clause-long_enough g c =
    subst (λ (n : ℕ). device_size (layout_of c.args.tree.now.geometry) ≤ n) (sym c.version_of.ensures.call.len) c.requires.long_enough

pub returns-in_err-read_pieces-clause-call : goal.returns-in_err-read_pieces-clause-call
returns-in_err-read_pieces-clause-call g c =
    rw (err_is c.from_residual-in_err-read_pieces.ensures.1) (passed_on (after c.in_ok-version.ensures.call c.in_err-read_pieces.ensures.call))

pub returns-clause-version : goal.returns-clause-version
returns-clause-version g c = λ k.
    c.in_ok-version.ensures.version k
    ∙ ap (λ (h : Geometry). version_in (part_bytes (layout_of h) (image_part c.args.area) (g.D.Disk.medium c.args.disk.now).now)) c.geometry.ensures

pub returns-clause-read : goal.returns-clause-read
returns-clause-read g c = λ k.
    let same = unwritten c.version_of.ensures.call k in
    sym (ap (λ (l : List ℕ). image_state c.args.tree.now.geometry (part_bytes (layout_of c.args.tree.now.geometry) (image_part c.args.area) l)) same)
    ∙ c.in_ok-read_pieces.ensures.read k

pub returns-clause-sound : goal.returns-clause-sound
returns-clause-sound g c = λ k.
    let geometry = c.args.tree.now.geometry in
    let now = (g.D.Disk.medium c.args.disk.now).now in
    let same = unwritten c.version_of.ensures.call k in
    ap (λ (t : Bool). fault_if (not t) BadVersion (fault_or_later BadPiece (first_bad_piece geometry (part_bytes (layout_of geometry) (image_part c.args.area) now)) None))
    (sym (ap (λ (h : Geometry). has_head (part_bytes (layout_of h) (image_part c.args.area) now)) c.geometry.ensures) ∙ c.in_ok-version.ensures.head k)
    ∙ ap (λ (o : Option ℕ). fault_or_later BadPiece o None)
    (sym (ap (λ (l : List ℕ). first_bad_piece geometry (part_bytes (layout_of geometry) (image_part c.args.area) l)) same) ∙ c.in_ok-read_pieces.ensures.good k)

pub returns-clause-call : goal.returns-clause-call
returns-clause-call g c = returned (after c.in_ok-version.ensures.call c.in_ok-read_pieces.ensures.call)
