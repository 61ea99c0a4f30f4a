-- The head is the first 64 bytes of the image, so the version and the refusal are the image's.
use Rattle.std.proofs.Common.{Bool, not, None, sym, ◌∙◌, ap, arith}
use Rattle.image.specs.Image.{has_head, version_in}
use Rattle.device_map.specs.Layout.{image_part, layout_of, part_bytes}
use Rattle.oplog.proofs.PartLemmas.{image_sized, part_inside}
use Rattle.recovery.specs.declared.fault.OpenFault.TheVariants.{BadVersion}
use Rattle.recovery.specs.Refusals.{fault_if}
use Rattle.recovery.proofs.Heads.{has_head_first, head_there, version_first}
use Rattle.recovery.proofs.LaidOut.{image_some}
use Rattle.recovery.proofs.device_reads.version_of.Goals as goal

pub read_bytes-requires : goal.read_bytes-requires
read_bytes-requires g c =
    let l = layout_of c.args.g.now in
    omega (arith, part_inside l (image_part c.args.number), image_sized l c.args.number c.requires.number, image_some c.args.g.now)

pub returns-then-not-has_head-clause-refused : goal.returns-then-not-has_head-clause-refused
returns-then-not-has_head-clause-refused g c = λ k.
    let now = (g.D.Disk.medium c.args.disk.now).now in
    let there = head_there c.args.g.now c.args.number c.image_at.result now c.read_bytes.new.out c.requires.number c.image_at.ensures (c.in_ok-read_bytes.ensures.bytes k) in
    ap (λ (b : Bool). fault_if (not b) BadVersion None)
    (sym (ap has_head there ∙ has_head_first (part_bytes (layout_of c.args.g.now) (image_part c.args.number) now)) ∙ sym c.has_head.ensures ∙ c.if-not-has_head.true)

pub returns-clause-version : goal.returns-clause-version
returns-clause-version g c = λ k.
    ap version_in (head_there c.args.g.now c.args.number c.image_at.result _ c.read_bytes.new.out c.requires.number c.image_at.ensures (c.in_ok-read_bytes.ensures.bytes k))
    ∙ version_first (part_bytes (layout_of c.args.g.now) (image_part c.args.number) (g.D.Disk.medium c.args.disk.now).now)

pub returns-clause-head : goal.returns-clause-head
returns-clause-head g c = λ k.
    let now = (g.D.Disk.medium c.args.disk.now).now in
    let there = head_there c.args.g.now c.args.number c.image_at.result now c.read_bytes.new.out c.requires.number c.image_at.ensures (c.in_ok-read_bytes.ensures.bytes k) in
    sym (ap has_head there ∙ has_head_first (part_bytes (layout_of c.args.g.now) (image_part c.args.number) now)) ∙ sym c.has_head.ensures ∙ c.if-not-has_head.false
