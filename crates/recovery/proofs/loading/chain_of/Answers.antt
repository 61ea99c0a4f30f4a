-- The chain is sound where one of the two chain bytes isn't 1, and is refused where both are.
use Rattle.std.proofs.Common.{◌==◌, Bool, None, sym, ◌∙◌, ap, arith}
use Rattle.recovery.specs.declared.fault.OpenFault.TheVariants.{BadChain}
use Rattle.recovery.specs.Refusals.{fault_if}
use Rattle.oplog.specs.HalfContent.{chain}
use Rattle.device_map.specs.Layout.{layout_of, other}
use Rattle.recovery.proofs.ReadingCalls.{unwritten}
use Rattle.recovery.proofs.Refusals.{both_are, one_not}
use Rattle.recovery.proofs.loading.chain_of.Goals as goal

pub returns-then-not-named_chained-clause-sound : goal.returns-then-not-named_chained-clause-sound
returns-then-not-named_chained-clause-sound g c = λ k.
    one_not (layout_of c.args.g.now) (g.D.Disk.medium c.args.disk.now).now c.args.area c.requires.area (sym (c.in_ok-named_chained.ensures.chained k) ∙ c.if-not-named_chained.true)

pub returns-then-other_chained-clause-refused : goal.returns-then-other_chained-clause-refused
returns-then-other_chained-clause-refused g c = λ k.
    let same = unwritten c.is_chained.ensures.call k in
    ap (λ (t : Bool). fault_if t BadChain None)
    (both_are (layout_of c.args.g.now) (g.D.Disk.medium c.args.disk.now).now c.args.area c.requires.area (sym (c.in_ok-named_chained.ensures.chained k) ∙ c.if-not-named_chained.false)
    (sym (λ i. chain (layout_of c.args.g.now) (c.other.ensures i) (same i) == 1) ∙ sym (c.in_ok-other_chained.ensures.chained k) ∙ c.if-other_chained.true))

pub returns-clause-sound : goal.returns-clause-sound
returns-clause-sound g c = λ k.
    let same = unwritten c.is_chained.ensures.call k in
    one_not (layout_of c.args.g.now) (g.D.Disk.medium c.args.disk.now).now (other c.args.area) (omega (arith, c.requires.area))
    (sym (λ i. chain (layout_of c.args.g.now) (c.other.ensures i) (same i) == 1) ∙ sym (c.in_ok-other_chained.ensures.chained k) ∙ c.if-other_chained.false)
