-- A geometry's header has its eight numbers, so bytes that aren't the header of theirs are that of none.
use Rattle.std.proofs.Common.{ℕ, List, sym, ◌∙◌, subst}
use Rattle.affinity.specs.Limits.{AreInRange}
use Rattle.std.proofs.lemmas.Bool.{false≢true}
use Rattle.std.proofs.lemmas.Slice.Eq.{bytes_eq-Decides}
use Rattle.affinity.proofs.GeometryLemmas.{are_in_range}
use Rattle.recovery.proofs.Heads.{numbers_there, same_header}
use Rattle.recovery.proofs.header_and_root.geometry_in.Goals as goal

pub returns-in_default-clause-none : goal.returns-in_default-clause-none
returns-in_default-clause-none c = λ h is.
    let same = numbers_there h c.args.header.now c.read_u16_into.new.dst is (c.read_u16_into.auto.dst) c.read_u16_into.ensures in
    let ok = c.in_default.ensures.in_range.1 (subst (λ (l : List ℕ). AreInRange l) (sym same) (are_in_range h)) in
    cc

pub returns-else-eq-clause-none : goal.returns-else-eq-clause-none
returns-else-eq-clause-none c = λ h is.
    let same = numbers_there h c.args.header.now c.read_u16_into.new.dst is (c.read_u16_into.auto.dst) c.read_u16_into.ensures in
    let there = is ∙ same_header h c.in-Ok.g (sym same ∙ sym c.in-Ok.ensures.same_numbers) in
    false≢true (sym c.if-eq.false ∙ c.eq.ensures ∙ (bytes_eq-Decides c.args.header.now c.header_of.result).1 (there ∙ sym c.header_of.ensures))
