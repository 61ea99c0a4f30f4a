-- A place with two bytes shows that the word is another, and at the end of the loop all bytes were the same.
use Rattle.std.proofs.lemmas.Grind.{common_steps}
use Rattle.std.proofs.Common.{arith, sym, ◌∙◌}
use Rattle.std.proofs.lemmas.List.{take_all, take_more_same}
use Rattle.std.proofs.lemmas.Slice.Eq.{bytes_eq-Decides}
use Rattle.message.proofs.parsing.is_keyword.Goals as goal

pub loop-place-preserved : goal.loop-place-preserved
loop-place-preserved g c = take_more_same _ _ _ 0 (omega arith) (omega arith) c.loop-place.invariant (grind (arith, common_steps))

pub returns : goal.returns
returns g c =
    let all = c.loop-place.place in
    let same = sym (take_all all c.args.word.now (omega arith)) ∙ c.loop-place.invariant ∙ take_all all c.args.keyword.now (omega arith) in
    sym ((bytes_eq-Decides c.args.word.now c.args.keyword.now).1 same)
