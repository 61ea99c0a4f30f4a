-- The two calls of `contains` give the two sides of `||` in clause `intervals`; clause `paths` follows by `are_related-contains`.
use Rattle.std.proofs.Common.{arith, ◌∙◌, sym, ap}
use Rattle.std.proofs.lemmas.Grind.{common_steps}
use Rattle.std.specs.Prelude.{◌||◌}
use Rattle.affinity.specs.Interval.{contains}
use Rattle.affinity.proofs.Preorder.{are_related-contains}
use Rattle.affinity.proofs.affinities.related.Goals as goal

pub returns-then-contains-clause-intervals : goal.returns-then-contains-clause-intervals
returns-then-contains-clause-intervals c =
    c.if-contains.true ∙ ap (λ r. r || contains c.args.b c.args.a.number) (sym c.if-contains.true ∙ c.contains.ensures)

pub returns-then-contains-clause-paths : goal.returns-then-contains-clause-paths
returns-then-contains-clause-paths c = λ g p q h k. returns-then-contains-clause-intervals c ∙ are_related-contains g p q _ _ h k

pub returns-else-contains-clause-intervals : goal.returns-else-contains-clause-intervals
returns-else-contains-clause-intervals c = grind (arith, common_steps)

pub returns-else-contains-clause-paths : goal.returns-else-contains-clause-paths
returns-else-contains-clause-paths c = λ g p q h k. returns-else-contains-clause-intervals c ∙ are_related-contains g p q _ _ h k
