-- The links are those of new `Links`: all slots on the first list.
use Rattle.std.proofs.Common.{ℕ, ◌≡◌, ◌<◌, ◌+◌, List, [], ◌∷◌, ◌∙◌, sym, subst, ap, slice_index, arith, length}
use Rattle.std.proofs.lemmas.List.{length-append}
use Rattle.arena.specs.Linked.{Linked, next_at_start, previous_at_start}
use Rattle.arena.proofs.ListsAtStart.{given-more, IsLinked-start, rings-start}
use Rattle.arena.proofs.Stored.{IsWellLinked-linked}
use Rattle.arena.proofs.links.Links.new.Goals as goal

pub loop-node-preserved : goal.loop-node-preserved
loop-node-preserved c =
    let rows = c.loop-node.invariant in
    let next = c.push_reserved.ensures in
    let previous = c.push_reserved-in-loop-node.ensures in record {
      next_long = ap length next.items ∙ omega (arith, rows.next_long, length-append c.loop-node.next.items (c.next_at_start.result ∷ []));
      previous_long = ap length previous.items ∙ omega (arith, rows.previous_long, length-append c.loop-node.previous.items (c.previous_at_start.result ∷ []));
      next_fits = omega (arith, next.capacity, rows.next_fits);
      previous_fits = omega (arith, previous.capacity, rows.previous_fits);
      next_is = subst (λ row. (a : ℕ) → a < c.loop-node.node + 1 → slice_index row a ≡ next_at_start c.args.slots a) (sym next.items)
          (given-more (next_at_start c.args.slots) c.loop-node.next.items c.next_at_start.result rows.next_long c.next_at_start.ensures rows.next_is);
      previous_is = subst (λ row. (a : ℕ) → a < c.loop-node.node + 1 → slice_index row a ≡ previous_at_start c.args.slots a) (sym previous.items)
          (given-more (previous_at_start c.args.slots) c.loop-node.previous.items c.previous_at_start.result rows.previous_long c.previous_at_start.ensures rows.previous_is);
    }

pub invariant_of-result : goal.invariant_of-result
invariant_of-result c =
    let rows = c.loop-node.invariant in record {
      as_long = omega arith;
      linked = IsLinked-start c.args.slots (length c.loop-node.next.items) (λ x. slice_index c.loop-node.next.items x)
          (λ x. slice_index c.loop-node.previous.items x) (omega arith)
          (λ a below. rows.next_is a (omega arith)) (λ a below. rows.previous_is a (omega arith)) c.args.others (omega arith);
    }

pub returns-clause-lists : goal.returns-clause-lists
returns-clause-lists c =
    let rows = c.loop-node.invariant in
    ap (λ (lists : List (List ℕ)). let made : Linked = record { slots = c.args.slots; lists = lists } in made)
    (rings-start c.args.slots (length c.loop-node.next.items) (λ x. slice_index c.loop-node.next.items x)
    (λ x. slice_index c.loop-node.previous.items x) (omega arith)
    (λ a below. rows.next_is a (omega arith)) (λ a below. rows.previous_is a (omega arith)) c.args.others (omega arith))

pub returns-clause-sound : goal.returns-clause-sound
returns-clause-sound c = IsWellLinked-linked _ _ _ _ (invariant_of-result c).linked
