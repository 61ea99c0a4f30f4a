-- The four writes are those of `KeepLists-unlinked`.
use Rattle.std.proofs.Common.{◌<◌, ℕ, List, ap, ◌∙◌}
use Rattle.std.specs.List.{concat}
use Rattle.arena.specs.Lists.{count_of}
use Rattle.arena.specs.Linked.{Linked}
use Rattle.arena.proofs.Counts.{count_of-without_all_same}
use Rattle.arena.proofs.Stored.{read_next, read_previous, IsWellLinked-linked}
use Rattle.arena.proofs.StoredUnlinking.{KeepLists-unlinked, lists-unlinked}
use Rattle.arena.proofs.links.Links.unlink.Goals as goal

pub invariant_of-self : goal.invariant_of-self
invariant_of-self c =
    let within : c.args.slot < c.self.inside.slots = rw (← c.self.view_is) at c.requires in
    KeepLists-unlinked c.self.inside.slots c.args.slot c.index-before.result.now c.index-after.result.now c.self.inside.next.items
    c.self.inside.previous.items c.self.invariant within
    (read_previous _ _ _ _ _ c.self.invariant within c.index-before.ensures)
    (read_next _ _ _ _ _ c.self.invariant within c.index-after.ensures)

pub returns-clause-lists : goal.returns-clause-lists
returns-clause-lists c =
    let within : c.args.slot < c.self.inside.slots = rw (← c.self.view_is) at c.requires in
    rw (← c.self.view_is) (ap (λ (lists : List (List ℕ)). let made : Linked = record { slots = c.self.inside.slots; lists = lists } in made)
    (lists-unlinked c.self.inside.slots c.args.slot c.index-before.result.now c.index-after.result.now c.self.inside.next.items
    c.self.inside.previous.items c.self.invariant within
    (read_previous _ _ _ _ _ c.self.invariant within c.index-before.ensures)
    (read_next _ _ _ _ _ c.self.invariant within c.index-after.ensures)))

pub returns-clause-alone : goal.returns-clause-alone
returns-clause-alone c = ap (λ (m : Linked). count_of c.args.slot (concat m.lists)) (returns-clause-lists c) ∙ count_of-without_all_same c.args.slot c.args.self.now.lists

pub returns-clause-sound : goal.returns-clause-sound
returns-clause-sound c = IsWellLinked-linked c.self.inside.slots _ _ _ (invariant_of-self c).linked
