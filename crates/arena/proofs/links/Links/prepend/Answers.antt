-- The four writes are those of `KeepLists-prepended`.
use Rattle.std.proofs.Common.{◌+◌, ◌<◌, ℕ, List, ap, arith, length}
use Rattle.arena.specs.Linked.{Linked, stored}
use Rattle.arena.proofs.Stored.{may_add, read_end, end-below, end-there, IsWellLinked-linked}
use Rattle.arena.proofs.StoredPrepending.{KeepLists-prepended, lists-prepended}
use Rattle.arena.proofs.links.Links.prepend.Goals as goal

pub overflow_add-end : goal.overflow_add-end
overflow_add-end c =
    omega (arith, end-there _ _ _ _ _ c.self.view_is c.self.invariant c.requires.list_is_there)

pub index-after-requires : goal.index-after-requires
index-after-requires c =
    omega (arith, end-there _ _ _ _ _ c.self.view_is c.self.invariant c.requires.list_is_there)

pub index_mut-requires : goal.index_mut-requires
index_mut-requires c =
    omega (arith, end-there _ _ _ _ _ c.self.view_is c.self.invariant c.requires.list_is_there)

pub index_mut-requires-4 : goal.index_mut-requires-4
index_mut-requires-4 c =
    let list_within : c.args.list < length (stored c.self.inside.slots c.self.inside.next.items).lists = rw (← c.self.view_is) at c.requires.list_is_there in
    let end_below = end-below _ _ _ _ c.self.invariant list_within in
    let after_is = read_end _ _ _ _ _ c.self.invariant list_within c.index-after.ensures in
    omega (arith, c.self.invariant.linked.next_below (c.self.inside.slots + c.args.list) end_below)

pub invariant_of-self : goal.invariant_of-self
invariant_of-self c =
    let may = may_add c.self.view_is c.requires.slot_is_there c.requires.list_is_there c.requires.alone in
    KeepLists-prepended _ _ _ _ _ _ c.self.invariant may (read_end _ _ _ _ _ c.self.invariant may.list_is_there c.index-after.ensures)

pub returns-clause-lists : goal.returns-clause-lists
returns-clause-lists c =
    let may = may_add c.self.view_is c.requires.slot_is_there c.requires.list_is_there c.requires.alone in
    rw (← c.self.view_is) (ap (λ (lists : List (List ℕ)). let made : Linked = record { slots = c.self.inside.slots; lists = lists } in made)
    (lists-prepended _ _ _ _ _ _ c.self.invariant may (read_end _ _ _ _ _ c.self.invariant may.list_is_there c.index-after.ensures)))

pub returns-clause-sound : goal.returns-clause-sound
returns-clause-sound c = IsWellLinked-linked c.self.inside.slots _ _ _ (invariant_of-self c).linked
