-- The node behind a slot is a slot of its list, unless it is an end or the slot itself.
use Rattle.std.proofs.Common.{◌≡◌, ◌≢◌, ◌<◌, ap, sym, ◌∙◌, slice_index, arith}
use Rattle.std.proofs.lemmas.Bool.Decides.{nat_tests}
use Rattle.arena.proofs.Stored.{read_next}
use Rattle.arena.proofs.Behind.{slot_or_none, slot_or_none-slot, slot_or_none-end, behind_in-linked, behind_in-alone}
use Rattle.arena.proofs.links.Links.behind.Goals as goal
use Rattle.arena.proofs.links.Links.behind.Goals.{else-behind-self-via-then-behind-self+else-behind-slot, else-behind-self-via-else-behind-self}

pub returns-then-behind-slot : goal.returns-then-behind-slot
returns-then-behind-slot c =
    let within : c.args.slot < c.self.inside.slots = rw (← c.self.view_is) at c.requires in
    let found = read_next _ _ _ _ _ c.self.invariant within c.index-behind.ensures in
    rw (← c.self.view_is) (sym (behind_in-linked _ _ _ _ c.self.invariant.linked _ within (λ loop. absurd (grind (arith, nat_tests)))
    ∙ ap (slot_or_none c.self.inside.slots) (sym found) ∙ slot_or_none-slot _ _ (omega arith)))

pub returns-else-behind-self : goal.returns-else-behind-self
returns-else-behind-self c =
    let within : c.args.slot < c.self.inside.slots = rw (← c.self.view_is) at c.requires in
    let found = read_next _ _ _ _ _ c.self.invariant within c.index-behind.ensures in
    elim c.else-behind-self.branch [
      | else-behind-self-via-then-behind-self+else-behind-slot w ↦
          (let loop : slice_index c.self.inside.next.items c.args.slot ≡ c.args.slot = grind (arith, nat_tests) in
          rw (← c.self.view_is) (sym (behind_in-alone _ _ _ _ c.self.invariant.linked _ within loop)))
      | else-behind-self-via-else-behind-self w ↦
          (let moves : slice_index c.self.inside.next.items c.args.slot ≢ c.args.slot = (λ loop. absurd (omega arith)) in
          rw (← c.self.view_is) (sym (behind_in-linked _ _ _ _ c.self.invariant.linked _ within moves
          ∙ ap (slot_or_none c.self.inside.slots) (sym found) ∙ slot_or_none-end _ _ (omega arith))))
    ]
