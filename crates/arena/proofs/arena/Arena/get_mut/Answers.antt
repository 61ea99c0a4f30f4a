-- The slot holds its value, which is lent. What is written back as it was changes nothing.
use borrow.Follows.Closed.{read_of}
use Rattle.std.proofs.Common.{slice_set, sym, ap, subst, ◌∙◌, List, Option, None, Some}
use Rattle.std.proofs.lemmas.List.{get_or_default, set-get_or, length-set}
use Rattle.std.specs.Option.{ghost_name_of}
use Rattle.arena.specs.ArenaView.{ArenaView, IsPartitioned, value_at, with_value}
use Rattle.arena.specs.ArenaRule.{ArenaRule, arena_view_of}
use Rattle.arena.proofs.IsPartitioned.{held-not_free, held-within, partitioned-restore}
use Rattle.arena.proofs.arena.Arena.get_mut.Goals as goal

pub invariant_of-self-lent : goal.invariant_of-self-lent
invariant_of-self-lent g c _ =
    let values = c.self.inside.values.items in
    let links = c.self.inside.links in
    let i = c.args.i in
    let own = c.self.invariant in
    let held = sym c.holds.ensures.answer ∙ c.if-not-holds.false in
    let same = ap (slice_set values i) c.index_mut.ensures.value ∙ set-get_or values i c.index_mut.result.now in (
      λ w. record {
        slots = own.slots ∙ sym (length-set values i (Some w));
        has_free = own.has_free;
        counted = own.counted;
        partitioned = partitioned-restore (arena_view_of values links) i w own.partitioned (held-within values i held)
            (held-not_free (arena_view_of values links) own.partitioned i held);
      },
      subst (λ row. ArenaRule row links c.self.inside.free) (sym same) own,
    )

pub returns : goal.returns
returns g c =
    let values = c.self.inside.values.items in
    let i = c.args.i in
    let at = λ (row : List (Option g.row.T.Denot)). arena_view_of row c.self.inside.links in
    let lent = λ (m end : ArenaView g.row.T.Denot). read_of (ghost_name_of c.as_mut.result) (λ w. with_value m i w) end in
    let kept : IsPartitioned c.args.self.now = subst (λ m. IsPartitioned m) c.self.view_is c.holds.ensures.partitioned in
    let was = get_or_default values i c.index_mut.result.now None (held-within values i (sym c.holds.ensures.answer ∙ c.if-not-holds.false)) in (
      ap (λ row. lent (at values) (at row)) (ap (slice_set values i) c.index_mut.ensures.value ∙ set-get_or values i c.index_mut.result.now)
          ∙ ap (λ m. lent m m) c.self.view_is,
      record {
        writes_back = tt;
        partitioned = kept;
        stays_partitioned = λ held value. partitioned-restore c.args.self.now i value kept (held-within c.args.self.now.values i held) (held-not_free c.args.self.now kept i held);
        value = c.as_mut.ensures.value ∙ c.index_mut.ensures.value ∙ was ∙ ap (λ m. value_at m i) c.self.view_is;
      },
    )
