-- The row of aggregates goes back into the root.
use borrow.Follows.Closed.{read_of}
use Rattle.std.proofs.Common.{◌≡◌, Some, sym, ap, ◌∙◌}
use Rattle.std.specs.Option.{ghost_name_of, option_copied_mut}
use Rattle.parcel.specs.Lends.{aggregate_of_tree, with_aggregate}
use Rattle.parcel.proofs.parts.standings.aggregate_mut.Goals as goal

pub returns : goal.returns
returns c =
    let a = c.args.a in
    let is : c.args.root.now ≡ Some c.in_ok-as_mut.field-0.now = sym c.as_mut.ensures.value ∙ ap option_copied_mut c.in_ok-as_mut.was in (
      λ i. read_of (ghost_name_of c.child_mut.result) (λ x. with_aggregate (sym is i) a (Some x)) (sym is i),
      record { writes_back = tt; value = c.child_mut.ensures.value ∙ ap (λ o. aggregate_of_tree o a) (sym is) },
    )
