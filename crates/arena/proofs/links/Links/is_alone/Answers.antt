-- A slot is its own neighbor exactly where it is on no list.
use Rattle.std.proofs.Common.{◌<◌, sym, ◌∙◌, eq-eqb, eqb-true}
use Rattle.arena.proofs.Stored.{read_next}
use Rattle.arena.proofs.Alone.{count_of-alone, alone-from_times}
use Rattle.arena.proofs.links.Links.is_alone.Goals as goal

pub returns : goal.returns
returns c =
    let within : c.args.slot < c.self.inside.slots = rw (← c.self.view_is) at c.requires in
    let found = read_next _ _ _ _ _ c.self.invariant within c.index.ensures in
    rw (← c.self.view_is) (
      (λ same. count_of-alone _ _ _ _ _ c.self.invariant.linked within (sym found ∙ eqb-true _ _ same)),
      (λ none. eq-eqb _ _ (found ∙ alone-from_times _ _ _ _ c.self.invariant.linked _ within none)),
    )
