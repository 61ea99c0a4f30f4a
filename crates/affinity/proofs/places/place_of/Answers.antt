-- The path at which a message in range belongs is one of the geometry.
use Rattle.std.proofs.Common.{◌∙◌, sym}
use Rattle.affinity.proofs.PlaceLemmas.{IsPath-path_of_kind}
use Rattle.affinity.proofs.places.place_of.Goals as goal

pub at-requires : goal.at-requires
at-requires c = rw c.place_by.ensures (IsPath-path_of_kind c.args.g.now c.args.k c.args.n (sym c.is_in_range.ensures ∙ c.if-not-is_in_range.false))
