-- A message whose numbers are in range belongs at a path of the geometry.
use Rattle.std.proofs.Common.{arith, ◌≡◌, ℕ, ◌<◌, Bool, true, ◌&&◌, nat_lt, [], ◌∷◌}
use Rattle.std.proofs.lemmas.Grind.{common_steps}
use Rattle.std.proofs.lemmas.Nat.{mod_below}
use Rattle.std.specs.Prelude.{List}
use Rattle.affinity.specs.Geometry.{stripe_of}
use Rattle.affinity.specs.Path.{IsPath}
use Rattle.affinity.specs.Place.{is_in_range, path_of_kind, path_of_numbers}
use Rattle.affinity.specs.declared.kinds.Kind.{Kind}
use Rattle.affinity.specs.declared.kinds.Kind.TheVariants.{MakeVol, DropVol, Write, Punch, Read, Summary}
use Rattle.affinity.specs.declared.geometry.Geometry.{Geometry}

-- the number of a block's stripe is below the number of stripes
pub group_below : (g : Geometry) (f b : ℕ) → stripe_of g f b < g.stripes
group_below g f b = mod_below _ g.stripes g.stripes_range.0

volume_in_range : (g : Geometry) (a v : ℕ) (rest : Bool) → (nat_lt a g.aggregates && (nat_lt v g.volumes && rest)) ≡ true → (a < g.aggregates) × (v < g.volumes)
volume_in_range g a v rest h = grind (arith, common_steps)

IsPath-path_of_numbers : (g : Geometry) (k : Kind) (a v f b : ℕ) → is_in_range g k (a ∷ v ∷ f ∷ b ∷ []) ≡ true → IsPath g (path_of_numbers g k a v f b)
IsPath-path_of_numbers g MakeVol a v f b h = (volume_in_range g a v _ h).0
IsPath-path_of_numbers g DropVol a v f b h = (volume_in_range g a v _ h).0
IsPath-path_of_numbers g Write a v f b h = let there = volume_in_range g a v _ h in (there.0, there.1, group_below g f b)
IsPath-path_of_numbers g Punch a v f b h = let there = volume_in_range g a v _ h in (there.0, there.1, group_below g f b)
IsPath-path_of_numbers g Read a v f b h = let there = volume_in_range g a v _ h in (there.0, there.1, group_below g f b)
IsPath-path_of_numbers g Summary a v f b h = tt
IsPath-path_of_numbers g _ a v f b h = volume_in_range g a v _ h

pub IsPath-path_of_kind : (g : Geometry) (k : Kind) (n : List ℕ) → is_in_range g k n ≡ true → IsPath g (path_of_kind g k n)
IsPath-path_of_kind g k (a ∷ v ∷ f ∷ b ∷ []) h = IsPath-path_of_numbers g k a v f b h
IsPath-path_of_kind g k _ h = tt
