-- Each branch finds the path that has the affinity's number.
use Rattle.std.proofs.Common.{◌∙◌, ap}
use Rattle.affinity.proofs.Preorder.{found, path_at-in_aggregate, path_at-in_volume, in_aggregate_at-self, in_volume_at-self, in_volume_at-logical, in_volume_at-stripe, in_volume_at-label}
use Rattle.affinity.proofs.affinities.Affinity.place.Goals as goal

pub returns-then-in_aggregate-eq0 : goal.returns-then-in_aggregate-eq0
returns-then-in_aggregate-eq0 c =
    found _ c.self.inside.number _ _ c.requires (ap (λ i. i.number) c.self.view_is)
    (path_at-in_aggregate _ _ _ c.if-self-eq0.false c.aggregate_size-size.ensures.value ∙ in_aggregate_at-self _ _ _ c.if-in_aggregate-eq0.true)

pub returns-then-in_volume-eq0 : goal.returns-then-in_volume-eq0
returns-then-in_volume-eq0 c =
    found _ c.self.inside.number _ _ c.requires (ap (λ i. i.number) c.self.view_is)
    (path_at-in_volume _ _ _ _ c.if-self-eq0.false c.aggregate_size-size.ensures.value c.if-in_aggregate-eq0.false c.volume_size-size.ensures.value
    ∙ in_volume_at-self _ _ _ _ c.if-in_volume-eq0.true)

pub returns-then-in_volume-eq1 : goal.returns-then-in_volume-eq1
returns-then-in_volume-eq1 c =
    found _ c.self.inside.number _ _ c.requires (ap (λ i. i.number) c.self.view_is)
    (path_at-in_volume _ _ _ _ c.if-self-eq0.false c.aggregate_size-size.ensures.value c.if-in_aggregate-eq0.false c.volume_size-size.ensures.value
    ∙ in_volume_at-logical _ _ _ _ c.if-in_volume-eq1.true)

pub returns-then-in_volume-g : goal.returns-then-in_volume-g
returns-then-in_volume-g c =
    found _ c.self.inside.number _ _ c.requires (ap (λ i. i.number) c.self.view_is)
    (path_at-in_volume _ _ _ _ c.if-self-eq0.false c.aggregate_size-size.ensures.value c.if-in_aggregate-eq0.false c.volume_size-size.ensures.value
    ∙ in_volume_at-stripe _ _ _ _ c.if-in_volume-eq0.false c.if-in_volume-eq1.false c.if-in_volume-g.true)

pub returns-else-in_volume-g : goal.returns-else-in_volume-g
returns-else-in_volume-g c =
    found _ c.self.inside.number _ _ c.requires (ap (λ i. i.number) c.self.view_is)
    (path_at-in_volume _ _ _ _ c.if-self-eq0.false c.aggregate_size-size.ensures.value c.if-in_aggregate-eq0.false c.volume_size-size.ensures.value
    ∙ in_volume_at-label _ _ _ _ c.if-in_volume-g.false)
