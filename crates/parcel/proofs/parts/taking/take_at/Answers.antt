-- What is taken out of a slot is taken out of the tree.
use Rattle.std.proofs.Common.{◌≡◌, sym, ap, ◌∙◌, arith}
use Rattle.affinity.specs.Path.{aggregate, volume, logical, stripe, label}
use Rattle.affinity.specs.Place.{path}
use Rattle.parcel.proofs.TakesAndPuts.{serial_place, aggregate_place, volume_within, volume_place, logical_place, label_place, stripe_within, stripe_place, taken}
use Rattle.parcel.proofs.parts.taking.take_at.Goals as goal

pub returns-in-Serial : goal.returns-in-Serial
returns-in-Serial c =
    taken (serial_place c.args.g.now c.args.root.now c.requires.fits) c.take.result c.map.result (ap path c.in-Serial.is) c.take.ensures c.map.ensures.cases

pub returns-in_ok-root-in-Aggregate : goal.returns-in_ok-root-in-Aggregate
returns-in_ok-root-in-Aggregate c =
    let at : path c.args.place ≡ aggregate c.from.result = cc in
    taken (aggregate_place c.args.g.now c.args.root.now c.requires.fits c.requires.path _ at c.in_ok-root-in-Aggregate.ensures.value c.index_mut.ensures.value)
    c.take-in-Aggregate.result c.map-in-Aggregate.result at c.take-in-Aggregate.ensures c.map-in-Aggregate.ensures.cases

pub index_mut-requires-in-Volume : goal.index_mut-requires-in-Volume
index_mut-requires-in-Volume c = grind (arith, volume_within)

pub returns-in_ok-aggregate-in-Volume : goal.returns-in_ok-aggregate-in-Volume
returns-in_ok-aggregate-in-Volume c =
    let at : path c.args.place ≡ volume c.from-in-Volume.result c.from-in-Volume-2.result = cc in
    taken (volume_place c.args.g.now c.args.root.now c.requires.fits c.requires.path _ _ at c.in_ok-aggregate-in-Volume.ensures.value c.index_mut-in-Volume.ensures.value)
    c.take-in-Volume.result c.map-in-Volume.result at c.take-in-Volume.ensures c.map-in-Volume.ensures.cases

pub returns-in_ok-volume-in-Logical : goal.returns-in_ok-volume-in-Logical
returns-in_ok-volume-in-Logical c =
    let at : path c.args.place ≡ logical c.from-in-Logical.result c.from-in-Logical-2.result = cc in
    taken (logical_place c.args.g.now c.args.root.now c.requires.fits c.requires.path _ _ at c.in_ok-volume-in-Logical.ensures.value)
    c.take-in-Logical.result c.map-in-Logical.result at c.take-in-Logical.ensures c.map-in-Logical.ensures.cases

pub index_mut-requires-in-Stripe : goal.index_mut-requires-in-Stripe
index_mut-requires-in-Stripe c = grind (arith, stripe_within)

pub returns-in_ok-logical-in-Stripe : goal.returns-in_ok-logical-in-Stripe
returns-in_ok-logical-in-Stripe c =
    let at = ap path c.in-Stripe.is ∙ (λ i. stripe (sym c.from-in-Stripe.ensures i) (sym c.from-in-Stripe-2.ensures i) (sym c.from-in-Stripe-3.ensures i)) in
    taken (stripe_place c.args.g.now c.args.root.now c.requires.fits c.requires.path _ _ _ at c.in_ok-logical-in-Stripe.ensures.value c.index_mut-in-Stripe.ensures.value)
    c.take-in-Stripe.result c.map-in-Stripe.result at c.take-in-Stripe.ensures c.map-in-Stripe.ensures.cases

pub returns-in_ok-volume-in-Label : goal.returns-in_ok-volume-in-Label
returns-in_ok-volume-in-Label c =
    let at : path c.args.place ≡ label c.from-in-Label.result c.from-in-Label-2.result = cc in
    taken (label_place c.args.g.now c.args.root.now c.requires.fits c.requires.path _ _ at c.in_ok-volume-in-Label.ensures.value)
    c.take-in-Label.result c.map-in-Label.result at c.take-in-Label.ensures c.map-in-Label.ensures.cases
