-- What is put into a slot is put back into the tree.
use Rattle.std.proofs.Common.{◌≡◌, sym, ap, ◌∙◌, arith}
use Rattle.affinity.specs.Path.{aggregate, volume, logical, stripe, label}
use Rattle.affinity.specs.Place.{path}
use Rattle.parcel.proofs.TakesAndPuts.{aggregate_place, volume_place, logical_place, label_place, stripe_within, stripe_place, put}
use Rattle.parcel.proofs.parts.putting.put_at.Goals as goal

pub returns-in-Some : goal.returns-in-Some
returns-in-Some c =
    let at : path c.args.place ≡ aggregate c.from.result = cc in
    put (aggregate_place c.args.g.now c.args.root.now c.requires.fits c.requires.path _ at (sym c.in-Some.is) c.index_mut.ensures.value)
    c.put-in-Some.result c.map_err-in-Some.result at c.in-Aggregate-Aggr.is-1 c.put-in-Some.ensures c.map_err-in-Some.ensures.cases c.requires.parcels

pub returns-in-Some-aggregate_mut : goal.returns-in-Some-aggregate_mut
returns-in-Some-aggregate_mut c =
    let at : path c.args.place ≡ volume c.from-in-Volume-Vol.result c.from-in-Some-aggregate_mut.result = cc in
    put (volume_place c.args.g.now c.args.root.now c.requires.fits c.requires.path _ _ at c.in-Some-aggregate_mut.ensures.value c.index_mut-in-Some-aggregate_mut.ensures.value)
    c.put-in-Some-aggregate_mut.result c.map_err-in-Some-aggregate_mut.result at c.in-Volume-Vol.is-1
    c.put-in-Some-aggregate_mut.ensures c.map_err-in-Some-aggregate_mut.ensures.cases c.requires.parcels

pub returns-in-Some-volume_mut : goal.returns-in-Some-volume_mut
returns-in-Some-volume_mut c =
    let at : path c.args.place ≡ logical c.from-in-Logical-Logical.result c.from-in-Logical-Logical-2.result = cc in
    put (logical_place c.args.g.now c.args.root.now c.requires.fits c.requires.path _ _ at c.in-Some-volume_mut.ensures.value)
    c.put-in-Some-volume_mut.result c.map_err-in-Some-volume_mut.result at c.in-Logical-Logical.is-1
    c.put-in-Some-volume_mut.ensures c.map_err-in-Some-volume_mut.ensures.cases c.requires.parcels

pub index_mut-requires-in-Some-logical_mut : goal.index_mut-requires-in-Some-logical_mut
index_mut-requires-in-Some-logical_mut c = grind (arith, stripe_within)

pub returns-in-Some-logical_mut : goal.returns-in-Some-logical_mut
returns-in-Some-logical_mut c =
    let at = ap path c.in-Stripe-Stripe.is-0 ∙ (λ i. stripe (sym c.from-in-Stripe-Stripe.ensures i) (sym c.from-in-Stripe-Stripe-2.ensures i) (sym c.from-in-Some-logical_mut.ensures i)) in
    put (stripe_place c.args.g.now c.args.root.now c.requires.fits c.requires.path _ _ _ at c.in-Some-logical_mut.ensures.value c.index_mut-in-Some-logical_mut.ensures.value)
    c.put-in-Some-logical_mut.result c.map_err-in-Some-logical_mut.result at c.in-Stripe-Stripe.is-1
    c.put-in-Some-logical_mut.ensures c.map_err-in-Some-logical_mut.ensures.cases c.requires.parcels

pub returns-in-Some-volume_mut-2 : goal.returns-in-Some-volume_mut-2
returns-in-Some-volume_mut-2 c =
    let at : path c.args.place ≡ label c.from-in-Label-Label.result c.from-in-Label-Label-2.result = cc in
    put (label_place c.args.g.now c.args.root.now c.requires.fits c.requires.path _ _ at c.in-Some-volume_mut-2.ensures.value)
    c.put-in-Some-volume_mut-2.result c.map_err-in-Some-volume_mut-2.result at c.in-Label-Label.is-1
    c.put-in-Some-volume_mut-2.ensures c.map_err-in-Some-volume_mut-2.ensures.cases c.requires.parcels
