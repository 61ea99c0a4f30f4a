-- The vector has as many new children as the counter says, and room for the rest.
use Rattle.std.proofs.Common.{◌≡◌, ◌≤◌, [], length, vec_capacity}
use Rattle.std.specs.List.{AllByRecursion}
use Rattle.parcel.specs.Whole.{IsWholeChild}
use Rattle.stripe.specs.Stripe.{StripePart}
use Rattle.parcel.proofs.parts.new_parts.new_logical.Given as goal

abbrev pub invariant-loop : goal.invariant-loop
invariant-loop l = (length l.stripes.items ≡ l.counter) × AllByRecursion
    (IsWholeChild (λ (p : StripePart). p ≡ record { quota = l.g.quota; entries = [] })) l.stripes.items × (l.g.stripes ≤ vec_capacity l.stripes)
