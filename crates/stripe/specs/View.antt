-- Statement for engineers: The fields of a `StripeParcel` as contracts see them, and what it keeps true of them.
use Rattle.std.specs.Prelude.{◌≤◌, length, vec_capacity}
use Rattle.stripe.specs.Index.{entries_of, IsStored}
use Rattle.stripe.specs.Stripe.{StripePart}
use Rattle.stripe.specs.declared.blocks.StripeParcel.TheInside.{Inside}

abbrev pub stripe_part : Inside → StripePart
stripe_part s = record { quota = length s.blocks.values; entries = entries_of s.blocks.values s.index.items }

pub record IsStripe (s : Inside) : Type 0 where
  pub stored : IsStored s.blocks s.index.items
  pub room : length s.blocks.values ≤ vec_capacity s.index
