-- Inner: A stripe after some of its blocks were removed.
use Rattle.std.specs.Prelude.{ℕ, Bool, true, ◌==◌, if◌then◌else◌, Option, Some, None}
use Rattle.std.specs.Option.{option_map_or}
use Rattle.stripe.specs.Stripe.{StripePart, HoldsContent, content_at}

-- whether a block of file i goes: those of one file, or all where no file is given
abbrev pub is_removed : Option ℕ → ℕ → ℕ → Bool
is_removed o i j = option_map_or (λ f. f == i) o true

-- A stripe that is lent stays so. One that isn't has none of the blocks any more for which `is_gone` is true, and its others are as before.
abbrev pub Removes : (ℕ → ℕ → Bool) → Option StripePart → Option StripePart → Type 0
Removes is_gone None None = Unit {0}
Removes is_gone (Some old) (Some new) = HoldsContent old new (λ i j. if is_gone i j then None else content_at old.entries i j)
Removes is_gone _ _ = ⊥
