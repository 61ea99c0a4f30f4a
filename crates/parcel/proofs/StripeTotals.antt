-- The blocks of a volume, counted by its stripes.
use Rattle.std.proofs.Common.{◌≡◌, ℕ, ◌≤◌, List, Some, None, ap, sym, ◌∙◌, slice_index_or, arith}
use Rattle.std.specs.Prelude.{Option, IfSome}
use Rattle.affinity.specs.declared.geometry.Geometry.{Geometry}
use Rattle.protocol.specs.declared.messages.Block.{Block}
use Rattle.meaning.specs.State.{State, blocks_in_stripe}
use Rattle.meaning.proofs.Sums.{sum_same, sum_zero}
use Rattle.parcel.specs.Fits.{FitsStripe}
use Rattle.parcel.specs.Shown.{blocks_in, blocks_of}
use Rattle.stripe.specs.Stripe.{StripePart, StripeRule}
use Rattle.parcel.specs.Totals.{entry_count, block_total, totals_of, sum_totals}
use Rattle.parcel.specs.Volume.{no_facts, state_with}
use Rattle.parcel.proofs.StripeCounts.{count_is_length, count_is_none}

-- a state in which each volume has these blocks
abbrev pub holding : (ℕ → ℕ → Option Block) → State
holding blocks = state_with (λ a v. record no_facts { blocks = blocks })

-- the blocks of stripe s are those that lie in child s
pub count_at : (g : Geometry) (row : List (Option StripePart)) (s : ℕ) (place : Option StripePart) → slice_index_or row s None ≡ place → IfSome place StripeRule → IfSome place (FitsStripe g s)
    → blocks_in_stripe g (holding (blocks_of g row)) 0 0 s ≡ entry_count place
count_at g row s None at kept fits = count_is_none g s (holding (blocks_of g row)) 0 0 (λ f b e. ap (λ k. blocks_in (slice_index_or row k None) f b) e ∙ ap (λ o. blocks_in o f b) at)
count_at g row s (Some p) at kept fits = count_is_length g s (holding (blocks_of g row)) 0 0 p kept fits (λ f b e. ap (λ k. blocks_in (slice_index_or row k None) f b) e ∙ ap (λ o. blocks_in o f b) at)

pub few_entries : (g : Geometry) (s : ℕ) (place : Option StripePart) → IfSome place StripeRule → IfSome place (FitsStripe g s) → entry_count place ≤ 64
few_entries g s None kept fits = omega arith
few_entries g s (Some p) kept fits = let most = g.quota_range.1 in omega (arith, kept.within, fits.quota, most)

pub quota_of : (g : Geometry) (s : ℕ) (place : Option StripePart) → IfSome place (FitsStripe g s) → IfSome place (λ p. p.quota ≤ 64)
quota_of g s None fits = fits
quota_of g s (Some p) fits = let most = g.quota_range.1 in omega (arith, fits.quota, most)

-- where there is no block, none is counted
pub no_blocks : (g : Geometry) → block_total g (λ f b. None) ≡ 0
no_blocks g = sum_same g.files _ (λ f. 0) (λ f. sum_zero g.blocks) ∙ sum_zero g.files

pub no_totals : (g : Geometry) → record { volumes = 0; files = 0; blocks = 0 } ≡ totals_of g no_facts
no_totals g i = record { volumes = 0; files = sym (sum_zero g.files) i; blocks = sym (no_blocks g) i }

pub no_totals_at_all : (g : Geometry) (n : ℕ) → record { volumes = 0; files = 0; blocks = 0 } ≡ sum_totals n (λ v. totals_of g no_facts)
no_totals_at_all g n i = record {
  volumes = sym (sum_zero n) i;
  files = sym (sum_same n _ (λ v. 0) (λ v. sum_zero g.files) ∙ sum_zero n) i;
  blocks = sym (sum_same n _ (λ v. 0) (λ v. no_blocks g) ∙ sum_zero n) i;
}
