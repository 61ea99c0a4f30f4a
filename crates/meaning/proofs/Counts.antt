-- How great the counts of a state can get, and how they add up.
use Rattle.std.proofs.Common.{◌≡◌, ℕ, ◌*◌, ◌≤◌, sym, ◌∙◌}
use Rattle.std.specs.Prelude.{◌&&◌, ◌==◌, is_some}
use Rattle.affinity.specs.declared.geometry.Geometry.{Geometry}
use Rattle.affinity.specs.Geometry.{stripe_of}
use Rattle.affinity.proofs.PlaceLemmas.{group_below}
use Rattle.meaning.specs.State.{State, sum_below, file_count, block_count, blocks_in_stripe, sum_over_volumes}
use Rattle.meaning.proofs.Sums.{sum_below-le_times, count_below-le, sum_below-same, sum_below-swap, sum_below_at, one_if}

-- ---- bounds

pub file_count-le : (g : Geometry) (x : State) (a v : ℕ) → file_count g x a v ≤ g.files
file_count-le g x a v = count_below-le g.files (λ f. x.files (a, v, f))

pub block_count-le : (g : Geometry) (x : State) (a v : ℕ) → block_count g x a v ≤ g.files * g.blocks
block_count-le g x a v = sum_below-le_times g.files g.blocks _ (λ f lt. count_below-le g.blocks (λ b. is_some (x.blocks (a, v, f, b))))

pub sum_over_volumes-le : (g : Geometry) (c : ℕ) (f : ℕ → ℕ → ℕ) → ((a v : ℕ) → f a v ≤ c) → sum_over_volumes g f ≤ g.aggregates * (g.volumes * c)
sum_over_volumes-le g c f each = sum_below-le_times g.aggregates (g.volumes * c) _ (λ a lt. sum_below-le_times g.volumes c _ (λ v lt. each a v))

-- ---- the blocks of a volume lie in its stripes

pub block_count-by_stripe : (g : Geometry) (x : State) (a v : ℕ) → block_count g x a v ≡ sum_below g.stripes (blocks_in_stripe g x a v)
block_count-by_stripe g x a v =
    sum_below-same g.files _ _ (λ f lt. sum_below-same g.blocks _ _ (λ b lt. sym (sum_below_at g.stripes (stripe_of g f b) (is_some (x.blocks (a, v, f, b))) (group_below g f b)))
    ∙ sum_below-swap g.blocks g.stripes (λ b s. one_if ((stripe_of g f b == s) && is_some (x.blocks (a, v, f, b)))))
    ∙ sum_below-swap g.files g.stripes (λ f s. sum_below g.blocks (λ b. one_if ((stripe_of g f b == s) && is_some (x.blocks (a, v, f, b)))))
