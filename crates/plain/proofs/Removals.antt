-- What is left where blocks, files or a volume are removed.
use Rattle.std.proofs.lemmas.Grind.{common_steps}
use Rattle.std.proofs.Common.{◌≡◌, ℕ, ◌+◌, ◌<◌, Bool, true, false, refl, ap, sym, subst, arith}
use Rattle.std.specs.Prelude.{◌&&◌, ◌==◌, if◌then◌else◌, Option, None, Some, is_some}
use Rattle.std.proofs.lemmas.Bool.{true≢false}
use Rattle.affinity.specs.declared.geometry.Geometry.{Geometry}
use Rattle.affinity.specs.Geometry.{stripe_of}
use Rattle.protocol.specs.declared.messages.Msg.TheVariants.{Punch}
use Rattle.meaning.specs.State.{State, BlockKey, is_block, is_block_of, is_block_of_file, blocks_in_stripe}
use Rattle.meaning.proofs.Sums.{one_if}
use Rattle.meaning.specs.Step.{effect}
use Rattle.plain.specs.Server.{StripeKey, is_stripe}
use Rattle.meaning.specs.Removals.{without_blocks}
use Rattle.meaning.proofs.Keys.{the_block, picks_file, picks_block}
use Rattle.plain.proofs.ServerCounts.{one_more}
use Rattle.plain.proofs.Writes.{AreCounts}

-- ---- a block that is taken out

module _ (g : Geometry) (x : State) (a v f b : ℕ) (in_files : f < g.files) (in_blocks : b < g.blocks) (there : is_some (x.blocks (a, v, f, b)) ≡ true) where
  others : (k : BlockKey) → is_block a v f b k ≡ false → is_some (x.blocks k) ≡ is_some ((effect x (Punch a v f b)).blocks k)
  others k e = sym (ap (λ t. is_some (if t then None else x.blocks k)) e)

  absent : is_some ((effect x (Punch a v f b)).blocks (a, v, f, b)) ≡ false
  absent = ap (λ t. is_some (if t then None else x.blocks (a, v, f, b))) (picks_block a v f b)

  -- its stripe had one more, and each other stripe as many
  one_less : (k : StripeKey) → blocks_in_stripe g x k.0 k.1 k.2 ≡ blocks_in_stripe g (effect x (Punch a v f b)) k.0 k.1 k.2 + one_if (is_stripe a v (stripe_of g f b) k)
  one_less = one_more g (effect x (Punch a v f b)) x a v f b others in_files in_blocks absent there

  -- so something was noted for its stripe
  pub some_noted : (n : ℕ) → n ≡ blocks_in_stripe g x a v (stripe_of g f b) → 0 < n
  some_noted n e =
      let less = one_less (a, v, stripe_of g f b) in
      let one : one_if (is_stripe a v (stripe_of g f b) (a, v, stripe_of g f b)) ≡ 1 = ap one_if (picks_file a v (stripe_of g f b)) in
      omega (arith, e, less, one)

  pub less_counts : (old new : StripeKey → ℕ) → AreCounts g old x → ((k : StripeKey) → new k + one_if (is_stripe a v (stripe_of g f b) k) ≡ old k) → AreCounts g new (effect x (Punch a v f b))
  less_counts old new counts less k = omega (arith, counts k, less k, one_less k)

-- ---- blocks that are taken out one by one

pub is_none : {X : Type 0} (o : Option X) → is_some o ≡ false → None ≡ o
is_none None e = refl
is_none (Some y) e = absurd (true≢false e)

-- where no block is selected, nothing changes
pub nothing_cleared : (selected : BlockKey → Bool) (x : State) → ((k : BlockKey) → selected k ≡ true → is_some (x.blocks k) ≡ false) → without_blocks selected x ≡ x
nothing_cleared selected x none = grind (arith, common_steps)

pub no_block_there : (x : State) (a v f b : ℕ) → is_some (x.blocks (a, v, f, b)) ≡ false → effect x (Punch a v f b) ≡ x
no_block_there x a v f b e = nothing_cleared (is_block a v f b) x (λ k is. subst (λ k. is_some (x.blocks k) ≡ false) (the_block a v f b k is) e)

twice_cleared : {X : Type 0} (p q : Bool) (o : Option X) → (if p then None else if p && q then None else o) ≡ (if p then None else o)
twice_cleared true q o = refl
twice_cleared false q o = refl

-- to remove one block of a volume and then all of them leaves the same as to remove all
pub block_before_volume : (x : State) (a v f b : ℕ) → without_blocks (is_block_of a v) (effect x (Punch a v f b)) ≡ without_blocks (is_block_of a v) x
block_before_volume x a v f b = grind (arith, common_steps)

-- to remove one block of a file and then all of them leaves the same as to remove all
pub block_before_others : (x : State) (a v f b : ℕ) → without_blocks (is_block_of_file a v f) (effect x (Punch a v f b)) ≡ without_blocks (is_block_of_file a v f) x
block_before_others x a v f b = λ i. record x { blocks = λ k. twice_cleared (is_block_of_file a v f k) (b == k.3) (x.blocks k) i }
