-- A block that is put into a file, and what the stripes have after it.
use Rattle.std.proofs.Common.{arith, ◌≡◌, ℕ, ◌+◌, ◌<◌, true, false, sym, ◌∙◌}
use Rattle.std.proofs.lemmas.Grind.{common_steps}
use Rattle.std.specs.Prelude.{is_some}
use Rattle.affinity.specs.declared.geometry.Geometry.{Geometry}
use Rattle.affinity.specs.Geometry.{stripe_of}
use Rattle.protocol.specs.declared.messages.Block.{Block}
use Rattle.protocol.specs.declared.messages.Msg.TheVariants.{Write}
use Rattle.meaning.specs.State.{State, BlockKey, blocks_in_stripe}
use Rattle.meaning.proofs.Sums.{one_if}
use Rattle.meaning.specs.Step.{effect}
use Rattle.plain.specs.Server.{StripeKey, is_stripe}
use Rattle.plain.proofs.ServerCounts.{same_counts, one_more}

-- the count that is noted for each stripe is how many blocks it has in the state
abbrev pub AreCounts : Geometry → (StripeKey → ℕ) → State → Type 0
AreCounts g noted x = (k : StripeKey) → noted k ≡ blocks_in_stripe g x k.0 k.1 k.2

module _ (x : State) (a v f b : ℕ) (content : Block) where
  abbrev written : State
  written = effect x (Write a v f b content)

  -- a block in place of another one: the same keys have blocks as before
  pub replaced : is_some (x.blocks (a, v, f, b)) ≡ true → (k : BlockKey) → is_some (written.blocks k) ≡ is_some (x.blocks k)
  replaced was k = grind (arith, common_steps)

  module _ (g : Geometry) (noted : StripeKey → ℕ) (counts : AreCounts g noted x) where
    pub replaced_counts : is_some (x.blocks (a, v, f, b)) ≡ true → AreCounts g noted written
    replaced_counts was k = counts k ∙ sym (same_counts g x written (replaced was) k.0 k.1 k.2)

    pub added_counts : (s : ℕ) → s ≡ stripe_of g f b → f < g.files → b < g.blocks → is_some (x.blocks (a, v, f, b)) ≡ false
        → AreCounts g (λ k. noted k + one_if (is_stripe a v s k)) written
    added_counts s is in_files in_blocks absent k = grind (arith, common_steps, one_more)
