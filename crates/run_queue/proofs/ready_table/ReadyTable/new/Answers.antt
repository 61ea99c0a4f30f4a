-- No entry is set at any number, so each rank, and the least of each chunk, is `NO_RANK`.
use Rattle.std.proofs.Common.{◌≡◌, ◌∙◌, ◌+◌, ◌/◌, ℕ, zero, suc, ◌∷◌, List, refl, ap, sym, subst, arith, length, map, replicate, Option, None}
use Rattle.std.proofs.lemmas.List.{length-replicate}
use Rattle.run_queue.specs.ReadyTable.{AreLowerBounds, rank_of}
use Rattle.run_queue.specs.declared.queued_message.QueuedMessage.{QueuedMessage}
use Rattle.run_queue.specs.declared.ready_table.TheConstants.{CHUNK, NO_RANK}
use Rattle.run_queue.proofs.Chunks.{none-least}
use Rattle.run_queue.proofs.ready_table.ReadyTable.new.Goals as goal

no_ranks : (n : ℕ) → replicate n NO_RANK ≡ map rank_of (replicate {A = Option QueuedMessage} n None)
no_ranks zero = refl
no_ranks (suc n) = ap (λ (ranks : List ℕ). NO_RANK ∷ ranks) (no_ranks n)

all_none : (n m : ℕ) → n ≡ m → replicate {A = Option QueuedMessage} n None ≡ replicate m None
all_none n m same = ap (λ k. replicate {A = Option QueuedMessage} k None) same

pub returns : goal.returns
returns c = c.loop.invariant.none ∙ all_none c.loop.counter c.args.numbers (omega arith)

pub invariant_of-result : goal.invariant_of-result
invariant_of-result c =
    let none : c.loop.ready.items ≡ replicate c.args.numbers None = c.loop.invariant.none ∙ all_none c.loop.counter c.args.numbers (omega arith) in
    let many : length c.loop.ready.items ≡ c.args.numbers = ap (λ (ready_table : List (Option QueuedMessage)). length ready_table) none ∙ length-replicate c.args.numbers None in
    let least : c.in_ok-least.least.items ≡ replicate (c.args.numbers / CHUNK + 1) NO_RANK
    = c.in_ok-least.ensures.items_if_clones_equal (λ y same. same) in record {
      ranked = c.in_ok-ranks.ensures.items_if_clones_equal (λ y same. same) ∙ no_ranks c.args.numbers
          ∙ ap (λ (ready_table : List (Option QueuedMessage)). map rank_of ready_table) (sym none);
      bounds = subst (λ (ready_table : List (Option QueuedMessage)). AreLowerBounds ready_table c.in_ok-least.least.items) (sym none)
          (subst (λ (ls : List ℕ). AreLowerBounds (replicate c.args.numbers None) ls) (sym least) (none-least c.args.numbers (c.args.numbers / CHUNK + 1)));
      all = λ any. (let all = c.requires.all any in omega (arith, many, all));
      few = omega (arith, many, c.requires.few);
      chunks = ap (λ (ls : List ℕ). length ls) least ∙ length-replicate (c.args.numbers / CHUNK + 1) NO_RANK ∙ ap (λ n. n / CHUNK + 1) (sym many);
    }
