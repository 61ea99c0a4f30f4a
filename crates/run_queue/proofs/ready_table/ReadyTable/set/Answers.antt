-- The rank of what is ready is at its number, and the least one of its chunk is known.
use Rattle.std.proofs.lemmas.Grind.{common_steps}
use Rattle.std.proofs.Common.{◌≡◌, ◌∙◌, ℕ, ◌+◌, ◌*◌, ◌/◌, ◌<◌, List, length, get_or, map, Option, None, ap, sym, subst, arith}
use Rattle.std.specs.Prelude.{slice_set}
use Rattle.std.proofs.Math.ListN.{get_or-map}
use Rattle.std.proofs.Math.Nat.{lt-mul-div-succ, mul-div-le}
use Rattle.std.proofs.lemmas.List.{length-set, map-set}
use Rattle.run_queue.specs.ReadyTable.{ready_in, rank_of}
use Rattle.run_queue.specs.declared.queued_message.QueuedMessage.{QueuedMessage}
use Rattle.run_queue.specs.declared.ready_table.TheConstants.{CHUNK, NO_RANK}
use Rattle.run_queue.proofs.Chunks.{least-found, least-kept}
use Rattle.run_queue.proofs.ready_table.ReadyTable.set.Goals as goal

ranks_set : (ready_table : List (Option QueuedMessage)) (ranks : List ℕ) (n rank : ℕ) (o : Option QueuedMessage) → ranks ≡ map rank_of ready_table → rank ≡ rank_of o
    → slice_set ranks n rank ≡ map rank_of (slice_set ready_table n o)
ranks_set ready_table ranks n rank o all one = grind (arith, common_steps, map-set)

rank-at : (ready_table : List (Option QueuedMessage)) (ranks : List ℕ) (n : ℕ) → ranks ≡ map rank_of ready_table → get_or ranks n NO_RANK ≡ rank_of (ready_in ready_table n)
rank-at ready_table ranks n all = ap (λ rs. get_or rs n NO_RANK) all ∙ get_or-map rank_of ready_table n None

pub invariant_of-self : goal.invariant_of-self
invariant_of-self c =
    let ready_table = c.self.inside.ready.items in
    let least = c.self.inside.least.items in
    let n = c.args.number in
    let o = c.args.ready in
    let are = ranks_set ready_table c.self.inside.ranks.items n c.rank_of-rank.result o c.self.invariant.ranked c.rank_of-rank.ensures in
    let many = length-set ready_table n o in
    let long = length-set least (n / CHUNK) c.least_from.result in
    let few = c.self.invariant.few in
    let chunks = c.self.invariant.chunks in
    let within = subst (λ (now : List (Option QueuedMessage)). n < length now) (sym c.self.view_is) c.requires in
    let under = mul-div-le n CHUNK in
    let over : length ready_table < CHUNK * (length ready_table / CHUNK + 1) = lt-mul-div-succ (length ready_table) (omega arith) in record {
      ranked = are;
      bounds = least-found ready_table least n c.least_from.result o c.self.invariant.bounds (omega (arith, within, under, over, chunks)) (λ i below.
          let low = c.least_from.ensures i below in
          let turned : n / CHUNK * CHUNK + i ≡ CHUNK * (n / CHUNK) + i = omega arith in
          let rank = ap (λ (rs : List ℕ). get_or rs (n / CHUNK * CHUNK + i) NO_RANK) c.deref.ensures.value
          ∙ ap (λ k. get_or (slice_set c.self.inside.ranks.items n c.rank_of-rank.result) k NO_RANK) turned
          ∙ rank-at (slice_set ready_table n o) _ (CHUNK * (n / CHUNK) + i) are in
          omega (arith, low, rank));
      all = λ any. (let all = c.self.invariant.all any in omega (arith, many, all));
      few = omega (arith, many, few);
      chunks = long ∙ chunks ∙ ap (λ k. k / CHUNK + 1) (sym many);
    }

pub invariant_of-self-else-rank-was : goal.invariant_of-self-else-rank-was
invariant_of-self-else-rank-was c = grind (arith, common_steps, length-set, ranks_set, least-kept)
