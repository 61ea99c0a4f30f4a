-- Head, pieces of volumes and pieces of stripes make up the size, which the ranges of a geometry bound.
use Rattle.std.proofs.Common.{ℕ, ◌+◌, ◌*◌, ◌≤◌, arith}
use Rattle.std.proofs.lemmas.Nat.{mul-le}
use Rattle.device_map.specs.Layout.{image_size}
use Rattle.device_map.specs.declared.layout.TheConstants.{BLOCK_ENTRY_SIZE, IMAGE_HEAD_SIZE, VOLUME_PIECE_SIZE}
use Rattle.device_map.proofs.layout.image_size.Goals as goal

pub returns-clause-size : goal.returns-clause-size
unfolding image_size
returns-clause-size c = λ i. 64 + c.from.ensures i * c.from-2.ensures i * (64 + c.from-3.ensures i * (c.from-4.ensures i * BLOCK_ENTRY_SIZE))

at_most : (a v s q : ℕ) → a ≤ 4 → v ≤ 8 → s ≤ 8 → q ≤ 64 → 64 + a * v * (64 + s * (q * BLOCK_ENTRY_SIZE)) ≤ IMAGE_HEAD_SIZE + 32 * (VOLUME_PIECE_SIZE + 8 * (64 * BLOCK_ENTRY_SIZE))
at_most a v s q few_a few_v few_s few_q =
    let stripes : s * (q * BLOCK_ENTRY_SIZE) ≤ 8 * (64 * BLOCK_ENTRY_SIZE) = mul-le s (q * BLOCK_ENTRY_SIZE) 8 (64 * BLOCK_ENTRY_SIZE) few_s (omega (arith, few_q)) in
    let volumes : a * v ≤ 4 * 8 = mul-le a v 4 8 few_a few_v in
    let all : a * v * (64 + s * (q * BLOCK_ENTRY_SIZE)) ≤ 32 * (64 + 8 * (64 * BLOCK_ENTRY_SIZE)) = mul-le (a * v) (64 + s * (q * BLOCK_ENTRY_SIZE)) 32 (64 + 8 * (64 * BLOCK_ENTRY_SIZE))
    volumes (omega (arith, stripes)) in
    omega (arith, all)

pub returns-clause-most : goal.returns-clause-most
returns-clause-most c =
    let g = c.args.g.now in
    at_most _ _ _ _ (omega (arith, c.from.ensures, g.aggregates_range.1)) (omega (arith, c.from-2.ensures, g.volumes_range.1))
    (omega (arith, c.from-3.ensures, g.stripes_range.1)) (omega (arith, c.from-4.ensures, g.quota_range.1))
