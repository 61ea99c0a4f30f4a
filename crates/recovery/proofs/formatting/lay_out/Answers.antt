-- All four writes lie between the header and the end of the parts; together they lay out the empty state.
use Rattle.std.proofs.Common.{◌+◌, ℕ, List, [], ◌∷◌, replicate, sym, ◌∙◌, ap, subst, arith}
use Rattle.recovery.specs.Formatting.{IsAllButHeader}
use Rattle.recovery.proofs.CrashesChangeOnly.{changed_then, changed_within}
use Rattle.recovery.proofs.LaidOut.{image_some, laid_out}
use Rattle.disk.specs.Device.{overlaid}
use Rattle.std.proofs.lemmas.Result.{on_ok_weaker}
use Rattle.recovery.proofs.formatting.lay_out.Goals as goal

pub returns-in_err-write_zeros-clause-any_moment : goal.returns-in_err-write_zeros-clause-any_moment
returns-in_err-write_zeros-clause-any_moment g c = λ k.
    changed_within (omega arith) (omega (arith, c.from-chain_and_gates.ensures)) (c.write_zeros.ensures.any_moment k)

pub returns-in_err-write_zeros-2-clause-any_moment : goal.returns-in_err-write_zeros-2-clause-any_moment
returns-in_err-write_zeros-2-clause-any_moment g c = λ k.
    changed_then (changed_within (omega arith) (omega (arith, c.from-chain_and_gates.ensures)) (c.write_zeros.ensures.any_moment k))
    (changed_within (omega (arith, c.half_at.ensures)) (omega (arith, c.half_at.ensures, c.from-chain_and_gates.ensures)) (c.write_zeros-2.ensures.any_moment k))

pub returns-in_err-write_zeros-3-clause-any_moment : goal.returns-in_err-write_zeros-3-clause-any_moment
returns-in_err-write_zeros-3-clause-any_moment g c = λ k.
    changed_then (changed_then (changed_within (omega arith) (omega (arith, c.from-chain_and_gates.ensures)) (c.write_zeros.ensures.any_moment k))
    (changed_within (omega (arith, c.half_at.ensures)) (omega (arith, c.half_at.ensures, c.from-chain_and_gates.ensures)) (c.write_zeros-2.ensures.any_moment k)))
    (changed_within (omega (arith, c.image_at.ensures)) (omega (arith, c.image_at.ensures, c.image_size.ensures.size)) (c.write_zeros-3.ensures.any_moment k))

pub returns-clause-any_moment : goal.returns-clause-any_moment
returns-clause-any_moment g c = λ k.
    changed_then (changed_then (changed_then (changed_within (omega arith) (omega (arith, c.from-chain_and_gates.ensures)) (c.write_zeros.ensures.any_moment k))
    (changed_within (omega (arith, c.half_at.ensures)) (omega (arith, c.half_at.ensures, c.from-chain_and_gates.ensures)) (c.write_zeros-2.ensures.any_moment k)))
    (changed_within (omega (arith, c.image_at.ensures)) (omega (arith, c.image_at.ensures, c.image_size.ensures.size)) (c.write_zeros-3.ensures.any_moment k)))
    (changed_within (omega (arith, c.image_at-2.ensures)) (omega (arith, c.image_at-2.ensures, image_some c.args.g.now)) (c.store.ensures.any_moment k))

pub store-requires : goal.store-requires
store-requires g c =
    omega (arith, c.image_at-2.ensures, image_some c.args.g.now, c.requires.long_enough, c.write_zeros.ensures.call.len, c.write_zeros-2.ensures.call.len, c.write_zeros-3.ensures.call.len)

pub returns-clause-laid : goal.returns-clause-laid
returns-clause-laid g c =
    on_ok_weaker c.store.result
    (λ stored k.
    let start : List ℕ = (g.D.Disk.medium c.args.disk.now).now in
    let first = c.in_ok-write_zeros.ensures.written k ∙ ap (λ (n : ℕ). overlaid start 64 (replicate (64 + (64 + n)) 0)) c.from-chain_and_gates.ensures in
    let second = c.in_ok-write_zeros-2.ensures.written k ∙ (λ i. overlaid (first i) (c.half_at.ensures i) (replicate (64 + c.from-chain_and_gates.ensures i) 0)) in
    let third = c.in_ok-write_zeros-3.ensures.written k ∙ (λ i. overlaid (second i) (c.image_at.ensures i) (replicate (c.image_size.ensures.size i) 0)) in
    let fourth = (stored k).now ∙ (λ i. overlaid (third i) (c.image_at-2.ensures i) (2 ∷ [])) in
    subst (λ (l : List ℕ). IsAllButHeader c.args.g.now l) (sym fourth) (laid_out c.args.g.now start c.requires.long_enough))
    c.store.ensures.stored
