-- While the header is written the format byte isn't 1; once it is, the device recovers to the empty state.
use Rattle.std.proofs.Common.{length, take, drop, ap, arith, List, ℕ}
use Rattle.recovery.proofs.FormatByte.{numbers_moments, gate_moments, recovers, version}
use Rattle.device_map.specs.Layout.{layout_of}
use Rattle.oplog.proofs.Beyond.{beyond_then, beyond_write}
use Rattle.std.proofs.lemmas.Result.{on_ok_weaker}
use Rattle.recovery.proofs.formatting.write_header.Goals as goal

pub returns-in_err-store-clause-any_moment : goal.returns-in_err-store-clause-any_moment
returns-in_err-store-clause-any_moment g c = λ k.
    numbers_moments c.args.g.now _ _ _ (ap (λ (l : List ℕ). take 63 (drop 1 l)) c.header_of-header.ensures)
    c.requires.long_enough (c.requires.unformatted k) (c.requires.laid k) (c.store.ensures.any_moment k)

pub returns-clause-any_moment : goal.returns-clause-any_moment
returns-clause-any_moment g c = λ k.
    gate_moments c.args.g.now _ _ _ (ap (λ (l : List ℕ). take 63 (drop 1 l)) c.header_of-header.ensures) c.requires.long_enough (c.requires.unformatted k) (c.requires.laid k)
    (c.store.ensures.any_moment k)
    (c.in_ok-store.ensures.stored k) _ (c.store-2.ensures.any_moment k)

pub returns-clause-recovers : goal.returns-clause-recovers
returns-clause-recovers g c =
    on_ok_weaker c.store-2.result
    (λ stored k.
    recovers c.args.g.now _ _ _ (ap (λ (l : List ℕ). take 63 (drop 1 l)) c.header_of-header.ensures) c.requires.long_enough (c.requires.unformatted k) (c.requires.laid k)
    (c.store.ensures.any_moment k)
    (c.in_ok-store.ensures.stored k) _ (stored k))
    c.store-2.ensures.stored

pub returns-clause-version : goal.returns-clause-version
returns-clause-version g c =
    on_ok_weaker c.store-2.result
    (λ stored k.
    version c.args.g.now _ _ _ (ap (λ (l : List ℕ). take 63 (drop 1 l)) c.header_of-header.ensures) c.requires.long_enough (c.requires.unformatted k) (c.requires.laid k) (c.store.ensures.any_moment k)
    (c.in_ok-store.ensures.stored k) _ (stored k))
    c.store-2.ensures.stored

pub returns-in_err-store-clause-beyond : goal.returns-in_err-store-clause-beyond
returns-in_err-store-clause-beyond g c = λ k.
    let numbers = ap (λ (l : List ℕ). length (take 63 (drop 1 l))) c.header_of-header.ensures in
    beyond_write (layout_of c.args.g.now) 1 _ _ _ (omega (arith, numbers)) (c.store.ensures.any_moment k)

pub returns-clause-beyond : goal.returns-clause-beyond
returns-clause-beyond g c = λ k.
    let numbers = ap (λ (l : List ℕ). length (take 63 (drop 1 l))) c.header_of-header.ensures in
    beyond_then (layout_of c.args.g.now) _ _ _ (beyond_write (layout_of c.args.g.now) 1 _ _ _ (omega (arith, numbers)) (c.store.ensures.any_moment k))
    (beyond_write (layout_of c.args.g.now) 0 1 _ _ (omega arith) (c.store-2.ensures.any_moment k))
