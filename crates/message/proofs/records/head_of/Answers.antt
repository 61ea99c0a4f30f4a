-- The first three numbers are a byte each, and the fourth is two.
use Rattle.std.proofs.Common.{◌≡◌, ◌∙◌, ◌++◌, ◌∷◌, ◌<◌, ℕ, List, [], take, slice_index, refl, sym, ap, subst, arith}
use Rattle.std.specs.List.{AllByRecursion}
use Rattle.byteorder.specs.Endian.{little_bytes}
use Rattle.protocol.specs.Messages.{kind, numbers, four_numbers}
use Rattle.protocol.specs.declared.messages.Msg.{Msg}
use Rattle.message.specs.Records.{kind_number, FitsRecord}
use Rattle.message.proofs.RecordLemmas.{filled}
use Rattle.message.proofs.records.head_of.Goals as goal

first_three : (ns : List ℕ) → take 3 (filled ns) ≡ slice_index (filled ns) 0 ∷ slice_index (filled ns) 1 ∷ slice_index (filled ns) 2 ∷ []
first_three [] = refl
first_three (a ∷ []) = refl
first_three (a ∷ b ∷ []) = refl
first_three (a ∷ b ∷ c ∷ ns) = refl

-- each of the first three is below 256
small : (m : Msg) (ns : List ℕ) → FitsRecord m → ns ≡ four_numbers m → (slice_index ns 0 < 256) × (slice_index ns 1 < 256) × (slice_index ns 2 < 256)
small m ns fits same =
    let three = subst (λ (l : List ℕ). AllByRecursion (λ n. n < 256) l) (first_three (numbers m)) fits in
    subst (λ (l : List ℕ). (slice_index l 0 < 256) × (slice_index l 1 < 256) × (slice_index l 2 < 256)) (sym same) (three.0, three.1.0, three.1.1.0)

pub overflow_cast-head : goal.overflow_cast-head
overflow_cast-head c = omega (arith, (small c.args.m.now c.numbers.result c.requires c.numbers.ensures).0)

pub overflow_cast-head-2 : goal.overflow_cast-head-2
overflow_cast-head-2 c = omega (arith, (small c.args.m.now c.numbers.result c.requires c.numbers.ensures).1)

pub overflow_cast-head-3 : goal.overflow_cast-head-3
overflow_cast-head-3 c = omega (arith, (small c.args.m.now c.numbers.result c.requires c.numbers.ensures).2)

pub returns : goal.returns
returns c =
    let m = c.args.m.now in
    let same : c.numbers.result ≡ four_numbers m = c.numbers.ensures in
    let code = c.kind_number-kind.ensures ∙ ap kind_number c.kind.ensures in
    let fourth = c.write_u16.ensures ∙ ap (λ (l : List ℕ). little_bytes 2 (slice_index l 3)) same in
    (λ i. code i ∷ slice_index (same i) 0 ∷ slice_index (same i) 1 ∷ slice_index (same i) 2 ∷ (fourth i ++ 0 ∷ 0 ∷ []))
    ∙ ap (λ (l : List ℕ). kind_number (kind m) ∷ l ++ little_bytes 2 (slice_index (four_numbers m) 3) ++ 0 ∷ 0 ∷ []) (sym (first_three (numbers m)))
