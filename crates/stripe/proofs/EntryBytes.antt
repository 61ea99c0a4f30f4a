-- Entries as bytes, and back.
use Rattle.std.proofs.Common.{◌≡◌, ℕ, zero, suc, ◌*◌, ◌<◌, ◌≤◌, List, [], ◌∷◌, ◌++◌, length, take, drop, replicate, refl, ◌∙◌, ap, arith, length-append}
use Rattle.std.specs.List.{AllByRecursion, flat_map}
use Rattle.std.proofs.lemmas.List.{take_at, drop_at, append_assoc}
use Rattle.device_map.specs.declared.layout.TheConstants.{BLOCK_ENTRY_SIZE}
use Rattle.protocol.specs.declared.sizes.TheConstants.{BLOCK_SIZE}
use Rattle.stripe.specs.Stripe.{BlockEntry}
use Rattle.stripe.specs.Entries.{entry_bytes, entry_in, entries_in}

-- The entry can be encoded: its content is a whole block, and its block's number fits in two bytes.
pub record IsSpellable (e : BlockEntry) : Type 0 where
  pub long : length e.content.0 ≡ BLOCK_SIZE
  pub small : e.block < 65536

pub length-entry : (e : BlockEntry) → IsSpellable e → length (entry_bytes e) ≡ BLOCK_ENTRY_SIZE
length-entry e is = omega (arith, is.long)

pub length-entries : (es : List BlockEntry) → AllByRecursion IsSpellable es → length (flat_map entry_bytes es) ≡ length es * BLOCK_ENTRY_SIZE
length-entries [] all = refl
length-entries (e ∷ es) all = omega (arith, length-append (entry_bytes e) (flat_map entry_bytes es), length-entry e all.0, length-entries es all.1)

-- an entry is read as it was written
pub entry_again : (e : BlockEntry) → IsSpellable e → entry_in (entry_bytes e) ≡ e
entry_again e is = grind arith

pub none_there : (n k : ℕ) → entries_in n (replicate k 0) ≡ []
none_there zero k = refl
none_there (suc n) zero = refl
none_there (suc n) (suc k) = refl

-- entries that were joined, with zeros after them
pub entries_again : (es : List BlockEntry) → AllByRecursion IsSpellable es → (n k : ℕ) → length es ≤ n → entries_in n (flat_map entry_bytes es ++ replicate k 0) ≡ es
entries_again [] all n k fits = none_there n k
entries_again (e ∷ es) all zero k fits = absurd (omega (arith, fits))
entries_again (e ∷ es) all (suc n) k fits =
    let rest : List ℕ = flat_map entry_bytes es ++ replicate k 0 in
    let apart : flat_map entry_bytes (e ∷ es) ++ replicate k 0 ≡ entry_bytes e ++ rest = append_assoc (entry_bytes e) (flat_map entry_bytes es) (replicate k 0) in
    let first : entry_in (take BLOCK_ENTRY_SIZE (entry_bytes e ++ rest)) ≡ e = ap entry_in (take_at (entry_bytes e) rest BLOCK_ENTRY_SIZE (length-entry e all.0)) ∙ entry_again e all.0 in
    let others : entries_in n (drop BLOCK_ENTRY_SIZE (entry_bytes e ++ rest)) ≡ es = ap (entries_in n) (drop_at (entry_bytes e) rest BLOCK_ENTRY_SIZE (length-entry e all.0))
    ∙ entries_again es all.1 n k (omega (arith, fits)) in
    ap (entries_in (suc n)) apart ∙ (λ i. first i ∷ others i)
