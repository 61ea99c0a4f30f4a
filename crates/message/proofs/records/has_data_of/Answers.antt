-- A block's data is any bytes; behind a label, and for all other kinds, the bytes have to be zeros.
use Rattle.std.proofs.lemmas.Grind.{common_steps}
use Rattle.std.proofs.Common.{◌≡◌, ℕ, ◌+◌, ◌-◌, Bool, List, length, take, drop, replicate, ap, sym, ◌∙◌, arith}
use Rattle.std.specs.Prelude.{◌↔◌, IsTrue}
use Rattle.std.specs.Str.{bytes_eq}
use Rattle.std.proofs.lemmas.List.{take_all}
use Rattle.std.proofs.lemmas.Slice.Eq.{bytes_eq-Decides}
use Rattle.protocol.specs.declared.sizes.TheConstants.{BLOCK_SIZE, LABEL_SIZE}
use Rattle.protocol.specs.Messages.{kind}
use Rattle.message.proofs.RecordLemmas.{label_if_decoded, write_if_decoded, zeros_else}
use Rattle.message.proofs.records.has_data_of.Goals as goal

-- whether the bytes from a place on are zeros
tested : (bytes : List ℕ) (n k : ℕ) (t : Bool) → length bytes ≡ n + k → t ≡ bytes_eq (take k (drop n bytes)) (replicate k 0) → IsTrue t ↔ (drop n bytes ≡ replicate k 0)
tested bytes n k t size e = grind (arith, common_steps, take_all, bytes_eq-Decides)

pub returns-in-Write : goal.returns-in-Write
returns-in-Write c = grind (arith, common_steps, write_if_decoded)

pub returns-in-SetLabel : goal.returns-in-SetLabel
returns-in-SetLabel c =
    let zeros = tested c.args.bytes.now (8 + LABEL_SIZE) (BLOCK_SIZE - LABEL_SIZE) c.eq.result c.told-bytes c.eq.ensures in
    let label = label_if_decoded c.args.bytes.now c.args.m.now c.told-bytes c.fits-bytes (sym c.requires) (ap kind c.in-SetLabel.is) in
    ((λ is. label.0 (zeros.0 is)), (λ there. zeros.1 (label.1 there)))

pub returns-in_default : goal.returns-in_default
returns-in_default c =
    let zeros = tested c.args.bytes.now 8 BLOCK_SIZE c.eq-in_default.result c.told-bytes c.eq-in_default.ensures in
    let none = zeros_else c.args.m.now c.in_default.not-Write c.in_default.not-SetLabel in
    ((λ is. zeros.0 is ∙ sym none), (λ there. zeros.1 (there ∙ none)))
