-- The number of a kind that does not exist gives no message; else the fields are the message's kind and numbers, and all behind them its data.
use Rattle.std.proofs.Common.{◌≡◌, ℕ, List, drop, take, length-drop, ◌∙◌, arith}
use Rattle.std.proofs.lemmas.List.{take_all}
use Rattle.protocol.specs.declared.sizes.TheConstants.{BLOCK_SIZE}
use Rattle.message.specs.Records.{assembled}
use Rattle.message.proofs.RecordLemmas.{no_fields, some_fields}
use Rattle.message.proofs.records.message_in_fields.Goals as goal

pub returns-in_err-kind : goal.returns-in_err-kind
returns-in_err-kind c = c.from_residual.ensures ∙ no_fields c.args.bytes.now c.in_err-kind.ensures

pub returns : goal.returns
returns c =
    let behind : List ℕ = drop 8 c.args.bytes.now in
    let whole : take BLOCK_SIZE behind ≡ behind = take_all BLOCK_SIZE behind (omega (arith, length-drop 8 c.args.bytes.now, c.told-bytes)) in
    some_fields c.args.bytes.now c.in_ok-kind.kind c.assembled.result c.in_ok-kind.ensures
    (c.assembled.ensures ∙ (λ i. assembled c.in_ok-kind.kind (c.from.ensures i) (c.from-2.ensures i) (c.from-3.ensures i) (c.read_u16.ensures i) (whole i)))
