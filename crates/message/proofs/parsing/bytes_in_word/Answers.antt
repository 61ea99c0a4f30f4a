-- One to N pairs of digits are decoded into the first bytes of an array of zeros; anything else encodes no bytes.
use Rattle.std.proofs.lemmas.Grind.{common_steps}
use Rattle.std.proofs.Common.{sym, ◌∙◌, refl, arith}
use Rattle.message.proofs.Blocks.{no_bytes, bytes_decoded, bytes_not_decoded, decoded_by_hex}
use Rattle.message.proofs.parsing.bytes_in_word.Goals as goal

pub returns-then-size-eq0 : goal.returns-then-size-eq0
returns-then-size-eq0 g c = grind (arith, common_steps, no_bytes)

pub returns-in_err-ok : goal.returns-in_err-ok
returns-in_err-ok g c =
    let told = decoded_by_hex c.args.digits.now _ c.decode_to_slice.result c.ok.result c.decode_to_slice.new.out c.decode_to_slice.ensures.value c.ok.ensures.value in
    c.from_residual.ensures ∙ sym (bytes_not_decoded g.row.N c.args.digits.now c.decode_to_slice.new.out refl (omega arith) told (sym c.in_err-ok.was))

pub returns : goal.returns
returns g c =
    let told = decoded_by_hex c.args.digits.now _ c.decode_to_slice.result c.ok.result c.decode_to_slice.new.out c.decode_to_slice.ensures.value c.ok.ensures.value in
    sym (bytes_decoded g.row.N c.args.digits.now c.decode_to_slice.new.out refl (omega arith) (omega arith) told (sym c.in_ok-ok.was))
