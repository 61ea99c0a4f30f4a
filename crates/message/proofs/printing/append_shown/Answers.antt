-- The bytes up to the last that isn't 0 are written as two digits each.
use Rattle.std.proofs.Common.{◌≡◌, ℕ, ◌*◌, List, length, take, arith, length-take-le}
use Rattle.hex.specs.Hex.{encode_lower}
use Rattle.message.proofs.AppendsText.{appends_part, appends_same, length-lower, shown_by}
use Rattle.message.proofs.printing.append_shown.Goals as goal

pub returns-clause-text : goal.returns-clause-text
returns-clause-text c =
    let bytes : List ℕ = take c.shown_size.result c.args.bytes.now in
    let size = c.shown_size.ensures.bound in
    let fewer : length bytes ≡ c.shown_size.result = length-take-le c.shown_size.result c.args.bytes.now size in
    let digits : c.put_digits.new.digits ≡ encode_lower bytes = c.put_digits.ensures in
    let len : length (encode_lower bytes) ≡ 2 * length bytes = length-lower bytes in
    let room = c.requires.room in
    let told = c.told-out in
    appends_same (shown_by c.args.bytes.now bytes c.shown_size.ensures.shown)
    (appends_part (omega arith) digits (omega arith) (omega arith))
