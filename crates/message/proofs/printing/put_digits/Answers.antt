-- As many digits as there is room for are written.
use Rattle.message.proofs.printing.put_digits.Goals as goal

pub returns : goal.returns
returns c = rw c.unwrap.ensures at c.encode_to_slice.ensures.written
