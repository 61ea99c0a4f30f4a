-- A number of 64 bits has no bit from 64 on.
use Rattle.std.proofs.Common.{sym, ◌∙◌, ap}
use Rattle.std.specs.Prelude.{◌==◌}
use Rattle.std.proofs.lemmas.Bool.{le-ltb}
use Rattle.std.proofs.lemmas.Nat.Bits.{bit_at_above}
use Rattle.protocol.proofs.replies.has_file.Goals as goal

pub returns-else-file-lt-MOST_FILES : goal.returns-else-file-lt-MOST_FILES
returns-else-file-lt-MOST_FILES c =
    le-ltb c.args.file 64 c.if-file-lt-MOST_FILES.false ∙ sym (ap (λ b. b == 1) (bit_at_above c.args.files 64 c.args.file c.ranges.files.fits c.if-file-lt-MOST_FILES.false))
