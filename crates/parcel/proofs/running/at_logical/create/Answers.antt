-- The bit of the file is set, which is the effect of a create that passes its checks; the stripes stay.
use Rattle.std.proofs.Common.{arith}
use Rattle.meaning.proofs.FileBits.{with_bit_has, with_bit_below}
use Rattle.parcel.proofs.OneVolume.{passed}
use Rattle.parcel.proofs.running.at_logical.create.Goals as goal

pub returns-clause-step : goal.returns-clause-step
returns-clause-step c = grind (arith, passed, with_bit_has)

pub returns-in_err-guard_open-clause-step : goal.returns-in_err-guard_open-clause-step
returns-in_err-guard_open-clause-step c = grind arith

pub returns-in_err-guard-clause-step : goal.returns-in_err-guard-clause-step
returns-in_err-guard-clause-step c = grind arith

pub returns-clause-fits : goal.returns-clause-fits
returns-clause-fits c = assumption (with_bit_below c.args.g.now.files c.args.logical.now.files c.args.f c.requires.fits.files c.requires.file c.args.g.now.files_range.1, c.requires.fits)
