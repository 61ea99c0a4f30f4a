-- What remains of the reader is what `serve_from` has left of it.
use Rattle.plain.proofs.over_streams.serve_plain.Goals as goal

pub returns : goal.returns
returns g c = (g.R.Read.remaining c.serve_from.new.r, c.serve_from.ensures)
