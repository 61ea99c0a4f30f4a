-- The server has the options that were given.
use Rattle.commands.proofs.program.run.Goals as goal

-- the server has the options that were given
pub returns-in-Serve : goal.returns-in-Serve
returns-in-Serve g c = rw c.in-Serve.is (c.service_of.result, c.service_of.ensures, c.serve_device.ensures)
