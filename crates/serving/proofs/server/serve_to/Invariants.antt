-- The name by which the reader is lent to the session.
use Rattle.serving.proofs.server.serve_to.Given as goal

-- the loan of the reader
abbrev pub ghosts-run_session : goal.ghosts-run_session
ghosts-run_session g a = record { name = a.reader.ghost_name }
