-- Which loan the call of `answer_lent` is for: that of the borrow `reader`.
use Rattle.plain.proofs.over_streams.serve_from.Given as goal

-- the name of the loan is the `ghost_name` of the borrow
abbrev pub ghosts-answer_lent : goal.ghosts-answer_lent
ghosts-answer_lent g a = record { name = a.reader.ghost_name }
