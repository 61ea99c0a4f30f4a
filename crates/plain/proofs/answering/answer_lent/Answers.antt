-- A new server is empty, and its counts are right.
use Rattle.plain.proofs.answering.answer_lent.Goals as goal

pub answer_all-answered-requires-clause-sound : goal.answer_all-answered-requires-clause-sound
answer_all-answered-requires-clause-sound g c = c.new-server.ensures.sound c.args.g.now
