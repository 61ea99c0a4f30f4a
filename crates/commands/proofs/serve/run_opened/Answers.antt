-- In a core that was just opened nothing waits or is held.
use Rattle.commands.proofs.ServedDevice.{is_idle}
use Rattle.commands.proofs.serve.run_opened.Goals as goal

pub serve-requires-clause-idle : goal.serve-requires-clause-idle
serve-requires-clause-idle g c = λ lifetimes bounds. is_idle _ _ c.requires.fresh
