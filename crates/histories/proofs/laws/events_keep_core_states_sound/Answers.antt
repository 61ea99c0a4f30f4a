-- The lemmas on core states in which nothing waits or is held, and on events.
use Rattle.histories.proofs.Idle.{idle_sound}
use Rattle.histories.proofs.IsSoundCoreState.{event_sound}
use Rattle.histories.proofs.laws.events_keep_core_states_sound.Goals as goal

pub returns-clause-idle : goal.returns-clause-idle
returns-clause-idle c g w idle = idle_sound w idle g

pub returns-clause-event : goal.returns-clause-event
returns-clause-event c = event_sound
