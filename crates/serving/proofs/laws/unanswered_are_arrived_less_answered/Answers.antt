-- The lemmas on how many messages are in the core, and on its slots.
use Rattle.serving.proofs.Outstanding.{passes_count}
use Rattle.serving.proofs.Slots.{finds_a_slot, passes_slots}
use Rattle.serving.proofs.laws.unanswered_are_arrived_less_answered.Goals as goal

pub returns-clause-count : goal.returns-clause-count
returns-clause-count g c old new arriving replies p = passes_count p

pub returns-clause-slots : goal.returns-clause-slots
returns-clause-slots g c old new arriving replies p = passes_slots p

pub returns-clause-a_slot : goal.returns-clause-a_slot
returns-clause-a_slot g c start now unsent input unread ended before written m idle h few = finds_a_slot m idle h few
