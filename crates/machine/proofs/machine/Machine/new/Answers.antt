-- Empty hands hold no job, so with a sound core state they keep what a machine keeps.
use Rattle.std.proofs.Common.{List, map, ap, sym, subst, ◌∙◌}
use Rattle.machine.proofs.EmptyHands.{all_empty, empty_hold}
use Rattle.scheduler.specs.Hands.{HoldsJobs, hand_of}
use Rattle.scheduler.specs.declared.hands.HandContent.{HandContent}
use Rattle.scheduler.specs.CoreView.{core_state_of}
use Rattle.machine.proofs.machine.Machine.new.Goals as goal

pub invariant_of-result : goal.invariant_of-result
invariant_of-result g c = subst (λ (hs : List HandContent). HoldsJobs c.args.core.geometry (core_state_of c.args.core) hs) (sym c.in-Ok.ensures)
    (empty_hold c.args.core.geometry (core_state_of c.args.core) c.args.hands c.know_recovery.ensures.sound)

pub returns-in-Ok-clause-made : goal.returns-in-Ok-clause-made
returns-in-Ok-clause-made g c = λ i. record { core = core_state_of c.args.core; hands = (ap (map hand_of) c.in-Ok.ensures ∙ all_empty c.args.hands) i }
