-- The steps so far had these outcomes, and the hands have what they are to have.
use Rattle.std.proofs.Common.{take}
use Rattle.scheduler.specs.Runs.{HasDeviceEvents}
use Rattle.scheduler.specs.Hands.{HoldsJobs}
use Rattle.scheduler.specs.CoreView.{core_state_of}
use Rattle.machine.proofs.machine.Machine.run.Given as goal

abbrev pub invariant-loop-i : goal.invariant-loop-i
invariant-loop-i g l = record {
  ran : HasDeviceEvents g.D.Disk.keeps l.fn.self (record { core = l.self-inside.core; hands = l.self-inside.hands.items }) (take l.i l.steps) (take l.i l.outcomes);
  holds : HoldsJobs l.self-inside.core.geometry (core_state_of l.self-inside.core) l.self-inside.hands.items;
}
