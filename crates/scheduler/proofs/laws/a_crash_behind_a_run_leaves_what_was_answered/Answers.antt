-- The lemmas on the end of a run.
use Rattle.histories.proofs.Idle.{idle_sound}
use Rattle.scheduler.proofs.IsEndOfRun.{ended_so, holds_answered}
use Rattle.scheduler.specs.CoreView.{core_state_of}
use Rattle.scheduler.proofs.laws.a_crash_behind_a_run_leaves_what_was_answered.Goals as goal

pub returns-clause-run : goal.returns-clause-run
returns-clause-run c = λ start events new b sound h left.
    ended_so start new h.hands events h.legal sound h.ends h.geometry h.no_doubt h.recovers b left

pub returns-clause-answered : goal.returns-clause-answered
returns-clause-answered c = λ start events new b idle h left.
    let sound = idle_sound (core_state_of start.core) idle start.core.geometry in
    holds_answered start new h.hands events h.legal sound h.ends h.geometry h.no_doubt h.recovers b left idle
