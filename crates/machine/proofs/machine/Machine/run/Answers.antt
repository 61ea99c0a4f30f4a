-- Each step extends the run by an event, and a crash at any moment of the whole run leaves what `HasRun` allows.
use Rattle.std.proofs.Common.{◌≡◌, ◌+◌, ◌<◌, ◌≤◌, List, [], arith, length, subst, sym, ◌∙◌, take}
use Rattle.std.specs.Prelude.{slice_set}
use Rattle.std.specs.Vec.{with_items}
use Rattle.std.proofs.lemmas.List.{take_all, with_items_is}
use Rattle.histories.specs.IsSoundCoreState.{IsSoundCoreState}
use Rattle.histories.specs.declared.outcomes.Outcome.{Outcome}
use Rattle.histories.specs.declared.outcomes.Step.{Step}
use Rattle.scheduler.proofs.HasRun.{has_run, next_device_events, no_device_events}
use Rattle.scheduler.specs.Machine.{MachineView}
use Rattle.scheduler.specs.Runs.{HasDeviceEvents}
use Rattle.scheduler.specs.Hands.{HoldsJobs}
use Rattle.scheduler.specs.declared.hands.HandContent.{HandContent}
use Rattle.scheduler.specs.CoreView.{core_state_of}
use Rattle.machine.proofs.machine.Machine.run.Goals as goal

pub loop-i-init : goal.loop-i-init
loop-i-init g c =
    let here : MachineView = record { core = c.self.inside.core; hands = c.self.inside.hands.items } in
    record {
      ran = subst (λ (m : MachineView). HasDeviceEvents g.D.Disk.keeps m here [] []) c.self.view_is (no_device_events g.D.Disk.keeps here);
      holds = c.self.invariant;
    }

pub make_step-requires : goal.make_step-requires
make_step-requires g c = subst (HoldsJobs c.loop-i.self-inside.core.geometry (core_state_of c.loop-i.self-inside.core))
    (sym c.deref_mut.ensures.value) c.loop-i.invariant.holds

pub loop-i-preserved : goal.loop-i-preserved
loop-i-preserved g c =
    let new : MachineView = record { core = c.make_step.new.core; hands = c.make_step.new.hands } in
    let within : c.loop-i.i < length c.loop-i.outcomes = omega (arith, c.requires, c.loop-i.auto.outcomes, c.loop-i-test.true) in
    let more : HasDeviceEvents g.D.Disk.keeps c.args.self.now new (take (c.loop-i.i + 1) c.args.steps.now)
    (take (c.loop-i.i + 1) (slice_set c.loop-i.outcomes c.loop-i.i c.make_step.result)) =
    next_device_events {new = new} c.args.steps.now _ c.loop-i.outcomes c.deref_mut.ensures.value (c.loop-i-test.true, within)
    c.loop-i.invariant.ran c.make_step.ensures.step in
    let kept : (with_items c.loop-i.self-inside.hands c.make_step.new.hands).items ≡ c.make_step.new.hands =
    with_items_is c.loop-i.self-inside.hands c.make_step.new.hands (c.make_step.auto.hands ∙ c.deref_mut.ensures.len) in
    record {
      ran = subst (λ (hands : List HandContent). HasDeviceEvents g.D.Disk.keeps c.args.self.now (record { core = c.make_step.new.core; hands = hands })
          (take (c.loop-i.i + 1) c.args.steps.now) (take (c.loop-i.i + 1) (slice_set c.loop-i.outcomes c.loop-i.i c.make_step.result)))
          (sym kept) more;
      holds = subst (HoldsJobs c.make_step.new.core.geometry (core_state_of c.make_step.new.core)) (sym kept) c.make_step.ensures.holds;
    }

pub invariant_of-self : goal.invariant_of-self
invariant_of-self g c = c.loop-i.invariant.holds

pub returns : goal.returns
returns g c =
    let now : MachineView = record { core = c.loop-i.self-inside.core; hands = c.loop-i.self-inside.hands.items } in
    let all : take c.loop-i.i c.args.steps.now ≡ c.args.steps.now = take_all c.loop-i.i c.args.steps.now c.loop-i-test.false in
    let long : length c.loop-i.outcomes ≤ c.loop-i.i = omega (arith, c.requires, c.loop-i.auto.outcomes, c.loop-i-test.false) in
    has_run (subst (λ (m : MachineView). IsSoundCoreState m.core.geometry (core_state_of m.core)) c.self.view_is c.self.invariant.sound)
    (subst (λ (os : List Outcome). HasDeviceEvents g.D.Disk.keeps c.args.self.now now c.args.steps.now os) (take_all c.loop-i.i c.loop-i.outcomes long)
    (subst (λ (ss : List Step). HasDeviceEvents g.D.Disk.keeps c.args.self.now now ss (take c.loop-i.i c.loop-i.outcomes)) all c.loop-i.invariant.ran))
    c.know_recovery.ensures.no_doubt c.know_recovery.ensures.now
