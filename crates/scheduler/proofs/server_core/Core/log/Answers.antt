-- The changes that ran fit into the log, a crash recovers a prefix of them, and then they are logged.
use Rattle.std.proofs.Common.{◌≡◌, ℕ, ◌+◌, ◌*◌, ◌-◌, ◌≤◌, length, take, true, false, sym, ap, List, subst, ◌∙◌}
use Rattle.disk.specs.Device.{moment_number}
use Rattle.histories.specs.Events.{batch, log, touches_device}
use Rattle.histories.specs.declared.outcomes.Step.TheVariants as steps
use Rattle.oplog.proofs.Results.{on_ok}
use Rattle.oplog.proofs.Beyond.{beyond_none}
use Rattle.oplog.specs.Beyond.{KeepsBeyond}
use Rattle.oplog.specs.Log.{batch_count}
use Rattle.device_map.specs.Layout.{layout_of}
use Rattle.scheduler.proofs.JournalKeepsCore.{stands}
use Rattle.scheduler.proofs.LogCall.{Gathers, broken_from, broken_takes, doubt_call, doubt_call_state, log_call, log_call_throughout, log_call_state, log_carried, log_count, log_fits, log_unlogged, log_length, log_changes, log_low, log_untouched, made_from, made_takes, none_taken, some_were_passed}
use Rattle.scheduler.specs.CoreView.{CoreView, core_state_of}
use Rattle.scheduler.specs.View.{parts, core_state_in}
use Rattle.arena.specs.ArenaView.{chain_at}
use Rattle.protocol.specs.declared.replies.Reply.{Reply}
use Rattle.scheduler.specs.HasLogged.{recorded_in}
use Rattle.scheduler.specs.declared.core_memory.TheConstants.{RAN}
use Rattle.scheduler.proofs.server_core.Core.log.Given.{Over}
use Rattle.scheduler.proofs.server_core.Core.log.Goals.{After-deref-2}
use Rattle.scheduler.proofs.server_core.Core.log.Goals as goal

gathered : (g : Over) (c : After-deref-2 g) → Gathers c.self.inside c.args.n c.min-count.result c.collect_recorded-changing_count.new.batch c.deref-2.result.now
gathered g c = record {
  works = sym c.failed.ensures ∙ c.if-failed.false;
  is_least = c.min-count.ensures;
  gathered = c.collect_recorded-changing_count.ensures.batch
      ∙ ap (λ (rs : List Reply). recorded_in c.self.inside.slots rs (take c.min-count.result (chain_at c.self.inside.slots RAN))) c.deref.ensures.value;
  handed_on = c.deref-2.ensures.value;
}

pub returns-then-failed-clause-any_moment : goal.returns-then-failed-clause-any_moment
returns-then-failed-clause-any_moment g c = λ keep. stands c.self.invariant.core c.self.view_is keep (batch (core_state_of c.args.self.now) c.args.n)

pub log-requires : goal.log-requires
log-requires g c = record {
  not_failed = (sym c.failed.ensures ∙ c.if-failed.false);
  room = log_fits c.self.inside c.self.invariant (gathered g c);
  changes = log_changes c.self.inside c.self.invariant (gathered g c);
  carried_out = log_carried c.self.inside c.self.invariant (gathered g c);
}

pub invariant_of-self : goal.invariant_of-self
invariant_of-self g c =
    doubt_call c.self.inside c.self.invariant (gathered g (goal.at.invariant_of-self g c).After-deref-2) c.log.new.self c.log.ensures.any_moment
    (broken_from c.log.result _ c.self.inside.journal c.log.new.self (sym c.is_err.ensures.value ∙ c.if-is_err.true) c.log.ensures.after)
    c.collect_recorded-changing_count.ensures.capacity

pub returns-then-is_err-clause-state_after : goal.returns-then-is_err-clause-state_after
returns-then-is_err-clause-state_after g c =
    subst (λ (o : CoreView). (o.failed ≡ false) × (length (batch (core_state_of o) c.args.n) ≡ 0 → ⊥)
    × (core_state_in (parts (record c.self.inside { journal = c.log.new.self; batch = c.collect_recorded-changing_count.new.batch }))
    ≡ record (core_state_of o) { failed = true; doubt = batch (core_state_of o) c.args.n })) c.self.view_is (
      (sym c.failed.ensures ∙ c.if-failed.false),
      some_were_passed c.self.inside c.self.invariant (gathered g (goal.at.returns-then-is_err-clause-state_after g c).After-deref-2) c.log.new.self c.log.ensures.any_moment
          (broken_from c.log.result _ c.self.inside.journal c.log.new.self (sym c.is_err.ensures.value ∙ c.if-is_err.true) c.log.ensures.after) c.log.ensures.none,
      doubt_call_state c.self.inside c.self.invariant (gathered g (goal.at.returns-then-is_err-clause-state_after g c).After-deref-2) c.log.new.self c.log.ensures.any_moment
          (broken_from c.log.result _ c.self.inside.journal c.log.new.self (sym c.is_err.ensures.value ∙ c.if-is_err.true) c.log.ensures.after),
    )

pub returns-then-is_err-clause-any_moment : goal.returns-then-is_err-clause-any_moment
returns-then-is_err-clause-any_moment g c =
    log_call_throughout c.self.inside c.self.invariant (gathered g (goal.at.returns-then-is_err-clause-any_moment g c).After-deref-2)
    c.log.new.self c.log.ensures.any_moment c.self.view_is

pub returns-then-is_err-clause-untouched : goal.returns-then-is_err-clause-untouched
returns-then-is_err-clause-untouched g c =
    subst (λ (o : CoreView). touches_device (core_state_of o) (steps.Log c.args.n) ≡ false → c.log.new.self.medium ≡ o.medium) c.self.view_is
    (log_untouched c.self.inside c.self.invariant (gathered g (goal.at.returns-then-is_err-clause-untouched g c).After-deref-2) c.log.new.self c.log.ensures.any_moment c.log.ensures.none)

pub move_ran-requires : goal.move_ran-requires
move_ran-requires g c = record {
  chains = c.self.invariant.chains;
  count = log_low c.self.inside c.self.invariant (gathered g (goal.at.move_ran-requires g c).After-deref-2);
}

pub overflow_sub-self : goal.overflow_sub-self
overflow_sub-self g c = log_unlogged c.self.inside c.self.invariant (gathered g (goal.at.overflow_sub-self g c).After-deref-2)
    c.collect_recorded-changing_count.result c.collect_recorded-changing_count.ensures.changing

pub invariant_of-self-2 : goal.invariant_of-self-2
invariant_of-self-2 g c =
    log_call c.self.inside c.self.invariant (gathered g (goal.at.invariant_of-self-2 g c).After-deref-2) c.log.new.self c.log.ensures.any_moment
    (made_from c.log.result _ c.self.inside.journal c.log.new.self (sym c.is_err.ensures.value ∙ c.if-is_err.false) c.log.ensures.after)
    (on_ok c.log.result _ (sym c.is_err.ensures.value ∙ c.if-is_err.false) c.log.ensures.committed)
    (on_ok c.log.result _ (sym c.is_err.ensures.value ∙ c.if-is_err.false) c.log.ensures.recoverable) c.move_ran.new.slots c.move_ran.ensures
    c.collect_recorded-changing_count.result c.collect_recorded-changing_count.ensures.changing c.note.new.self c.note.ensures
    c.clear.new.self c.clear.ensures.items
    c.move_ran.ensures.chains.partitioned c.move_ran.ensures.chains.chain_count (c.clear.ensures.capacity ∙ c.collect_recorded-changing_count.ensures.capacity)

pub returns-clause-state_after : goal.returns-clause-state_after
returns-clause-state_after g c =
    subst (λ (o : CoreView). (o.failed ≡ false) × (c.min-count.result ≡ length (take c.args.n o.ran))
    × (core_state_in (parts (record c.self.inside {
      slots = c.move_ran.new.slots;
      journal = c.log.new.self;
      batch = c.clear.new.self;
      unlogged = c.self.inside.unlogged - c.collect_recorded-changing_count.result;
      history = c.note.new.self;
    })) ≡ log o.geometry (core_state_of o) c.args.n)) c.self.view_is (
      (sym c.failed.ensures ∙ c.if-failed.false),
      log_count c.self.inside c.self.invariant (gathered g (goal.at.returns-clause-state_after g c).After-deref-2),
      log_call_state c.self.inside c.self.invariant (gathered g (goal.at.returns-clause-state_after g c).After-deref-2) c.log.new.self c.log.ensures.any_moment
          (made_from c.log.result _ c.self.inside.journal c.log.new.self (sym c.is_err.ensures.value ∙ c.if-is_err.false) c.log.ensures.after)
          (on_ok c.log.result _ (sym c.is_err.ensures.value ∙ c.if-is_err.false) c.log.ensures.committed)
          (on_ok c.log.result _ (sym c.is_err.ensures.value ∙ c.if-is_err.false) c.log.ensures.recoverable) c.move_ran.new.slots c.move_ran.ensures
          c.collect_recorded-changing_count.result c.collect_recorded-changing_count.ensures.changing c.note.new.self c.note.ensures
          c.clear.new.self c.clear.ensures.items,
    )

pub returns-clause-any_moment : goal.returns-clause-any_moment
returns-clause-any_moment g c =
    log_call_throughout c.self.inside c.self.invariant (gathered g (goal.at.returns-clause-any_moment g c).After-deref-2)
    c.log.new.self c.log.ensures.any_moment c.self.view_is

pub returns-clause-untouched : goal.returns-clause-untouched
returns-clause-untouched g c =
    subst (λ (o : CoreView). touches_device (core_state_of o) (steps.Log c.args.n) ≡ false → c.log.new.self.medium ≡ o.medium) c.self.view_is
    (log_untouched c.self.inside c.self.invariant (gathered g (goal.at.returns-clause-untouched g c).After-deref-2) c.log.new.self c.log.ensures.any_moment c.log.ensures.none)

pub returns-then-failed-clause-beyond : goal.returns-then-failed-clause-beyond
returns-then-failed-clause-beyond g c = λ keep. beyond_none (layout_of c.args.self.now.geometry) c.args.self.now.medium

pub returns-then-is_err-clause-beyond : goal.returns-then-is_err-clause-beyond
returns-then-is_err-clause-beyond g c = λ keep.
    subst (λ (o : CoreView). KeepsBeyond (layout_of o.geometry) o.medium c.log.new.self.medium) c.self.view_is (c.log.ensures.beyond keep)

pub returns-clause-beyond : goal.returns-clause-beyond
returns-clause-beyond g c = λ keep.
    subst (λ (o : CoreView). KeepsBeyond (layout_of o.geometry) o.medium c.log.new.self.medium) c.self.view_is (c.log.ensures.beyond keep)

pub returns-then-failed-clause-costs : goal.returns-then-failed-clause-costs
returns-then-failed-clause-costs g c = λ keep. none_taken c.args.self.now.medium (4 * batch_count (length (batch (core_state_of c.args.self.now) c.args.n)))

pub returns-then-is_err-clause-costs : goal.returns-then-is_err-clause-costs
returns-then-is_err-clause-costs g c = λ keep.
    subst (λ (o : CoreView). moment_number c.log.new.self.medium ≤ moment_number o.medium + 4 * batch_count (length (batch (core_state_of o) c.args.n))) c.self.view_is
    (subst (λ (m : ℕ). moment_number c.log.new.self.medium ≤ moment_number c.self.inside.journal.medium + 4 * batch_count m)
    (log_length c.self.inside c.self.invariant (gathered g (goal.at.returns-then-is_err-clause-costs g c).After-deref-2))
    (broken_takes c.log.result _ _ _ (sym c.is_err.ensures.value ∙ c.if-is_err.true) (c.log.ensures.costs keep)))

pub returns-clause-costs : goal.returns-clause-costs
returns-clause-costs g c = λ keep.
    subst (λ (o : CoreView). moment_number c.log.new.self.medium ≡ moment_number o.medium + 4 * batch_count (length (batch (core_state_of o) c.args.n))) c.self.view_is
    (subst (λ (m : ℕ). moment_number c.log.new.self.medium ≡ moment_number c.self.inside.journal.medium + 4 * batch_count m)
    (log_length c.self.inside c.self.invariant (gathered g (goal.at.returns-clause-costs g c).After-deref-2))
    (made_takes c.log.result _ _ _ (sym c.is_err.ensures.value ∙ c.if-is_err.false) (c.log.ensures.costs keep)))
