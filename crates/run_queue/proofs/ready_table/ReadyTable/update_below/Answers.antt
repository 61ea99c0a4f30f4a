-- The ready entry of each number below the affinity is updated, and stays right.
use Rattle.std.proofs.lemmas.Grind.{common_steps}
use Rattle.std.proofs.Common.{◌∙◌, sym, subst, refl, inl, inr, arith}
use Rattle.std.proofs.lemmas.Bool.{cases_eq}
use Rattle.run_queue.specs.ReadyTable.{IsEntryRight}
use Rattle.run_queue.proofs.Ready.{stay-trans}
use Rattle.run_queue.proofs.ready_table.ReadyTable.update_below.Goals as goal

pub loop-n-init : goal.loop-n-init
loop-n-init c = record { stay = (refl, λ k right. right); done = λ k low high. absurd (omega arith) }

pub loop-n-preserved : goal.loop-n-preserved
loop-n-preserved c = record {
  stay = stay-trans c.args.messages.now.held c.args.messages.now.waiting c.args.self.now c.loop-n.self c.update.new.self
      c.loop-n.invariant.stay c.update.ensures.others;
  done = λ k low high. elim (cases_eq k c.loop-n.n) [
    | inl e ↦ subst (λ m. IsEntryRight c.args.messages.now.held c.args.messages.now.waiting c.update.new.self m) (c.from.ensures ∙ sym e) c.update.ensures.right
    | inr other ↦ c.update.ensures.others.1 k (c.loop-n.invariant.done k low (omega arith))
  ];
}

pub returns-clause-right : goal.returns-clause-right
returns-clause-right c = grind (arith, common_steps)

pub returns-clause-others : goal.returns-clause-others
returns-clause-others c = c.loop-n.invariant.stay
